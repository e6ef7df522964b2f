-- The names that the proofs of this crate cite, passed on from one place. Declares nothing.
pub use Rattle.gp_algebra.specs.AnnotatedQueries.{Change, Program, Query, QueryStep, step_table}
pub use Rattle.gp_algebra.specs.Effects.{given_from, set_for}
pub use Rattle.gp_algebra.specs.Fitting.{branch_fits, branches_fit, cond_fits, expr_fits, is_column, is_countable, is_there, joined_width, optional_cond_fits, row_fits, select_fits, select_width, set_fits, statement_fits}
pub use Rattle.gp_algebra.specs.Plain.{Plain, PlainProgram, PlainStep, given, product, project, publish, scan, select, step, union}
pub use Rattle.gp_algebra.specs.PlainViews.{step_view}
pub use Rattle.gp_algebra.specs.Statements.{Branch, Select, SetExpr, Statement, columns_behind, delete, insert, insert_select, read, target, update, width_of}
pub use Rattle.gp_base.proofs.SmallLemmas.{all_weaker, both_follow, each_append, left_true, right_true, some_none}
pub use Rattle.gp_base.specs.Annotated.{monomials}
pub use Rattle.gp_base.specs.CellForms.{AreInRange, IsInRange}
pub use Rattle.gp_base.specs.UserCells.{is_user_cell}
pub use Rattle.gp_base.specs.declared.cell.Cell.{Cell}
pub use Rattle.gp_base.specs.declared.refusal.Refusal.{Refusal}
pub use Rattle.gp_base.specs.declared.refusal.Refusal.TheVariants.{E20, E21}
pub use Rattle.gp_base.specs.declared.table.Table.{Table}
pub use Rattle.gp_base.specs.declared.token.Token.TheVariants.{Queried}
pub use Rattle.gp_compose.specs.Composed.{composed, current, current_before, last_write, moved, onto, program_after, program_as_of, program_at, program_of_commit, published_query, step_of, writes}
pub use Rattle.gp_compose.specs.StepForms.{steps_of}
pub use Rattle.gp_explain.specs.Explained.{Explains}
pub use Rattle.gp_explain.specs.ExplainedLines.{lines_from, text_lines}
pub use Rattle.gp_explain.specs.Numbers.{CondInRange, ExprInRange, IsU32, PartsInRange, ProgramInRange, QueryInRange, StepInRange}
pub use Rattle.gp_explain.specs.Shapes.{AreNamed, IsShaped, annotated_is_shaped, annotated_step_is_shaped, cell_is_shaped, cond_is_shaped, expr_is_shaped, has_sources, has_tables, is_shaped, parts_are_shaped, query_is_shaped, row_is_shaped, step_is_shaped}
pub use Rattle.gp_explain.specs.SmallLogs.{HasFewTables, StatementIsSmall}
pub use Rattle.gp_expr.specs.ExpressionForms.{all_leaves, cond_all_leaves, cond_is_simple, is_simple}
pub use Rattle.gp_expr.specs.Expressions.{Cond, Expr, Parts}
pub use Rattle.gp_expr.specs.SizeForms.{parts_size}
pub use Rattle.gp_expr.specs.Sizes.{size}
pub use Rattle.gp_expr.specs.Substitution.{chosen, substituted, substituted_cond, substituted_each, substituted_parts}
pub use Rattle.gp_expr.specs.Views.{expr_view, parts_of}
pub use Rattle.gp_grammar.specs.declared.limits.TheConstants.{MAX_COLUMNS}
pub use Rattle.gp_log.proofs.FittingLogs.{statement_at_fits}
pub use Rattle.gp_log.specs.LogFacts.{tables_in}
pub use Rattle.gp_log.specs.LogFitting.{statements_fit}
pub use Rattle.gp_machine.specs.Entries.{Entry, Log, fate_of, log_of, transactions_in, version_of}
pub use Rattle.gp_machine.specs.Points.{version_before}
pub use Rattle.gp_machine.specs.Questions.{log_refusal, statement_refusal, transaction_refusal}
pub use Rattle.gp_merge.specs.Merging.{inlined, is_small, merged, projected, rebuilt, selected, settled, stays}
pub use Rattle.gp_merge.specs.MergingForms.{program_inlined}
pub use Rattle.gp_plantext.specs.Spellable.{has_item, has_part, table_is_spellable}
pub use Rattle.gp_plantext.specs.Spelling.{Spells, program_text}
pub use Rattle.gp_prov.specs.Encoding.{encoded_row, noted}
pub use Rattle.gp_prov.specs.ToPlain.{answer_columns, changed_columns, identities_from, new_columns, plain_last, plain_program, plain_query, plain_step, product_of, system_width, times_from, users_from, widths_of}
pub use Rattle.gp_reenact.specs.Programs.{merged_at}
pub use Rattle.gp_rewrite.specs.Rewriting.{branch_of, cased, made_of, made_onto, query_of, rewritten, selected_by, updated_from}
pub use Rattle.gp_rewrite.specs.RewritingForms.{product_onto, union_onto}
pub use Rattle.std.proofs.Common.{Bool, List, None, Option, Some, [], ap, arith, cond, drop, false, get_or, length, map, refl, subst, suc, sym, true, zero, ℕ, ◌*◌, ◌++◌, ◌+◌, ◌<◌, ◌∙◌, ◌∷◌, ◌≡◌, ◌≤◌}
pub use Rattle.std.proofs.lemmas.Bool.{and_from, and_parts, false≢true, leb-true, ltb-true}
pub use Rattle.std.proofs.lemmas.Bool.Decides.{nat_tests}
pub use Rattle.std.proofs.lemmas.List.Folds.{list_all-append}
pub use Rattle.std.proofs.lemmas.Option.{none-some}
pub use Rattle.std.specs.List.{AllByRecursion, list_all}
pub use Rattle.std.specs.Prelude.{is_none, nat_le, nat_lt, not, ◌&&◌, ◌==◌, ◌^◌}
