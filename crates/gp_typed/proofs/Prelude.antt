-- The names that the proofs of this crate cite, passed on from one place. Declares nothing.
pub use Rattle.gp_algebra.specs.AnnotatedQueries.{Query}
pub use Rattle.gp_algebra.specs.Fitting.{branch_fits, branches_fit, is_countable, is_there, joined_width, select_fits, select_width, statement_fits}
pub use Rattle.gp_algebra.specs.Statements.{Branch, Select, Statement, columns_behind, delete, insert, insert_select, read, target, update, width_of}
pub use Rattle.gp_base.proofs.SmallLemmas.{left_true, length-map, none_parts, right_true}
pub use Rattle.gp_base.specs.Identities.{identity, no_sources}
pub use Rattle.gp_base.specs.Tokens.{is_u32}
pub use Rattle.gp_base.specs.declared.cell.Cell.{Cell}
pub use Rattle.gp_base.specs.declared.table.Column.{Column}
pub use Rattle.gp_base.specs.declared.table.Kind.{Kind}
pub use Rattle.gp_base.specs.declared.table.Table.{Table}
pub use Rattle.gp_check.proofs.FittingLemmas.{accepted, holds_if}
pub use Rattle.gp_check.specs.Checking.{checked_query}
pub use Rattle.gp_check.specs.Faults.{first_fault, first_refusal, table_fault}
pub use Rattle.gp_check.specs.Meaning.{cond_of, expr_of, meant_statement, number_of_table, select_of}
pub use Rattle.gp_check.specs.Scopes.{Scope, columns_of, resolution, scope_of}
pub use Rattle.gp_check.specs.Typing.{agrees, common_type, is_value}
pub use Rattle.gp_check.specs.Valid.{query_is_valid}
pub use Rattle.gp_check.specs.declared.place.Place.{Place}
pub use Rattle.gp_check.specs.declared.place.Resolution.TheVariants.{Found}
pub use Rattle.gp_check.specs.declared.types.TermType.{TermType}
pub use Rattle.gp_expr.specs.Expressions.{Cond, Expr}
pub use Rattle.gp_expr.specs.Substitution.{substituted_each}
pub use Rattle.gp_grammar.specs.Syntax.{Bytes, Command, Item, Term}
pub use Rattle.gp_log.specs.LogFacts.{tables_in}
pub use Rattle.gp_machine.specs.Entries.{Began, Committed, Created, Ended, Entry, Ran}
pub use Rattle.gp_machine.specs.Questions.{log_refusal}
pub use Rattle.gp_prov.specs.ToPlain.{identities_from, users_from}
pub use Rattle.gp_reenact.specs.Programs.{merged_at}
pub use Rattle.gp_rewrite.specs.Rewriting.{rewritten}
pub use Rattle.gp_sql.proofs.SubstitutionTypes.{substituted-types}
pub use Rattle.gp_sql.specs.CellTypes.{column_types, kind_type}
pub use Rattle.gp_sql.specs.Types.{are_u32, StepTypes, both_types, case_type, cell_type, common, common_types, cond_is_typed, expr_type, exprs_types, is_id, is_typed, parts_are_ids, product_types, projected_types, published_types, query_types, row_types, scan_types, selected_types, type_at, with_first}
pub use Rattle.gp_sql.specs.declared.cell_type.CellType.{CellType}
pub use Rattle.gp_sql.specs.declared.cell_type.CellType.TheVariants.{Id, Int, Mark, Null, Text}
pub use Rattle.gp_typed.specs.StatementTypes.{are_into, branch_types, fill, is_into, joined_types, optional_cond_is_typed, select_is_typed, select_types, set_is_typed, statement_is_typed, statements_are_typed, table_types}
pub use Rattle.std.proofs.Common.{Bool, List, None, Ok, Some, [], ap, append-nil, append_assoc, arith, cond, false, length, length-append, map, refl, subst, suc, sym, true, zero, ℕ, ◌++◌, ◌+◌, ◌<◌, ◌∙◌, ◌∷◌, ◌≡◌, ◌≤◌}
pub use Rattle.std.proofs.lemmas.Bool.{and_from, and_parts, eqb-true, false≢true, le-leb, ltb-true}
pub use Rattle.std.proofs.lemmas.Option.{none-some, same_Some}
pub use Rattle.std.specs.List.{AllByRecursion, fold, list_all}
pub use Rattle.std.specs.Option.{option_map_or}
pub use Rattle.std.specs.Prelude.{Option, is_some, nat_lt, slice_get, ◌&&◌, ◌==◌}
