-- Names of the crates below that several lemma files of this crate cite. Declares nothing.
pub use Rattle.gp_algebra.specs.AnnotatedMeaning.{Derived, meaning, scanned, steps_meaning, was_replaced}
pub use Rattle.gp_algebra.specs.AnnotatedQueries.{Query, QueryStep, step_table}
pub use Rattle.gp_algebra.specs.Answers.{answer}
pub use Rattle.gp_algebra.specs.Fitting.{branches_fit, cond_fits, is_countable, is_there, row_fits, select_fits, set_fits, statement_fits}
pub use Rattle.gp_algebra.specs.Plain.{no_steps}
pub use Rattle.gp_algebra.specs.QueryForms.{AreAfter, AreRising, AreSteps, IsTableProgram, IsWellBuilt, is_sound, numbers_with, reads_only, steps_read}
pub use Rattle.gp_algebra.specs.Statements.{Branch, Select, Statement, delete, insert, insert_select, read, target, update, width_of}
pub use Rattle.gp_base.proofs.SmallLemmas.{each_append, eq_itself, filter-map, not_eq, some_none}
pub use Rattle.gp_base.specs.Annotated.{Annotated, Annotations, Environment}
pub use Rattle.gp_base.specs.declared.table.Table.{Table}
pub use Rattle.gp_expr.specs.Expressions.{Cond}
pub use Rattle.gp_log.specs.LogFitting.{statements_fit}
pub use Rattle.gp_log.specs.Logs.{entry_view, log_view}
pub use Rattle.gp_log.specs.declared.entry.Entry.{Entry}
pub use Rattle.gp_machine.specs.Entries.{Log, log_of, statement_at, statement_count, version_of}
pub use Rattle.gp_machine.specs.Points.{version_before}
pub use Rattle.gp_machine.specs.Publishing.{was_written}
pub use Rattle.gp_machine.specs.Questions.{log_refusal}
pub use Rattle.gp_machine.specs.Runs.{at_commit, run, run_before}
pub use Rattle.gp_rewrite.specs.Meaning.{AreAsWide, IsMonoid, select_is_there}
pub use Rattle.gp_rewrite.specs.Rewriting.{branch_of, made_of, made_onto, product_of, query_of, rewritten, selected_by}
pub use Rattle.gp_rewrite.specs.RewritingForms.{product_onto, union_onto}
pub use Rattle.std.proofs.Common.{Bool, List, None, Option, Some, [], ap, arith, cond, false, length, map, refl, subst, suc, sym, take, true, zero, ℕ, ◌++◌, ◌+◌, ◌<◌, ◌∙◌, ◌∷◌, ◌≡◌, ◌≤◌}
pub use Rattle.std.proofs.lemmas.Bool.{and_from, and_parts, eqb-true, ltb-true}
pub use Rattle.std.proofs.lemmas.Bool.Decides.{nat_tests}
pub use Rattle.std.proofs.lemmas.Option.{none-some, same_Some}
pub use Rattle.std.specs.List.{AllByRecursion, filter, list_all}
pub use Rattle.std.specs.Prelude.{nat_lt, not, slice_get, ◌&&◌, ◌==◌, ◌||◌}
