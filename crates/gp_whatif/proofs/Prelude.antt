-- Names of the crates below that several lemma files of this crate cite. Declares nothing.
pub use Rattle.gp_algebra.specs.Effects.{Written, step}
pub use Rattle.gp_algebra.specs.Fitting.{branches_fit, cond_fits, is_countable, is_there, row_fits, set_fits, statement_fits}
pub use Rattle.gp_algebra.specs.Statements.{Statement, delete, insert, insert_select, read, update, width_of}
pub use Rattle.gp_algebra.specs.Views.{statement_view}
pub use Rattle.gp_base.specs.Annotated.{Database, Environment, unannotated}
pub use Rattle.gp_base.specs.CatalogForms.{HaveDifferentNames}
pub use Rattle.gp_base.specs.declared.catalog.TheConstants.{MAX_TABLES}
pub use Rattle.gp_base.specs.declared.refusal.Refusal.{Refusal}
pub use Rattle.gp_base.specs.declared.stop.Stop.{Stop}
pub use Rattle.gp_base.specs.declared.table.Table.{Table}
pub use Rattle.gp_check.proofs.FittingLemmas.{accepted}
pub use Rattle.gp_check.specs.Checking.{checked}
pub use Rattle.gp_check.specs.Faults.{first_refusal}
pub use Rattle.gp_grammar.specs.Syntax.{Command, LogChange}
pub use Rattle.gp_log.proofs.EntryLemmas.{log-pushed}
pub use Rattle.gp_log.proofs.FindingLemmas.{log-more}
pub use Rattle.gp_log.proofs.KeptSessions.{commits_in_order}
pub use Rattle.gp_log.specs.Discipline.{transaction_in}
pub use Rattle.gp_log.specs.WholeLogs.{IsLog}
pub use Rattle.gp_log.specs.Kinds.{IsAddable, IsNumbered}
pub use Rattle.gp_log.specs.LogFacts.{tables_in}
pub use Rattle.gp_log.specs.LogFitting.{statements_fit}
pub use Rattle.gp_log.specs.Logs.{Logged, entry_view, log_view, what_view}
pub use Rattle.gp_log.specs.Parameters.{parameters}
pub use Rattle.gp_log.specs.Sessions.{KeepsSessions}
pub use Rattle.gp_log.specs.declared.entry.What.{What}
pub use Rattle.gp_machine.specs.Bases.{pairs, with_bases}
pub use Rattle.gp_machine.specs.CheckedTargets.{ChecksTargets, HasTarget}
pub use Rattle.gp_machine.specs.Committed.{is_written, next_version}
pub use Rattle.gp_machine.specs.Conflicts.{Conflict, least_conflict}
pub use Rattle.gp_machine.specs.Entries.{Began, Committed, Created, End, Ended, Entry, Log, Ran, committer_of, line_of, log_of, session_of, statement_at, statement_count, statement_version, transactions_in, versions_in}
pub use Rattle.gp_machine.specs.Event.{Line, after, published_rows}
pub use Rattle.gp_machine.specs.Parameters.{Parameters}
pub use Rattle.gp_machine.specs.Points.{OverNodes, OverRows, RunStop, run_stop, statement_stop}
pub use Rattle.gp_machine.specs.Questions.{statement_refusal, transaction_refusal}
pub use Rattle.gp_machine.specs.ReadBy.{start_by}
pub use Rattle.gp_machine.specs.Reading.{Seen, wrote_by}
pub use Rattle.gp_machine.specs.ReplayForms.{CommitsInOrder, replayed_spans, upto_version}
pub use Rattle.gp_machine.specs.Replaying.{Replay, first_stop, replay_stop, replayed, rerun, version_stop}
pub use Rattle.gp_machine.specs.Represents.{Overlay, RepresentsActive}
pub use Rattle.gp_machine.specs.Runs.{refreshed, run, run_before, stepped}
pub use Rattle.gp_machine.specs.State.{Active, State, start}
pub use Rattle.gp_txn.specs.Transactions.{Writes, table_at, view_at, writes_at}
pub use Rattle.gp_versions.specs.Spans.{Versions, rows_at}
pub use Rattle.std.proofs.Common.{Bool, List, None, Option, Some, [], ap, arith, cond, drop, false, filter, length, map, refl, subst, suc, sym, take, true, zero, ℕ, ◌*◌, ◌++◌, ◌+◌, ◌<◌, ◌∙◌, ◌∷◌, ◌≡◌, ◌≢◌, ◌≤◌}
pub use Rattle.std.proofs.lemmas.Bool.{and_parts, eq-eqb, eqb-true, false≢true, ltb-true, ne_eqb}
pub use Rattle.std.proofs.lemmas.Bool.Decides.{nat_tests}
pub use Rattle.std.proofs.lemmas.List.{append-nil, length-append, take_all}
pub use Rattle.std.proofs.lemmas.Option.{same_Some}
pub use Rattle.std.specs.List.{list_all}
pub use Rattle.std.specs.Option.{option_or}
pub use Rattle.std.specs.Prelude.{Err, Ok, Result, nat_lt, slice_get, ◌&&◌, ◌==◌}
