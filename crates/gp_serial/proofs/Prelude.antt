-- Names of the crates below that several lemma files of this crate cite. Declares nothing.
pub use Rattle.gp_algebra.specs.Fitting.{statement_fits}
pub use Rattle.gp_algebra.specs.Statements.{Statement, width_of}
pub use Rattle.gp_base.proofs.Bags.{as_long}
pub use Rattle.gp_base.proofs.SmallLemmas.{each_append, each_map, eq_itself, eq_not, map-map, none_parts, or_nothing, some_none}
pub use Rattle.gp_base.specs.Annotated.{Annotated, Database, Environment, unannotated}
pub use Rattle.gp_base.specs.Order.{row_cmp, sorted_by}
pub use Rattle.gp_base.specs.declared.cell.Cell.{Cell}
pub use Rattle.gp_base.specs.declared.refusal.Refusal.{Refusal}
pub use Rattle.gp_base.specs.declared.table.Table.{Table}
pub use Rattle.gp_log.proofs.NumberingLemmas.{no-statement}
pub use Rattle.gp_log.specs.Contents.{entries, tables}
pub use Rattle.gp_log.specs.LogFacts.{tables_in}
pub use Rattle.gp_log.specs.LogFitting.{SpanFits, SpansFit, statements_fit}
pub use Rattle.gp_log.specs.Logs.{Logged, entry_view, log_view}
pub use Rattle.gp_log.specs.Parameters.{parameters}
pub use Rattle.gp_log.specs.Sessions.{KeepsSessions}
pub use Rattle.gp_machine.specs.Bases.{pairs}
pub use Rattle.gp_machine.specs.Committed.{next_version}
pub use Rattle.gp_machine.specs.Entries.{Began, Created, Entry, Log, Ran, committer_of, log_of, statement_at, statement_count, statement_version, transactions_in, versions_in}
pub use Rattle.gp_machine.specs.Event.{is_over_answer}
pub use Rattle.gp_machine.specs.HistorySpans.{as_of}
pub use Rattle.gp_machine.specs.Looks.{Look, looks}
pub use Rattle.gp_machine.specs.Points.{RunStop, run_stop, statement_stop}
pub use Rattle.gp_machine.specs.Precedence.{ReadAfter, ReadBefore, Reason, Wrote, changes_by, is_before, meets, numbers, read_after, read_before, reasons, same_row, wrote_before}
pub use Rattle.gp_machine.specs.Publishing.{publish}
pub use Rattle.gp_machine.specs.Questions.{is_known, stop_refusal}
pub use Rattle.gp_machine.specs.Reading.{Seen}
pub use Rattle.gp_machine.specs.Replaying.{Replay, replay_stop, replayed, rerun, version_stop}
pub use Rattle.gp_machine.specs.RowChanges.{RowChange}
pub use Rattle.gp_machine.specs.Runs.{refreshed, run, run_before, stepped}
pub use Rattle.gp_machine.specs.SeenRows.{AreDistinct}
pub use Rattle.gp_machine.specs.SerialRuns.{place_in, row_cells, serial_log, shown}
pub use Rattle.gp_reenact.proofs.HeldLemmas.{FitsIfSome, logged_fits}
pub use Rattle.gp_reenact.specs.Reenacting.{spans_of}
pub use Rattle.gp_versions.specs.Spans.{Versions}
pub use Rattle.gp_versions.specs.declared.span.Span.{Span}
pub use Rattle.gp_whatif.specs.Replays.{IsMade, IsReplayable}
pub use Rattle.std.proofs.Common.{Bool, Err, Global, List, None, Ok, Option, Result, Some, Vec, [], add-one, ap, arith, cond, drop, false, get_or, inl, inr, length, length-append, map, refl, reverse, subst, suc, sym, take, true, zero, ℕ, ⊎_elim, ◌++◌, ◌+◌, ◌-◌, ◌<◌, ◌∙◌, ◌∷◌, ◌≡◌, ◌≢◌, ◌≤◌}
pub use Rattle.std.proofs.lemmas.Bool.{and_parts, cases_eq, cases_lt, eq-eqb, eqb-true, false≢true, ne_eqb}
pub use Rattle.std.proofs.lemmas.Bool.Decides.{nat_tests}
pub use Rattle.std.proofs.lemmas.Grind.{get_or_default_zero}
pub use Rattle.std.proofs.lemmas.List.{append-nil, append_assoc, drop_more, get_or-map, get_or_append_left, length-map, reverse-append, reverse-reverse}
pub use Rattle.std.proofs.lemmas.List.Folds.{find-append, list_any-append}
pub use Rattle.std.proofs.lemmas.Option.{get_or_from_slice_get, none-some, same_Some, slice_get_within}
pub use Rattle.std.specs.Cmp.Lexicographic.{slice_cmp}
pub use Rattle.std.specs.List.{AllByRecursion, flat_map, list_all, list_any}
pub use Rattle.std.specs.List.Sorted.{IsPermutation}
pub use Rattle.std.specs.Option.{option_map, option_map_or, option_or}
pub use Rattle.std.specs.Ordering.{ordering_then}
pub use Rattle.std.specs.Prelude.{Contains, filter, find, if◌then◌else◌, is_none, nat_le, nat_lt, not, slice_get, unwrap_or, ◌&&◌, ◌==◌, ◌||◌}
pub use Rattle.std.specs.declared.cmp.Ordering.TheVariants.{Equal, Greater, Less}
