-- The names that the proofs of this crate cite, passed on from one place. Declares nothing.
pub use Rattle.gp_algebra.proofs.Erasure.{answer_reannotated, is_over_nodes_reannotated, is_over_rows_reannotated, step_reannotated, wrote_reannotated}
pub use Rattle.gp_algebra.proofs.StepBags.{SameTables}
pub use Rattle.gp_algebra.specs.Answers.{Element, answer, answer_from, choices, joined}
pub use Rattle.gp_algebra.specs.Effects.{Written, given_from, is_over_nodes, is_over_rows, made, step, written_in, wrote}
pub use Rattle.gp_algebra.specs.Reannotation.{IsHomomorphism, database_reannotated, element_reannotated, forgotten, reannotated}
pub use Rattle.gp_algebra.specs.Statements.{Select, Statement, delete, insert, insert_select, read, update}
pub use Rattle.gp_base.proofs.Bags.{SameBag, filtered, mapped, same_from, through}
pub use Rattle.gp_base.proofs.Permutations.{permuted, unpermuted}
pub use Rattle.gp_base.proofs.SmallLemmas.{any-map, each_append, each_map, eq_itself, eq_not, filter-map, map-map, map_agree_at, none_parts, or_nothing, some_none}
pub use Rattle.gp_base.specs.Annotated.{Annotated, Annotations, Database, Environment, unannotated}
pub use Rattle.gp_base.specs.Identities.{Identity, identity, no_sources, same_identity}
pub use Rattle.gp_base.specs.IdentityParts.{identity_statement, identity_transaction}
pub use Rattle.gp_base.specs.declared.cell.Cell.{Cell}
pub use Rattle.gp_base.specs.declared.refusal.Refusal.{Refusal}
pub use Rattle.gp_base.specs.declared.refusal.Refusal.TheVariants.{E09, E10, E11, E12, E13, E14, E20, E21, E22, E23, E27}
pub use Rattle.gp_base.specs.declared.table.Table.{Table}
pub use Rattle.gp_base.specs.declared.token.Token.TheVariants.{Updated}
pub use Rattle.gp_expr.specs.Values.{passes}
pub use Rattle.gp_grammar.specs.Syntax.{Command}
pub use Rattle.gp_machine.specs.ActionForms.{Action, Begin, Commit, Create, Rollback, Run, action_of, answered}
pub use Rattle.gp_machine.specs.Annotating.{annotated, annotated_row, annotated_versions, annotation_of, computed}
pub use Rattle.gp_machine.specs.Bases.{Based, is_new, pairs, with_base, with_bases}
pub use Rattle.gp_machine.specs.CheckedTargets.{ChecksTargets}
pub use Rattle.gp_machine.specs.Committed.{cleared, is_written, merged, next_version, unmarked}
pub use Rattle.gp_machine.specs.ConflictForms.{HaveOneBase, IsBased, IsLeastConflict}
pub use Rattle.gp_machine.specs.Conflicts.{Conflict, conflict_at, least_conflict, lesser, next_writer, written_cmp}
pub use Rattle.gp_machine.specs.EngineLine.{Answers, Applies, Begins, Commits, Creates, FindsConflict, Follows, RunsStatement}
pub use Rattle.gp_machine.specs.Entries.{Began, Committed, Created, End, Ended, Entry, Log, Lost, Ran, RolledBack, begin_version, committer_of, is_read_committed, log_of, statement_at, statement_count, statement_version, statements_in, transactions_in, version_of, versions_in}
pub use Rattle.gp_machine.specs.Event.{Line, accepted, after, began, beginning, committing, conflict_of, count_refusal, created, creating, creation_refusal, ended, event, is_full, is_over_answer, line_event, name_at, published, published_rows, ran, refusal_of, refused, reply_of, running, seen_after, start_now, target_of, version_now}
pub use Rattle.gp_machine.specs.Histories.{IsFirst, IsHistory}
pub use Rattle.gp_machine.specs.HistorySpans.{as_of, next_written, span_from, spans_from, spans_of, spans_upto, state_spans}
pub use Rattle.gp_machine.specs.Parameters.{Parameters}
pub use Rattle.gp_machine.specs.Points.{OverNodes, OverRows, at_point, held_at, run_stop, statement_stop, version_before, version_or_empty}
pub use Rattle.gp_machine.specs.Publishing.{holds_identity, publish, was_written}
pub use Rattle.gp_machine.specs.QuestionForms.{IsAsked, identified, to_commit, to_statement, to_version}
pub use Rattle.gp_machine.specs.Questions.{log_refusal}
pub use Rattle.gp_machine.specs.Reached.{IsReached}
pub use Rattle.gp_machine.specs.ReadBy.{seen_by, start_by}
pub use Rattle.gp_machine.specs.Reading.{Seen, next_seen, started, wrote_by}
pub use Rattle.gp_machine.specs.Recorded.{is_recorded}
pub use Rattle.gp_machine.specs.ReplayForms.{CommitsInOrder, replayed_spans}
pub use Rattle.gp_machine.specs.Replaying.{Replay, first_stop, replay_stop, replayed, rerun, run_written, version_stop}
pub use Rattle.gp_machine.specs.Represents.{AreWritesOf, Kept, Overlay, Represents, RepresentsActive, RepresentsSession, base_after, base_among, base_in, version_to_read, view_at, view_of}
pub use Rattle.gp_machine.specs.Runs.{at_commit, refreshed, run, run_before, stepped}
pub use Rattle.gp_machine.specs.SeenRows.{AreDistinct, AreSeenRows, HaveDifferentIdentities, IsViewOf, same_row, unwritten}
pub use Rattle.gp_machine.specs.SpanCounts.{end_after, span_after, span_count}
pub use Rattle.gp_machine.specs.State.{Active, State, start, with_value}
pub use Rattle.gp_machine.specs.StateReannotation.{seen_reannotated, state_reannotated}
pub use Rattle.gp_machine.specs.Unstopped.{IsUnstopped}
pub use Rattle.gp_machine.specs.declared.reply.Reply.{Reply}
pub use Rattle.gp_versions.specs.Commits.{after_commit}
pub use Rattle.gp_versions.specs.Spans.{holds_at, is_before_end, row_of, rows_at, spans_at}
pub use Rattle.gp_versions.specs.declared.span.Span.{Span}
pub use Rattle.gp_versions.specs.declared.span.Write.{Write}
pub use Rattle.std.proofs.Common.{Bool, Err, List, None, Ok, Option, Result, Some, [], ap, arith, cond, false, inl, inr, length, map, nat_le, refl, subst, suc, sym, true, zero, ℕ, ⊎_elim, ◌++◌, ◌+◌, ◌-◌, ◌<◌, ◌∙◌, ◌∷◌, ◌≡◌, ◌≢◌, ◌≤◌, ◌⊎◌}
pub use Rattle.std.proofs.lemmas.Bool.{and_parts, and_right, both_ways, cases_lt, eqb-true, false≢true, le-ltb, leb-true, not-true, or_from, or_right}
pub use Rattle.std.proofs.lemmas.Bool.Decides.{nat_tests}
pub use Rattle.std.proofs.lemmas.List.{append-nil, length-append, length-map, map-append}
pub use Rattle.std.proofs.lemmas.List.Elements.{filter-append}
pub use Rattle.std.proofs.lemmas.List.Folds.{list_any-append}
pub use Rattle.std.proofs.lemmas.Option.{none-some, same_Some}
pub use Rattle.std.specs.List.{AllByRecursion, filter, flat_map, list_any}
pub use Rattle.std.specs.Option.{is_none, option_map, option_or}
pub use Rattle.std.specs.Ordering.{is_gt}
pub use Rattle.std.specs.Prelude.{nat_lt, not, ◌&&◌, ◌==◌, ◌||◌}
