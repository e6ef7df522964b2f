-- Names of the crates below that several lemma files of this crate cite. Declares nothing.
pub use Rattle.gp_algebra.specs.Answers.{values}
pub use Rattle.gp_algebra.specs.Effects.{Written}
pub use Rattle.gp_algebra.specs.Statements.{Statement}
pub use Rattle.gp_base.proofs.IdentityLaws.{same_identity-is}
pub use Rattle.gp_base.proofs.SmallLemmas.{each_append, each_map}
pub use Rattle.gp_base.specs.Annotated.{Annotated, Annotations, Database}
pub use Rattle.gp_base.specs.Identities.{Identity, identity, identity_cmp, nodes, same_identity}
pub use Rattle.gp_base.specs.IdentityOrder.{identity_cmp-exact, identity_cmp_total}
pub use Rattle.gp_base.specs.Order.{insert_sorted, sorted_by}
pub use Rattle.gp_base.specs.UserCells.{is_user_cell}
pub use Rattle.gp_base.specs.declared.cell.Cell.{Cell}
pub use Rattle.gp_base.specs.declared.limit.TheConstants.{MAX_SPANS}
pub use Rattle.gp_base.specs.declared.refusal.Refusal.{Refusal}
pub use Rattle.gp_base.specs.declared.refusal.Refusal.TheVariants.{E14}
pub use Rattle.gp_base.specs.declared.row_id.TheConstants.{MAX_NODES}
pub use Rattle.gp_base.specs.declared.table.Column.{Column}
pub use Rattle.gp_base.specs.declared.table.Kind.{Kind}
pub use Rattle.gp_base.specs.declared.table.Table.{Table}
pub use Rattle.gp_check.proofs.FittingLemmas.{accepted, holds_if, known, none_of}
pub use Rattle.gp_check.proofs.ValidLemmas.{command-read}
pub use Rattle.gp_check.specs.Faults.{all_agree, cells_agree, first_refusal, kind_types, query_tables_fault, table_fault}
pub use Rattle.gp_check.specs.Meaning.{expr_of, meant_statement, number_of_table}
pub use Rattle.gp_check.specs.Scopes.{Scope, columns_of, only_place, place_behind, resolution, scope_behind, scope_of}
pub use Rattle.gp_check.specs.Typing.{agrees, column_type, kind_type, operands_agree, type_of}
pub use Rattle.gp_check.specs.Valid.{is_valid, items_are_valid, tables_are_valid, term_is_valid}
pub use Rattle.gp_check.specs.declared.place.Place.{Place}
pub use Rattle.gp_check.specs.declared.types.TermType.{TermType}
pub use Rattle.gp_dumpline.proofs.HeaderLaws.{header-takes}
pub use Rattle.gp_dumpline.proofs.LogLineLaws.{count-again, count-takes, log_line-again, log_line-takes}
pub use Rattle.gp_dumpline.proofs.SaidLaws.{is-said, said-is, said-takes}
pub use Rattle.gp_dumpline.specs.Forms.{LogLine, count_of, header_of, if_canonical, log_line_of, said_of, section_of, span_of}
pub use Rattle.gp_dumpline.specs.Rows.{IsReadable}
pub use Rattle.gp_dumpline.specs.Said.{is_said_in}
pub use Rattle.gp_dumpline.specs.Texts.{count_text, end_text, entry_text, header, said_text, section_text, span_text}
pub use Rattle.gp_expr.specs.Values.{value}
pub use Rattle.gp_grammar.specs.Canonical.{command_text}
pub use Rattle.gp_grammar.specs.Limits.{command_shape, passed_limit}
pub use Rattle.gp_grammar.specs.LineReading.{Fault}
pub use Rattle.gp_grammar.specs.Reading.{command_of}
pub use Rattle.gp_grammar.specs.Syntax.{Bytes, Command, Item, Term}
pub use Rattle.gp_log.proofs.EntryLemmas.{log-pushed}
pub use Rattle.gp_log.proofs.LineCommands.{reads-parsed}
pub use Rattle.gp_log.specs.Discipline.{Disorder, Does, Flaw, IsNext, Loses, Said, command_entry, last_line, next_entry, said_by, statement_entry, transaction_in}
pub use Rattle.gp_log.specs.WholeLogs.{IsLog}
pub use Rattle.gp_log.specs.LogFacts.{tables_in}
pub use Rattle.gp_log.specs.Logs.{entry_view, log_view, what_view}
pub use Rattle.gp_log.specs.Parameters.{parameters}
pub use Rattle.gp_log.specs.ScriptLines.{AreScriptLines, IsLineAfter}
pub use Rattle.gp_log.specs.declared.entry.What.{What}
pub use Rattle.gp_log.specs.declared.limit.TheConstants.{MAX_ENTRIES}
pub use Rattle.gp_machine.proofs.Distinct.{each_filter, each_weaker}
pub use Rattle.gp_machine.proofs.LimitLemmas.{counts_are_within}
pub use Rattle.gp_machine.proofs.ReachedLemmas.{all_reached}
pub use Rattle.gp_machine.specs.ActionForms.{Run, answered}
pub use Rattle.gp_machine.specs.Actions.{Runs, allowed}
pub use Rattle.gp_machine.specs.Committed.{is_written}
pub use Rattle.gp_machine.specs.Conflicts.{Conflict}
pub use Rattle.gp_machine.specs.Entries.{Began, Committed, Created, Ended, Entry, Lost, Ran, RolledBack, line_of, session_of, statement_count, statements_in, transactions_in, versions_in}
pub use Rattle.gp_machine.specs.Event.{Line, after, beginning, committing, conflict_of, count_refusal, creating, creation_refusal, ended, is_full, line_event, published, ran, refusal_of, running, start_now}
pub use Rattle.gp_machine.specs.Parameters.{Parameters}
pub use Rattle.gp_machine.specs.Reached.{IsReached}
pub use Rattle.gp_machine.specs.State.{Active, State, start, with_value}
pub use Rattle.gp_versions.proofs.OrderLemmas.{span_cmp_total}
pub use Rattle.gp_versions.proofs.SameLemmas.{same-itself}
pub use Rattle.gp_versions.specs.Spans.{Versions, span_cmp}
pub use Rattle.gp_versions.specs.TableSpans.{AreWhole, IsApart, IsEndAbove, NoOverlap}
pub use Rattle.gp_versions.specs.declared.span.Span.{Span}
pub use Rattle.std.proofs.Common.{Bool, Err, IsSomeAnd, List, None, Ok, Option, Result, Some, [], add-one, ap, append_assoc, arith, codes, cond, drop, eqb, false, get_or, if◌then◌else◌, inl, inr, leb, length, length-append, ltb, map, nat_le, nat_lt, refl, reverse, slice_get, subst, suc, sym, take, true, true≢false, zero, ℕ, ⊎_elim, ◌&&◌, ◌++◌, ◌+◌, ◌<◌, ◌==◌, ◌||◌, ◌∙◌, ◌∷◌, ◌≡◌, ◌≤◌, ◌⊎◌}
pub use Rattle.std.proofs.lemmas.Bool.{and_parts, cases_Bool, eq-eqb, eqb-true, false≢true, le-leb, leb-true, lt-ltb, ltb-false, ltb-true, or_parts}
pub use Rattle.std.proofs.lemmas.Bool.Decides.{nat_tests}
pub use Rattle.std.proofs.lemmas.Cmp.{tied_itself}
pub use Rattle.std.proofs.lemmas.List.{append-nil, length-map, length-reverse, map-append, reverse-append, reverse-reverse, take_all}
pub use Rattle.std.proofs.lemmas.List.Sums.{sum_by-cons}
pub use Rattle.std.proofs.lemmas.Map.Lookups.{exact_unsigned}
pub use Rattle.std.proofs.lemmas.Option.{same_Some, slice_get_cases}
pub use Rattle.std.proofs.lemmas.Slice.Eq.{bytes_eq-Decides}
pub use Rattle.std.specs.List.{AllByRecursion, cons_option, filter, flat_map, list_all, list_any, range_with_len}
pub use Rattle.std.specs.List.Sorted.{IsPermutation, IsSortedByKey}
pub use Rattle.std.specs.Option.{ok_or, option_cmp, option_map, option_or}
pub use Rattle.std.specs.Ordering.{is_eq, is_le, is_lt, nat_cmp, ordering_reverse, ordering_then}
pub use Rattle.std.specs.Str.{bytes_eq, is_utf8}
pub use Rattle.std.specs.declared.cmp.Ordering.{Ordering}
pub use Rattle.std.specs.declared.cmp.Ordering.TheVariants.{Equal, Greater, Less}
