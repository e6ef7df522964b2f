-- The rows that provenance finds, listed, are the answer; and a dump has a log and row versions that go together.
use Rattle.std.proofs.Common.{◌≡◌, ℕ, List, map, Option, Result, Ok, Err, sym, ap, ◌∙◌, subst}
use Rattle.std.specs.List.Sorted.{IsPermutation}
use Rattle.std.proofs.lemmas.List.{length-map}
use Rattle.gp_base.specs.declared.cell.Cell.{Cell}
use Rattle.gp_base.specs.declared.refusal.Refusal.{Refusal}
use Rattle.gp_base.specs.Annotated.{Annotations, monomials}
use Rattle.gp_base.specs.Tokens.{Monomial}
use Rattle.gp_grammar.specs.Syntax as y
use Rattle.gp_algebra.specs.Answers.{Element}
use Rattle.gp_algebra.specs.Statements.{Select}
use Rattle.gp_log.specs.Parameters.{parameters}
use Rattle.gp_log.specs.LogFacts.{tables_in}
use Rattle.gp_log.specs.LogFitting.{SpansFit}
use Rattle.gp_log.specs.Logs.{log_view}
use Rattle.gp_log.proofs.LoggedSessions.{sessions_kept}
use Rattle.gp_machine.specs.Entries.{Entry}
use Rattle.gp_machine.specs.Questions.{annotated_answer}
use Rattle.gp_versions.specs.declared.span.Span.{Span}
use Rattle.gp_versions.specs.Spans.{Versions}
use Rattle.gp_base.specs.declared.stop.Stop.{Stop}
use Rattle.gp_base.specs.declared.stop.Stop.TheVariants as stop
use Rattle.gp_reenact.specs.Reenacting.{spans_of}
use Rattle.gp_whatif.specs.Replays.{IsReplayable}
use Rattle.gp_dump.specs.declared.dump.Dump as code
use Rattle.gp_dump.specs.Dumps.{Dump}
use Rattle.gp_dump.specs.WholeDumps.{IsDump}
use Rattle.gp_dump.specs.Views.{tables_view}
use Rattle.gp_dump.proofs.FittingTables.{statements_of_dumps}
use Rattle.gp_history.specs.Agreement.{agree}
use Rattle.gp_history.specs.declared.kept.Kept.{Kept}
use Rattle.gp_history.specs.Keeping.{MayBeKept}
use Rattle.gp_history.specs.Provenance.{Proves}
use Rattle.gp_history.specs.Agreement.{occurrence}
use Rattle.gp_history.specs.Sound.{IsSound}
use Rattle.gp_semiring.specs.Listing.{grouped, listed}
use Rattle.gp_ask.specs.declared.answered.Answered.TheVariants.{Listed, Refused}
use Rattle.gp_ask.specs.Asking.{table_spans, with_monomials}
use Rattle.gp_ask.specs.AskingForms.{dump_provenance}
use Rattle.gp_ask.specs.Keeping.{MayBeKeptOf}
use Rattle.gp_ask.proofs.GroupedRows.{listed-are}
use Rattle.gp_ask.proofs.ReenactedLemmas.{dump-spans}
use Rattle.gp_serial.proofs.RunningLemmas.{sorted_same}

-- occurrences in any order are listed alike
pub same-list : (rows others : List (List Cell)) → IsPermutation rows others → listed rows ≡ listed others
same-list rows others moved = ap grouped (sorted_same rows others moved)

pub in-list : {X : Type 0} (view : X → List (List Cell)) (found : X) (expected : Result (List (Element Monomial)) Refusal) → Proves view (Ok found) expected
    → Listed (listed (view found)) ≡ with_monomials expected
in-list view found (Ok elements) moved = ap Listed (same-list (view found) (map occurrence elements) moved ∙ listed-are elements)
in-list view found (Err refusal) none = absurd none

pub unproven : {X : Type 0} (view : X → List (List Cell)) (refusal : Refusal) (expected : Result (List (Element Monomial)) Refusal) → Proves view (Err (stop.Refused refusal)) expected
    → Refused refusal ≡ with_monomials expected
unproven view refusal (Ok elements) none = absurd none
unproven view refusal (Err expected) same = ap Refused same

-- the log of a well-formed dump can be replayed
pub replayable : (dump : Dump) → IsDump dump → IsReplayable dump.entries
replayable dump rules = record { sessions = sessions_kept parameters dump.entries rules.log; fits = statements_of_dumps dump rules }

-- the log and the row versions of a dump go together
pub sound : (dump : code.Dump) → IsSound (log_view dump.log.entries) dump.versions
sound dump = record {
  sessions = dump.answerable.sessions;
  tables = sym (length-map dump.versions (λ (table : Versions). table.spans)) ∙ dump.answerable.tables;
  statements = dump.answerable.statements;
  spans = subst (λ (spans : ℕ → List Span). SpansFit (tables_in (log_view dump.log.entries)) spans) (sym (dump-spans dump.versions)) dump.answerable.spans;
}

-- ---- the row versions of a dump

module _ (dump : code.Dump) (versions : List Versions) (same : versions ≡ dump.versions) where
  abbrev entries : List Entry
  entries = log_view dump.log.entries

  pub spans-are : spans_of versions ≡ table_spans (tables_view dump.versions)
  spans-are = ap spans_of same ∙ dump-spans dump.versions

  pub sound-versions : IsSound entries versions
  sound-versions = subst (λ (own : List Versions). IsSound entries own) (sym same) (sound dump)

  -- what is kept of the dump is kept of them, and the other way round
  pub kept-of : {M : Type 0} (domain : Annotations M) (kept : Option (Kept M)) → MayBeKeptOf domain dump kept → MayBeKept domain entries (spans_of versions) kept
  kept-of domain kept are = subst (λ (own : List Versions). MayBeKept domain entries (spans_of own) kept) (sym same) are

  pub of-kept : {M : Type 0} (domain : Annotations M) (kept : Option (Kept M)) → MayBeKept domain entries (spans_of versions) kept → MayBeKeptOf domain dump kept
  of-kept domain kept are = subst (λ (own : List Versions). MayBeKept domain entries (spans_of own) kept) same are

-- ---- what provenance answers

module _ (dump : Dump) (point : y.Point) (select : Select) where
  abbrev expected : (ℕ → List Span) → Result (List (Element Monomial)) Refusal
  expected spans = annotated_answer monomials parameters agree (tables_in dump.entries) dump.entries spans point select

  pub proves-moved : {X : Type 0} (view : X → List (List Cell)) (found : Result X Stop) (own : ℕ → List Span) → own ≡ table_spans dump.tables → Proves view found (expected own) → Proves view found (expected (table_spans dump.tables))
  proves-moved view found own same proves = subst (λ (spans : ℕ → List Span). Proves view found (expected spans)) same proves

  pub is-listed : {X : Type 0} (view : X → List (List Cell)) (found : X) → Proves view (Ok found) (expected (table_spans dump.tables)) → Listed (listed (view found)) ≡ dump_provenance dump point select
  is-listed view found proves = in-list view found (expected (table_spans dump.tables)) proves

  pub is-refused : {X : Type 0} (view : X → List (List Cell)) (refusal : Refusal) → Proves view (Err (stop.Refused refusal)) (expected (table_spans dump.tables)) → Refused refusal ≡ dump_provenance dump point select
  is-refused view refusal proves = unproven view refusal (expected (table_spans dump.tables)) proves
