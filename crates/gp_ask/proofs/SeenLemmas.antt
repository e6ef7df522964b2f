-- What any transaction of a history saw and changed, whatever became of it, as the dump of the history answers it.
use Rattle.std.proofs.Common.{◌≡◌, ℕ, zero, suc, ◌-◌, ◌<◌, ◌≤◌, nat_le, nat_lt, Bool, true, false, cond, List, [], length, map, Option, Some, None, Ok, refl, sym, ap, ◌∙◌, subst, arith}
use Rattle.std.specs.Prelude.{◌&&◌, ◌==◌}
use Rattle.std.specs.Option.{option_map, option_map_or, option_or}
use Rattle.std.proofs.lemmas.Bool.{and_parts, leb-true, ltb-true}
use Rattle.gp_base.proofs.Bags.{SameBag, as_long, mapped, same_from, through}
use Rattle.gp_base.proofs.Permutations.{permuted}
use Rattle.gp_base.proofs.SmallLemmas.{none_parts, some_none}
use Rattle.gp_base.specs.declared.refusal.Refusal.{Refusal}
use Rattle.gp_base.specs.declared.refusal.Refusal.TheVariants.{E20, E22, E27}
use Rattle.gp_base.specs.declared.table.Table.{Table}
use Rattle.gp_base.specs.Annotated.{Annotated, Database, monomials, unannotated}
use Rattle.gp_base.specs.Tokens.{Monomial}
use Rattle.gp_grammar.specs.Syntax as y
use Rattle.gp_algebra.proofs.Erasure.{answer_reannotated}
use Rattle.gp_algebra.proofs.StepBags.{answer_same}
use Rattle.gp_algebra.specs.Answers.{Element, answer, cells_of}
use Rattle.gp_algebra.specs.Effects.{step}
use Rattle.gp_algebra.specs.Reannotation.{element_reannotated, forgotten, reannotated}
use Rattle.gp_algebra.specs.Statements.{Select, Statement, target}
use Rattle.gp_check.specs.Checking.{checked_query}
use Rattle.gp_compose.specs.Seen.{changed_rows, changes_refusal, missing_statement_refusal, saw_refusal, unknown_refusal}
use Rattle.gp_dump.specs.Dumps.{Dump}
use Rattle.gp_log.proofs.KeptSessions.{rising}
use Rattle.gp_log.specs.LogFacts.{tables_in}
use Rattle.gp_log.specs.Parameters.{parameters}
use Rattle.gp_log.specs.Sessions.{KeepsSessions}
use Rattle.gp_machine.proofs.PointReannotation.{before_reannotated, forgotten_keeps, run_stop_reannotated}
use Rattle.gp_machine.specs.Entries.{Entry, log_of, statement_at, statement_count, transactions_in, version_of}
use Rattle.gp_machine.specs.Event.{name_at}
use Rattle.gp_machine.specs.HistorySpans.{as_of, state_spans}
use Rattle.gp_machine.specs.Points.{RunStop, run_stop}
use Rattle.gp_machine.specs.Questions.{answer_refusal, given, is_known, statement_refusal, stop_refusal}
use Rattle.gp_machine.specs.Reached.{IsReached}
use Rattle.gp_machine.specs.ReadBy.{start_by}
use Rattle.gp_machine.specs.Runs.{run, run_before, stepped}
use Rattle.gp_machine.specs.SeenRows.{HaveDifferentIdentities}
use Rattle.gp_machine.specs.State.{State}
use Rattle.gp_reenact.specs.Looking.{looked_refusal}
use Rattle.gp_versions.specs.declared.span.Span.{Span}
use Rattle.gp_ask.specs.declared.answered.Answered.{Answered}
use Rattle.gp_ask.specs.declared.answered.Answered.TheVariants.{Lines, Rows}
use Rattle.gp_ask.specs.declared.answered.Heading.TheVariants.{Changes}
use Rattle.gp_ask.specs.Printed.{answer_to, held_to}
use Rattle.gp_ask.specs.Asking.{of_elements, query_answer, table_spans}
use Rattle.gp_ask.specs.ChangeForms.{changes_of, dump_changes, held_starts, if_any}
use Rattle.gp_ask.specs.Changes.{statement_changes}
use Rattle.gp_ask.specs.Values.{unless_refused}
use Rattle.gp_ask.specs.Seeing.{dump_saw, history_saw}
use Rattle.gp_ask.proofs.ChangedLines.{changed-different, changed-reannotated, changed-same, texts-same}
use Rattle.gp_ask.proofs.HeldLemmas.{forgetting, same-rows}
use Rattle.gp_ask.proofs.QueryLemmas.{query-same}
use Rattle.gp_ask.proofs.StatementLines.{changes-are, changes-told}
use Rattle.gp_ask.proofs.TransactionRuns.{IsRising, MakesOnce, ReadsWithin, different-after, different-before, own-starts, passes-none, reads-within, runs-none, saw, started}
use Rattle.gp_ask.proofs.ChangesLemmas.{numbered-by}
use Rattle.gp_serial.proofs.RunningLemmas.{sorted_same}

-- ---- what is not refused

pub record IsTransaction (t : ℕ) (entries : List Entry) : Type 0 where
  pub some : zero < t
  pub known : t ≤ transactions_in entries

pub is-known : (t : ℕ) (entries : List Entry) → is_known t entries ≡ true → IsTransaction t entries
is-known t entries is =
    let parts = and_parts (nat_lt 0 t) (nat_le t (transactions_in entries)) is in
    record { some = ltb-true 0 t parts.0; known = leb-true t (transactions_in entries) parts.1 }

not-unknown : (t : ℕ) (entries : List Entry) (b : Bool) → is_known t entries ≡ b → cond b None (Some (E20 t)) ≡ None → IsTransaction t entries
not-unknown t entries true is none = is-known t entries is
not-unknown t entries false is none = absurd (some_none (E20 t) none)

not-above : (t k : ℕ) (entries : List Entry) (b : Bool) → nat_le k (statement_count t entries) ≡ b → cond b None (Some (E22 t (statement_count t entries))) ≡ None → k ≤ statement_count t entries
not-above t k entries true is none = leb-true k (statement_count t entries) is
not-above t k entries false is none = absurd (some_none (E22 t (statement_count t entries)) none)

-- ---- the same elements in any order

module _ {M : Type 0} (elements others : List (Element M)) (moved : SameBag elements others) where
  abbrev limited-to : ℕ → List (Element M) → Answered
  limited-to count own = of_elements (given (cond (nat_lt parameters.answer count) (Some E27) None) own)

  within-limit : (b : Bool) → of_elements (given (cond b (Some E27) None) elements) ≡ of_elements (given (cond b (Some E27) None) others)
  within-limit true = refl
  within-limit false = ap Rows (sorted_same (cells_of elements) (cells_of others) (permuted _ _ (mapped (λ element. element.cells) moved)))

  -- as the code's answer is refused: by the log, by a stop, by its length
  pub answered-alike : (refusal : Option Refusal) (stop : Option RunStop) → refusal ≡ None → stop ≡ None
      → of_elements (given (option_or refusal (option_or (option_map stop_refusal stop) (cond (nat_lt parameters.answer (length elements)) (Some E27) None))) elements)
      ≡ limited-to (length others) others
  answered-alike refusal stop none unstopped =
      ap (λ (own : Option Refusal). of_elements (given (option_or own (option_or (option_map stop_refusal stop) (cond (nat_lt parameters.answer (length elements)) (Some E27) None))) elements)) none
      ∙ ap (λ (own : Option RunStop). of_elements (given (option_or (option_map stop_refusal own) (cond (nat_lt parameters.answer (length elements)) (Some E27) None)) elements)) unstopped
      ∙ ap (λ count. limited-to count elements) (as_long moved)
      ∙ within-limit (nat_lt parameters.answer (length others))

-- ---- the dump of a history

module _ (state : State Monomial) (reached : IsReached monomials parameters state) (plainly : IsReached unannotated parameters (forgetting state)) (sessions : KeepsSessions state.entries)
    (once : MakesOnce state.entries) (kept : tables_in state.entries ≡ state.catalogue) (tables : List (List Span))
    (are : (table : ℕ) → SameBag (table_spans tables table) (state_spans (forgetting state) table)) where
  abbrev dump : Dump
  dump = record { entries = state.entries; tables = tables }

  abbrev spans : ℕ → List Span
  spans = table_spans tables

  pub rises : (t : ℕ) → IsRising state.entries t
  rises t k within = rising state.entries sessions t k (suc k) (omega arith) (omega arith)

  -- ---- SAW

  saw-is : (t k : ℕ) → saw_refusal t k state.entries ≡ None → (select : Select) → dump_saw dump t k select ≡ history_saw state t k select
  saw-is t k none select =
      let parts = none_parts (unknown_refusal t state.entries) (missing_statement_refusal t k state.entries) none in
      let is = not-unknown t state.entries (is_known t state.entries) refl parts.0 in
      let within = not-above t k state.entries (nat_le k (statement_count t state.entries)) refl parts.1 in
      let elements : List (Element Monomial) = answer monomials select (state.views t k) in
      let found : List (Element (Unit {0})) = answer unannotated select (run unannotated (log_of state.entries) t k (as_of unannotated spans)) in
      let others : List (Element (Unit {0})) = map (element_reannotated forgotten) elements in
      let moved : SameBag found others =
      through (answer_same unannotated select _ _ (saw parameters (forgetting state) plainly spans are t is.some is.known (rises t) k within)) (same_from _ _ (answer_reannotated monomials unannotated forgotten (forgotten_keeps monomials) select (state.views t k) ((forgetting state).views t k) (λ table. refl))) in
      answered-alike found others moved (saw_refusal t k state.entries) (run_stop unannotated parameters (log_of state.entries) t k (as_of unannotated spans)) none
      (passes-none parameters (forgetting state) plainly spans are t is.some is.known (rises t) k within)
      ∙ same-rows None elements
      ∙ ap (λ (own : Option RunStop). of_elements (given (option_or (option_map stop_refusal own) (answer_refusal monomials parameters elements)) elements))
      (sym (sym (run_stop_reannotated monomials unannotated forgotten (forgotten_keeps monomials) state.committed (forgetting state).committed (λ version table. refl) parameters (log_of state.entries) t k)
      ∙ runs-none parameters (forgetting state) plainly spans are t is.some is.known (rises t) k within))

  pub sees : (t k : ℕ) (query : y.Query) → answer_to dump (y.ask (y.saw t k) query) ≡ held_to state (y.ask (y.saw t k) query)
  sees t k query =
      ap (λ (catalogue : List Table). query_answer (dump_saw dump t k) (saw_refusal t k state.entries) (checked_query catalogue query)) kept
      ∙ by (saw_refusal t k state.entries) refl
    where
      by : (refusal : Option Refusal) → saw_refusal t k state.entries ≡ refusal
          → query_answer (dump_saw dump t k) refusal (checked_query state.catalogue query) ≡ query_answer (history_saw state t k) refusal (checked_query state.catalogue query)
      by None none = query-same (dump_saw dump t k) (history_saw state t k) (saw-is t k none) None (checked_query state.catalogue query)
      by (Some refusal) is = refl

  -- ---- CHANGES of a statement

  -- what a statement changed of what its transaction read by the rule of the history machine
  abbrev held-changes : ℕ → ℕ → Statement → Answered
  held-changes = statement_changes monomials state.entries state.catalogue (held_starts state) (λ t k. None)

  module _ (t k : ℕ) (is : IsTransaction t state.entries) (within : k < statement_count t state.entries) (statement : Statement) (here : statement_at t (suc k) state.entries ≡ Some statement) where
    -- what the statement read, by the rule of the history machine
    abbrev pub read-rows : Database Monomial
    read-rows = start_by monomials (log_of state.entries) t k state.committed

    abbrev pub changed : List (Annotated Monomial)
    changed = changed_rows monomials t (suc k) statement read-rows

    abbrev pub found-rows : List (Annotated (Unit {0}))
    found-rows = changed_rows unannotated t (suc k) statement (run_before unannotated (log_of state.entries) t k (as_of unannotated spans))

    -- over the versions before the transaction's own
    bound : (versions : ℕ) × ReadsWithin state.entries t versions
    bound = reads-within monomials state reached.history once t (version_of t state.entries) refl

    -- the rows are those that the statement changed, in another order
    pub moved-rows : SameBag found-rows (map (reannotated forgotten) changed)
    moved-rows =
        let run-rows : Database (Unit {0}) = run_before unannotated (log_of state.entries) t k (forgetting state).committed in
        let before : Database Monomial = run_before monomials (log_of state.entries) t k state.committed in
        let same = before_reannotated monomials unannotated forgotten (forgotten_keeps monomials) state.committed (forgetting state).committed (λ version table. refl) (log_of state.entries) t k in
        subst (λ (db : Database Monomial). SameBag found-rows (map (reannotated forgotten) (changed_rows monomials t (suc k) statement db))) (own-starts monomials state reached.history t bound.0 (rises t) bound.1 k within)
        (through
        (changed-same unannotated t (suc k) statement (run_before unannotated (log_of state.entries) t k (as_of unannotated spans)) run-rows (started parameters (forgetting state) plainly spans are t is.some is.known (rises t) once k within))
        (same_from _ _ (changed-reannotated monomials unannotated forgotten (forgotten_keeps monomials) t (suc k) before run-rows same statement)))

    pub different-read : (table : ℕ) → HaveDifferentIdentities (read-rows table)
    different-read = different-before monomials state reached.history t bound.0 (rises t) bound.1 k within

    pub different-left : (table : ℕ) → HaveDifferentIdentities (step monomials t (suc k) statement read-rows table)
    different-left table =
        subst (λ (own : Option Statement). HaveDifferentIdentities (stepped monomials t (suc k) own read-rows table)) here
        (different-after monomials state reached.history t bound.0 (rises t) bound.1 (suc k) (omega arith) table)

    pub different-rows : HaveDifferentIdentities changed
    different-rows = changed-different monomials t (suc k) statement read-rows different-read different-left

    rows-told : (catalogue : List Table) (place : Option ℕ) → changes_of catalogue place statement (Ok found-rows) ≡ changes_of catalogue place statement (Ok changed)
    rows-told catalogue None = refl
    rows-told catalogue (Some place) = ap (Lines Changes) (texts-same (name_at place catalogue) statement found-rows changed moved-rows different-rows)

    changes-same : dump_changes dump t k statement ≡ held-changes t k statement
    changes-same =
        ap (λ (catalogue : List Table). changes_of catalogue (target statement) statement (given (looked_refusal parameters state.entries spans t k statement) found-rows)) kept
        ∙ ap (λ (stop : Option RunStop). changes_of state.catalogue (target statement) statement (given (option_map stop_refusal stop) found-rows))
        (passes-none parameters (forgetting state) plainly spans are t is.some is.known (rises t) (suc k) (omega arith))
        ∙ rows-told state.catalogue (target statement)
        ∙ sym (changes-are monomials state.entries state.catalogue (held_starts state) (λ t k. None) t k statement)

  pub alters : (t k : ℕ) → answer_to dump (y.bare (y.changes t k)) ≡ held_to state (y.bare (y.changes t k))
  alters t k = changes-told dump t k ∙ by (changes_refusal t k state.entries) refl
    where
      any : changes_refusal t k state.entries ≡ None → (found : Option Statement) → statement_at t k state.entries ≡ found
          → if_any (dump_changes dump t (k - 1)) found ≡ option_map_or (held-changes t (k - 1)) found (Lines Changes [])
      any none None here = refl
      any none (Some statement) here =
          changes-same t (k - 1) (not-unknown t state.entries (is_known t state.entries) refl parts.0) (omega (arith, within.0, within.1)) statement (subst (λ n. statement_at t n state.entries ≡ Some statement) next here)
        where
          parts : (unknown_refusal t state.entries ≡ None) × (statement_refusal t k state.entries ≡ None)
          parts = none_parts (unknown_refusal t state.entries) (statement_refusal t k state.entries) none

          within : (0 < k) × (k ≤ statement_count t state.entries)
          within = numbered-by t k state.entries (nat_lt 0 k && nat_le k (statement_count t state.entries)) refl parts.1

          next : k ≡ suc (k - 1)
          next = omega (arith, within.0)

      by : (refusal : Option Refusal) → changes_refusal t k state.entries ≡ refusal
          → unless_refused refusal (if_any (dump_changes dump t (k - 1)) (statement_at t k state.entries)) ≡ unless_refused refusal (option_map_or (held-changes t (k - 1)) (statement_at t k state.entries) (Lines Changes []))
      by None none = any none (statement_at t k state.entries) refl
      by (Some refusal) is = refl
