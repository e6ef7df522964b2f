-- The rows by which one looks at statements, and the stops before them: one look up to the last statement that may stop tells what stops a transaction.
use Rattle.std.proofs.Common.{◌≡◌, ℕ, zero, suc, ◌-◌, ◌<◌, ◌≤◌, Bool, true, false, List, map, Option, Some, None, Ok, Err, refl, sym, ap, ◌∙◌, arith}
use Rattle.std.specs.Option.{option_map, option_or}
use Rattle.std.specs.Prelude.{nat_le}
use Rattle.std.proofs.lemmas.Bool.{leb-false, leb-true}
use Rattle.gp_base.proofs.SmallLemmas.{some_none}
use Rattle.gp_base.specs.declared.cell.Cell.{Cell}
use Rattle.gp_base.specs.declared.refusal.Refusal.{Refusal}
use Rattle.gp_base.specs.Annotated.{Database, Environment, unannotated}
use Rattle.gp_algebra.specs.Statements.{Statement, insert, insert_select, update, delete, read}
use Rattle.gp_dump.specs.Dumps.{Dump}
use Rattle.gp_grammar.specs.Syntax as y
use Rattle.gp_log.specs.Parameters.{parameters}
use Rattle.gp_machine.proofs.UnstoppedLemmas.{front_unstopped}
use Rattle.gp_machine.specs.Entries.{log_of, statement_at, statement_count}
use Rattle.gp_machine.specs.HistorySpans.{as_of}
use Rattle.gp_machine.specs.Points.{RunStop, run_stop, statement_stop}
use Rattle.gp_machine.specs.Questions.{given, own_stop, stop_refusal}
use Rattle.gp_machine.specs.Runs.{run_before}
use Rattle.gp_reenact.specs.LookingForms.{Looks, looked_answer, system_row}
use Rattle.gp_base.specs.declared.stop.Stop.TheVariants as stop
use Rattle.gp_versions.specs.declared.span.Span.{Span}
use Rattle.gp_ask.specs.Asking.{table_spans}
use Rattle.gp_ask.specs.Looked.{NoneStops, may_stop, rows_of, stop_at, stop_of}

-- ---- what looking gives

-- by the stop of a statement of a dump
pub looked-as : (dump : Dump) (t k : ℕ) → 0 < k → (statement : Statement) (spans : ℕ → List Span) → spans ≡ table_spans dump.tables
    → looked_answer parameters dump.entries spans t (k - 1) statement ≡ given (stop_at dump t k) (map system_row (rows_of dump t k statement))
looked-as dump t k some statement spans is =
    let next : suc (k - 1) ≡ k = omega (arith, some) in
    ap (λ (own : ℕ → List Span). looked_answer parameters dump.entries own t (k - 1) statement) is
    ∙ ap (λ n. given (own_stop unannotated parameters dump.entries (y.after t n) (as_of unannotated (table_spans dump.tables))) (map system_row (rows_of dump t k statement))) next

module _ {X : Type 0} (view : X → List (List Cell)) (rows : List (List Cell)) where
  pub no-stop : (refusal : Option Refusal) (found : X) → Looks view (Ok found) (given refusal rows) → None ≡ refusal
  no-stop None found is = refl
  no-stop (Some refusal) found is = absurd is

  pub its-stop : (refusal : Option Refusal) (own : Refusal) → Looks view (Err (stop.Refused own)) (given refusal rows) → Some own ≡ refusal
  its-stop None own is = absurd is
  its-stop (Some refusal) own is = ap Some is

  pub its-rows : (refusal : Option Refusal) (found : X) → refusal ≡ None → Looks view (Ok found) (given refusal rows) → view found ≡ rows
  its-rows None found none is = is
  its-rows (Some refusal) found none is = absurd is

  pub not-refused : (refusal : Option Refusal) (own : Refusal) → refusal ≡ None → Looks view (Err (stop.Refused own)) (given refusal rows) → ⊥
  not-refused None own none is = is
  not-refused (Some refusal) own none is = some_none refusal none

-- ---- stops

unmapped : (found : Option RunStop) → option_map stop_refusal found ≡ None → found ≡ None
unmapped None none = refl
unmapped (Some stop) none = absurd (some_none (stop_refusal stop) none)

-- where a transaction does not stop, no statement of it does
pub none-stops : (dump : Dump) (t k : ℕ) → k ≤ statement_count t dump.entries → stop_of dump t ≡ None → stop_at dump t k ≡ None
none-stops dump t k within none =
    let past : Environment (Unit {0}) = as_of unannotated (table_spans dump.tables) in
    ap (option_map stop_refusal)
    (front_unstopped unannotated parameters (log_of dump.entries) t k (statement_count t dump.entries) past within
    (unmapped (run_stop unannotated parameters (log_of dump.entries) t (statement_count t dump.entries) past) none))

-- a statement that may not stop does not
quiet : (t k : ℕ) (statement : Statement) (db : Database (Unit {0})) → may_stop statement ≡ false → statement_stop unannotated parameters t k (Some statement) db ≡ None
quiet t k (insert table rows) db is = absurd cc
quiet t k (insert_select table select) db is = absurd cc
quiet t k (update table sets c) db is = refl
quiet t k (delete table c) db is = refl
quiet t k (read select) db is = refl

or-none : (first second : Option RunStop) → second ≡ None → option_or first second ≡ first
or-none None second none = none
or-none (Some stop) second none = refl

module _ (dump : Dump) (t : ℕ) where
  abbrev stops : ℕ → Option RunStop
  stops k = run_stop unannotated parameters (log_of dump.entries) t k (as_of unannotated (table_spans dump.tables))

  -- one more statement, which may not stop
  quiet-at : (k : ℕ) (found : Option Statement) (db : Database (Unit {0})) → ((statement : Statement) → found ≡ Some statement → may_stop statement ≡ false)
      → statement_stop unannotated parameters t k found db ≡ None
  quiet-at k None db quiets = refl
  quiet-at k (Some statement) db quiets = quiet t k statement db (quiets statement refl)

  -- the stop of some is that of more, where none of these may stop
  same-stops : (low high : ℕ) → low ≤ high → NoneStops t low high dump.entries → stops high ≡ stops low
  same-stops low zero within none = let same : zero ≡ low = omega arith in ap stops same
  same-stops low (suc high) within none = by (nat_le low high) refl (λ below. same-stops low high below (λ k above upto. none k above (omega arith)))
    where
      by : (b : Bool) → nat_le low high ≡ b → (low ≤ high → stops high ≡ stops low) → stops (suc high) ≡ stops low
      by true is rest =
          or-none (stops high) (statement_stop unannotated parameters t (suc high) (statement_at t (suc high) dump.entries) (run_before unannotated (log_of dump.entries) t high (as_of unannotated (table_spans dump.tables))))
          (quiet-at (suc high) (statement_at t (suc high) dump.entries) (run_before unannotated (log_of dump.entries) t high (as_of unannotated (table_spans dump.tables)))
          (none (suc high) (omega (arith, leb-true low high is)) (omega arith)))
          ∙ rest (leb-true low high is)
      by false is rest = let same : suc high ≡ low = omega (arith, leb-false low high is) in ap stops same

  pub stop-last : (low : ℕ) → low ≤ statement_count t dump.entries → NoneStops t low (statement_count t dump.entries) dump.entries → stop_at dump t low ≡ stop_of dump t
  stop-last low within none = ap (option_map stop_refusal) (sym (same-stops low (statement_count t dump.entries) within none))
