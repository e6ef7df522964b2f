-- The stop of a transaction is that of its statements up to the last one that may stop.
use Rattle.std.proofs.Common.{Global, Vec, ◌≡◌, ℕ, zero, suc, ◌<◌, ◌≤◌, Bool, true, false, List, Option, None, Some, Ok, Err, refl, sym, ap, ◌∙◌, subst, arith}
use Rattle.std.specs.Option.{option_map, option_map_or, option_or}
use Rattle.std.specs.Prelude.{nat_le}
use Rattle.std.proofs.lemmas.Bool.{false≢true, leb-false, leb-true}
use Rattle.gp_base.specs.declared.cell.Cell.{Cell}
use Rattle.gp_base.specs.Annotated.{Database, unannotated}
use Rattle.gp_algebra.specs.Statements.{Statement, insert, insert_select, update, delete, read}
use Rattle.gp_log.specs.Parameters.{parameters}
use Rattle.gp_machine.specs.Entries.{Entry, log_of, statement_at, statement_count}
use Rattle.gp_machine.specs.HistorySpans.{as_of}
use Rattle.gp_machine.specs.Points.{RunStop, run_stop, statement_stop}
use Rattle.gp_machine.specs.Questions.{stop_refusal}
use Rattle.gp_machine.specs.Runs.{run_before}
use Rattle.gp_versions.specs.declared.span.Span.{Span}
use Rattle.gp_serial.specs.declared.error.SerialStop.{SerialStop}
use Rattle.gp_serial.specs.declared.error.SerialStop.TheVariants.{NoMemory, Refused}
use Rattle.gp_serial.specs.Comparing.{ChecksRun, NoneStops, may_stop}
use Rattle.gp_serial.specs.Running.{IsShown}

-- a statement that may not stop does not
quiet : (t k : ℕ) (statement : Statement) (db : Database (Unit {0})) → may_stop statement ≡ false → statement_stop unannotated parameters t k (Some statement) db ≡ None
quiet t k (insert table rows) db is = absurd (false≢true (sym is))
quiet t k (insert_select table select) db is = absurd (false≢true (sym is))
quiet t k (update table sets c) db is = refl
quiet t k (delete table c) db is = refl
quiet t k (read select) db is = refl

quiet_at : (t k : ℕ) (found : Option Statement) (db : Database (Unit {0})) → option_map_or may_stop found false ≡ false → statement_stop unannotated parameters t k found db ≡ None
quiet_at t k None db is = refl
quiet_at t k (Some statement) db is = quiet t k statement db is

or_none : (first second : Option RunStop) → second ≡ None → option_or first second ≡ first
or_none None second none = none
or_none (Some stop) second none = refl

module _ (entries : List Entry) (spans : ℕ → List Span) (t : ℕ) where
  abbrev stops : ℕ → Option RunStop
  stops k = run_stop unannotated parameters (log_of entries) t k (as_of unannotated spans)

  same_stops : (low high : ℕ) → low ≤ high → NoneStops t low high entries → stops high ≡ stops low
  same_stops low zero within none = let same : zero ≡ low = omega (arith, within) in ap stops same
  same_stops low (suc high) within none = by (nat_le low high) refl (λ below. same_stops low high below (λ k above upto. none k above (omega (arith, upto))))
    where
      by : (b : Bool) → nat_le low high ≡ b → (low ≤ high → stops high ≡ stops low) → stops (suc high) ≡ stops low
      by true is rest =
          or_none (stops high) (statement_stop unannotated parameters t (suc high) (statement_at t (suc high) entries) (run_before unannotated (log_of entries) t high (as_of unannotated spans)))
          (quiet_at t (suc high) (statement_at t (suc high) entries) (run_before unannotated (log_of entries) t high (as_of unannotated spans)) (none (suc high) (omega (arith, leb-true low high is)) (omega arith)))
          ∙ rest (leb-true low high is)
      by false is rest = let same : suc high ≡ low = omega (arith, leb-false low high is, within) in ap stops same

  pub checks_none : (low : ℕ) → low ≡ 0 → low ≤ statement_count t entries → NoneStops t low (statement_count t entries) entries → ChecksRun entries spans t (Ok tt)
  checks_none low is within none = same_stops low (statement_count t entries) within none ∙ ap stops is

  pub checks_ok : (low : ℕ) → 0 < low → low ≤ statement_count t entries → NoneStops t low (statement_count t entries) entries → (found : Option (Vec (List Cell) Global)) → IsShown entries spans t low (Ok found)
      → ChecksRun entries spans t (Ok tt)
  checks_ok zero some within none found is = absurd (omega (arith, some))
  checks_ok (suc low) some within none found is = same_stops (suc low) (statement_count t entries) within none ∙ is.0

  pub checks_err : (low : ℕ) → 0 < low → low ≤ statement_count t entries → NoneStops t low (statement_count t entries) entries → (stop : SerialStop) → IsShown entries spans t low (Err stop)
      → ChecksRun entries spans t (Err stop)
  checks_err zero some within none stop is = absurd (omega (arith, some))
  checks_err (suc low) some within none (Refused refusal) is = ap (option_map stop_refusal) (same_stops (suc low) (statement_count t entries) within none) ∙ is
  checks_err (suc low) some within none NoMemory is = tt
