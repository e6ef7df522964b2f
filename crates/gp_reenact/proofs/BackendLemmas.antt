-- Reenactment over the executor gives the answer that the run of the transaction gives.
use Rattle.std.proofs.Common.{◌≡◌, ℕ, ◌<◌, ◌≤◌, List, length, refl, sym, ap, ◌∙◌, subst, Option, Some, None, Result, Ok, Err}
use Rattle.std.specs.List.Sorted.{IsPermutation}
use Rattle.std.specs.Option.{option_or}
use Rattle.std.proofs.lemmas.List.Sorted.{IsPermutation-refl, IsPermutation-trans, length_permutation}
use Rattle.std.specs.Prelude.{Contains}
use Rattle.gp_base.specs.declared.cell.Cell.{Cell}
use Rattle.gp_base.specs.declared.refusal.Refusal.{Refusal}
use Rattle.gp_base.specs.declared.refusal.Refusal.TheVariants.{E25, E26, E27}
use Rattle.gp_base.specs.declared.row_id.TheConstants.{MAX_NODES}
use Rattle.gp_base.specs.Annotated.{unannotated}
use Rattle.gp_grammar.specs.Syntax as y
use Rattle.gp_algebra.specs.declared.plain.ScanAt.{ScanAt}
use Rattle.gp_algebra.specs.Answers.{answer}
use Rattle.gp_algebra.specs.Plain.{PlainEnvironment, PlainProgram, program_meaning}
use Rattle.gp_algebra.specs.Scans.{AgreeOn, HaveSameRowsOn, program_scans}
use Rattle.gp_algebra.specs.Statements.{Select}
use Rattle.gp_algebra.specs.Stops.{program_stop}
use Rattle.gp_base.proofs.Permutations.{permuted, unpermuted}
use Rattle.gp_algebra.proofs.PlainBags.{program_meaning_same, program_stop_same}
use Rattle.gp_exec.specs.Backends.{Executes, Given, IsGiven}
use Rattle.gp_exec.specs.PastRows.{IsGivenIfSome}
use Rattle.gp_exec.specs.declared.error.ExecStop.{ExecStop}
use Rattle.gp_exec.specs.declared.error.ExecStop.TheVariants as exec
use Rattle.gp_base.specs.declared.limit.TheConstants.{MAX_ANSWER_ROWS, MAX_TABLE_ROWS}
use Rattle.gp_log.specs.Parameters.{parameters}
use Rattle.gp_machine.specs.Entries.{Entry}
use Rattle.gp_machine.specs.HistorySpans as machine
use Rattle.gp_machine.specs.Points.{at_point}
use Rattle.gp_machine.specs.Questions.{answer_refusal, given, log_refusal, own_stop, rows_answer}
use Rattle.gp_reenact.specs.Encoding as travel
use Rattle.gp_reenact.specs.Travel as travels
use Rattle.gp_versions.specs.Spans.{Versions}
use Rattle.gp_reenact.specs.Backends.{GivesOver, GivesOverIfSome, IsGivenOver, ReenactsBy, RefusedBy}
use Rattle.gp_base.specs.declared.stop.Stop.{Stop}
use Rattle.gp_base.specs.declared.stop.Stop.TheVariants.{Refused, NoMemory}
use Rattle.gp_reenact.specs.Reenacting.{Reenacts, RunsOver, spans_of, stopped, transaction_at}
use Rattle.gp_reenact.proofs.ReplayLemmas.{Replays, found_is, stop_is}

-- ---- a run of a backend over what was asked

module _ {X : Type 0} (view : X → List (List Cell)) (gives : PlainProgram → PlainEnvironment → Given → Type 0) (program : PlainProgram) (env past : PlainEnvironment)
    (asked : List ScanAt) (agree : AgreeOn asked env past) (all : (at : ScanAt) → Contains (program_scans program) at → Contains asked at) where
  same_rows : HaveSameRowsOn (program_scans program) env past
  same_rows at among = subst (λ rows. IsPermutation (env at.version at.table) rows) (agree at (all at among)) (IsPermutation-refl (env at.version at.table))

  pub gives_over : (result : Result X ExecStop) → IsGiven view gives result program env → GivesOver view gives result program past
  gives_over (Ok found) is = record { env = env; same = same_rows; given = is }
  gives_over (Err (exec.Rows j)) is = record { env = env; same = same_rows; given = is }
  gives_over (Err (exec.Ancestry j)) is = record { env = env; same = same_rows; given = is }
  gives_over (Err exec.Answer) is = record { env = env; same = same_rows; given = is }
  gives_over (Err exec.NoMemory) is = tt

-- ---- over the past versions themselves

module _ {X : Type 0} (view : X → List (List Cell)) (gives : PlainProgram → PlainEnvironment → Given → Type 0) (program : PlainProgram) (past : PlainEnvironment) where
  own_rows : HaveSameRowsOn (program_scans program) past past
  own_rows at among = IsPermutation-refl (past at.version at.table)

  pub past_gives : (result : Result (Option X) ExecStop) → IsGivenIfSome view gives result program past → GivesOverIfSome view gives result program past
  past_gives (Ok (Some found)) is = record { env = past; same = own_rows; given = is }
  past_gives (Ok None) is = tt
  past_gives (Err (exec.Rows j)) is = record { env = past; same = own_rows; given = is }
  past_gives (Err (exec.Ancestry j)) is = record { env = past; same = own_rows; given = is }
  past_gives (Err exec.Answer) is = record { env = past; same = own_rows; given = is }
  past_gives (Err exec.NoMemory) is = tt

-- a stop of the program as a refusal
pub stop_refused : {X : Type 0} (view : X → List (List Cell)) (gives : PlainProgram → PlainEnvironment → Given → Type 0) (expected : Option Refusal) (t : ℕ) (program : PlainProgram) (past : PlainEnvironment)
    (stop : ExecStop) → expected ≡ None → GivesOver view gives (Err stop) program past → ReenactsBy view gives (Err (stopped t stop)) expected t program past
stop_refused view gives expected t program past (exec.Rows j) known is = subst (λ d. RefusedBy gives (E25 t j) d t program past) (sym known) (record { stop = exec.Rows j; given = is; is = refl })
stop_refused view gives expected t program past (exec.Ancestry j) known is = subst (λ d. RefusedBy gives (E26 t j) d t program past) (sym known) (record { stop = exec.Ancestry j; given = is; is = refl })
stop_refused view gives expected t program past exec.Answer known is = subst (λ d. RefusedBy gives E27 d t program past) (sym known) (record { stop = exec.Answer; given = is; is = refl })
stop_refused view gives expected t program past exec.NoMemory known is = tt

-- ---- the executor

module _ (program : PlainProgram) (past : PlainEnvironment) where
  pub runs_over_same : (answer : Given) → IsGivenOver Executes program past answer → RunsOver (λ rows. rows) answer past program
  runs_over_same answer over = go answer over.given
    where
      rows : IsPermutation (program_meaning over.env program) (program_meaning past program)
      rows = permuted _ _ (program_meaning_same over.env past program (λ at among. unpermuted _ _ (over.same at among)))

      as_many : length (program_meaning past program) ≡ length (program_meaning over.env program)
      as_many = length_permutation (program_meaning over.env program) (program_meaning past program) rows

      stop : program_stop MAX_TABLE_ROWS MAX_NODES over.env program ≡ program_stop MAX_TABLE_ROWS MAX_NODES past program
      stop = program_stop_same over.env past MAX_TABLE_ROWS MAX_NODES program (λ at among. unpermuted _ _ (over.same at among))

      go : (answer : Given) → Executes program over.env answer → RunsOver (λ rows. rows) answer past program
      go (Ok found) runs = (
        sym stop ∙ runs.0,
        (IsPermutation-trans found (program_meaning over.env program) (program_meaning past program) runs.1.0 rows, subst (λ n. n ≤ MAX_ANSWER_ROWS) (sym as_many) runs.1.1),
      )
      go (Err (exec.Rows j)) runs = sym stop ∙ runs
      go (Err (exec.Ancestry j)) runs = sym stop ∙ runs
      go (Err exec.Answer) runs = (sym stop ∙ runs.0, subst (λ n. MAX_ANSWER_ROWS < n) (sym as_many) runs.1)
      go (Err exec.NoMemory) runs = tt

module _ {X : Type 0} (view : X → List (List Cell)) (entries : List Entry) (versions : List Versions) (point : y.Point) (select : Select) (program : PlainProgram)
    (replays : log_refusal entries point ≡ None → Replays entries versions point select program) where
  abbrev past : PlainEnvironment
  past = travel.encoded (travels.past_environment unannotated versions)

  abbrev answer_is : Result X Stop → Type 0
  answer_is result = Reenacts view result (rows_answer parameters entries (spans_of versions) point select)

  executed_stop : (stop : ExecStop) → RunsOver (λ (rows : List (List Cell)). rows) (Err stop) past program → RunsOver view (Err stop) past program
  executed_stop (exec.Rows j) runs = runs
  executed_stop (exec.Ancestry j) runs = runs
  executed_stop exec.Answer runs = runs
  executed_stop exec.NoMemory runs = tt

  refused : (refusal : Refusal) (expected : Option Refusal) → log_refusal entries point ≡ expected → RefusedBy Executes refusal expected (transaction_at point) program past → answer_is (Err (Refused refusal))
  refused refusal (Some expected) is same =
      let elements = answer unannotated select (at_point unannotated entries point (machine.as_of unannotated (spans_of versions))) in
      let rest = option_or (own_stop unannotated parameters entries point (machine.as_of unannotated (spans_of versions))) (answer_refusal unannotated parameters elements) in
      subst (λ d. Reenacts view (Err (Refused refusal)) (given (option_or d rest) elements)) (sym is) same
  refused refusal None is by =
      subst answer_is (ap Err (sym by.is)) (stop_is view entries versions point select program (replays is) by.stop (executed_stop by.stop (runs_over_same program past (Err by.stop) by.given)))

  pub executed_reenacts : (result : Result X Stop) → ReenactsBy view Executes result (log_refusal entries point) (transaction_at point) program past → answer_is result
  executed_reenacts (Ok found) by = found_is view entries versions point select program (replays by.0) found (runs_over_same program past (Ok (view found)) by.1)
  executed_reenacts (Err (Refused refusal)) by = refused refusal (log_refusal entries point) refl by
  executed_reenacts (Err NoMemory) by = tt
