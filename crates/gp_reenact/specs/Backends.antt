-- Of the contract of `reenact_by`: what reenactment over a backend answers. The backend's answer for the program decides, on an environment that has the rows
-- of the past versions, in any order, in the tables and versions that the program scans.
use Rattle.std.specs.Prelude.{◌≡◌, ℕ, List, Option, Some, None, Result, Ok, Err}
use Rattle.gp_base.specs.declared.cell.Cell.{Cell}
use Rattle.gp_base.specs.declared.refusal.Refusal.{Refusal}
use Rattle.gp_algebra.specs.Plain.{PlainEnvironment, PlainProgram}
use Rattle.gp_algebra.specs.Scans.{HaveSameRowsOn, program_scans}
use Rattle.gp_exec.specs.Backends.{Given}
use Rattle.gp_exec.specs.declared.error.ExecStop.{ExecStop}
use Rattle.gp_exec.specs.declared.error.ExecStop.TheVariants as exec
use Rattle.gp_base.specs.declared.stop.Stop.{Stop}
use Rattle.gp_base.specs.declared.stop.Stop.TheVariants.{Refused, NoMemory}
use Rattle.gp_reenact.specs.Reenacting.{stopped}

-- the answer is given for the program, over the rows of these versions
pub record IsGivenOver (gives : PlainProgram → PlainEnvironment → Given → Type 0) (program : PlainProgram) (past : PlainEnvironment) (answer : Given) : Type 0 where
  pub env : PlainEnvironment
  pub same : HaveSameRowsOn (program_scans program) env past
  pub given : gives program env answer

-- what running a program over past versions answers
abbrev pub GivesOver : {X : Type 0} → (X → List (List Cell)) → (PlainProgram → PlainEnvironment → Given → Type 0) → Result X ExecStop → PlainProgram → PlainEnvironment → Type 0
GivesOver view gives (Ok found) program past = IsGivenOver gives program past (Ok (view found))
GivesOver view gives (Err (exec.Rows j)) program past = IsGivenOver gives program past (Err (exec.Rows j))
GivesOver view gives (Err (exec.Ancestry j)) program past = IsGivenOver gives program past (Err (exec.Ancestry j))
GivesOver view gives (Err exec.Answer) program past = IsGivenOver gives program past (Err exec.Answer)
GivesOver view gives (Err exec.NoMemory) program past = Unit {0}

-- likewise, where there is an answer; that there is none says nothing
abbrev pub GivesOverIfSome : {X : Type 0} → (X → List (List Cell)) → (PlainProgram → PlainEnvironment → Given → Type 0) → Result (Option X) ExecStop → PlainProgram → PlainEnvironment → Type 0
GivesOverIfSome view gives (Ok (Some found)) program past = GivesOver view gives (Ok found) program past
GivesOverIfSome view gives (Ok None) program past = Unit {0}
GivesOverIfSome {X} view gives (Err stop) program past = GivesOver {X = X} view gives (Err stop) program past

-- a refusal that is the stop of a program of transaction t
pub record IsStop (gives : PlainProgram → PlainEnvironment → Given → Type 0) (refusal : Refusal) (t : ℕ) (program : PlainProgram) (past : PlainEnvironment) : Type 0 where
  pub stop : ExecStop
  pub given : IsGivenOver gives program past (Err stop)
  pub is : Refused refusal ≡ stopped t stop

-- by the refusal of the state, if it is refused
abbrev pub RefusedBy : (PlainProgram → PlainEnvironment → Given → Type 0) → Refusal → Option Refusal → ℕ → PlainProgram → PlainEnvironment → Type 0
RefusedBy gives refusal (Some expected) t program past = refusal ≡ expected
RefusedBy gives refusal None t program past = IsStop gives refusal t program past

abbrev pub ReenactsBy : {X : Type 0} → (X → List (List Cell)) → (PlainProgram → PlainEnvironment → Given → Type 0)
    → Result X Stop → Option Refusal → ℕ → PlainProgram → PlainEnvironment → Type 0
ReenactsBy view gives (Ok found) expected t program past = (expected ≡ None) × IsGivenOver gives program past (Ok (view found))
ReenactsBy view gives (Err (Refused refusal)) expected t program past = RefusedBy gives refusal expected t program past
ReenactsBy view gives (Err NoMemory) expected t program past = Unit {0}
