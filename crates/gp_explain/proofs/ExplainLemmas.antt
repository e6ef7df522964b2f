-- What explaining answers, by the program of the state.
use Rattle.gp_explain.proofs.Prelude.{◌≡◌, List, ℕ, Option, None, sym, subst, Refusal, Table, PlainProgram, Spells}
use Rattle.std.proofs.Common.{Result, Ok, Err}
use Rattle.std.specs.Prelude.{IfOk}
use Rattle.gp_base.specs.declared.stop.Stop.{Stop}
use Rattle.gp_explain.specs.Explaining.{ExplainsBy}

module _ {X : Type 0} (view : X → List ℕ) where
  pub explains_by : (result : Result X Stop) (expected : Option Refusal) (tables : List Table) (program merged : PlainProgram) → expected ≡ None → program ≡ merged
      → ExplainsBy view result None tables program → ExplainsBy view result expected tables merged
  explains_by result expected tables program merged none same by =
      subst (λ (d : Option Refusal). ExplainsBy view result d tables merged) (sym none) (subst (λ (p : PlainProgram). ExplainsBy view result None tables p) same by)

  pub explains_what : (P : List ℕ → Type 0) (result : Result X Stop) (expected : Option Refusal) (tables : List Table) (program : PlainProgram)
      → ((text : List ℕ) → Spells tables program text → P text) → ExplainsBy view result expected tables program → IfOk result (λ x. P (view x))
  explains_what P (Ok x) expected tables program holds by = holds (view x) by.1
  explains_what P (Err stop) expected tables program holds by = tt
