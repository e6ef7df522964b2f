-- Answers, statements, written rows and limits take equal bags to equal bags. Identities need not be unique.
use Rattle.std.proofs.Common.{◌≡◌, ℕ, suc, true, false, cond, List, [], ◌∷◌, refl, ap, map}
use Rattle.std.specs.Prelude.{◌==◌, not, nat_lt}
use Rattle.gp_base.specs.Identities.{nodes}
use Rattle.gp_base.specs.Annotated.{Annotations, Annotated, Database}
use Rattle.gp_expr.specs.Values.{passes}
use Rattle.gp_algebra.specs.Statements.{Branch, Select, Statement, insert, insert_select, update, delete, read}
use Rattle.gp_algebra.specs.Answers.{Element, values, passes_where, joined, choices, chosen, answer_from, answer}
use Rattle.gp_algebra.specs.Effects.{with_rows, made, changed, step, wrote, is_over_rows, is_over_nodes}
use Rattle.gp_base.proofs.Bags.{SameBag, none, through, same, joined as both, mapped, filtered, flat_mapped, flat_mapped_each, as_long, any_same}

-- each table has the same rows in both
abbrev pub SameTables : {M : Type 0} → Database M → Database M → Type 0
SameTables a b = (table : ℕ) → SameBag (a table) (b table)

in_table : {M : Type 0} (table : ℕ) (xs ys : List (Annotated M)) (a b : Database M) → SameBag xs ys → SameTables a b → SameTables (with_rows table xs a) (with_rows table ys b)
in_table table xs ys a b s d other = elim (other == table) as (λ c. SameBag (cond c xs (a other)) (cond c ys (b other))) [ true ↦ s | false ↦ d other ]

module _ {M : Type 0} (domain : Annotations M) where
  pub choices_same : (number : ℕ) (tables : List ℕ) (a b : Database M) → SameTables a b → SameBag (choices domain number tables a) (choices domain number tables b)
  choices_same number [] a b s = same _
  choices_same number (table ∷ tables) a b s =
      through (flat_mapped_each (λ row. map (joined domain number row) (choices domain number tables a)) (λ row. map (joined domain number row) (choices domain number tables b)) (λ row. mapped (joined domain number row) (choices_same number tables a b s)) (a table))
      (flat_mapped (λ row. map (joined domain number row) (choices domain number tables b)) (s table))

  pub chosen_same : (number : ℕ) (branch : Branch) (a b : Database M) → SameTables a b → SameBag (chosen domain number branch a) (chosen domain number branch b)
  chosen_same number branch a b s =
      mapped (λ (element : Element M). record element { cells = values branch.items element.cells })
      (filtered (λ (element : Element M). passes_where branch.cond element.cells) (choices_same number branch.from a b s))

  pub answer_from_same : (number : ℕ) (select : Select) (a b : Database M) → SameTables a b → SameBag (answer_from domain number select a) (answer_from domain number select b)
  answer_from_same number [] a b s = none
  answer_from_same number (branch ∷ branches) a b s = both (chosen_same number branch a b s) (answer_from_same (suc number) branches a b s)

  pub answer_same : (select : Select) (a b : Database M) → SameTables a b → SameBag (answer domain select a) (answer domain select b)
  answer_same select a b s = answer_from_same 1 select a b s

  pub step_same : (t k : ℕ) (statement : Statement) (a b : Database M) → SameTables a b → SameTables (step domain t k statement a) (step domain t k statement b)
  step_same t k (insert table rows) a b s = in_table table _ _ a b (both (s table) (same _)) s
  step_same t k (insert_select table select) a b s = in_table table _ _ a b (both (s table) (mapped (made domain t k) (answer_same select a b s))) s
  step_same t k (update table sets c) a b s = in_table table _ _ a b (mapped (changed domain t k sets c) (s table)) s
  step_same t k (delete table c) a b s = in_table table _ _ a b (filtered (λ row. not (passes c row.cells)) (s table)) s
  step_same t k (read select) a b s = s

  pub wrote_same : (t k : ℕ) (statement : Statement) (a b : Database M) → SameTables a b → SameBag (wrote domain t k statement a) (wrote domain t k statement b)
  wrote_same t k (insert table rows) a b s = same _
  wrote_same t k (insert_select table select) a b s = mapped (λ row. record { table = table; identity = row.identity }) (mapped (made domain t k) (answer_same select a b s))
  wrote_same t k (update table sets c) a b s = mapped (λ row. record { table = table; identity = row.identity }) (filtered (λ row. passes c row.cells) (s table))
  wrote_same t k (delete table c) a b s = mapped (λ row. record { table = table; identity = row.identity }) (filtered (λ row. passes c row.cells) (s table))
  wrote_same t k (read select) a b s = none

  pub is_over_rows_same : (most t k : ℕ) (statement : Statement) (a b : Database M) → SameTables a b → is_over_rows domain most t k statement a ≡ is_over_rows domain most t k statement b
  is_over_rows_same most t k (insert table rows) a b s = ap (nat_lt most) (as_long (step_same t k (insert table rows) a b s table))
  is_over_rows_same most t k (insert_select table select) a b s = ap (nat_lt most) (as_long (step_same t k (insert_select table select) a b s table))
  is_over_rows_same most t k (update table sets c) a b s = refl
  is_over_rows_same most t k (delete table c) a b s = refl
  is_over_rows_same most t k (read select) a b s = refl

  pub is_over_nodes_same : (most t k : ℕ) (statement : Statement) (a b : Database M) → SameTables a b → is_over_nodes domain most t k statement a ≡ is_over_nodes domain most t k statement b
  is_over_nodes_same most t k (insert table rows) a b s = refl
  is_over_nodes_same most t k (insert_select table select) a b s = any_same (λ row. nat_lt most (nodes row.identity)) (mapped (made domain t k) (answer_same select a b s))
  is_over_nodes_same most t k (update table sets c) a b s = refl
  is_over_nodes_same most t k (delete table c) a b s = refl
  is_over_nodes_same most t k (read select) a b s = refl
