-- Each token of an annotation counts at least once. Such monomials are annotations of their own, and forgetting that they are such keeps products.
use Rattle.std.proofs.Common.{◌≤◌, ◌+◌, ℕ, Bool, List, [], ◌∷◌, map, min, refl, sym, subst, arith}
use Rattle.std.specs.declared.cmp.Ordering.TheVariants.{Less, Equal, Greater}
use Rattle.std.specs.FinMap.Entries.{by_order}
use Rattle.gp_base.specs.declared.table.Table.{Table}
use Rattle.gp_base.specs.declared.token.Token.{Token}
use Rattle.gp_base.specs.Annotated.{Annotated, Annotations, monomials}
use Rattle.gp_base.specs.Tokens.{Monomial, greatest_count, once, one, times, times_from, token_cmp}
use Rattle.gp_grammar.specs.Syntax as y
use Rattle.gp_versions.specs.declared.span.Span.{Span}
use Rattle.gp_algebra.specs.Answers.{Element, answer}
use Rattle.gp_algebra.specs.Reannotation.{IsHomomorphism, element_reannotated, reannotated}
use Rattle.gp_algebra.specs.Statements.{Select}
use Rattle.gp_history.specs.Agreement.{agree}
use Rattle.gp_log.specs.Parameters.{parameters}
use Rattle.gp_machine.specs.Annotating.{annotated_versions}
use Rattle.gp_machine.specs.Entries.{Entry}
use Rattle.gp_machine.specs.Points.{at_point}
use Rattle.gp_semiring.specs.SumForms.{Each}
use Rattle.gp_history.proofs.VersionReannotation.{answer_reannotated_at}
use Rattle.gp_kexec.specs.CountForms.{HasCounts}

-- ---- products

counts_from : (pair : Token × ℕ) (rest : Monomial → Monomial) → ((m : Monomial) → HasCounts m → HasCounts (rest m)) → 1 ≤ pair.1 → (others : Monomial) → HasCounts others → HasCounts (times_from pair rest others)
counts_from pair rest keeps some [] are = (some, keeps [] tt)
counts_from pair rest keeps some (other ∷ others) are =
    elim (token_cmp pair.0 other.0) as (λ o. HasCounts (by_order o (pair ∷ rest (other ∷ others)) ((pair.0, min (pair.1 + other.1) greatest_count) ∷ rest others) (other ∷ times_from pair rest others))) [
      | Less ↦ (some, keeps (other ∷ others) are)
      | Equal ↦ (added pair.1 other.1 some, keeps others are.1)
      | Greater ↦ (are.0, counts_from pair rest keeps some others are.1)
    ]
  where
    added : (a b : ℕ) → 1 ≤ a → 1 ≤ min (a + b) greatest_count
    added a b some = omega arith

counts_times : (a b : Monomial) → HasCounts a → HasCounts b → HasCounts (times a b)
counts_times [] b left right = right
counts_times (pair ∷ pairs) b left right = counts_from pair (times pairs) (λ m are. counts_times pairs m left.1 are) left.0 b right

-- ---- annotations

record Counted : Type 0 where
  monomial : Monomial
  counts : HasCounts monomial

abbrev counted : Annotations Counted
counted = record {
  one = record { monomial = one; counts = tt };
  times = λ a b. record { monomial = times a.monomial b.monomial; counts = counts_times a.monomial b.monomial a.counts b.counts };
  token = λ token. record { monomial = once token; counts = (omega arith, tt) };
}

abbrev counting : Counted → Monomial
counting a = a.monomial

keeps : IsHomomorphism counted monomials counting
keeps = record { one = refl; times = λ a b. refl; token = λ token. refl }

abbrev pub EachCounts : List (Element Monomial) → Type 0
EachCounts elements = Each (λ (element : Element Monomial). HasCounts element.annotation) elements

each_counts : (elements : List (Element Counted)) → EachCounts (map (element_reannotated counting) elements)
each_counts [] = tt
each_counts (element ∷ elements) = (element.annotation.counts, each_counts elements)

-- the test of equal tables, over such annotations
abbrev agree_counted : List (Annotated Counted) → List (Annotated Counted) → Bool
agree_counted rows others = agree (map (reannotated counting) rows) (map (reannotated counting) others)

-- the annotated answers of a log and its spans
pub answers_count : (catalogue : List Table) (entries : List Entry) (spans : ℕ → List Span) (point : y.Point) (select : Select)
    → EachCounts (answer monomials select (at_point monomials entries point (annotated_versions monomials entries spans)))
answers_count catalogue entries spans point select =
    subst EachCounts
    (sym (answer_reannotated_at counted monomials counting keeps spans parameters agree_counted agree (λ rows others. refl) catalogue entries point select))
    (each_counts (answer counted select (at_point counted entries point (annotated_versions counted entries spans))))
