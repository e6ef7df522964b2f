-- A span has in a semiring the value of its monomial, where no count is stopped.
use Rattle.std.proofs.Common.{◌≡◌, ◌≤◌, ℕ, suc, ◌*◌, arith, List, map, sym, ap, ◌∙◌}
use Rattle.std.specs.List.{AllByRecursion}
use Rattle.std.proofs.lemmas.Nat.{mul-le}
use Rattle.gp_base.specs.declared.token.Token.{Token}
use Rattle.gp_base.specs.declared.token.Token.TheVariants.{Inserted, Queried, Updated}
use Rattle.gp_base.specs.Annotated.{Annotated, monomials}
use Rattle.gp_base.specs.Identities.{nodes}
use Rattle.gp_base.specs.Tokens.{greatest_count}
use Rattle.gp_versions.specs.declared.span.Span.{Span}
use Rattle.gp_versions.specs.Spans.{holds_at, spans_at}
use Rattle.gp_algebra.specs.Reannotation.{reannotated}
use Rattle.gp_semiring.specs.Semirings.{SemiringLaws}
use Rattle.gp_machine.specs.Annotating.{annotated, annotated_row, computed}
use Rattle.gp_machine.specs.Entries.{Log}
use Rattle.gp_machine.proofs.Distinct.{each_both, each_filter}
use Rattle.gp_semiring.specs.Values.{monomial_value}
use Rattle.gp_kexec.specs.Valuing.{values_as_annotations}
use Rattle.gp_kexec.specs.SemiringForms.{counted, occurs, word_value, words}
use Rattle.gp_kexec.proofs.WordLemmas.{counted_carries, value_of_counted, word_carries}
use Rattle.gp_history.specs.Room.{IsWithinNodes, for_each_node, made_by}
use Rattle.gp_history.proofs.Bounds.{at_most}
use Rattle.gp_history.proofs.RunBounds.{made_few, versions_within}
use Rattle.gp_history.proofs.VersionReannotation.{annotated_reannotated, computed_reannotated}
use Rattle.gp_base.proofs.SmallLemmas.{each_map, map-map, map_agree_at}

module _ {K : Type 0} {element : K → Type 0} {zero_of one_of : K} {plus times_of : K → K → K} (laws : SemiringLaws element zero_of one_of plus times_of) (value : Token → K) (value_in : (t : Token) → element (value t))
    (log : Log) (spans : ℕ → List Span) (newest version table most : ℕ) (small : AllByRecursion (λ span. nodes span.id ≤ most) (spans table)) (few : suc newest * most ≤ greatest_count) where
  abbrev word : List Token → K
  word = word_value one_of times_of value

  abbrev of_monomial : List Token → K
  of_monomial tokens = monomial_value one_of times_of value (counted tokens)

  abbrev known : List (Annotated (List Token))
  known = annotated words spans (computed words log spans newest) version table

  once_for_each : (token : Token) → for_each_node (made_by log newest) token ≤ suc newest
  once_for_each (Inserted t k n) = omega arith
  once_for_each (Queried t k) = omega arith
  once_for_each (Updated t k) = let l : made_by log newest t ≤ newest = made_few log newest t in omega arith

  known_small : AllByRecursion (λ (row : Annotated (List Token)). nodes row.identity ≤ most) known
  known_small =
      each_map (λ (row : Annotated (List Token)). nodes row.identity ≤ most) (λ (span : Span). nodes span.id ≤ most) (annotated_row words (computed words log spans newest) table) (λ span is. is) (spans_at version (spans table))
      (each_filter (λ (span : Span). nodes span.id ≤ most) (λ (span : Span). nodes span.id ≤ most) (holds_at version) (λ span e is. is) (spans table) small)

  each : AllByRecursion (λ (row : Annotated (List Token)). reannotated word row ≡ reannotated of_monomial row) known
  each =
      each_both (λ (row : Annotated (List Token)). reannotated word row ≡ reannotated of_monomial row) (IsWithinNodes (for_each_node (made_by log newest))) (λ (row : Annotated (List Token)). nodes row.identity ≤ most)
      (λ row within least.
      ap (λ m. record { identity = row.identity; cells = row.cells; mark = row.mark; annotation = m })
      (sym (value_of_counted laws value value_in row.annotation (λ token.
      at_most (occurs token row.annotation) (for_each_node (made_by log newest) token * nodes row.identity) greatest_count (within token)
      (at_most (for_each_node (made_by log newest) token * nodes row.identity) (suc newest * most) greatest_count (mul-le (for_each_node (made_by log newest) token) (nodes row.identity) (suc newest) most (once_for_each token) least) few)))))
      known (versions_within log spans newest version table) known_small

  pub span_values : annotated (values_as_annotations one_of times_of value) spans (computed (values_as_annotations one_of times_of value) log spans newest) version table
      ≡ map (reannotated (monomial_value one_of times_of value)) (annotated monomials spans (computed monomials log spans newest) version table)
  span_values =
      annotated_reannotated words (values_as_annotations one_of times_of value) word (word_carries laws value value_in) spans (computed words log spans newest) (computed (values_as_annotations one_of times_of value) log spans newest)
      (computed_reannotated words (values_as_annotations one_of times_of value) word (word_carries laws value value_in) spans log newest) version table
      ∙ map_agree_at (reannotated word) (reannotated of_monomial) known each
      ∙ sym (map-map (reannotated (monomial_value one_of times_of value)) (reannotated counted) known)
      ∙ ap (map (reannotated (monomial_value one_of times_of value)))
      (sym (annotated_reannotated words monomials counted counted_carries spans (computed words log spans newest) (computed monomials log spans newest) (computed_reannotated words monomials counted counted_carries spans log newest) version table))
