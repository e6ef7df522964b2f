use Rattle.std.proofs.Common.{◌≡◌, ℕ, suc, ◌==◌, true, false, cond, ◌&&◌, List, [], ◌∷◌, map, length, Some, refl, ap, sym, ◌∙◌}
use Rattle.std.proofs.Math.Dec.{eqb-suc-zero}
use Rattle.std.proofs.lemmas.List.{append-nil}
use Rattle.gp_versions.specs.declared.span.Span.{Span}
use Rattle.gp_versions.specs.declared.span.Write.{Write}
use Rattle.gp_versions.specs.Commits.{after_commit, ended, is_open}
use Rattle.gp_txn.proofs.publication.publish_one.Goals as goal

ended-none : (version : ℕ) (span : Span) → ended version [] span ≡ span
ended-none version span = elim (is_open span.to) as (λ b. cond (b && false) (record span { to = Some version }) span ≡ span) [ true ↦ refl | false ↦ refl ]

none-ended : (version : ℕ) (spans : List Span) → map (ended version []) spans ≡ spans
none-ended version [] = refl
none-ended version (span ∷ spans) = ap (λ s. s ∷ map (ended version []) spans) (ended-none version span) ∙ ap (λ ss. span ∷ ss) (none-ended version spans)

after-none : (version : ℕ) (writes : List Write) (spans : List Span) → (length writes == 0) ≡ true → after_commit version writes spans ≡ spans
after-none version [] spans none = append-nil (map (ended version []) spans) ∙ none-ended version spans
after-none version (write ∷ writes) spans none = absurd (let no : (suc (length writes) == 0) ≡ false = eqb-suc-zero (length writes) in cc)

pub returns-then-is_empty : goal.returns-then-is_empty
returns-then-is_empty c =
    sym (after-none c.args.version c.args.writes c.args.table.now.spans (rw c.as_slice.ensures at (sym c.if-is_empty.ensures)))
