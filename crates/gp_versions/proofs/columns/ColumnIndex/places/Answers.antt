use Rattle.std.proofs.Common.{◌++◌, ◌-◌, ◌≤◌, ap, length, refl, ◌∙◌, arith}
use Rattle.std.specs.List.{range_with_len}
use Rattle.std.proofs.lemmas.List.{length-map}
use Rattle.gp_versions.specs.declared.key.By.TheVariants as variant
use Rattle.gp_versions.specs.Chains.{entered}
use Rattle.gp_versions.specs.Keys.{key_by}
use Rattle.gp_versions.specs.Places.{holds_with}
use Rattle.gp_versions.specs.Search.{among}
use Rattle.gp_versions.proofs.PlaceLemmas.{among-parts, places-first}
use Rattle.gp_versions.proofs.columns.ColumnIndex.places.Goals as goal

pub returns : goal.returns
returns c =
    let spans = c.args.spans.now in
    let index = c.args.self.now in
    let p = holds_with c.args.v index.column c.args.cell.now in
    let to = entered index.chains in
    let within : to ≤ length spans = omega (arith, c.requires.within, length-map spans (key_by (variant.Column index.column))) in
    c.in_ok-push_from.ensures
    ∙ ap (λ n. c.in-Some.places.items ++ among p spans (range_with_len n (length spans - n))) c.len-2.ensures
    ∙ ap (λ some. some ++ among p spans (range_with_len to (length spans - to))) ((rw c.in-Some.is at c.in_ok-places.ensures) ∙ places-first p to spans)
    ∙ among-parts p spans (range_with_len 0 to) to within refl
