use Rattle.std.proofs.Common.{ap, arith, length, subst, ◌≤◌, ◌∙◌, ℕ}
use Rattle.gp_versions.specs.declared.key.By.TheVariants as variant
use Rattle.gp_versions.specs.declared.key.Key.{Key}
use Rattle.gp_versions.specs.Chains.{AreChained, entered}
use Rattle.gp_versions.specs.Finding.{HasPlaces}
use Rattle.gp_versions.specs.Keys.{key_of_cell, keys_by}
use Rattle.gp_versions.proofs.ColumnLemmas.{column-at}
use Rattle.gp_versions.proofs.FinderLemmas.{has-cell, index-at}
use Rattle.gp_versions.proofs.columns.push_with.Goals as goal

pub returns-clause-all : goal.returns-clause-all
returns-clause-all c = λ all.
    let indexes = c.args.indexes.now in
    let spans = c.args.spans.now in
    let own = c.args.own in
    let place = c.in-Some.place in
    let index = c.index-indexes-place.result in
    let column = column-at indexes place own.column index c.index-indexes-place.is c.in-Some.ensures in
    let chained = subst (λ (n : ℕ). AreChained index.chains (keys_by (variant.Column n) spans)) column (index-at indexes spans place own.column index c.index-indexes-place.is c.in-Some.ensures c.requires) in
    let whole : length spans ≤ entered index.chains = omega (arith, c.if-len-spans.false, c.len.ensures) in
    has-cell spans own.column own.cell.now index.chains c.push_places.new.found.items chained whole
    (subst (λ (key : Key). HasPlaces key index.chains c.push_places.new.found.items) (c.key_of_cell-key.ensures ∙ ap key_of_cell c.as_ref.ensures) (c.in_ok-push_places.ensures.all all))
