use Rattle.std.proofs.Common.{◌++◌, ap, length, refl, reverse, subst, take, ◌∙◌, arith}
use Rattle.std.proofs.lemmas.Option.{slice_get_read}
use Rattle.gp_versions.specs.declared.key.By.TheVariants as variant
use Rattle.gp_versions.specs.Chains.{IsLast, entered, up_to}
use Rattle.gp_versions.specs.Keys.{key_of_cell, keys_by}
use Rattle.gp_versions.specs.Places.{holds_with, places_where}
use Rattle.gp_versions.proofs.ColumnLemmas.{at-higher, column-begin, column-step}
use Rattle.gp_versions.proofs.chains.Chains.places.Goals as goal

pub loop-next-init : goal.loop-next-init
loop-next-init c =
    let spans = c.args.spans.now in
    let own = c.args.own in
    let keys = keys_by (variant.Column own.column) spans in
    let to = entered c.args.self.now in
    let walk = c.newest-next.result in
    let last = subst (λ key. IsLast keys key to walk) (c.key_of_cell.ensures ∙ ap key_of_cell c.as_ref.ensures) (c.newest-next.ensures keys c.requires) in
    record {
      at = last.at;
      rest = ap (λ found. places_where (holds_with c.args.v own.column own.cell.now) (take (up_to walk) spans) ++ reverse found) c.new-found.ensures.items
          ∙ column-begin c.args.v own.column own.cell.now spans to walk last;
    }

pub loop-next-preserved : goal.loop-next-preserved
loop-next-preserved c =
    let spans = c.args.spans.now in
    let own = c.args.own in
    let x = own.cell.now in
    let keys = keys_by (variant.Column own.column) spans in
    let to = entered c.args.self.now in
    let befores = c.args.self.now.befores.items in
    let place = c.in-Some.place in
    let next = c.index-next.result.now in
    let at = rw c.in-Some.is at c.loop-next.invariant.at in
    let last = c.requires.linked place (key_of_cell x) next (slice_get_read befores (length befores) place next refl at.0 c.index-next.ensures) at.1 in
    record {
      at = at-higher keys (key_of_cell x) place to next (omega (arith, at.0)) last.at;
      rest = ap (λ found. places_where (holds_with c.args.v own.column x) (take (up_to next) spans) ++ reverse found) c.in_ok-push_listed.ensures
          ∙ column-step c.args.v own.column x spans place next c.loop-next.found.items (places_where (holds_with c.args.v own.column x) (take to spans)) last (rw c.in-Some.is at c.loop-next.invariant.rest);
    }
