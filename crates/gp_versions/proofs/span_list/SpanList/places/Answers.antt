use Rattle.std.proofs.Common.{◌++◌, ◌-◌, ap, length, subst, sym, ◌∙◌}
use Rattle.std.specs.List.{range_with_len}
use Rattle.gp_versions.specs.Listed.{IsWhere}
use Rattle.gp_versions.specs.Places.{places_at}
use Rattle.gp_versions.specs.Search.{among}
use Rattle.gp_versions.specs.Spans.{holds_at}
use Rattle.gp_versions.proofs.PlaceLemmas.{among-parts}
use Rattle.gp_versions.proofs.span_list.SpanList.places.Goals as goal

pub returns : goal.returns
returns c =
    let spans = c.self.inside.spans.now in
    let p = holds_at c.args.v in
    let listed = c.listed_for-from.result.0.now in
    let from = c.listed_for-from.result.1 in
    let is = subst (IsWhere listed from c.args.v) (sym c.self.view_is) c.listed_for-from.ensures in
    c.in_ok-push_from.ensures
    ∙ ap (λ found. found ++ among p spans (range_with_len from (length spans - from)))
    (c.in_ok-push_listed.ensures ∙ ap (λ found. found ++ among p spans listed) c.in_ok-places.ensures.items)
    ∙ among-parts p spans listed from is.within is.same
    ∙ ap (places_at c.args.v) c.self.view_is
