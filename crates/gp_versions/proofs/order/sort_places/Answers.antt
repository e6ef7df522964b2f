use Rattle.std.proofs.Common.{is_lt, slice_get, rules}
use Rattle.std.specs.Option.{option_cmp}
use Rattle.std.proofs.lemmas.List.Sorted.{ranks_by}
use Rattle.std.proofs.lemmas.Fn.{always_returns_same}
use Rattle.gp_versions.specs.Spans.{span_cmp}
use Rattle.gp_versions.proofs.OrderLemmas.{places_total}
use Rattle.gp_versions.proofs.order.sort_places.Goals as goal

pub returns-clause-sorted : goal.returns-clause-sorted
returns-clause-sorted c =
    let spans = c.args.spans.now in
    c.in_ok-sort_by.ensures.sorted (λ place other. is_lt (option_cmp span_cmp (slice_get spans place) (slice_get spans other))) (ranks_by places_total (slice_get spans)) (always_returns_same _ _ _ (λ a r f k. search rules))
