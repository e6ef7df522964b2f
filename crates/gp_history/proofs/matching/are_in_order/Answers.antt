use Rattle.std.proofs.Common.{◌+◌, ◌≤◌, List, [], length, drop, map, ap, sym, subst}
use Rattle.std.specs.List.Sorted.{IsPermutation}
use Rattle.std.proofs.lemmas.List.Sorted.{IsPermutation-refl}
use Rattle.gp_base.specs.declared.cell.Cell.{Cell}
use Rattle.gp_versions.specs.declared.span.Span.{Span}
use Rattle.gp_history.specs.Matching.{keys_from, keys_of}
use Rattle.gp_history.proofs.MatchingLemmas.{drop_more, drop_past, none_left}
use Rattle.gp_history.proofs.matching.are_in_order.Goals as goal

pub loop-span-init : goal.loop-span-init
loop-span-init g c = λ found. found

pub loop-span-preserved : goal.loop-span-preserved
loop-span-preserved g c = λ found.
    let spans = c.args.spans.now in
    let at = c.loop-span.span-index in
    c.loop-span.invariant
    (subst (λ (left : List Span). IsPermutation (keys_from c.args.kept.now c.args.written.now c.loop-span.at) (keys_of c.args.version left))
    (sym (ap (map (λ span. span.now)) (drop_more spans at c.span-item.result c.loop-span-test.true c.span-item.is)))
    (c.in-Some.ensures (map (λ span. span.now) (drop (at + 1) spans)) found))

pub returns : goal.returns
returns g c = λ yes.
    let kept = c.args.kept.now in
    let written = c.args.written.now in
    let version = c.args.version in
    let all : length kept ≤ c.loop-span.at.kept = c.if-at-kept.false in
    let every : length written ≤ c.loop-span.at.written = c.if-at-written.false in
    c.loop-span.invariant
    (subst (λ (left : List Span). IsPermutation (keys_from kept written c.loop-span.at) (keys_of version left)) (sym (ap (map (λ span. span.now)) (drop_past c.args.spans.now c.loop-span.span-index c.loop-span-test.false)))
    (subst (λ (left : List (List Cell)). IsPermutation left []) (sym (none_left kept written c.loop-span.at all every)) (IsPermutation-refl [])))
