use Rattle.std.proofs.Common.{List, map, subst, sym}
use Rattle.std.specs.List.Sorted.{IsPermutation}
use Rattle.gp_base.specs.declared.cell.Cell.{Cell}
use Rattle.gp_history.specs.Matching.{keys_of}
use Rattle.gp_history.specs.Noted.{held_key}
use Rattle.gp_history.proofs.AgreementLemmas.{keys_permuted}
use Rattle.gp_history.proofs.MatchingLemmas.{split_keys}
use Rattle.gp_history.proofs.agreement.agree.Goals as goal

pub returns-then-are_in_order : goal.returns-then-are_in_order
returns-then-are_in_order g c =
    let rows = c.args.rows.now in
    let expected = keys_of c.args.version (map (λ span. span.now) c.args.spans.now) in
    sym (keys_permuted (map held_key rows) expected
    (subst (λ (keys : List (List Cell)). IsPermutation keys expected)
    (split_keys rows c.split_at-parts.result.0.now c.split_at-parts.result.1.now c.first_marked.result c.split_at-parts.ensures.front c.split_at-parts.ensures.back)
    (c.are_in_order.ensures c.if-are_in_order.true)))
