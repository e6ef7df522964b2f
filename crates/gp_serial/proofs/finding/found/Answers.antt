use Rattle.std.proofs.Common.{◌+◌, ◌++◌, ◌∙◌, ◌≡◌, List, ap, arith, drop, map, sym}
use Rattle.std.proofs.lemmas.List.{append-nil, drop_all}
use Rattle.std.specs.Prelude.{filter}
use Rattle.gp_base.specs.declared.cell.Cell.{Cell}
use Rattle.gp_base.specs.Order.{row_cmp, sorted_by}
use Rattle.gp_expr.specs.Views.{cond_view}
use Rattle.gp_versions.specs.declared.span.Span.{Span}
use Rattle.gp_serial.specs.Finding.{is_found, keyed_span}
use Rattle.gp_serial.proofs.FindingLemmas.{found_more}
use Rattle.gp_serial.proofs.finding.found.Goals as goal

pub loop-span-preserved : goal.loop-span-preserved
loop-span-preserved c =
    let spans = c.args.spans.now in
    let place = c.loop-span.span-index in
    let own = cond_view c.args.cond.now in
    ap (λ (rows : List (List Cell)). rows ++ map keyed_span (filter (is_found c.args.version own) (drop (place + 1) spans))) c.in_ok-push_found.ensures
    ∙ found_more c.args.version own spans c.loop-span.rows.items place c.span-item.result c.loop-span-test.true c.span-item.is
    ∙ c.loop-span.invariant

pub returns : goal.returns
returns c =
    let spans = c.args.spans.now in
    let own = cond_view c.args.cond.now in
    let rows = c.loop-span.rows.items in
    let all : rows ≡ map keyed_span (filter (is_found c.args.version own) spans) =
    sym (append-nil rows) ∙ ap (λ (rest : List Span). rows ++ map keyed_span (filter (is_found c.args.version own) rest)) (sym (drop_all c.loop-span.span-index spans (omega (arith, c.loop-span-test.false)))) ∙ c.loop-span.invariant in
    c.in_ok-sort_rows.ensures.unique ∙ ap (sorted_by row_cmp) all
