use Rattle.std.proofs.Common.{List, arith, subst, suc, sym, ℕ, [], ◌+◌, ◌++◌, ◌∙◌, ◌∷◌, ◌≡◌}
use Rattle.gp_base.specs.declared.limit.TheConstants.{MAX_TABLE_ROWS}
use Rattle.gp_reenact.specs.Reenacting.{spans_of}
use Rattle.gp_history.specs.declared.narrowed.Part.{Part}
use Rattle.gp_history.proofs.NarrowedLemmas.{AreAll, all_more, whole_spans, whole_versions}
use Rattle.gp_history.proofs.ReachLemmas.{parts_end, spans_at_place}
use Rattle.gp_history.proofs.narrowed.Narrowed.whole.Goals as goal

pub loop-table-preserved : goal.loop-table-preserved
loop-table-preserved g c =
    let versions = c.args.versions.now in
    let table = c.loop-table.table in
    let next : suc table ≡ table + 1 = omega arith in
    let here = spans_at_place versions table c.index-versions-table.result c.loop-table-test.true c.index-versions-table.is in
    subst (λ (parts : List (Part g.row.A.Denot)). AreAll (spans_of versions) c.args.known.now (table + 1) parts) (sym c.in_ok-push.ensures.items)
    (subst (λ (n : ℕ). AreAll (spans_of versions) c.args.known.now n (c.loop-table.parts.items ++ c.in_ok-whole.field-0 ∷ [])) next
    (all_more (spans_of versions) c.args.known.now table c.loop-table.parts.items c.in_ok-whole.field-0 (c.in_ok-whole.ensures.spans ∙ c.as_slice.ensures.spans ∙ here) (c.in_ok-whole.ensures.annotations ∙ c.annotations.ensures)
    c.loop-table.invariant))

pub returns-clause-spans : goal.returns-clause-spans
returns-clause-spans g c table =
    let versions = c.args.versions.now in
    whole_spans (spans_of versions) c.args.known.now c.loop-table.table (record { parts = c.loop-table.parts; none = c.new.result; most = MAX_TABLE_ROWS }) c.loop-table.invariant c.new.ensures.spans
    (parts_end versions c.loop-table.parts.items c.loop-table.table c.loop-table.invariant.many c.loop-table-test.false) table

pub returns-clause-versions : goal.returns-clause-versions
returns-clause-versions g c version table =
    let versions = c.args.versions.now in
    whole_versions (spans_of versions) c.args.known.now c.loop-table.table (record { parts = c.loop-table.parts; none = c.new.result; most = MAX_TABLE_ROWS }) c.loop-table.invariant c.new.ensures.spans
    (parts_end versions c.loop-table.parts.items c.loop-table.table c.loop-table.invariant.many c.loop-table-test.false) version table
