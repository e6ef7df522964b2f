use Rattle.std.proofs.Common.{◌+◌, drop, arith}
use Rattle.std.specs.List.{flat_map}
use Rattle.gp_base.specs.Order.{sorted_by}
use Rattle.gp_versions.specs.Spans.{span_cmp}
use Rattle.gp_dump.specs.Dumps.{with_newline, sections_texts}
use Rattle.gp_dump.specs.Writing.{ordered, section_texts}
use Rattle.gp_dump.proofs.WriteLemmas.{ordered-at, sections-more, text-more}
use Rattle.gp_dump.proofs.write.write_tables.Goals as goal

pub loop-place-preserved : goal.loop-place-preserved
loop-place-preserved c =
    let tables = c.args.tables.now in
    let versions = c.args.versions.now in
    let place = c.loop-place.place in
    let here = sorted_by span_cmp c.index-versions-place.result.spans in
    text-more c.loop-place.out.items c.write_table.new.out.items _
    (flat_map with_newline (sections_texts (drop place tables) (drop place (ordered versions))))
    (flat_map with_newline (section_texts c.table.result.now here))
    (flat_map with_newline (sections_texts (drop (place + 1) tables) (drop (place + 1) (ordered versions))))
    c.loop-place.invariant
    (sections-more tables (ordered versions) place c.table.result.now here c.table.ensures (ordered-at versions place c.index-versions-place.result (omega (arith, c.loop-place-test.true, c.len-place-end.ensures.len, c.requires.same)) c.index-versions-place.is))
    c.in_ok-write_table.ensures.ok
