use Rattle.std.proofs.Common.{◌≡◌, map, take}
use Rattle.gp_dumpline.specs.Texts.{span_text}
use Rattle.gp_ask.proofs.row_versions.span_lines.Given as goal

-- the lines of the spans so far
abbrev pub invariant-loop-span : goal.invariant-loop-span
invariant-loop-span l = l.lines ≡ map span_text (take l.span-index l.spans)
