use Rattle.gp_explain.proofs.Prelude.{◌≡◌, ◌++◌, drop, lines_from, text_lines}
use Rattle.gp_explain.proofs.lines.explained_lines.Given as goal

-- the lines so far and those of what remains are the lines of all
abbrev pub invariant-loop-byte : goal.invariant-loop-byte
invariant-loop-byte l = l.lines ++ lines_from l.line.items (drop l.byte-index l.text) ≡ text_lines l.text
