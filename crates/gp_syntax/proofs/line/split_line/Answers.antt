use Rattle.std.proofs.Common.{◌≡◌, ◌+◌, ◌∷◌, ℕ, take, drop, arith, sym, subst}
use Rattle.std.specs.Str.Lines.{lines, strip_carriage_return}
use Rattle.std.proofs.lemmas.List.{take_rest}
use Rattle.gp_syntax.proofs.LinesLemmas.{lines-open, lines-ended}
use Rattle.gp_syntax.proofs.line.split_line.Goals as goal

pub returns-then-end-bytes-clause-lines : goal.returns-then-end-bytes-clause-lines
returns-then-end-bytes-clause-lines c =
    let bytes = c.args.bytes.now in
    let place = c.line_len-end.ensures.value in
    let whole = lines-ended bytes (omega (arith, place, c.if-end-bytes.true)) in
    rw (take_rest bytes (c.line_len-end.result + 1), c.strip_carriage_return.ensures)
    (subst (λ (n : ℕ). lines bytes ≡ strip_carriage_return (take n bytes) ∷ lines (drop (n + 1) bytes)) (sym place) whole)

pub returns-else-end-bytes-clause-lines : goal.returns-else-end-bytes-clause-lines
returns-else-end-bytes-clause-lines c = lines-open c.args.bytes.now c.requires (omega (arith, c.line_len-end.ensures.value))
