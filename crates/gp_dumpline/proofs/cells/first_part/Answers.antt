use Rattle.std.proofs.Common.{◌∙◌, ◌+◌, ◌∷◌, Bool, List, ℕ, sym, ap, false, take, drop, arith}
use Rattle.std.proofs.lemmas.List.{take_all, length-drop}
use Rattle.gp_dumpline.specs.RowForms.{parts_of}
use Rattle.gp_dumpline.proofs.CellLemmas.{parts-comma, parts_from}
use Rattle.gp_dumpline.proofs.cells.first_part.Goals as goal

pub returns-then-not-inside-clause-parts : goal.returns-then-not-inside-clause-parts
returns-then-not-inside-clause-parts c =
    let text = c.args.text.now in
    let i = c.loop-i.i in
    sym c.loop-i.invariant
    ∙ ap (λ (inside : Bool). parts_from i inside text) c.if-not-inside.true
    ∙ parts-comma i text c.loop-i-test.true c.if-byte-eq-QUOTE.false c.if-byte-eq44.true
    ∙ ap (λ (rest : List ℕ). take i text ∷ parts_of false rest) (sym (take_all _ (drop (i + 1) text) (omega (arith, length-drop (i + 1) text))))
