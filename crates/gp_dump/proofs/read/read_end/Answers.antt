use Rattle.std.proofs.Common.{refl, ◌∙◌, sym, reverse}
use Rattle.gp_dump.specs.Rules.{Sections}
use Rattle.gp_dump.proofs.ReadLemmas.{end-yes, end-no, continues-on}
use Rattle.gp_dump.proofs.read.read_end.Goals as goal

pub returns-then-not-is_end : goal.returns-then-not-is_end
returns-then-not-is_end c log tables all =
    c.in_ok-text.ensures.verdict (Sections log tables) refl ∙ end-no log tables c.in_ok-text.text.now c.args.rest.number _ all (sym c.is_end.ensures ∙ c.if-not-is_end.true)

pub returns : goal.returns
returns c log tables all =
    continues-on c.read_nothing.result _ _ _ _ (c.in_ok-text.ensures.verdict (Sections log tables) refl ∙ end-yes log tables c.in_ok-text.text.now c.args.rest.number _ all (sym c.is_end.ensures ∙ c.if-not-is_end.false)) (λ x. refl)
    (c.read_nothing.ensures (record { entries = log; tables = reverse tables }))
