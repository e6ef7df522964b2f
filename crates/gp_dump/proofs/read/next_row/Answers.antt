use Rattle.std.proofs.Common.{refl, ◌∙◌, reverse}
use Rattle.gp_dump.specs.Rules.{Rows}
use Rattle.gp_dump.proofs.ReadLemmas.{row-step, row-fails}
use Rattle.gp_dump.proofs.read.next_row.Goals as goal

pub returns-in-Ok-clause-verdict : goal.returns-in-Ok-clause-verdict
returns-in-Ok-clause-verdict c left next log tables e due =
    c.in_ok-text.ensures.verdict (Rows left log tables (reverse c.args.before.now)) refl
    ∙ row-step c.args.cols.now c.args.versions left next log tables (reverse c.args.before.now) c.in_ok-text.text.now c.in-Ok.span c.args.rest.number _ e due c.in-Ok.ensures.value

pub returns-in-Err-clause-verdict : goal.returns-in-Err-clause-verdict
returns-in-Err-clause-verdict c left next log tables e due =
    row-fails c.args.cols.now c.args.versions left next log tables (reverse c.args.before.now) c.in_ok-text.text.now c.in-Err.stop c.args.rest.number _ _ c.at.result e due c.at.ensures
    (c.in_ok-text.ensures.verdict (Rows left log tables (reverse c.args.before.now)) refl) c.in-Err.ensures.value
