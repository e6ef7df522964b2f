use Rattle.std.proofs.Common.{refl, ◌∙◌}
use Rattle.gp_log.specs.Logs.{entry_view, log_view}
use Rattle.gp_dump.specs.Rules.{Logs}
use Rattle.gp_dump.proofs.ReadLemmas.{entry-step, entry-fails}
use Rattle.gp_dump.proofs.read.next_entry.Goals as goal

pub returns-in-Ok-clause-verdict : goal.returns-in-Ok-clause-verdict
returns-in-Ok-clause-verdict c left next e =
    c.in_ok-text.ensures.verdict (Logs c.args.second left (log_view c.args.log.now.entries)) refl
    ∙ entry-step c.args.second left next (log_view c.args.log.now.entries) c.in_ok-text.text.now (entry_view c.in-Ok.entry) c.args.rest.number _ e c.in-Ok.ensures.value

pub returns-in-Err-clause-verdict : goal.returns-in-Err-clause-verdict
returns-in-Err-clause-verdict c left next e =
    entry-fails c.args.second left next (log_view c.args.log.now.entries) c.in_ok-text.text.now c.in-Err.stop c.args.rest.number _ _ c.at.result e c.at.ensures
    (c.in_ok-text.ensures.verdict (Logs c.args.second left (log_view c.args.log.now.entries)) refl) c.in-Err.ensures.value
