use Rattle.gp_dump.proofs.LawLemmas.{whole-text}
use Rattle.gp_log.specs.Parameters.{parameters}
use Rattle.gp_ask.proofs.ExplainedLemmas.{questions_explained}
use Rattle.gp_ask.proofs.laws.programs_explain_their_questions.Goals as goal

pub returns : goal.returns
returns c bytes file dump questions formed are =
    questions_explained bytes file dump questions formed are (c.logs_keep_their_sessions.ensures.kept parameters dump.entries (whole-text bytes dump formed).rules.log)
    (c.changed_logs_are_replayable.ensures.fits dump.entries)
    (c.changed_logs_are_replayable.ensures.kept parameters dump.entries)
    (c.changed_logs_are_replayable.ensures.tables parameters dump.entries)
