use Rattle.gp_ask.proofs.HypotheticalLemmas.{remade-same}
use Rattle.gp_ask.proofs.ProvenanceLemmas.{replayable}
use Rattle.gp_ask.proofs.laws.dumps_answer_as_changed_histories.Goals as goal

pub returns : goal.returns
returns c = λ dump rules question.
    remade-same dump
    (λ changes subject query.
    c.changed_histories_answer_their_questions.ensures.held dump.entries changes (c.changed_logs_are_coherent.ensures.replayable dump.entries (replayable dump rules)) subject query) question
