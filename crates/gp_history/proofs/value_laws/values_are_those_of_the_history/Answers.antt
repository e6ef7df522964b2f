use Rattle.gp_base.specs.Annotated.{monomials}
use Rattle.gp_machine.specs.Event.{after}
use Rattle.gp_machine.specs.State.{start}
use Rattle.std.proofs.Common.{[]}
use Rattle.gp_history.proofs.HeldLemmas.{values_held}
use Rattle.gp_history.proofs.value_laws.values_are_those_of_the_history.Goals as goal

pub returns-clause-unstopped : goal.returns-clause-unstopped
returns-clause-unstopped g c value value_in limits state unstopped spans are agree agrees point query =
    values_held limits agree state spans point g.met.K.Semiring.laws value value_in query
    (c.unstopped_histories_answer_their_questions.ensures.annotated monomials limits state unstopped spans are agree agrees point [])
    (λ known. c.unstopped_histories_answer_their_questions.ensures.elements monomials limits state unstopped spans are point known query)

pub returns-clause-answers : goal.returns-clause-answers
returns-clause-answers g c value value_in limits lines spans are agree agrees point query =
    returns-clause-unstopped g c value value_in limits (after monomials limits start lines) (c.histories_do_not_stop.ensures.reached monomials limits lines) spans are agree agrees point query
