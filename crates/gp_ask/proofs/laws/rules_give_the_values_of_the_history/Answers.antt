use Rattle.gp_history.specs.Agreement.{agree}
use Rattle.gp_log.specs.Parameters.{parameters}
use Rattle.gp_semiring.specs.Values.{token_value}
use Rattle.gp_ask.proofs.ValueLemmas.{token-in}
use Rattle.gp_ask.proofs.laws.rules_give_the_values_of_the_history.Goals as goal

pub returns : goal.returns
returns g c = λ rules state unstopped spans are point query.
    c.values_are_those_of_the_history.ensures.unstopped (token_value g.K.Semiring.one_of g.K.Semiring.number_of g.K.Semiring.itself_of rules)
    (token-in g.K.Semiring.is_element g.K.Semiring.one_of g.K.Semiring.number_of g.K.Semiring.itself_of g.met.K.Semiring.number_in g.met.K.Semiring.itself_in rules) parameters state unstopped spans are agree
    (λ rows others same. c.agreement_is_having_the_same_rows.ensures.agrees rows others same) point query
