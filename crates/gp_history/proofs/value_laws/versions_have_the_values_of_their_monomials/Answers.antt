use Rattle.gp_history.proofs.SpanValues.{span_values}
use Rattle.gp_history.proofs.value_laws.versions_have_the_values_of_their_monomials.Goals as goal

pub returns : goal.returns
returns g c = record {
  versions = λ value value_in log spans newest version table most small few. span_values g.met.K.Semiring.laws value value_in log spans newest version table most small few;
}
