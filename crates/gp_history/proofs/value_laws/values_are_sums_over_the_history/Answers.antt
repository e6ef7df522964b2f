use Rattle.gp_history.proofs.ValueLemmas.{values_are_sums}
use Rattle.gp_history.proofs.value_laws.values_are_sums_over_the_history.Goals as goal

pub returns : goal.returns
returns g c = record {
  answers = λ value value_in limits agree alike ignore catalogue entries spans point query room.
      values_are_sums g.met.K.Semiring.laws value value_in limits agree alike ignore catalogue entries spans point query room;
}
