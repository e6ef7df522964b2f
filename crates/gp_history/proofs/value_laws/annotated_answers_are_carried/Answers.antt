use Rattle.gp_history.proofs.VersionReannotation.{elements_reannotated}
use Rattle.gp_history.proofs.value_laws.annotated_answers_are_carried.Goals as goal

pub returns : goal.returns
returns g c = record {
  elements = λ kind other h keeps limits agree alike natural catalogue entries spans point query. elements_reannotated kind other h keeps spans limits agree alike natural catalogue entries point query;
}
