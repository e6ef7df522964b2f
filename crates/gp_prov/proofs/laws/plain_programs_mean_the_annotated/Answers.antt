use Rattle.gp_algebra.specs.AnnotatedQueries.{step_table}
use Rattle.gp_prov.proofs.MeaningLemmas.{rows_between, steps_are, answers_are, tables_are}
use Rattle.gp_prov.proofs.laws.plain_programs_mean_the_annotated.Goals as goal

pub returns : goal.returns
returns c = record {
  answers = λ columns prov env program widths built. answers_are columns prov env widths program built;
  tables = λ columns prov env table program widths built. rows_between prov (columns table) (tables_are columns prov env widths table program built);
  steps = λ columns prov env program j widths has. rows_between prov (columns (step_table program.steps j)) (steps_are columns prov env widths program has j);
}
