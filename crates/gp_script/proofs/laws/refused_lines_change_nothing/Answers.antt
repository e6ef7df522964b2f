use Rattle.gp_grammar.specs.Reading.{script_line_of}
use Rattle.gp_log.specs.Parameters.{parameters}
use Rattle.gp_script.proofs.HistoryLemmas.{refused-unchanged}
use Rattle.gp_script.proofs.laws.refused_lines_change_nothing.Goals as goal

pub returns : goal.returns
returns g c = record {
  unchanged = λ kind state line refusal is kept.
      refused-unchanged kind (c.accepted_lines_are_recorded.ensures.unchanged kind parameters) state line.0 (script_line_of line.1) refusal is kept;
}
