use Rattle.gp_syntax.proofs.LinesLemmas.{script_lines-increasing}
use Rattle.gp_syntax.proofs.line.lines.Goals as goal

pub returns-clause-increasing : goal.returns-clause-increasing
returns-clause-increasing c = script_lines-increasing c.args.bytes.now
