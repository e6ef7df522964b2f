use Rattle.std.proofs.Common.{ap, arith, length}
use Rattle.gp_versions.proofs.ListedLemmas.{at-few}
use Rattle.gp_versions.proofs.span_list.SpanList.as_of.Goals as goal

pub returns-in-None-clause-few : goal.returns-in-None-clause-few
returns-in-None-clause-few c = omega (arith, c.self.told, at-few c.args.v c.self.inside.spans.now, ap length c.new.ensures)

pub returns-in-Some-clause-few : goal.returns-in-Some-clause-few
returns-in-Some-clause-few c = omega (arith, c.self.told, at-few c.args.v c.self.inside.spans.now, ap length c.as_of.ensures)
