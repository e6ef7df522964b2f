use Rattle.gp_engine.proofs.StartLemmas.{new_engine, new_sound}
use Rattle.gp_engine.proofs.engine.Engine.new.Goals as goal

pub invariant_of-result : goal.invariant_of-result
invariant_of-result c = new_sound c.new.result c.new.ensures.log c.new.ensures.versions c.new.ensures.sessions c.new.ensures.places

pub returns : goal.returns
returns c = new_engine c.new.result c.new.ensures.log c.new.ensures.versions c.new.ensures.sessions
