use Rattle.gp_machine.proofs.ReplayReannotation.{replay_stop_is, replayed_spans_is, unstopped_reannotated}
use Rattle.gp_machine.proofs.laws.annotations_change_no_replay.Goals as goal

pub returns-clause-stops : goal.returns-clause-stops
returns-clause-stops g c kind other h keeps limits log tables u = replay_stop_is kind other h keeps log limits tables u

pub returns-clause-spans : goal.returns-clause-spans
returns-clause-spans g c kind other h keeps log tables u place = replayed_spans_is kind other h keeps log tables u place

pub returns-clause-unstopped : goal.returns-clause-unstopped
returns-clause-unstopped g c kind other h keeps limits state is = unstopped_reannotated kind other h keeps limits state is
