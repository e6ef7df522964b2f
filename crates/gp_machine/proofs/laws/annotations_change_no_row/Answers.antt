use Rattle.gp_machine.proofs.PointReannotation.{at_point_reannotated, held_reannotated, rows_agree, run_stop_reannotated}
use Rattle.gp_machine.proofs.laws.annotations_change_no_row.Goals as goal

pub returns-clause-points : goal.returns-clause-points
returns-clause-points g c kind other h keeps versions others are entries point = at_point_reannotated kind other h keeps versions others are entries point

pub returns-clause-stops : goal.returns-clause-stops
returns-clause-stops g c kind other h keeps versions others are limits log t k = run_stop_reannotated kind other h keeps versions others are limits log t k

pub returns-clause-held : goal.returns-clause-held
returns-clause-held g c h state point = held_reannotated h state point

pub returns-clause-rows : goal.returns-clause-rows
returns-clause-rows g c kind other versions others same entries point = rows_agree kind other entries point versions others same
