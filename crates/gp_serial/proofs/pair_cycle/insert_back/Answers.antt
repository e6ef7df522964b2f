use Rattle.std.proofs.Common.{◌∙◌, List, Option, length, subst}
use Rattle.std.specs.Result.{IfOk}
use Rattle.gp_serial.specs.PathForms.{Inserts, cycles_to, list_at}
use Rattle.gp_serial.specs.declared.pair_cycle.Path.{Path}
use Rattle.gp_serial.proofs.pair_cycle.insert_back.Goals as goal

pub returns : goal.returns
returns c =
    subst (λ (to_a : List (Option Path)). IfOk c.insert_each.result (λ fits. Inserts c.args.most (cycles_to (list_at c.args.before.now) (list_at c.args.after.now) (length c.args.before.now) to_a c.args.backs.now)
    c.args.cycles.now.keys c.insert_each.new.cycles.keys c.insert_each.new.lines fits)) (c.deref.ensures.value ∙ c.in_ok-to_a.ensures) c.insert_each.ensures
