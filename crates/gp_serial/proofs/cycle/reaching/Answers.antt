use Rattle.std.proofs.Common.{◌+◌, ◌∙◌, Bool, List, map, ap, subst, sym, Vec, Global}
use Rattle.std.proofs.lemmas.List.{map_push}
use Rattle.gp_serial.specs.CycleForms.{AreLevels}
use Rattle.gp_serial.specs.Relations.{is_edge}
use Rattle.gp_serial.proofs.CycleLemmas.{level_pushed}
use Rattle.gp_serial.proofs.cycle.reaching.Goals as goal

pub loop-preserved : goal.loop-preserved
loop-preserved c =
    let edge = is_edge c.args.graph.now in
    let all = c.args.all.now in
    let last = c.args.last in
    let steps = c.loop.counter in
    let levels = c.loop.levels.items in
    let level = c.in_ok-level.level in
    let flags : Vec Bool Global → List Bool = λ v. v.items in
    let seen = subst (λ (list : List (Vec Bool Global)). AreLevels edge all last steps (map flags list)) (sym c.deref.ensures.value) c.loop.invariant in
    subst (AreLevels edge all last (steps + 1)) (sym (ap (map flags) c.in_ok-push.ensures.items ∙ map_push flags levels level))
    (level_pushed edge all last steps (map flags levels) level.items c.loop.invariant (c.in_ok-level.ensures steps seen))
