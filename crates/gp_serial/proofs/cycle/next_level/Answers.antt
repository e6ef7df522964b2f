use Rattle.std.proofs.Common.{◌≡◌, ◌-◌, ◌∙◌, Bool, List, [], get_or, length, map, ap, sym, Vec, Global}
use Rattle.std.specs.Prelude.{is_some}
use Rattle.std.proofs.lemmas.Result.{IfOk-weaker}
use Rattle.gp_serial.specs.CycleForms.{AreReaching, first_step}
use Rattle.gp_serial.specs.Relations.{is_edge}
use Rattle.gp_serial.proofs.CycleLemmas.{last_read, level_next}
use Rattle.gp_serial.proofs.cycle.next_level.Goals as goal

pub returns-in-Some : goal.returns-in-Some
returns-in-Some c = λ steps are.
    let edge = is_edge c.args.graph.now in
    let all = c.args.all.now in
    let levels = c.args.levels.now in
    let flags : Vec Bool Global → List Bool = λ v. v.items in
    let read = last_read flags levels c.in-Some.level.now c.in-Some.ensures.value in
    let flagged : c.deref.result.now ≡ get_or (map flags levels) (length levels - 1) [] = c.deref.ensures.value ∙ sym read.1 in
    IfOk-weaker c.before_flagged.result (λ (own : Vec Bool Global). own.items ≡ map (λ from. is_some (first_step edge from all c.deref.result.now)) all)
    (λ (own : Vec Bool Global). AreReaching edge all c.args.last steps own.items)
    (λ own is. is
    ∙ ap (λ (list : List Bool). map (λ from. is_some (first_step edge from all list)) all) flagged
    ∙ level_next edge all c.args.last steps (length levels - 1) (map flags levels) are read.0)
    c.before_flagged.ensures
