use Rattle.std.proofs.Common.{◌∙◌, sym}
use Rattle.std.proofs.lemmas.Bool.{OnFalse_at, not-true}
use Rattle.gp_serial.specs.declared.pair_cycle.Cycle.{Cycle}
use Rattle.gp_serial.proofs.InsertLemmas.{insert_few, insert_over, insert_known}
use Rattle.gp_serial.proofs.pair_cycle.insert_cycle.Goals as goal

pub returns-then-count-most : goal.returns-then-count-most
returns-then-count-most c =
    let cycle : Cycle = record { count = c.len-count.result; numbers = c.args.numbers } in
    insert_over c.args.most c.args.lines.now c.args.cycles.now.keys c.insert.new.self.keys cycle (c.len-count.ensures ∙ c.args.numbers.ok.0) c.requires c.in_ok-is_new.ensures.keys
    (not-true _ (sym c.in_ok-is_new.ensures.added ∙ c.if-is_new.true)) c.if-count-most.true c.args.lines.now

pub returns-else-count-most : goal.returns-else-count-most
returns-else-count-most c =
    let cycle : Cycle = record { count = c.len-count.result; numbers = c.args.numbers } in
    insert_few c.args.most c.args.lines.now c.args.cycles.now.keys c.insert.new.self.keys cycle (c.len-count.ensures ∙ c.args.numbers.ok.0) c.requires c.in_ok-is_new.ensures.keys
    (not-true _ (sym c.in_ok-is_new.ensures.added ∙ c.if-is_new.true)) c.if-count-most.false

pub returns-else-is_new : goal.returns-else-is_new
returns-else-is_new c =
    let cycle : Cycle = record { count = c.len-count.result; numbers = c.args.numbers } in
    insert_known c.args.most c.args.lines.now c.args.cycles.now.keys c.insert.new.self.keys cycle (c.len-count.ensures ∙ c.args.numbers.ok.0) c.requires c.in_ok-is_new.ensures.keys
    (OnFalse_at c.if-is_new.false c.in_ok-is_new.ensures.unchanged)
