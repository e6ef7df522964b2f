use Rattle.std.proofs.Common.{suc, length, Some, None, refl, ap, sym, ◌∙◌, subst, arith}
use Rattle.std.proofs.lemmas.List.{with_items_is}
use Rattle.gp_base.specs.declared.refusal.Refusal.TheVariants.{E10}
use Rattle.gp_syntax.specs.Views.{command_view}
use Rattle.gp_txn.specs.Transactions.{HoldsOthers}
use Rattle.gp_machine.specs.ActionForms.{Run}
use Rattle.gp_machine.specs.declared.reply.Reply.TheVariants as reply
use Rattle.gp_engine.specs.Engine.{Engine, entries_of}
use Rattle.gp_engine.specs.Methods.{meaning_in}
use Rattle.gp_engine.proofs.FitLemmas.{ok-map, on-err}
use Rattle.gp_engine.proofs.InvariantLemmas.{few-entries, looked}
use Rattle.gp_engine.proofs.LineLemmas.{does-found, lent-same}
use Rattle.gp_engine.proofs.StatementLemmas.{next-number, put-unchanged, puts-in, runs-in, runs-kept, runs-stopped, stops-in}
use Rattle.gp_engine.proofs.state.State.statement.Goals as goal

pub run-requires-clause-last : goal.run-requires-clause-last
run-requires-clause-last c =
    let at = looked c.args.self.now _ c.args.place c.index-self-place.result (Some c.in-Some.running) c.requires.engine c.requires.place c.self.view_is c.index-self-place.is c.in-Some.is in
    (c.requires.engine.each (suc c.args.place) c.in-Some.running at).last

pub run-requires-clause-others : goal.run-requires-clause-others
run-requires-clause-others c =
    let at = looked c.args.self.now _ c.args.place c.index-self-place.result (Some c.in-Some.running) c.requires.engine c.requires.place c.self.view_is c.index-self-place.is c.in-Some.is in
    let slice = c.deref_mut.ensures.value ∙ ap (λ (e : Engine). e.versions) c.self.view_is in
    subst (HoldsOthers c.in-Some.running.active.t) (sym slice) (c.requires.engine.each (suc c.args.place) c.in-Some.running at).others

pub keep-requires-clause-few : goal.keep-requires-clause-few
keep-requires-clause-few c =
    let few = few-entries c.args.self.now c.requires.engine in
    let same = ap length (c.run.ensures.log ∙ ap (λ (e : Engine). e.log.entries) c.self.view_is) in
    omega (arith, few, same)

pub keep-requires-clause-number : goal.keep-requires-clause-number
keep-requires-clause-number c =
    let old = c.args.self.now in
    let place = c.args.place in
    let running = c.in-Some.running in
    let at = looked c.args.self.now _ c.args.place c.index-self-place.result (Some c.in-Some.running) c.requires.engine c.requires.place c.self.view_is c.index-self-place.is c.in-Some.is in
    let written = with_items_is c.self.inside.versions c.run.new.versions (omega (arith, c.run.auto.versions, c.deref_mut.ensures.len)) in
    let puts = puts-in old _ c.self.view_is place c.run.new.self c.run.new.log _ c.run.ensures.log (written ∙ c.run.ensures.versions ∙ c.deref_mut.ensures.value) in
    let command = command_view c.args.command.value in
    let runs = runs-in old _ c.self.view_is running c.run.new.self command _ c.in-Ok.ran _ c.deref_mut.ensures.value (ap command_view c.as_ref.ensures) c.in-Ok.ensures.ran in
    next-number old place running c.run.new.self at c.run.new.log _ _ puts command c.in-Ok.ran c.requires.engine runs

pub returns-in-Ok-clause-ok : goal.returns-in-Ok-clause-ok
returns-in-Ok-clause-ok c =
    let old = c.args.self.now in
    let place = c.args.place in
    let running = c.in-Some.running in
    let new = c.keep.new.self in
    let at = looked c.args.self.now _ c.args.place c.index-self-place.result (Some c.in-Some.running) c.requires.engine c.requires.place c.self.view_is c.index-self-place.is c.in-Some.is in
    let written = with_items_is c.self.inside.versions c.run.new.versions (omega (arith, c.run.auto.versions, c.deref_mut.ensures.len)) in
    let puts = puts-in old _ c.self.view_is place c.run.new.self c.run.new.log _ c.run.ensures.log (written ∙ c.run.ensures.versions ∙ c.deref_mut.ensures.value) in
    let command = command_view c.args.command.value in
    let runs = runs-in old _ c.self.view_is running c.run.new.self command _ c.in-Ok.ran _ c.deref_mut.ensures.value (ap command_view c.as_ref.ensures) c.in-Ok.ensures.ran in
    does-found old new c.keep.result c.args.line place (Some running) at (Run command)
    (runs-kept old new c.keep.result c.args.line place running command c.run.new.self c.in-Ok.ran c.run.new.log _ _ puts runs c.keep.ensures.log c.keep.ensures.reply)

pub returns-in-Err-clause-ok : goal.returns-in-Err-clause-ok
returns-in-Err-clause-ok c =
    let old = c.args.self.now in
    let place = c.args.place in
    let running = c.in-Some.running in
    let at = looked c.args.self.now _ c.args.place c.index-self-place.result (Some c.in-Some.running) c.requires.engine c.requires.place c.self.view_is c.index-self-place.is c.in-Some.is in
    let written = with_items_is c.self.inside.versions c.run.new.versions (omega (arith, c.run.auto.versions, c.deref_mut.ensures.len)) in
    let puts = puts-in old _ c.self.view_is place c.run.new.self c.run.new.log _ c.run.ensures.log (written ∙ c.run.ensures.versions ∙ c.deref_mut.ensures.value) in
    let command = command_view c.args.command.value in
    let stops = stops-in old _ c.self.view_is running command _ c.in-Err.stop _ c.deref_mut.ensures.value (ap command_view c.as_ref.ensures) c.in-Err.ensures.stop in
    let same = put-unchanged old place running c.run.new.self at c.run.new.log _ _ puts c.in-Err.ensures.unchanged in
    ok-map _ _ c.answer.result (λ answer says. does-found old _ answer c.args.line place (Some running) at (Run command)
    (runs-stopped old _ answer c.args.line place running command (meaning_in (entries_of old) old.versions running command) c.in-Err.stop stops same says)) c.answer.ensures

pub returns-in-Err-clause-err : goal.returns-in-Err-clause-err
returns-in-Err-clause-err c =
    let old = c.args.self.now in
    let place = c.args.place in
    let running = c.in-Some.running in
    let at = looked c.args.self.now _ c.args.place c.index-self-place.result (Some c.in-Some.running) c.requires.engine c.requires.place c.self.view_is c.index-self-place.is c.in-Some.is in
    let written = with_items_is c.self.inside.versions c.run.new.versions (omega (arith, c.run.auto.versions, c.deref_mut.ensures.len)) in
    let puts = puts-in old _ c.self.view_is place c.run.new.self c.run.new.log _ c.run.ensures.log (written ∙ c.run.ensures.versions ∙ c.deref_mut.ensures.value) in
    on-err _ c.answer.result (put-unchanged old place running c.run.new.self at c.run.new.log _ _ puts c.in-Err.ensures.unchanged)

pub returns-in-None-clause-ok : goal.returns-in-None-clause-ok
returns-in-None-clause-ok c =
    let old = c.args.self.now in
    let at = looked c.args.self.now _ c.args.place c.index-self-place.result (None) c.requires.engine c.requires.place c.self.view_is c.index-self-place.is c.in-None.is in
    does-found old _ (reply.Refused E10) c.args.line c.args.place None at (Run (command_view c.args.command.value)) (lent-same old _ c.args.place c.index-self-place.result c.self.view_is, refl)
