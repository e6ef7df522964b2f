use Rattle.std.proofs.Common.{◌≡◌, suc, true, false, Some, None, refl, sym, rules}
use Rattle.std.specs.Prelude.{IfOk}
use Rattle.std.specs.Option.{is_some}
use Rattle.gp_base.specs.declared.refusal.Refusal.TheVariants.{E09}
use Rattle.gp_log.specs.Parameters.{parameters}
use Rattle.gp_machine.specs.Event.{creation_refusal}
use Rattle.gp_machine.specs.declared.reply.Reply.{Reply}
use Rattle.gp_machine.specs.declared.reply.Reply.TheVariants as reply
use Rattle.gp_engine.specs.Engine.{tables_of}
use Rattle.gp_engine.specs.Methods.{Adds}
use Rattle.gp_engine.proofs.FitLemmas.{ok-map}
use Rattle.gp_engine.proofs.InvariantLemmas.{few-entries, looked}
use Rattle.gp_engine.proofs.LineLemmas.{created-inside, created-outside, unchanged_same}
use Rattle.gp_engine.proofs.state.State.create.Goals as goal

pub add-requires-clause-few : goal.add-requires-clause-few
add-requires-clause-few c = few-entries c.args.self.now c.requires.engine

pub returns-then-is_some-clause-ok : goal.returns-then-is_some-clause-ok
returns-then-is_some-clause-ok c =
    let old = c.args.self.now in
    let found = c.index-self-place.result in
    let at = looked c.args.self.now _ c.args.place found found c.requires.engine c.requires.place c.self.view_is c.index-self-place.is (sym c.index-self-place.is) in
    let some : is_some found ≡ true = cc in
    created-inside old old (reply.Refused E09) c.args.line c.args.place found at c.args.table.now some (unchanged_same old, refl)

pub returns-in-Some-clause-ok : goal.returns-in-Some-clause-ok
returns-in-Some-clause-ok c =
    let old = c.args.self.now in
    let refusal = c.in-Some.refusal in
    let found = c.index-self-place.result in
    let at = looked c.args.self.now _ c.args.place found found c.requires.engine c.requires.place c.self.view_is c.index-self-place.is (sym c.index-self-place.is) in
    let none : is_some found ≡ false = cc in
    let is : Some refusal ≡ creation_refusal parameters (tables_of old) c.args.table.now = cc (c.in_ok-refusal.ensures) in
    created-outside old old (reply.Refused refusal) c.args.line c.args.place found at c.args.table.now (Some refusal) none is (unchanged_same old, refl)

pub returns-in_ok-clone-in-None-clause-ok : goal.returns-in_ok-clone-in-None-clause-ok
returns-in_ok-clone-in-None-clause-ok c =
    let old = c.args.self.now in
    let new = c.add.new.self in
    let found = c.index-self-place.result in
    let at = looked c.args.self.now _ c.args.place found found c.requires.engine c.requires.place c.self.view_is c.index-self-place.is (sym c.index-self-place.is) in
    let none : is_some found ≡ false = cc in
    let is : None ≡ creation_refusal parameters (tables_of old) c.args.table.now = cc (c.in_ok-refusal.ensures) in
    let added : IfOk c.add.result (λ (answer : Reply). Adds old new answer c.args.line (suc c.args.place) c.args.table.now) = search rules in
    ok-map _ _ c.add.result (λ answer adds. created-outside old new answer c.args.line c.args.place found at c.args.table.now None none is adds) added
