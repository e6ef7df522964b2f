use Rattle.std.proofs.Common.{◌≡◌, ℕ, suc, Some, None, refl, subst}
use Rattle.gp_base.specs.declared.refusal.Refusal.TheVariants.{E10}
use Rattle.gp_machine.specs.ActionForms.{Rollback}
use Rattle.gp_machine.specs.Entries.{Ended, RolledBack}
use Rattle.gp_machine.specs.declared.reply.Reply.TheVariants as reply
use Rattle.gp_engine.specs.Methods.{Clears}
use Rattle.gp_engine.proofs.InvariantLemmas.{has-place, looked}
use Rattle.gp_engine.proofs.LineLemmas.{does-found, unchanged_same}
use Rattle.gp_engine.proofs.state.State.roll_back.Goals as goal

pub end-requires-clause-room : goal.end-requires-clause-room
end-requires-clause-room c =
    let at = looked c.args.self.now _ c.args.place c.index-self-place.result (Some c.in-Some.running) c.requires.engine c.requires.place c.self.view_is c.index-self-place.is c.in-Some.is in
    has-place c.args.self.now c.args.place c.in-Some.running c.requires.engine at

pub returns-in-Some : goal.returns-in-Some
returns-in-Some c =
    let old = c.args.self.now in
    let new = c.end.new.self in
    let place = c.args.place in
    let at = looked c.args.self.now _ c.args.place c.index-self-place.result (Some c.in-Some.running) c.requires.engine c.requires.place c.self.view_is c.index-self-place.is c.in-Some.is in
    does-found old new (reply.RolledBack c.t-t.result) c.args.line place (Some c.in-Some.running) at Rollback
    (subst (λ (t : ℕ). Clears old new place (Ended c.args.line (suc place) RolledBack t) × (reply.RolledBack c.t-t.result ≡ reply.RolledBack t)) c.t-t.ensures.t (c.end.ensures, refl))

pub returns-in-None : goal.returns-in-None
returns-in-None c =
    let old = c.args.self.now in
    let at = looked c.args.self.now _ c.args.place c.index-self-place.result (None) c.requires.engine c.requires.place c.self.view_is c.index-self-place.is c.in-None.is in
    does-found old old (reply.Refused E10) c.args.line c.args.place None at Rollback (unchanged_same old, refl)
