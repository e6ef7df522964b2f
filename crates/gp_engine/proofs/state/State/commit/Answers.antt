use Rattle.std.proofs.Common.{◌≡◌, ℕ, suc, ◌+◌, List, length, Some, None, refl, ap, sym, ◌∙◌, subst, arith}
use Rattle.std.proofs.lemmas.List.{with_items_is}
use Rattle.std.proofs.lemmas.Result.{on_err_weaker}
use Rattle.gp_base.specs.declared.refusal.Refusal.TheVariants.{E10}
use Rattle.gp_versions.specs.Commits.{AreBelow}
use Rattle.gp_versions.specs.Spans.{Versions}
use Rattle.gp_txn.specs.Committing as txn
use Rattle.gp_txn.specs.Committing.{AreRefused, HaveSameSpans}
use Rattle.gp_txn.specs.Transactions.{HoldsOthers, table_at}
use Rattle.gp_machine.specs.ActionForms.{Commit}
use Rattle.gp_machine.specs.declared.reply.Reply.TheVariants as reply
use Rattle.gp_engine.specs.Engine.{Engine, IsUnchanged, newest_of, tables_of}
use Rattle.gp_engine.specs.Methods.{HasPlace, IsConflictIn}
use Rattle.gp_engine.proofs.FitLemmas.{ok-map}
use Rattle.gp_engine.proofs.InvariantLemmas.{few-versions, has-place, looked}
use Rattle.gp_engine.proofs.LineLemmas.{does-found, lent-same}
use Rattle.gp_engine.proofs.StopLemmas.{cause-in, published, stopped-at, tried-unchanged, tries-in}
use Rattle.gp_engine.proofs.state.State.commit.Goals as goal

pub overflow_add-version : goal.overflow_add-version
overflow_add-version c =
    let newest = ap newest_of c.self.view_is in
    let few = few-versions c.args.self.now c.requires.engine in
    omega (arith, newest, few, c.commits-version.ensures)

pub commit-requires-clause-few : goal.commit-requires-clause-few
commit-requires-clause-few c =
    let slice = ap length (c.deref_mut.ensures.value ∙ ap (λ (e : Engine). e.versions) c.self.view_is) in
    omega (arith, slice, c.requires.engine.tables, c.requires.engine.few)

pub commit-requires-clause-above : goal.commit-requires-clause-above
commit-requires-clause-above c table =
    let newest = ap newest_of c.self.view_is in
    let slice = c.deref_mut.ensures.value ∙ ap (λ (e : Engine). e.versions) c.self.view_is in
    let next : suc (newest_of c.args.self.now) ≡ c.commits-version.result + 1 = omega (arith, newest, c.commits-version.ensures) in
    subst (λ (x : ℕ × List Versions). AreBelow x.0 (table_at table x.1).spans) (λ i. (next i, sym slice i)) (c.requires.engine.below table)

pub commit-requires-clause-others : goal.commit-requires-clause-others
commit-requires-clause-others c =
    let at = looked c.args.self.now _ c.args.place c.index-self-place.result (Some c.in-Some.running) c.requires.engine c.requires.place c.self.view_is c.index-self-place.is c.in-Some.is in
    let slice = c.deref_mut.ensures.value ∙ ap (λ (e : Engine). e.versions) c.self.view_is in
    subst (HoldsOthers c.in-Some.running.active.t) (sym slice) (c.requires.engine.each (suc c.args.place) c.in-Some.running at).others

pub end-requires-clause-room : goal.end-requires-clause-room
end-requires-clause-room c =
    let at = looked c.args.self.now _ c.args.place c.index-self-place.result (Some c.in-Some.running) c.requires.engine c.requires.place c.self.view_is c.index-self-place.is c.in-Some.is in
    subst (λ (e : Engine). HasPlace e.log) (sym c.self.view_is) (has-place c.args.self.now c.args.place c.in-Some.running c.requires.engine at)

pub stop-requires-clause-room : goal.stop-requires-clause-room
stop-requires-clause-room c =
    let at = looked c.args.self.now _ c.args.place c.index-self-place.result (Some c.in-Some.running) c.requires.engine c.requires.place c.self.view_is c.index-self-place.is c.in-Some.is in
    subst (λ (e : Engine). HasPlace e.log) (sym c.self.view_is) (has-place c.args.self.now c.args.place c.in-Some.running c.requires.engine at)

pub stop-requires-clause-conflict : goal.stop-requires-clause-conflict
stop-requires-clause-conflict c =
    let old = c.args.self.now in
    let stop = c.in-Err.stop in
    let slice = c.deref_mut.ensures.value ∙ ap (λ (e : Engine). e.versions) c.self.view_is in
    subst (λ (n : ℕ). IsConflictIn n stop) (c.requires.engine.tables ∙ ap (λ (e : Engine). length (tables_of e)) (sym c.self.view_is))
    (cause-in c.in-Some.running old.versions stop (subst (λ (versions : List Versions). AreRefused stop c.in-Some.running.active.tables versions) slice c.in-Err.ensures.cause))

pub returns-in-Ok-clause-ok : goal.returns-in-Ok-clause-ok
returns-in-Ok-clause-ok c =
    let old = c.args.self.now in
    let place = c.args.place in
    let running = c.in-Some.running in
    let at = looked c.args.self.now _ c.args.place c.index-self-place.result (Some c.in-Some.running) c.requires.engine c.requires.place c.self.view_is c.index-self-place.is c.in-Some.is in
    let slice = c.deref_mut.ensures.value ∙ ap (λ (e : Engine). e.versions) c.self.view_is in
    let held = c.commit.new.versions in
    let slices = ap length c.deref_mut.ensures.value in
    let tries = tries-in old _ place running _ held c.self.view_is at (with_items_is c.self.inside.versions held (omega (arith, c.commit.auto.versions, c.deref_mut.ensures.len))) (omega (arith, c.commit.auto.versions, slices)) in
    let newest = ap newest_of c.self.view_is in
    let version = c.commits-version.result + 1 in
    let next : version ≡ suc (newest_of old) = omega (arith, newest, c.commits-version.ensures) in
    let answer = reply.Committed c.t-t.result version in
    does-found old c.end.new.self answer c.args.line place (Some running) at Commit
    (published old _ c.end.new.self answer c.args.line place c.t-t.result running held c.t-t.ensures.own tries c.t-t.ensures.t version next
    (subst (λ (versions : List Versions). txn.Commits version running.active versions held) slice c.in-Ok.ensures.ok) c.end.ensures refl)

pub returns-in-Err-clause-ok : goal.returns-in-Err-clause-ok
returns-in-Err-clause-ok c =
    let old = c.args.self.now in
    let place = c.args.place in
    let running = c.in-Some.running in
    let at = looked c.args.self.now _ c.args.place c.index-self-place.result (Some c.in-Some.running) c.requires.engine c.requires.place c.self.view_is c.index-self-place.is c.in-Some.is in
    let slice = c.deref_mut.ensures.value ∙ ap (λ (e : Engine). e.versions) c.self.view_is in
    let held = c.commit.new.versions in
    let slices = ap length c.deref_mut.ensures.value in
    let tries = tries-in old _ place running _ held c.self.view_is at (with_items_is c.self.inside.versions held (omega (arith, c.commit.auto.versions, c.deref_mut.ensures.len))) (omega (arith, c.commit.auto.versions, slices)) in
    let same = subst (λ (versions : List Versions). HaveSameSpans versions held) slice c.in-Err.ensures.unchanged in
    let cause = subst (λ (versions : List Versions). AreRefused c.in-Err.stop running.active.tables versions) slice c.in-Err.ensures.cause in
    ok-map _ _ c.stop.result (λ answer stops. does-found old c.stop.new.self answer c.args.line place (Some running) at Commit
    (stopped-at old _ c.stop.new.self answer c.args.line place c.t-t.result running held c.t-t.ensures.own tries c.t-t.ensures.t c.in-Err.stop same cause stops)) c.stop.ensures.ok

pub returns-in-Err-clause-err : goal.returns-in-Err-clause-err
returns-in-Err-clause-err c =
    let old = c.args.self.now in
    let place = c.args.place in
    let running = c.in-Some.running in
    let at = looked c.args.self.now _ c.args.place c.index-self-place.result (Some c.in-Some.running) c.requires.engine c.requires.place c.self.view_is c.index-self-place.is c.in-Some.is in
    let slice = c.deref_mut.ensures.value ∙ ap (λ (e : Engine). e.versions) c.self.view_is in
    let held = c.commit.new.versions in
    let slices = ap length c.deref_mut.ensures.value in
    let tries = tries-in old _ place running _ held c.self.view_is at (with_items_is c.self.inside.versions held (omega (arith, c.commit.auto.versions, c.deref_mut.ensures.len))) (omega (arith, c.commit.auto.versions, slices)) in
    let same = subst (λ (versions : List Versions). HaveSameSpans versions held) slice c.in-Err.ensures.unchanged in
    on_err_weaker c.stop.result (λ is. subst (IsUnchanged old) (sym is) (tried-unchanged old _ held tries same)) c.stop.ensures.err

pub returns-in-None-clause-ok : goal.returns-in-None-clause-ok
returns-in-None-clause-ok c =
    let old = c.args.self.now in
    let at = looked c.args.self.now _ c.args.place c.index-self-place.result (None) c.requires.engine c.requires.place c.self.view_is c.index-self-place.is c.in-None.is in
    does-found old _ (reply.Refused E10) c.args.line c.args.place None at Commit (lent-same old _ c.args.place c.index-self-place.result c.self.view_is, refl)
