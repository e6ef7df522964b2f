use Rattle.std.proofs.Common.{◌+◌, ◌∙◌, ◌++◌, ℕ, List, [], ◌∷◌, length, ap, subst, sym, arith, length-append}
use Rattle.gp_algebra.specs.Views.{statement_view}
use Rattle.gp_syntax.specs.Views.{command_view}
use Rattle.gp_log.specs.Kinds.{IsAddable}
use Rattle.gp_log.specs.Logs.{Logged, log_view}
use Rattle.gp_log.specs.declared.entry.Entry.{Entry}
use Rattle.gp_whatif.proofs.AddingLemmas.{Extended, added_addable, extended_addable, extended_all, extended_here, extended_next, few_here}
use Rattle.gp_whatif.proofs.changing.with_extra.Goals as goal
use Rattle.gp_whatif.proofs.changing.with_extra.Goals.{then-is_last+in_ok-extra+in_ok-append-2, else-is_last}

pub append-requires-clause-new : goal.append-requires-clause-new
append-requires-clause-new c =
    extended_addable c.args.t (command_view c.args.command.now.value) (statement_view c.args.stmt.now.value) c.args.log.now.entries c.args.last c.requires.last c.loop-place.place c.loop-place.new.entries
    c.entry-old.result.now c.in_ok-entry.entry c.bounds.ensures.names
    c.bounds.ensures.tables c.entry-old.ensures.entry c.entry-old.ensures.number c.in_ok-entry.ensures.same c.loop-place.invariant

pub append-requires-then-is_last-clause-few : goal.append-requires-then-is_last-clause-few
append-requires-then-is_last-clause-few c =
    let few = few_here c.args.t (command_view c.args.command.now.value) (statement_view c.args.stmt.now.value) c.args.log.now.entries c.args.last c.requires.last c.loop-place.place c.loop-place.new.entries
    (sym c.is_last.ensures ∙ c.if-is_last.true) c.loop-place.invariant in
    let one = length-append c.loop-place.new.entries (c.in_ok-entry.entry ∷ []) in
    let whole = ap length c.in_ok-append.ensures.ok in
    omega (arith, few, one, whole, c.len.ensures, c.len-place-end.ensures, c.loop-place-test.true, c.if-len-eq4294967295.false)

pub append-requires-then-is_last-clause-new : goal.append-requires-then-is_last-clause-new
append-requires-then-is_last-clause-new c =
    subst (λ (new : List Entry). IsAddable (log_view new) c.in_ok-extra.extra) (sym c.in_ok-append.ensures.ok)
    (added_addable c.args.t (command_view c.args.command.now.value) (statement_view c.args.stmt.now.value) c.args.log.now.entries c.args.last c.requires.last c.loop-place.place c.loop-place.new.entries
    c.entry-old.result.now c.in_ok-entry.entry c.in_ok-extra.extra (c.statement_count-k.result + 1) c.entry-old.ensures.entry (sym c.is_last.ensures ∙ c.if-is_last.true) c.in_ok-entry.ensures.view
    c.in_ok-extra.ensures.step c.in_ok-extra.ensures.t (ap (λ (n : ℕ). n + 1) c.statement_count-k.ensures) c.loop-place.invariant)

pub loop-place-preserved : goal.loop-place-preserved
loop-place-preserved c =
    let Now : List Entry → Type 0 =
    λ new. Extended c.args.t (command_view c.args.command.now.value) (statement_view c.args.stmt.now.value) c.args.log.now.entries c.args.last (c.loop-place.place + 1) new in
    elim c.if-is_last.branch [
      | then-is_last+in_ok-extra+in_ok-append-2 w ↦
          subst (λ (new : Logged). Now new.entries) (sym w.new-is)
          (subst Now (sym w.in_ok-append-2.ensures.ok)
          (subst (λ (new : List Entry). Now (new ++ w.in_ok-extra.extra ∷ [])) (sym c.in_ok-append.ensures.ok)
          (extended_here c.args.t (command_view c.args.command.now.value) (statement_view c.args.stmt.now.value) c.args.log.now.entries c.args.last c.requires.last c.loop-place.place c.loop-place.new.entries
          c.entry-old.result.now c.in_ok-entry.entry w.in_ok-extra.extra c.entry-old.ensures.entry (sym c.is_last.ensures ∙ w.if-is_last.true) c.in_ok-entry.ensures.view
          w.in_ok-extra.ensures.view c.loop-place.invariant)))
      | else-is_last w ↦
          subst (λ (new : Logged). Now new.entries) (sym w.new-is)
          (subst Now (sym c.in_ok-append.ensures.ok)
          (extended_next c.args.t (command_view c.args.command.now.value) (statement_view c.args.stmt.now.value) c.args.log.now.entries c.args.last c.requires.last c.loop-place.place c.loop-place.new.entries
          c.entry-old.result.now c.in_ok-entry.entry c.entry-old.ensures.entry (sym c.is_last.ensures ∙ w.if-is_last.false) c.in_ok-entry.ensures.view c.loop-place.invariant))
    ]

pub returns : goal.returns
returns c =
    extended_all c.args.t (command_view c.args.command.now.value) (statement_view c.args.stmt.now.value) c.args.log.now.entries c.args.last c.requires.last c.loop-place.place c.loop-place.new.entries
    (omega (arith, c.loop-place-test.false, c.len-place-end.ensures)) c.loop-place.invariant
