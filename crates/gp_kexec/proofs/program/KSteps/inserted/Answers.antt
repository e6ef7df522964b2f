use Rattle.std.proofs.Common.{◌≡◌, ◌++◌, List, map, subst}
use Rattle.gp_algebra.specs.AnnotatedMeaning.{Derived, meaning}
use Rattle.gp_algebra.specs.QueryViews.{annotated_view}
use Rattle.gp_kexec.specs.declared.appended.Appended.{Appended}
use Rattle.gp_exec.specs.declared.done.Done.{Done}
use Rattle.gp_kexec.specs.declared.held.Held.{Held}
use Rattle.gp_kexec.specs.Evaluating.{Holds, held_after}
use Rattle.gp_kexec.specs.Rows.{environment_view, held_view}
use Rattle.gp_kexec.specs.Valuing.{values_in}
use Rattle.gp_kexec.proofs.MadeLemmas.{IfOk-then}
use Rattle.gp_kexec.proofs.program.KSteps.inserted.Goals as goal

pub returns-clause-rows : goal.returns-clause-rows
returns-clause-rows g c =
    let k = g.K.Semiring in
    let kind = values_in k c.args.self.now.valuation.now in
    let env = environment_view c.args.self.now.env.now in
    let meant = meaning kind (held_after c.args.done.now.items) env in
    let before = meant (annotated_view c.args.left.now) in
    let after = meant (annotated_view c.args.right.now) in
    let made = c.in_ok-made.made in
    let holds : Holds made after = subst (λ (steps : List (Done (Held g.row.K.Denot))). Holds made (meaning kind (held_after steps) env (annotated_view c.args.right.now))) c.as_slice.ensures.value c.in_ok-made.ensures in
    IfOk-then c.onto.result
    (λ (all : Appended g.row.K.Denot). (before after : List (Derived g.row.K.Denot)) → map held_view c.in_ok-rows.rows.items ≡ before → Holds made after → Holds all (before ++ after))
    (λ (all : Appended g.row.K.Denot). Holds all (before ++ after)) (λ all onto. onto before after c.in_ok-rows.ensures.rows holds) c.onto.ensures
