use Rattle.std.proofs.Common.{◌≡◌, ◌++◌, ◌==◌, ℕ, List, map, take, get_or, if◌then◌else◌, refl, sym, ap, ◌∙◌, arith}
use Rattle.std.proofs.lemmas.List.{append-nil, drop_all, take_all}
use Rattle.std.proofs.lemmas.List.Edits.{map_over_more}
use Rattle.gp_algebra.specs.Plain.{no_steps}
use Rattle.gp_exec.specs.declared.done.Done.{Done}
use Rattle.gp_exec.specs.Liveness.{emptied, steps_after}
use Rattle.gp_exec.proofs.ListLemmas.{at_unmapped}
use Rattle.gp_exec.proofs.DoneLemmas.{emptied_others, steps_after-more}
use Rattle.gp_exec.proofs.done.take_rows.Goals as goal

pub loop-step-preserved : goal.loop-step-preserved
loop-step-preserved g c =
    let done = c.args.done.now in
    let i = c.loop-step.step-index in
    let j = c.args.j in
    let step = c.step-item.result in
    let here : step ≡ get_or done i step =
    c.step-item.is ∙ (ap (λ (all : List (Done g.row.R.Denot)). get_or all i step) c.loop-step.invariant.emptied ∙ at_unmapped (emptied j) done i step c.loop-step-test.true) in
    let was = get_or c.loop-step.done i step in
    let taken : c.take_out.new.rows.items ≡ (if j == was.j then was.rows else c.loop-step.rows.items) = c.take_out.ensures.rows in
    record {
      rows =
          taken
          ∙ (ap (λ (one : Done g.row.R.Denot). if j == one.j then one.rows else c.loop-step.rows.items) (sym c.step-item.is)
          ∙ (ap (λ (found : List g.row.R.Denot). if j == step.j then step.rows else found) c.loop-step.invariant.rows
          ∙ sym (ap (λ (all : ℕ → List g.row.R.Denot). all j) (steps_after-more done i step c.loop-step-test.true here))));
      emptied =
          rw (c.take_out.ensures.step, ← c.step-item.is)
          (map_over_more (emptied j) done c.loop-step.done i step (omega arith) c.loop-step.invariant.emptied c.step-item.is);
    }

pub returns-clause-rows : goal.returns-clause-rows
returns-clause-rows g c =
    c.loop-step.invariant.rows ∙ ap (λ (all : List (Done g.row.R.Denot)). steps_after all no_steps c.args.j) (take_all c.loop-step.step-index c.args.done.now c.loop-step-test.false)

pub returns-clause-others : goal.returns-clause-others
returns-clause-others g c other differs =
    let done = c.args.done.now in
    let i = c.loop-step.step-index in
    let end = c.loop-step-test.false in
    let all : c.loop-step.done ≡ map (emptied c.args.j) done =
    c.loop-step.invariant.emptied
    ∙ (ap (λ (rest : List (Done g.row.R.Denot)). map (emptied c.args.j) (take i done) ++ rest) (drop_all i done end)
    ∙ (append-nil (map (emptied c.args.j) (take i done)) ∙ ap (map (emptied c.args.j)) (take_all i done end))) in
    ap (λ (steps : List (Done g.row.R.Denot)). steps_after steps no_steps other) all ∙ emptied_others c.args.j other done no_steps no_steps differs refl
