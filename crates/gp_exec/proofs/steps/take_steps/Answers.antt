use Rattle.std.proofs.Common.{◌≡◌, ◌+◌, ◌-◌, ℕ, List, [], ◌∷◌, ◌++◌, ◌==◌, length, take, drop, sym, ap, subst, ◌∙◌, arith}
use Rattle.std.specs.List.{list_all}
use Rattle.std.proofs.lemmas.List.{at_drop_more, length-drop, take_all}
use Rattle.std.proofs.lemmas.Result.{err_from_is_err_and}
use Rattle.gp_algebra.specs.Plain.{no_steps, with_step}
use Rattle.gp_algebra.specs.declared.program.Step.{Step}
use Rattle.gp_exec.specs.declared.done.Done.{Done}
use Rattle.gp_exec.specs.Liveness.{KeepsLive, live_ones, steps_after}
use Rattle.gp_exec.specs.Stepping.{Outcome, ReportsStop}
use Rattle.gp_exec.proofs.DoneLemmas.{held_live}
use Rattle.gp_exec.proofs.SteppingLemmas.{rest_after, seen_with, stops_here}
use Rattle.gp_exec.proofs.steps.take_steps.Goals as goal
use Rattle.std.proofs.lemmas.Bool.{and_parts}

pub loop-i-init : goal.loop-i-init
loop-i-init g c =
    let s = g.S.Stepper in
    let outcome = s.outcome c.args.stepper.now c.args.steps.now c.args.last.now in
    record {
      same =
          ap (λ (done : List (Done g.row.R.Denot)). outcome (λ j. s.seen (steps_after done no_steps j))) c.new-done.ensures.items
          ∙ ap (λ (rows : List s.Seen). outcome (λ j. rows)) g.met.S.Stepper.nothing;
      ready = c.requires;
    }

pub returns-in_err-rows : goal.returns-in_err-rows
returns-in_err-rows g c =
    let s = g.S.Stepper in
    let m = g.met.S.Stepper in
    let stepper = c.args.stepper.now in
    let all = c.args.steps.now in
    let last = c.args.last.now in
    let i = c.loop-i.i in
    let step = c.index-steps-i.result in
    let others = drop (i + 1) all in
    let before = λ (j : ℕ). s.seen (steps_after c.loop-i.done.items no_steps j) in
    let here : drop i all ≡ step ∷ others =
    at_drop_more (λ (steps : List (Step g.row.Q.Denot)). steps) all i step c.loop-i-test.true ∙ ap (λ (s : Step g.row.Q.Denot). s ∷ others) (sym c.index-steps-i.is) in
    let p = err_from_is_err_and c.from_residual.result c.from_residual.ensures.1 in
    let reports = stops_here g.Q.Reads.reads_step (s.means stepper) (s.stop_at stepper) (s.outcome stepper) (m.agrees stepper) (m.ends stepper) (m.goes_on stepper) c.in_err-rows.field-0.0 step others last before c.in_err-rows.ensures.rows in
    let same : s.outcome stepper (step ∷ others) last before ≡ s.outcome stepper all last no_steps =
    ap (λ (steps : List (Step g.row.Q.Denot)). s.outcome stepper steps last before) (sym here) ∙ c.loop-i.invariant.same in
    let whole = subst (λ (outcome : Outcome s.Seen). ReportsStop c.in_err-rows.field-0.0 outcome.stop) same reports in
    rw (p.1, p.2) whole

pub loop-i-preserved : goal.loop-i-preserved
loop-i-preserved g c =
    let s = g.S.Stepper in
    let m = g.met.S.Stepper in
    let reads = g.Q.Reads.reads_step in
    let stepper = c.args.stepper.now in
    let all = c.args.steps.now in
    let last = c.args.last.now in
    let step = c.index-steps-i.result in
    let n = c.loop-i.i + 1 in
    let others = drop n all in
    let here : drop c.loop-i.i all ≡ step ∷ others =
    at_drop_more (λ (steps : List (Step g.row.Q.Denot)). steps) all c.loop-i.i step c.loop-i-test.true ∙ ap (λ (s : Step g.row.Q.Denot). s ∷ others) (sym c.index-steps-i.is) in
    let held_before = steps_after c.loop-i.done.items no_steps in
    let before = λ (j : ℕ). s.seen (held_before j) in
    let meant = s.means stepper before step.query in
    let taken = c.in_ok-rows.ensures.rows in
    let done : Done g.row.R.Denot = record { j = step.j; rows = c.from_vec.result } in
    let held = c.take_step.new.done.items in
    let cut : take (length all - n) others ≡ others = take_all (length all - n) others (omega (arith, length-drop n all)) in
    let kept : KeepsLive reads others last held_before (steps_after held no_steps) =
    subst (λ (rest : List (Step g.row.Q.Denot)). KeepsLive reads rest last held_before (steps_after held no_steps)) cut c.in_ok-rows.ensures.live in
    let ones = live_ones reads others last (held ++ done ∷ []) in
    let live : KeepsLive reads others last (with_step step.j meant before) (λ j. s.seen (steps_after ones no_steps j)) =
    λ j live. ap s.seen (held_live reads others last held_before held done kept j live)
    ∙ seen_with s.seen (j == step.j) c.from_vec.result (held_before j) meant (ap s.seen c.from_vec.ensures ∙ taken.1) in
    let left : c.drop_dead.new.done.items ≡ ones =
    c.drop_dead.ensures ∙ (ap (λ (rest : List (Step g.row.Q.Denot)). live_ones reads rest last c.push.new.self.items) cut ∙ ap (live_ones reads others last) c.in_ok-push.ensures.items) in
    let rest = rest_after reads (s.means stepper) (s.stop_at stepper) (s.outcome stepper) (m.agrees stepper) (m.ends stepper) (m.goes_on stepper) step others last before (λ j. s.seen (steps_after ones no_steps j)) taken.0 live in
    let ready = and_parts (s.can_take step.query) (list_all (λ (s' : Step g.row.Q.Denot). s.can_take s'.query) others)
    (sym (ap (list_all (λ (s' : Step g.row.Q.Denot). s.can_take s'.query)) here) ∙ c.loop-i.invariant.ready) in
    record {
      same =
          ap (λ (done : List (Done g.row.R.Denot)). s.outcome stepper others last (λ j. s.seen (steps_after done no_steps j))) left
          ∙ (rest ∙ (ap (λ (steps : List (Step g.row.Q.Denot)). s.outcome stepper steps last before) (sym here) ∙ c.loop-i.invariant.same));
      ready = ready.1;
    }
