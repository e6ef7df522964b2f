use Rattle.std.proofs.Common.{◌≡◌, ℕ, suc, ◌<◌, ◌≤◌, refl, sym, ap, ◌∙◌, subst, arith}
use Rattle.std.specs.Option.{option_map}
use Rattle.gp_base.proofs.Bags.{same_from}
use Rattle.gp_base.specs.Annotated.{monomials, unannotated}
use Rattle.gp_base.specs.Tokens.{Monomial}
use Rattle.gp_algebra.specs.Reannotation.{forgotten}
use Rattle.gp_log.proofs.KeptSessions.{rising}
use Rattle.gp_log.specs.Parameters.{parameters}
use Rattle.gp_log.specs.Sessions.{KeepsSessions}
use Rattle.gp_machine.proofs.PointReannotation.{forgotten_keeps, run_stop_reannotated}
use Rattle.gp_machine.proofs.ReachedLemmas.{all_reached}
use Rattle.gp_machine.specs.Entries.{log_of}
use Rattle.gp_machine.specs.Event.{after}
use Rattle.gp_machine.specs.HistorySpans.{state_spans}
use Rattle.gp_machine.specs.Questions.{stop_refusal}
use Rattle.gp_machine.specs.Reached.{IsReached}
use Rattle.gp_machine.specs.State.{State, start}
use Rattle.gp_whatif.specs.Replays.{IsCoherent}
use Rattle.gp_ask.proofs.HeldLemmas.{forgetting}
use Rattle.gp_ask.proofs.TargetLemmas.{targets-checked}
use Rattle.gp_ask.proofs.TransactionRuns.{IsRising, runs-none}
use Rattle.gp_ask.proofs.laws.statements_of_histories_do_not_stop.Goals as goal

pub returns : goal.returns
returns c = λ lines t k some known within.
    let state : State Monomial = after monomials parameters start lines in
    let same : after unannotated parameters start lines ≡ forgetting state = c.annotations_change_no_reply.ensures.forgetting monomials parameters lines in
    let coherent : IsCoherent state.entries =
    subst (λ (s : State (Unit {0})). IsCoherent s.entries) same (c.changed_logs_are_coherent.ensures.histories parameters lines targets-checked) in
    let sessions : KeepsSessions state.entries = coherent.sessions in
    let plainly : IsReached unannotated parameters (forgetting state) = subst (IsReached unannotated parameters) same (all_reached unannotated parameters lines) in
    let rises : IsRising state.entries t = λ j below. rising state.entries sessions t j (suc j) (omega arith) (omega (arith, below)) in
    ap (option_map stop_refusal)
    (sym (run_stop_reannotated monomials unannotated forgotten (forgotten_keeps monomials) state.committed (forgetting state).committed (λ version table. refl) parameters (log_of state.entries) t k)
    ∙ runs-none parameters (forgetting state) plainly (state_spans (forgetting state)) (λ table. same_from _ _ refl) t some known rises k within)
