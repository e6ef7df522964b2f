use Rattle.std.proofs.Common.{◌≡◌, refl, ap, subst, sym}
use Rattle.gp_base.specs.Annotated.{monomials, unannotated}
use Rattle.gp_log.specs.Parameters.{parameters}
use Rattle.gp_machine.specs.Event.{after}
use Rattle.gp_machine.specs.State.{State, start}
use Rattle.gp_dump.specs.Dumps.{dump_of}
use Rattle.gp_ask.proofs.AnyPrograms.{any-held}
use Rattle.gp_ask.proofs.MadeLemmas.{IsRemade, is-remade, none-unmade}
use Rattle.gp_ask.proofs.TableLemmas.{tables-kept}
use Rattle.gp_ask.proofs.TargetLemmas.{targets-checked}
use Rattle.gp_log.specs.LogFacts.{tables_in}
use Rattle.gp_ask.proofs.laws.histories_answer_with_any_programs.Goals as goal

pub returns : goal.returns
returns c = λ programs lines question.
    let tables : tables_in (after unannotated parameters start lines).entries ≡ (after unannotated parameters start lines).catalogue = tables-kept unannotated parameters start lines refl in
    let remade : IsRemade (after unannotated parameters start lines) =
    is-remade (after unannotated parameters start lines) tables (c.histories_are_replayed_as_they_were.ensures.unstopped lines targets-checked tables)
    (c.histories_are_replayed_as_they_were.ensures.spans lines targets-checked tables) in
    any-held programs (dump_of (after unannotated parameters start lines)) (after monomials parameters start lines)
    (ap (λ (state : State (Unit {0})). state.entries) (c.annotations_change_no_reply.ensures.forgetting monomials parameters lines))
    (tables-kept monomials parameters start lines refl)
    (none-unmade c.agreement_is_having_the_same_rows.ensures.agrees (after unannotated parameters start lines) remade) remade.1
    (c.histories_answer_as_their_dumps.ensures lines) question
