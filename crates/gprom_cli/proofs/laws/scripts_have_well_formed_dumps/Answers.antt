use Rattle.std.proofs.Common.{ap, sym, subst, ◌∙◌}
use Rattle.gp_base.specs.Annotated.{monomials, unannotated}
use Rattle.gp_base.specs.Tokens.{Monomial}
use Rattle.gp_syntax.specs.Lines.{script_lines}
use Rattle.gp_machine.specs.Event.{after}
use Rattle.gp_machine.specs.State.{State, start}
use Rattle.gp_log.specs.Parameters.{parameters}
use Rattle.gp_script.specs.Scripts.{final_state, lines_if_read}
use Rattle.gp_dump.specs.Dumps.{dump_of}
use Rattle.gp_dump.specs.WholeDumps.{IsDump}
use Rattle.gp_dump.proofs.HistoryDumps.{checks_targets}
use Rattle.gp_dump.proofs.LoggedLines.{all_logged}
use Rattle.gp_ask.specs.Printed.{answer_to, held_to}
use Rattle.gp_ask.specs.Computed.{computed_answer}
use Rattle.gprom_cli.specs.Summary.{row_count}
use Rattle.gprom_cli.proofs.RowCountLemmas.{same-rows}
use Rattle.gp_ask.proofs.MadeLemmas.{IsRemade, is-remade}
use Rattle.gprom_cli.proofs.laws.scripts_have_well_formed_dumps.Goals as goal

pub returns-clause-formed : goal.returns-clause-formed
returns-clause-formed c = λ script short.
    subst (λ (state : State (Unit {0})). IsDump (dump_of state)) (sym (c.scripts_lead_to_histories.ensures.reached unannotated script))
    (c.dumps_of_histories_are_well_formed.ensures.rules (lines_if_read (script_lines script)) (c.lines_of_scripts_are_script_lines.ensures.lines script short))

pub returns-clause-rows : goal.returns-clause-rows
returns-clause-rows c = λ script questions short.
    let lines = lines_if_read (script_lines script) in
    let own = dump_of (final_state unannotated script) in
    let rules : IsDump own =
    subst (λ (state : State (Unit {0})). IsDump (dump_of state)) (sym (c.scripts_lead_to_histories.ensures.reached unannotated script))
    (c.dumps_of_histories_are_well_formed.ensures.rules lines (c.lines_of_scripts_are_script_lines.ensures.lines script short)) in
    same-rows (computed_answer own) (held_to (final_state monomials script))
    (λ question.
    ap row_count
    (c.dumps_answer_as_changed_histories.ensures own rules question
    ∙ ap (λ (s : State (Unit {0})). answer_to (dump_of s) question) (c.scripts_lead_to_histories.ensures.reached unannotated script)
    ∙ c.histories_answer_as_their_dumps.ensures lines question
    ∙ ap (λ (s : State Monomial). held_to s question) (sym (c.scripts_lead_to_histories-2.ensures.reached monomials script))))
    questions

pub returns-clause-unchanged : goal.returns-clause-unchanged
returns-clause-unchanged c = λ script short.
    let lines = lines_if_read (script_lines script) in
    let tables = (all_logged unannotated parameters lines (c.lines_of_scripts_are_script_lines.ensures.lines script short)).1.tables in
    subst IsRemade (sym (c.scripts_lead_to_histories.ensures.reached unannotated script))
    (is-remade (after unannotated parameters start lines) tables (c.histories_are_replayed_as_they_were.ensures.unstopped lines checks_targets tables)
    (c.histories_are_replayed_as_they_were.ensures.spans lines checks_targets tables))
