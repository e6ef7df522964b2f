use Rattle.std.proofs.Common.{◌+◌, ◌∷◌, ◌∙◌, true, List, Ok, drop, ap, sym}
use Rattle.std.proofs.lemmas.Bool.{and_parts}
use Rattle.std.proofs.lemmas.List.{drop_all, drop_more}
use Rattle.std.proofs.lemmas.Result.{err_from_is_err_and}
use Rattle.gp_grammar.specs.Laws.{has_statement, have_statements}
use Rattle.gp_log.specs.Logs.{log_view}
use Rattle.gp_log.specs.Parameters.{parameters}
use Rattle.gp_syntax.specs.Views.{change_view, changes_view}
use Rattle.gp_syntax.specs.declared.question.LogChange.{LogChange}
use Rattle.gp_whatif.specs.Changed.{all_changed}
use Rattle.gp_whatif.proofs.OutcomeLemmas.{step-changed, step-refused}
use Rattle.gp_whatif.proofs.changing.all_changed.Goals as goal

pub changed-requires : goal.changed-requires
changed-requires c =
    let changes = c.args.changes.now in
    let at = c.loop-change.change-index in
    let change = c.change-item.result in
    let left : List LogChange = drop (at + 1) changes in
    (and_parts (has_statement (change_view change)) (have_statements (changes_view left))
    (ap (λ xs. have_statements (changes_view xs)) (ap (λ x. x ∷ left) c.change-item.is ∙ sym (drop_more changes at change c.loop-change-test.true)) ∙ c.loop-change.invariant.statements)).0

pub loop-change-preserved : goal.loop-change-preserved
loop-change-preserved c =
    let changes = c.args.changes.now in
    let at = c.loop-change.change-index in
    let change = c.change-item.result in
    let left : List LogChange = drop (at + 1) changes in
    let more = drop_more changes at change c.loop-change-test.true ∙ ap (λ x. x ∷ left) (sym c.change-item.is) in
    let log = log_view c.loop-change.new.entries in
    record {
      rest = step-changed _ log (log_view c.in_ok-new.new.entries) (change_view change) (changes_view left)
          (c.loop-change.invariant.rest ∙ ap (λ xs. all_changed parameters (Ok log) (changes_view xs)) more) c.in_ok-new.ensures;
      statements = (and_parts (has_statement (change_view change)) (have_statements (changes_view left))
          (ap (λ xs. have_statements (changes_view xs)) (sym more) ∙ c.loop-change.invariant.statements)).1;
    }

pub returns-in_err-new : goal.returns-in_err-new
returns-in_err-new c =
    let p = err_from_is_err_and c.from_residual.result c.from_residual.ensures.1 in
    let changes = c.args.changes.now in
    let at = c.loop-change.change-index in
    let change = c.change-item.result in
    let left : List LogChange = drop (at + 1) changes in
    let log = log_view c.loop-change.new.entries in
    rw (p.1, p.2) (step-refused _ c.in_err-new.field-0.0 log (change_view change) (changes_view left)
    (c.loop-change.invariant.rest ∙ ap (λ xs. all_changed parameters (Ok log) (changes_view xs)) (drop_more changes at change c.loop-change-test.true ∙ ap (λ x. x ∷ left) (sym c.change-item.is))) c.in_err-new.ensures)

pub returns : goal.returns
returns c =
    c.loop-change.invariant.rest
    ∙ ap (λ xs. all_changed parameters (Ok (log_view c.loop-change.new.entries)) (changes_view xs)) (drop_all c.loop-change.change-index c.args.changes.now c.loop-change-test.false)
