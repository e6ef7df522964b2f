use Rattle.std.proofs.Common.{◌-◌, ◌∷◌, ◌∙◌, List, Ok, length, drop, ap, subst, sym, arith}
use Rattle.std.proofs.lemmas.List.{drop_all, drop_more, length-drop, take_all}
use Rattle.std.proofs.lemmas.Result.{err_from_is_err_and}
use Rattle.gp_log.specs.Logs.{log_view}
use Rattle.gp_log.specs.Parameters.{parameters}
use Rattle.gp_syntax.specs.Views.{change_view, changes_view}
use Rattle.gp_syntax.specs.declared.question.LogChange.{LogChange}
use Rattle.gp_whatif.specs.Changed.{all_changed}
use Rattle.gp_whatif.specs.Changing.{Changes}
use Rattle.gp_whatif.proofs.OutcomeLemmas.{first-refused, none-changed, others-changed}
use Rattle.gp_whatif.proofs.changing.all_made.Goals as goal

pub returns-in_ok-spread_log-in-empty : goal.returns-in_ok-spread_log-in-empty
returns-in_ok-spread_log-in-empty c =
    let changes = c.args.changes.now in
    none-changed (log_view c.args.log.now.entries) (log_view c.in_ok-spread_log-in-empty.field-0.entries) (changes_view changes)
    (ap changes_view (drop_all 0 changes (omega (arith, c.in-empty.len_below)))) c.in_ok-spread_log-in-empty.ensures

pub returns-in_err-new-in-len1-up : goal.returns-in_err-new-in-len1-up
returns-in_err-new-in-len1-up c =
    let p = err_from_is_err_and c.from_residual-in_err-new-in-len1-up.result c.from_residual-in_err-new-in-len1-up.ensures.1 in
    let changes = c.args.changes.now in
    let first = c.first-item.result in
    let left : List LogChange = drop 1 changes in
    let whole = drop_more changes 0 first (omega (arith, c.in-len1-up.len_at_least)) ∙ ap (λ change. change ∷ left) (sym c.first-item.is) in
    rw (p.1, p.2) (first-refused (log_view c.args.log.now.entries) c.lines_for.result (changes_view changes) (change_view first) (changes_view left) c.lines_for.ensures.count
    (ap changes_view whole) c.in_err-new-in-len1-up.field-0.0 c.in_err-new-in-len1-up.ensures)

pub returns-in_ok-new-in-len1-up : goal.returns-in_ok-new-in-len1-up
returns-in_ok-new-in-len1-up c =
    let changes = c.args.changes.now in
    let first = c.first-item.result in
    let left : List LogChange = drop 1 changes in
    let whole = drop_more changes 0 first (omega (arith, c.in-len1-up.len_at_least)) ∙ ap (λ change. change ∷ left) (sym c.first-item.is) in
    let new = log_view c.in_ok-new-in-len1-up.new.entries in
    let all = take_all (length changes - 1) left (omega (arith, length-drop 1 changes)) in
    others-changed (log_view c.args.log.now.entries) c.lines_for.result (changes_view changes) (change_view first) (changes_view left) c.lines_for.ensures.count (ap changes_view whole)
    new c.all_changed.result c.in_ok-new-in-len1-up.ensures
    (subst (λ (xs : List LogChange). Changes c.all_changed.result (all_changed parameters (Ok new) (changes_view xs))) all c.all_changed.ensures)
