use Rattle.std.proofs.Common.{◌≡◌, ◌∙◌, Err, List, Ok, ap, subst}
use Rattle.std.specs.Prelude.{IfOk}
use Rattle.gp_base.specs.declared.table.Table.{Table}
use Rattle.gp_algebra.specs.Views.{select_view}
use Rattle.gp_check.specs.Checking.{checked_query}
use Rattle.gp_dump.specs.Dumps.{Dump}
use Rattle.gp_dump.specs.Views.{dump_view}
use Rattle.gp_syntax.specs.Views.{query_view}
use Rattle.gp_ask.specs.declared.answered.Answered.{Answered}
use Rattle.gp_ask.specs.declared.answered.Answered.TheVariants.{Refused}
use Rattle.gp_ask.proofs.WhenLemmas.{when-checked, when-refused}
use Rattle.gp_ask.proofs.intervals.when_answer.Goals as goal

pub returns-in-Ok : goal.returns-in-Ok
returns-in-Ok c =
    let dump : Dump = dump_view c.args.dump.now in
    let query = query_view c.args.query.read.now in
    let select = select_view c.in-Ok.select in
    let checked = subst (λ (tables : List Table). checked_query tables query ≡ Ok select) c.catalog.ensures c.in-Ok.ensures.checked in
    subst (λ (own : Answered). IfOk c.selected_intervals.result (λ answered. answered ≡ own)) (when-checked dump query select checked) c.selected_intervals.ensures

pub returns-in-Err-Refused : goal.returns-in-Err-Refused
returns-in-Err-Refused c =
    let dump : Dump = dump_view c.args.dump.now in
    let query = query_view c.args.query.read.now in
    let refusal = c.in-Err-Refused.refusal in
    let found = rw c.in-Err-Refused.field-0-is at c.in-Err-Refused.ensures in
    let checked = subst (λ (tables : List Table). checked_query tables query ≡ Err refusal) c.catalog.ensures found.checked in
    ap Refused c.in-Err-Refused.refusal-is ∙ when-refused dump query refusal checked
