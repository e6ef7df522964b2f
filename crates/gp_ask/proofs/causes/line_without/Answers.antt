use Rattle.std.proofs.Common.{List, Option, ap, ℕ, ◌∙◌, ◌≡◌}
use Rattle.std.proofs.lemmas.Result.{IfOk-weaker}
use Rattle.gp_ask.specs.Differences.{cause_of, rows_in}
use Rattle.gp_ask.specs.Writes.{IsLine, listed_line, write_view}
use Rattle.gp_ask.proofs.causes.line_without.Goals as goal

pub returns : goal.returns
returns c =
    let rows = c.args.asked.now.rows.now in
    let own = write_view c.args.write in
    IfOk-weaker c.cause_line.result (λ (line : Option (List ℕ)). listed_line line ≡ cause_of rows own c.rows_in.result) (IsLine c.args.asked.now c.args.write)
    (λ line is. is ∙ ap (cause_of rows own) (c.rows_in.ensures ∙ ap rows_in c.in_ok-without.ensures)) c.cause_line.ensures
