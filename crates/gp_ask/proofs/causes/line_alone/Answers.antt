use Rattle.std.proofs.Common.{List, [], ◌∷◌, Option, ap, refl, ℕ, ◌∙◌, ◌≡◌}
use Rattle.std.proofs.lemmas.Result.{IfOk-weaker}
use Rattle.gp_dump.specs.Views.{dump_view}
use Rattle.gp_grammar.specs.Syntax.{LogChange}
use Rattle.gp_syntax.specs.Views.{query_view, subject_view}
use Rattle.gp_ask.specs.Differences.{cause_of, rows_in}
use Rattle.gp_ask.specs.Computed.{what_if_answer}
use Rattle.gp_ask.specs.Writes.{IsLine, listed_line, write_view}
use Rattle.gp_ask.proofs.causes.line_alone.Goals as goal

pub what_if_answer-requires-clause-statements : goal.what_if_answer-requires-clause-statements
what_if_answer-requires-clause-statements c = rw c.dropping.ensures refl

pub what_if_answer-requires-clause-changes : goal.what_if_answer-requires-clause-changes
what_if_answer-requires-clause-changes c = rw c.dropping.ensures refl

pub returns : goal.returns
returns c =
    let dump = dump_view c.args.asked.now.dump.now in
    let subject = subject_view c.args.asked.now.subject.now in
    let query = query_view c.args.asked.now.query.read.now in
    let rows = c.args.asked.now.rows.now in
    let own = write_view c.args.write in
    IfOk-weaker c.cause_line.result (λ (line : Option (List ℕ)). listed_line line ≡ cause_of rows own c.rows_in.result) (IsLine c.args.asked.now c.args.write)
    (λ line is.
    is
    ∙ ap (cause_of rows own)
    (c.rows_in.ensures ∙ ap rows_in (c.in_ok-without.ensures.answered ∙ ap (λ (change : LogChange). what_if_answer dump.entries (change ∷ []) subject query) c.dropping.ensures)))
    c.cause_line.ensures
