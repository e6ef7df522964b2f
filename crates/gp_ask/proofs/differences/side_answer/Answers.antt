use Rattle.std.proofs.Common.{◌≡◌, List, subst, sym}
use Rattle.std.specs.Prelude.{IfOk}
use Rattle.gp_dump.specs.Views.{dump_view}
use Rattle.gp_syntax.specs.declared.question.LogChange.{LogChange}
use Rattle.gp_syntax.specs.declared.question.Side.{Side}
use Rattle.gp_syntax.specs.Views.{changes_view, query_view, side_view, subject_view}
use Rattle.gp_ask.specs.declared.answered.Answered.{Answered}
use Rattle.gp_ask.specs.Computed.{what_if_answer}
use Rattle.gp_ask.specs.DifferenceForms.{history_of}
use Rattle.gp_ask.specs.Differences.{side_answer}
use Rattle.gp_ask.proofs.differences.side_answer.Goals as goal

pub returns-in-Changed-clause-answered : goal.returns-in-Changed-clause-answered
returns-in-Changed-clause-answered c =
    let dump = dump_view c.args.dump.now in
    subst
    (λ (side : Side). IfOk c.what_if_kept.result
    (λ (answered : Answered). answered ≡ side_answer (history_of c.args.mixed dump) (what_if_answer dump.entries) (side_view side) (query_view c.args.query.read.now)))
    (sym c.in-Changed.is)
    (subst
    (λ (own : List LogChange). IfOk c.what_if_kept.result
    (λ (answered : Answered). answered ≡ what_if_answer dump.entries (changes_view own) (subject_view c.in-Changed.subject) (query_view c.args.query.read.now)))
    c.as_slice.ensures c.what_if_kept.ensures.answered)
