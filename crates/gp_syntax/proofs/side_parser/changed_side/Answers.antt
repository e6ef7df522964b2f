use Rattle.std.proofs.Common.{List, Err}
use Rattle.std.proofs.lemmas.Result.{err_from_is_err_and}
use Rattle.gp_grammar.specs.QuestionParsing.{changed_side}
use Rattle.gp_grammar.specs.Parsing.{Outcome}
use Rattle.gp_grammar.specs.Syntax as y
use Rattle.gp_syntax.specs.Parses.{Parses}
use Rattle.gp_syntax.specs.Views.{changes_view, side_view, subject_view}
use Rattle.gp_syntax.specs.declared.error.ParseStop.{ParseStop}
use Rattle.gp_syntax.specs.declared.error.ParseStop.TheVariants.{At, NoMemory}
use Rattle.gp_syntax.specs.declared.question.LogChange.{LogChange}
use Rattle.gp_syntax.specs.declared.question.Subject.{Subject}
use Rattle.gp_syntax.proofs.side_parser.changed_side.Goals as goal

-- a fault behind the changes is a fault of the side
same-fault : (changes : List y.LogChange) (stop : ParseStop) (parsed : Outcome (y.Side × y.Lexemes))
    → Parses {X = List LogChange × Subject} (λ r. y.changed changes (subject_view r.1)) (Err stop) parsed → Parses side_view (Err stop) parsed
same-fault changes (At rest) parsed is = is
same-fault changes NoMemory parsed is = tt

pub returns-in_err-changes-2 : goal.returns-in_err-changes-2
unfolding changed_side
returns-in_err-changes-2 c =
    let p = err_from_is_err_and c.from_residual-in_err-changes-2.result c.from_residual-in_err-changes-2.ensures.1 in
    let changes : List y.LogChange = changes_view c.in_ok-changes.changes in
    rw (p.1, p.2, c.in_ok-changes.ensures) (same-fault changes c.in_err-changes-2.field-0.0 _ (c.in_err-changes-2.ensures.subject changes))

pub returns : goal.returns
unfolding changed_side
returns c = rw (c.in_ok-changes.ensures, c.in_ok-changes-2.ensures.value) (c.in_ok-changes-2.ensures.subject (changes_view c.in_ok-changes.changes))
