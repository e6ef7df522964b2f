use Rattle.std.proofs.Common.{◌≡◌, true, List, subst, sym}
use Rattle.std.specs.Prelude.{IfOk}
use Rattle.gp_dump.specs.Views.{dump_view}
use Rattle.gp_grammar.specs.Laws.{have_statements}
use Rattle.gp_log.specs.Parameters.{parameters}
use Rattle.gp_syntax.specs.declared.question.LogChange.{LogChange}
use Rattle.gp_syntax.specs.declared.question.Side.{Side}
use Rattle.gp_syntax.specs.Views.{changes_view, query_view, side_view, subject_view}
use Rattle.gp_whatif.specs.Changed.{changed_log}
use Rattle.gp_ask.specs.Differences.{refusal_on, side_refusal}
use Rattle.gp_ask.proofs.differences.side_refusal.Goals as goal

pub changed_refusal-requires-clause-statements : goal.changed_refusal-requires-clause-statements
changed_refusal-requires-clause-statements c =
    subst (λ (own : List LogChange). have_statements (changes_view own) ≡ true) (sym c.as_slice.ensures) (rw c.in-Changed.is at c.requires.statement)

pub returns-in-AsIs : goal.returns-in-AsIs
returns-in-AsIs c =
    subst (λ (side : Side). IfOk c.asking_refusal.result (λ refusal. refusal ≡ side_refusal (dump_view c.args.dump.now).entries (side_view side) (query_view c.args.query.now)))
    (sym c.in-AsIs.is) c.asking_refusal.ensures

pub returns-in-Changed : goal.returns-in-Changed
returns-in-Changed c =
    subst (λ (side : Side). IfOk c.changed_refusal.result (λ refusal. refusal ≡ side_refusal (dump_view c.args.dump.now).entries (side_view side) (query_view c.args.query.now)))
    (sym c.in-Changed.is)
    (subst
    (λ (own : List LogChange). IfOk c.changed_refusal.result (λ refusal. refusal
    ≡ refusal_on (changed_log parameters (dump_view c.args.dump.now).entries (changes_view own)) (subject_view c.in-Changed.subject) (query_view c.args.query.now)))
    c.as_slice.ensures c.changed_refusal.ensures)
