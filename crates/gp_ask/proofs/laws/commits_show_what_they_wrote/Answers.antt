use Rattle.std.proofs.Common.{◌≤◌, arith, subst, suc}
use Rattle.gp_base.specs.Annotated.{monomials}
use Rattle.gp_base.specs.Order.{sorted_by}
use Rattle.gp_base.specs.Tokens.{Monomial}
use Rattle.gp_log.specs.Parameters.{parameters}
use Rattle.gp_machine.proofs.ReachedLemmas.{all_reached}
use Rattle.gp_machine.specs.Committed.{is_written}
use Rattle.gp_machine.specs.Entries.{versions_in}
use Rattle.gp_machine.specs.Event.{after}
use Rattle.gp_machine.specs.HistorySpans.{state_spans}
use Rattle.gp_machine.specs.Reached.{IsReached}
use Rattle.gp_machine.specs.State.{State, start}
use Rattle.gp_versions.specs.Spans.{span_cmp}
use Rattle.gp_ask.specs.ShownWrites.{ShowsWrites}
use Rattle.gp_ask.proofs.CommitLines.{shows}
use Rattle.gp_ask.proofs.CommitTexts.{table-told}
use Rattle.gp_ask.proofs.laws.commits_show_what_they_wrote.Goals as goal

pub returns : goal.returns
returns c = λ lines name version table within.
    let state : State Monomial = after monomials parameters start lines in
    let reached : IsReached monomials parameters state = all_reached monomials parameters lines in
    let spans = c.spans_hold_the_versions.ensures in
    subst
    (ShowsWrites name (λ id. is_written table id (state.written (suc version))) (state.committed version table) (state.committed (suc version) table))
    (table-told name (suc version) (sorted_by span_cmp (state_spans state table)))
    (shows (versions_in state.entries) state.committed state.written table name version within (spans.apart monomials parameters state reached table) (spans.whole state table)
    (spans.ends state table) (spans.rows monomials parameters state reached version table (omega (arith, within))) (spans.rows monomials parameters state reached (suc version) table (omega (arith, within))))
