use Rattle.std.proofs.Common.{◌++◌, ℕ, List, sym, ap, ◌∙◌, arith}
use Rattle.std.proofs.lemmas.List.{take_all}
use Rattle.gp_log.specs.Logs.{entry_view, log_view}
use Rattle.gp_ask.specs.Transactions.{begun_lines}
use Rattle.gp_ask.specs.declared.answered.Answered.TheVariants.{Lines}
use Rattle.gp_ask.specs.declared.answered.Heading.TheVariants.{Transactions}
use Rattle.gp_ask.proofs.EntryLines.{every-line, known-begin, lines_by, one-line}
use Rattle.gp_ask.proofs.transactions.transactions_answer.Goals as goal

pub push_begun-requires : goal.push_begun-requires
push_begun-requires c = known-begin c.args.dump.now.log.entries c.args.dump.now.answerable.sessions c.loop-place.place c.entry.result.now c.entry.ensures.entry

pub loop-place-preserved : goal.loop-place-preserved
loop-place-preserved c =
    let entries = c.args.dump.now.log.entries in
    c.in_ok-push_begun.ensures
    ∙ ap (λ (lines : List (List ℕ)). lines ++ begun_lines (log_view entries) (entry_view c.entry.result.now)) c.loop-place.invariant
    ∙ sym (one-line (begun_lines (log_view entries)) entries c.loop-place.place c.entry.result.now c.entry.ensures.entry)

pub returns : goal.returns
returns c =
    let entries = c.args.dump.now.log.entries in
    ap (Lines Transactions)
    (c.loop-place.invariant
    ∙ ap (lines_by (begun_lines (log_view entries))) (take_all c.loop-place.place entries (omega (arith, c.len-place-end.ensures, c.loop-place-test.false)))
    ∙ every-line (begun_lines (log_view entries)) entries)
