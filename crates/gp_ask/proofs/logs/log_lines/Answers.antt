use Rattle.std.proofs.Common.{◌∷◌, ◌++◌, [], ℕ, List, sym, ap, ◌∙◌, arith}
use Rattle.std.proofs.lemmas.List.{take_all}
use Rattle.gp_ask.specs.Lines.{transaction_lines}
use Rattle.gp_ask.proofs.LogLemmas.{all-lines, one-more}
use Rattle.gp_ask.proofs.logs.log_lines.Goals as goal

pub loop-place-preserved : goal.loop-place-preserved
loop-place-preserved c =
    c.in_ok-push_line.ensures
    ∙ ap (λ (lines : List (List ℕ)). lines ++ transaction_lines c.args.t (c.entry.result.now ∷ [])) c.loop-place.invariant
    ∙ sym (one-more c.args.t c.args.log.now.entries c.loop-place.place c.entry.result.now c.entry.ensures.entry)

pub returns : goal.returns
returns c =
    let entries = c.args.log.now.entries in
    c.loop-place.invariant
    ∙ ap (transaction_lines c.args.t) (take_all c.loop-place.place entries (omega (arith, c.len-place-end.ensures, c.loop-place-test.false)))
    ∙ all-lines c.args.t entries
