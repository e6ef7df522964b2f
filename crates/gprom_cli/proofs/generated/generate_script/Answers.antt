use Rattle.std.proofs.Common.{ℕ, List, ◌+◌, ◌++◌, ◌∙◌, ap, arith, sym}
use Rattle.gprom_cli.specs.Generated.{pieces_lines, round_lines}
use Rattle.gprom_cli.proofs.GeneratedLemmas.{round-next}
use Rattle.gprom_cli.proofs.generated.generate_script.Goals as goal

pub loop-round-preserved : goal.loop-round-preserved
loop-round-preserved c =
    let round = c.loop-round.round in (
      c.in_ok-append_round.ensures ∙ ap (λ (text : List ℕ). text ++ pieces_lines (round_lines (round + 1))) c.loop-round.invariant.0 ∙ sym (round-next round),
      omega (arith, c.loop-round-test.true),
    )
