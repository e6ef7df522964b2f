use Rattle.std.proofs.Common.{◌≡◌, ◌∙◌}
use Rattle.std.specs.Fmt.{decimal}
use Rattle.gprom_cli.specs.Generated as spec
use Rattle.gprom_cli.proofs.GeneratedLemmas.{lines-pieces}
use Rattle.gprom_cli.proofs.generated.append_round.Goals as goal

pub returns : goal.returns
returns c =
    let round = c.args.round in
    let source : c.as_bytes-source.result.now ≡ decimal (spec.source round) = c.as_bytes-source.ensures.value ∙ c.format.ensures.text in
    let destination : c.as_bytes-destination.result.now ≡ decimal (spec.destination round) = c.as_bytes-destination.ensures.value ∙ c.format-2.ensures.text in
    let amount : c.as_bytes-amount.result.now ≡ decimal (spec.amount round) = c.as_bytes-amount.ensures.value ∙ c.format-3.ensures.text in
    rw (lines-pieces (spec.round_lines round), ← source, ← destination, ← amount) c.append_all.ensures.ok
