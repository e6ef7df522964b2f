use Rattle.std.proofs.Common.{◌≡◌, ◌∙◌}
use Rattle.std.specs.Fmt.{decimal}
use Rattle.gprom_cli.specs.Generated as spec
use Rattle.gprom_cli.proofs.GeneratedLemmas.{lines-pieces}
use Rattle.gprom_cli.proofs.generated.append_closing.Goals as goal

pub returns : goal.returns
returns c =
    let last : c.as_bytes-last.result.now ≡ decimal c.args.last = c.as_bytes-last.ensures.value ∙ c.format.ensures.text in
    rw (lines-pieces (spec.closing_lines c.args.last), ← last) c.append_all.ensures.ok
