use Rattle.std.proofs.Common.{map, ◌∙◌, ap, sym}
use Rattle.gp_algebra.specs.Effects.{Written}
use Rattle.gp_base.proofs.SmallLemmas.{map-map}
use Rattle.gp_compose.specs.Seen.{changed_rows}
use Rattle.gp_machine.specs.Event.{target_of}
use Rattle.gp_ask.specs.Changes.{Change}
use Rattle.gp_ask.proofs.StatementLines.{changed-is, shown}
use Rattle.gp_ask.proofs.WrittenLines.{changed-written}
use Rattle.gp_ask.proofs.laws.changed_rows_are_those_written.Goals as goal

pub returns : goal.returns
returns g c = λ domain t k statement db fresh.
    let pair-of : Change → Written = λ change. record { table = target_of statement; identity = change.0 } in
    sym
    (ap (map pair-of) (changed-is domain t k statement db)
    ∙ map-map pair-of (shown statement) (changed_rows domain t k statement db)
    ∙ changed-written domain t k statement db fresh)
