use Rattle.std.proofs.Common.{List, map, ap, subst, sym, ◌∙◌}
use Rattle.gp_log.specs.Logs.{log_view}
use Rattle.gp_log.specs.Parameters.{parameters}
use Rattle.gp_machine.specs.Entries.{Entry}
use Rattle.gp_syntax.specs.Views.{change_view}
use Rattle.gp_whatif.specs.Changed.{changed, spread}
use Rattle.gp_whatif.specs.Changing.{Changes}
use Rattle.gp_whatif.proofs.ChangedLemmas.{spread_once}
use Rattle.gp_whatif.proofs.changing.first_changed.Goals as goal

-- lines once as great are the lines
pub returns-then-times-eq1 : goal.returns-then-times-eq1
returns-then-times-eq1 c =
    let entries : List Entry = log_view c.args.log.now.entries in
    subst (λ own. Changes c.changed.result (changed parameters own (change_view c.args.change.now)))
    (sym (ap (λ times. map (spread times) entries) c.if-times-eq1.true ∙ spread_once entries)) c.changed.ensures
