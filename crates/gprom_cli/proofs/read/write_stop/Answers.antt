use Rattle.std.proofs.Common.{refl, subst}
use Rattle.gp_io.specs.ShelfSteps.{ReadStops}
use Rattle.gp_io.specs.declared.error.ShelfStop.{ShelfStop}
use Rattle.gprom_cli.specs.Steps.{is_absent, is_unreadable, no_memory}
use Rattle.gprom_cli.proofs.read.write_stop.Goals as goal

pub returns-in-Absent : goal.returns-in-Absent
returns-in-Absent g c = λ most before after stops. is_absent (subst (λ (stop : ShelfStop). ReadStops c.args.name.now before after stop) c.in-Absent.is stops) c.write_message.ensures

pub returns-in-Failed : goal.returns-in-Failed
returns-in-Failed g c = λ most before after stops.
    is_unreadable (subst (λ (stop : ShelfStop). ReadStops c.args.name.now before after stop) c.in-Failed.is stops) c.write_message-in-Failed.ensures

pub returns-in-NoMemory : goal.returns-in-NoMemory
returns-in-NoMemory g c = λ most before after stops. no_memory (subst (λ (stop : ShelfStop). ReadStops c.args.name.now before after stop) c.in-NoMemory.is stops) refl refl
