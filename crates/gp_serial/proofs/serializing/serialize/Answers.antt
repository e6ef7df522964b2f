use Rattle.std.proofs.Common.{◌∙◌, ap, map}
use Rattle.gp_serial.specs.Changes.{change_view}
use Rattle.gp_serial.proofs.serializing.serialize.Goals as goal

pub serial_by-requires-clause-all : goal.serial_by-requires-clause-all
serial_by-requires-clause-all c = c.deref.ensures.value ∙ c.in_ok-all.ensures

pub serial_by-requires-clause-changes : goal.serial_by-requires-clause-changes
serial_by-requires-clause-changes c = ap (map change_view) c.deref-2.ensures.value ∙ c.in_ok-changes.ensures.changes
