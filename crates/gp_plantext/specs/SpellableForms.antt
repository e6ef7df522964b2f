-- Machinery: whether the parts of a new identity have texts.
use Rattle.std.specs.Prelude.{◌&&◌, Bool, true}
use Rattle.gp_expr.specs.Expressions.{Parts}
use Rattle.gp_expr.specs.Gathering.{parts_gathered}
use Rattle.gp_plantext.specs.Spellable.{node_is_spellable}

abbrev pub parts_are_spellable : Parts → Bool
parts_are_spellable = parts_gathered node_is_spellable true true ◌&&◌
