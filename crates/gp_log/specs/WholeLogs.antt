-- Of the laws on whole logs: which lists of entries are logs.
use Rattle.std.specs.Prelude.{List, [], ◌∷◌}
use Rattle.gp_machine.specs.Entries.{Entry}
use Rattle.gp_machine.specs.Parameters.{Parameters}
use Rattle.gp_log.specs.Discipline.{IsNext}

-- every entry follows those before it; the newest is first
abbrev pub IsLog : Parameters → List Entry → Type 0
IsLog parameters [] = Unit {0}
IsLog parameters (entry ∷ older) = IsNext parameters older entry × IsLog parameters older
