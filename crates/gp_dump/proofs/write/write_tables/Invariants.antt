use Rattle.std.proofs.Common.{◌≡◌, ◌++◌, drop}
use Rattle.std.specs.List.{flat_map}
use Rattle.gp_dump.specs.Dumps.{with_newline, sections_texts}
use Rattle.gp_dump.specs.Writing.{ordered}
use Rattle.gp_dump.proofs.write.write_tables.Given as goal

-- what is written and the lines of the tables that are left are what is written at the end
abbrev pub invariant-loop-place : goal.invariant-loop-place
invariant-loop-place l =
    l.out.items ++ flat_map with_newline (sections_texts (drop l.place l.tables) (drop l.place (ordered l.versions)))
    ≡ l.initial.out.items ++ flat_map with_newline (sections_texts l.tables (ordered l.versions))
