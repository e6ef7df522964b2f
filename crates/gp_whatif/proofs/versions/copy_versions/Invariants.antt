use Rattle.std.proofs.Common.{◌≡◌, ◌++◌, map, drop}
use Rattle.gp_versions.specs.Spans.{Versions}
use Rattle.gp_whatif.proofs.versions.copy_versions.Given as goal

-- the row versions of the copies so far and of what remains are all
abbrev pub invariant-loop-table : goal.invariant-loop-table
invariant-loop-table l =
    map (λ (table : Versions). table.spans) l.copies.items ++ map (λ (table : Versions). table.spans) (drop l.table-index l.versions) ≡ map (λ (table : Versions). table.spans) l.versions
