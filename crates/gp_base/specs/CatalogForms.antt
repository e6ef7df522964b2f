-- Machinery: what the code keeps true of a catalogue.
use Rattle.std.specs.Prelude.{◌≢◌, ℕ, List, AllPairs}
use Rattle.gp_base.specs.declared.table.Table.{Table}
use Rattle.gp_base.specs.Catalogs.{table_names}

-- no two tables have the same name
abbrev pub HaveDifferentNames : List Table → Type 0
HaveDifferentNames tables = AllPairs (λ (name other : List ℕ). name ≢ other) (table_names tables)
