use Rattle.std.proofs.Common.{◌≡◌, ◌≤◌, drop, length}
use Rattle.gp_ask.specs.Titles.{table_names, with_titles}
use Rattle.gp_ask.proofs.titles.push_columns.Given as goal

-- the titles so far, and those of the columns that remain, are those of all
abbrev pub invariant-loop-column : goal.invariant-loop-column
invariant-loop-column l =
    (with_titles l.others l.titles (table_names (drop l.column-index l.columns)) ≡ with_titles l.others l.initial.titles (table_names l.columns)) × (l.others ≤ length l.titles)
