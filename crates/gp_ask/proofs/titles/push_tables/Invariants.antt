use Rattle.std.proofs.Common.{◌≡◌, ◌≤◌, drop, length, map}
use Rattle.gp_syntax.specs.Views.{item_view}
use Rattle.gp_ask.specs.Titles.{star_names, with_titles}
use Rattle.gp_ask.proofs.titles.push_tables.Given as goal

-- the titles so far, and those of the tables that remain, are those of all
abbrev pub invariant-loop-item : goal.invariant-loop-item
invariant-loop-item l =
    (with_titles l.others l.titles (star_names l.catalog (map item_view (drop l.item-index l.from))) ≡ with_titles l.others l.initial.titles (star_names l.catalog (map item_view l.from)))
    × (l.others ≤ length l.titles)
