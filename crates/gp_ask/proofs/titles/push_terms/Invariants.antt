use Rattle.std.proofs.Common.{◌≡◌, ◌≤◌, drop, length, map}
use Rattle.gp_syntax.specs.Views.{term_view}
use Rattle.gp_ask.specs.Titles.{term_name, with_titles}
use Rattle.gp_ask.proofs.titles.push_terms.Given as goal

-- the titles so far, and those of the terms that remain, are those of all
abbrev pub invariant-loop-term : goal.invariant-loop-term
invariant-loop-term l =
    (with_titles l.others l.titles (map term_name (map term_view (drop l.term-index l.terms))) ≡ with_titles l.others l.initial.titles (map term_name (map term_view l.terms)))
    × (l.others ≤ length l.titles)
