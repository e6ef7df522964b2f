-- Machinery: the limits on terms, measure by measure, and the first of two limits.
use Rattle.std.specs.Prelude.{ℕ, Bool, List, ◌++◌, map, Option, Some, None, nat_lt, if◌then◌else◌}
use Rattle.std.specs.List.{list_any}
use Rattle.std.specs.Option.{option_map}
use Rattle.gp_base.specs.declared.limit.Limit.{Limit}
use Rattle.gp_base.specs.declared.limit.Limit.TheVariants as limit
use Rattle.gp_grammar.specs.declared.limits.TheConstants.{MAX_NODES, MAX_LEVELS}
use Rattle.gp_grammar.specs.Syntax as y
use Rattle.gp_grammar.specs.Limits.{nodes, levels, select_terms, terms_of_condition, shape_of_terms, passed_limit}
use Rattle.gp_syntax.specs.declared.limits.Measure.{Measure}
use Rattle.gp_syntax.specs.declared.limits.Measure.TheVariants.{Nodes, Levels}
use Rattle.gp_syntax.specs.Refusals.{limit_of}

abbrev pub is_above : Measure → y.Term → Bool
is_above Nodes term = nat_lt MAX_NODES (nodes term)
is_above Levels term = nat_lt MAX_LEVELS (levels term)

-- some term is above the limit
abbrev pub are_above : Measure → List y.Term → Bool
are_above measure = list_any (is_above measure)

abbrev pub terms_of_block : y.Block → List y.Term
terms_of_block block = select_terms block.items ++ terms_of_condition block.cond

abbrev pub set_term_of : y.SetTerm → y.Term
set_term_of set = set.term

abbrev pub terms_of_sets : List y.SetTerm → List y.Term
terms_of_sets = map set_term_of

abbrev pub term_limit : Bool → Bool → Option Limit
term_limit above_nodes above_levels = if above_nodes then Some limit.Nodes else (if above_levels then Some limit.Depth else None)

-- the first limit that the terms pass
abbrev pub terms_limit : List y.Term → Option Limit
terms_limit terms = option_map limit_of (passed_limit (shape_of_terms terms))

-- the place of a limit in the order of the tests of a text
abbrev pub rank : Limit → ℕ
rank limit.Columns = 0
rank limit.From = 1
rank limit.Branches = 2
rank limit.Values = 3
rank limit.Nodes = 4
rank limit.Depth = 5
rank _ = 6

abbrev pub earlier : Option Limit → Option Limit → Option Limit
earlier None second = second
earlier (Some a) None = Some a
earlier (Some a) (Some b) = if nat_lt (rank b) (rank a) then Some b else Some a
