-- Machinery: the step of a statement by the table that it writes, if it writes one: for proofs by cases.
use Rattle.std.specs.Prelude.{ℕ, ◌==◌, Bool, false, List, Option}
use Rattle.std.specs.Option.{option_map, option_map_or, option_to_list}
use Rattle.gp_algebra.specs.AnnotatedQueries.{Query, QueryStep}
use Rattle.gp_algebra.specs.Statements.{Statement}
use Rattle.gp_rewrite.specs.Rewriting.{rewritten}

-- whether a statement that writes this table, or none, writes a table
abbrev pub is_target : Option ℕ → ℕ → Bool
is_target written table = option_map_or (λ written. table == written) written false

-- the steps of a statement that writes this table, or none
abbrev pub steps_of : (ℕ → ℕ) → ℕ → ℕ → (ℕ → Query) → Statement → Option ℕ → List QueryStep
steps_of columns t k tables statement written =
    option_to_list (option_map (λ table. record { j = k; table = table; query = rewritten columns t k statement tables }) written)
