use Rattle.gp_explain.proofs.Prelude.{◌≡◌, ◌<◌, ℕ, true, table_is_spellable}
use Rattle.gp_explain.proofs.names.tables_are_named.Given as goal

-- the tables so far have names
abbrev pub invariant-loop-place : goal.invariant-loop-place
invariant-loop-place l = (table : ℕ) → table < l.place → table_is_spellable l.catalog table ≡ true
