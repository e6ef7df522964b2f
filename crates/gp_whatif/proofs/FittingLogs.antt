-- The statements of a log that writes tables of a catalogue.
use Rattle.gp_whatif.proofs.Prelude.{◌≡◌, ℕ, suc, Bool, true, false, cond, List, [], ◌∷◌, length, subst, Some, list_all, ◌&&◌, ◌==◌, Table, branches_fit, cond_fits, is_countable, is_there, row_fits, set_fits, statement_fits, width_of, Statement, insert, insert_select, update, delete, read, Entry, Created, Began, Ran, Committed, Ended, statement_at, statement_count, HasTarget, and_parts, ltb-true, same_Some}
use Rattle.gp_whatif.specs.Replays.{WritesTables}
use Rattle.std.proofs.lemmas.Option.{none-some}

-- a statement that fits writes a table that is there
pub fits_target : (tables : List Table) (statement : Statement) → statement_fits tables statement ≡ true → HasTarget (length tables) statement
fits_target tables (insert table rows) fits = ltb-true table (length tables) (and_parts (is_there tables table) (is_countable rows && list_all (row_fits (width_of tables table)) rows) fits).0
fits_target tables (insert_select table select) fits = ltb-true table (length tables) (and_parts (is_there tables table) (branches_fit tables (width_of tables table) select) fits).0
fits_target tables (update table sets c) fits = ltb-true table (length tables) (and_parts (is_there tables table) (list_all (set_fits (width_of tables table)) sets && cond_fits (width_of tables table) c) fits).0
fits_target tables (delete table c) fits = ltb-true table (length tables) (and_parts (is_there tables table) (cond_fits (width_of tables table) c) fits).0
fits_target tables (read select) fits = tt

pub statement_at_target : (tables : ℕ) (entries : List Entry) → WritesTables tables entries → (t k : ℕ) (statement : Statement) → statement_at t k entries ≡ Some statement → HasTarget tables statement
statement_at_target tables [] are t k statement e = absurd (none-some statement e)
statement_at_target tables (Created line session table ∷ older) are t k statement e = statement_at_target tables older are t k statement e
statement_at_target tables (Began line session u level ∷ older) are t k statement e = statement_at_target tables older are t k statement e
statement_at_target tables (Ran line session command u other ∷ older) are t k statement e =
    go ((u == t) && (suc (statement_count t older) == k)) e (statement_at_target tables older are.1 t k statement)
  where
    go : (b : Bool) → cond b (Some other) (statement_at t k older) ≡ Some statement → (statement_at t k older ≡ Some statement → HasTarget tables statement) → HasTarget tables statement
    go true e before = subst (HasTarget tables) (same_Some other statement e) are.0
    go false e before = before e
statement_at_target tables (Committed line session u ∷ older) are t k statement e = statement_at_target tables older are t k statement e
statement_at_target tables (Ended line session end u ∷ older) are t k statement e = statement_at_target tables older are t k statement e
