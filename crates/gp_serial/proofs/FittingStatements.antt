-- A statement of a log whose statements fit its tables fits them.
use Rattle.gp_serial.proofs.Prelude.{◌≡◌, ℕ, List, true, Some, subst, Table, statement_fits, Statement, statements_fit, Entry, statement_at, FitsIfSome, logged_fits}

pub fits_there : (tables : List Table) (entries : List Entry) (t k : ℕ) (statement : Statement) → statements_fit tables entries ≡ true → statement_at t k entries ≡ Some statement → statement_fits tables statement ≡ true
fits_there tables entries t k statement fits is = subst (FitsIfSome tables) is (logged_fits tables t k entries fits)
