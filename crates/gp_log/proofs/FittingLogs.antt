-- The statements of a log that fits a catalogue.
use Rattle.std.proofs.Common.{◌≡◌, ℕ, suc, Bool, true, false, cond, List, [], ◌∷◌, sym, ap, ◌∙◌, Some}
use Rattle.std.specs.Prelude.{◌&&◌, ◌==◌}
use Rattle.gp_base.specs.declared.table.Table.{Table}
use Rattle.gp_algebra.specs.Fitting.{statement_fits}
use Rattle.gp_algebra.specs.Statements.{Statement}
use Rattle.gp_machine.specs.Entries.{Entry, Created, Began, Ran, Committed, Ended, statement_at, statement_count}
use Rattle.gp_log.specs.LogFitting.{statements_fit}
use Rattle.std.proofs.lemmas.Option.{none-some, same_Some}
use Rattle.gp_base.proofs.SmallLemmas.{left_true, right_true}

-- each statement of a transaction fits
pub statement_at_fits : (catalogue : List Table) (entries : List Entry) → statements_fit catalogue entries ≡ true → (t k : ℕ) (statement : Statement) →
    statement_at t k entries ≡ Some statement → statement_fits catalogue statement ≡ true
statement_at_fits catalogue [] fit t k statement e = absurd (none-some statement e)
statement_at_fits catalogue (Created line session table ∷ older) fit t k statement e = statement_at_fits catalogue older fit t k statement e
statement_at_fits catalogue (Began line session u level ∷ older) fit t k statement e = statement_at_fits catalogue older fit t k statement e
statement_at_fits catalogue (Ran line session command u other ∷ older) fit t k statement e =
    go ((u == t) && (suc (statement_count t older) == k)) e (statement_at_fits catalogue older (right_true (statement_fits catalogue other) (statements_fit catalogue older) fit) t k statement)
  where
    go : (b : Bool) → cond b (Some other) (statement_at t k older) ≡ Some statement → (statement_at t k older ≡ Some statement → statement_fits catalogue statement ≡ true) → statement_fits catalogue statement ≡ true
    go true e before = ap (statement_fits catalogue) (sym (same_Some other statement e)) ∙ left_true (statement_fits catalogue other) (statements_fit catalogue older) fit
    go false e before = before e
statement_at_fits catalogue (Committed line session u ∷ older) fit t k statement e = statement_at_fits catalogue older fit t k statement e
statement_at_fits catalogue (Ended line session end u ∷ older) fit t k statement e = statement_at_fits catalogue older fit t k statement e
