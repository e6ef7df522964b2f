-- A statement of a log is not among its first entries, until it is found.
use Rattle.gp_serial.proofs.Prelude.{◌≡◌, ◌∙◌, ◌+◌, ℕ, suc, Bool, true, false, cond, List, ◌∷◌, Some, None, take, refl, sym, ap, ◌==◌, ◌&&◌, slice_get, eqb-true, statement_at, statement_count, log_view}
use Rattle.gp_algebra.specs.Views.{statement_view}
use Rattle.gp_machine.specs.Entries as m
use Rattle.gp_log.specs.Finding.{is_numbered, is_own}
use Rattle.gp_log.specs.Kinds.{HasNextNumber, IsNumbered}
use Rattle.gp_log.specs.Logs.{what_view}
use Rattle.gp_log.specs.declared.entry.Entry.{Entry}
use Rattle.gp_log.specs.declared.entry.What.{What}
use Rattle.gp_log.specs.declared.entry.What.TheVariants as w
use Rattle.gp_log.proofs.FindingLemmas.{log-more}

module _ (entries : List Entry) (place : ℕ) (entry : Entry) (is : slice_get entries place ≡ Some entry) (numbered : IsNumbered (log_view (take place entries)) entry) (t k : ℕ)
    (other : is_own t k entry ≡ false) (before : statement_at t k (log_view (take place entries)) ≡ None) where
  abbrev older : List m.Entry
  older = log_view (take place entries)

  not_here : (what : What) → HasNextNumber older entry.t what → ((entry.t == t) && is_numbered k what) ≡ false → statement_at t k (what_view entry.line entry.session entry.t what ∷ older) ≡ None
  not_here (w.Statement number command stmt) next own =
      by (entry.t == t) refl own
    where
      by : (b : Bool) → (entry.t == t) ≡ b → (b && (number == k)) ≡ false → cond (b && (suc (statement_count t older) == k)) (Some (statement_view stmt.value)) (statement_at t k older) ≡ None
      by false same own = before
      by true same own =
          ap (λ c. cond c (Some (statement_view stmt.value)) (statement_at t k older)) (ap (λ n. n == k) (ap (λ u. suc (statement_count u older)) (sym (eqb-true entry.t t same)) ∙ sym next) ∙ own) ∙ before
  not_here (w.Create table) next own = before
  not_here (w.Begin level) next own = before
  not_here w.Commit next own = before
  not_here w.Lost next own = before
  not_here w.Rollback next own = before

  pub none_next : statement_at t k (log_view (take (place + 1) entries)) ≡ None
  none_next = ap (statement_at t k) (log-more entries place entry is) ∙ not_here entry.what numbered other
