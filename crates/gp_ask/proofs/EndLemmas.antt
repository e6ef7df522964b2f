-- How many commits came before the end of a transaction, found entry by entry.
use Rattle.std.proofs.Common.{◌≡◌, ℕ, ◌+◌, Bool, true, false, cond, List, [], ◌∷◌, Some, refl, sym, ap, take}
use Rattle.std.specs.List.{slice_get}
use Rattle.std.specs.Option.{unwrap_or}
use Rattle.gp_log.proofs.FindingLemmas.{log-more}
use Rattle.gp_log.specs.Logs.{entry_view, log_view}
use Rattle.gp_log.specs.declared.entry.Entry.{Entry}
use Rattle.gp_machine.specs.Entries as m
use Rattle.gp_ask.specs.ConflictForms.{counted, ends, found_at, found_before}
use Rattle.gp_ask.specs.RowConflicts.{commits_before_end}

pub next-found : (t : ℕ) (entries : List Entry) (place : ℕ) (entry : Entry) → slice_get entries place ≡ Some entry
    → found_at t (m.versions_in (log_view (take place entries))) (entry_view entry) (found_before t (log_view (take place entries))) ≡ found_before t (log_view (take (place + 1) entries))
next-found t entries place entry is = sym (ap (found_before t) (log-more entries place entry is))

pub next-counted : (entries : List Entry) (place : ℕ) (entry : Entry) → slice_get entries place ≡ Some entry
    → counted (entry_view entry) (m.versions_in (log_view (take place entries))) ≡ m.versions_in (log_view (take (place + 1) entries))
next-counted entries place entry is = sym (ap m.versions_in (log-more entries place entry is))

-- given the number where it is not found
pub end-found : (t : ℕ) (entries : List m.Entry) → unwrap_or (found_before t entries) (m.versions_in entries) ≡ commits_before_end t entries
end-found t entries = go (m.versions_in entries) entries
  where
    go : (other : ℕ) (list : List m.Entry) → unwrap_or (found_before t list) other ≡ m.at_newest (λ entry older. ends t entry) (λ entry older. m.versions_in older) other list
    go other [] = refl
    go other (entry ∷ older) = by (ends t entry) (go other older)
      where
        by : (b : Bool) → unwrap_or (found_before t older) other ≡ m.at_newest (λ entry older. ends t entry) (λ entry older. m.versions_in older) other older
            → unwrap_or (cond b (Some (m.versions_in older)) (found_before t older)) other
            ≡ cond b (m.versions_in older) (m.at_newest (λ entry older. ends t entry) (λ entry older. m.versions_in older) other older)
        by true rest = refl
        by false rest = rest
