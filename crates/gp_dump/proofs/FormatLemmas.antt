-- The formats of a dump, and the logs that the first one cannot hold.
use Rattle.gp_dump.proofs.Prelude.{◌≡◌, ℕ, ◌+◌, Bool, true, false, ◌||◌, List, [], ◌∷◌, take, Some, refl, sym, ap, ◌∙◌, inl, inr, cases_Bool, false≢true, or_parts, said_by, entry_view, log_view, is_said_in}
use Rattle.std.proofs.Common.{not}
use Rattle.std.specs.Prelude.{slice_get}
use Rattle.gp_machine.specs.Entries as m
use Rattle.gp_log.specs.declared.entry.Entry.{Entry}
use Rattle.gp_dumpline.specs.Said.{begins_read_committed}
use Rattle.gp_dump.specs.Dumps.{has_read_committed}
use Rattle.gp_dump.proofs.DisciplineLemmas.{taken-back}

-- ---- what a format has

-- each entry can be said in the format
abbrev pub AreSaidIn : Bool → List m.Entry → Type 0
AreSaidIn second [] = Unit {0}
AreSaidIn second (entry ∷ older) = (is_said_in second (said_by entry) ≡ true) × AreSaidIn second older

all-said : (entries : List m.Entry) → AreSaidIn true entries
all-said [] = tt
all-said (entry ∷ older) = (refl, all-said older)

first-said : (entries : List m.Entry) → has_read_committed entries ≡ false → AreSaidIn false entries
first-said [] none = tt
first-said (entry ∷ older) none =
    let w = or_parts (begins_read_committed (said_by entry)) (has_read_committed older) none in
    (ap not w.0, first-said older w.1)

first-none : (entries : List m.Entry) → AreSaidIn false entries → has_read_committed entries ≡ false
first-none [] are = refl
first-none (entry ∷ older) are = by (begins_read_committed (said_by entry)) are.0 (first-none older are.1)
  where
    by : (b : Bool) → not b ≡ true → has_read_committed older ≡ false → b || has_read_committed older ≡ false
    by true e none = absurd (false≢true e)
    by false e none = none

pub format-said : (second : Bool) (entries : List m.Entry) → (has_read_committed entries ≡ true → second ≡ true) → AreSaidIn second entries
format-said true entries format = all-said entries
format-said false entries format = elim (cases_Bool (has_read_committed entries)) [
  | inl has ↦ absurd (false≢true (format has))
  | inr none ↦ first-said entries none
]

pub said-format : (second : Bool) (entries : List m.Entry) → AreSaidIn second entries → has_read_committed entries ≡ true → second ≡ true
said-format true entries are has = refl
said-format false entries are has = sym (first-none entries are) ∙ has

-- ---- a pass over the log

at-entry : (entries : List Entry) (place next : ℕ) (e : Entry) (b : Bool) → place ≡ next + 1 → slice_get entries next ≡ Some e → begins_read_committed (said_by (entry_view e)) ≡ b
    → has_read_committed (log_view (take place entries)) ≡ b || has_read_committed (log_view (take next entries))
at-entry entries place next e b is found begins =
    ap has_read_committed (taken-back entries place next e is found) ∙ ap (λ (x : Bool). x || has_read_committed (log_view (take next entries))) begins

pub at-read-committed : (entries : List Entry) (place next : ℕ) (e : Entry) → place ≡ next + 1 → slice_get entries next ≡ Some e → begins_read_committed (said_by (entry_view e)) ≡ true
    → has_read_committed (log_view (take place entries)) ≡ true
at-read-committed entries place next e is found begins = at-entry entries place next e true is found begins

pub at-another : (entries : List Entry) (place next : ℕ) (e : Entry) → place ≡ next + 1 → slice_get entries next ≡ Some e → begins_read_committed (said_by (entry_view e)) ≡ false
    → has_read_committed (log_view (take place entries)) ≡ has_read_committed (log_view (take next entries))
at-another entries place next e is found begins = at-entry entries place next e false is found begins

pub ruleset format_steps = (at-read-committed, at-another)
