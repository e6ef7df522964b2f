-- A log with a statement added, made from the oldest entry on.
use Rattle.gp_whatif.proofs.Prelude.{◌≡◌, ℕ, suc, ◌+◌, ◌<◌, ◌≤◌, Bool, true, false, cond, List, [], ◌∷◌, ◌++◌, length, take, Option, Some, None, refl, sym, ap, ◌∙◌, subst, arith, ◌==◌, nat_lt, slice_get, nat_tests, length-append, same_Some, HaveDifferentNames, MAX_TABLES, Statement, Command, statement_count, line_of, session_of, log-pushed, IsAddable, IsNumbered, tables_in, entry_view, log_view, what_view, What, log-more, eqb-true, ltb-true}
use Rattle.std.specs.List.{AllByRecursion}
use Rattle.std.proofs.lemmas.Option.{slice_get_within}
use Rattle.gp_machine.specs.Entries as m
use Rattle.gp_log.specs.declared.entry.Entry.{Entry}
use Rattle.gp_log.specs.declared.entry.What.TheVariants as w
use Rattle.gp_whatif.specs.Changed.{is_step_of, tables_at_end, with_added}
use Rattle.gp_whatif.specs.Changing.{IsLastStep, Numbers, SameStep, is_last, step_of}
use Rattle.gp_whatif.proofs.ChangedLemmas.{added_same}
use Rattle.gp_whatif.proofs.ChangingLemmas.{addable, creates_new, log-all, numbers_next}
use Rattle.gp_base.proofs.SmallLemmas.{eq_turned}

-- ---- steps of a transaction

-- what is no step of a transaction is no statement of it
count-kept : (t : ℕ) (entry : m.Entry) (older : List m.Entry) → is_step_of t entry ≡ false → statement_count t (entry ∷ older) ≡ statement_count t older
count-kept t (m.Created line session table) older other = refl
count-kept t (m.Began line session u level) older other = refl
count-kept t (m.Ran line session command u statement) older other = ap (λ b. cond b (suc (statement_count t older)) (statement_count t older)) other
count-kept t (m.Committed line session u) older other = refl
count-kept t (m.Ended line session end u) older other = refl

entry-same : (a b : Entry) → Some a ≡ Some b → a ≡ b
entry-same a b e = cc

module _ (t : ℕ) (entries : List Entry) where
  abbrev Last : ℕ → Option ℕ → Type 0
  Last upto last = IsLastStep t entries upto last

  -- an entry that is a step
  pub last_found : (place : ℕ) (entry : Entry) (last : Option ℕ) → slice_get entries place ≡ Some entry → is_step_of t (entry_view entry) ≡ true → Last (place + 1) (Some place)
  last_found place entry last is step = record {
    within = λ found e. let same = same_Some place found e in omega (arith, same);
    here = λ found other e at. subst (λ (x : Entry). is_step_of t (entry_view x) ≡ true) (entry-same entry other (sym is ∙ ap (slice_get entries) (same_Some place found e) ∙ at)) step;
    later = λ before found other e l m at. absurd (let same = same_Some place before e in omega (arith, same, l, m));
    none = λ e. absurd cc;
    tables = ap (tables_at_end t) (log-more entries place entry is)
        ∙ ap (λ b. cond b (tables_in (log_view (take place entries))) (tables_at_end t (log_view (take place entries)))) step;
    count = λ found e. ap (λ p. statement_count t (log_view (take (p + 1) entries))) (sym (same_Some place found e));
  }

  -- one that is none
  pub last_kept : (place : ℕ) (entry : Entry) (last : Option ℕ) → slice_get entries place ≡ Some entry → is_step_of t (entry_view entry) ≡ false → Last place last → Last (place + 1) last
  last_kept place entry last is step holds = record {
    within = λ found e. let l = holds.within found e in omega (arith, l);
    here = holds.here;
    later = λ before found other e l m at. go before found other e l at (found == place) refl (omega (arith, m));
    none = λ e. subst (λ es. AllByRecursion (λ (x : m.Entry). is_step_of t x ≡ false) es) (sym (log-more entries place entry is)) (step, holds.none e);
    tables = ap (tables_at_end t) (log-more entries place entry is)
        ∙ (ap (λ b. cond b (tables_in (log_view (take place entries))) (tables_at_end t (log_view (take place entries)))) step ∙ holds.tables);
    count = λ found e. holds.count found e
        ∙ sym (ap (statement_count t) (log-more entries place entry is) ∙ count-kept t (entry_view entry) (log_view (take place entries)) step);
  }
    where
      go : (before found : ℕ) (other : Entry) → last ≡ Some before → before < found → slice_get entries found ≡ Some other → (b : Bool) → (found == place) ≡ b → found ≤ place → is_step_of t (entry_view other) ≡ false
      go before found other e l at true same most =
          subst (λ (x : Entry). is_step_of t (entry_view x) ≡ false) (entry-same entry other (sym is ∙ ap (slice_get entries) (sym (eqb-true found place same)) ∙ at)) step
      go before found other e l at false differ most = holds.later before found other e l (less found place differ most) at
        where
          less : (a b : ℕ) → (a == b) ≡ false → a ≤ b → a < b
          less a b e l = grind (arith, nat_tests)

-- ---- the changed log up to a place

-- the place of the last step is among the first entries, this many
abbrev pub is_behind : Option ℕ → ℕ → Bool
is_behind None upto = false
is_behind (Some last) upto = nat_lt last upto

less-true : (a b : ℕ) → a < b → nat_lt a b ≡ true
less-true a b l = grind (arith, nat_tests)

behind_kept : (last : Option ℕ) (place : ℕ) → is_last last place ≡ false → is_behind last (place + 1) ≡ is_behind last place
behind_kept None place other = refl
behind_kept (Some found) place other = same found place other
  where
    same : (a b : ℕ) → (a == b) ≡ false → nat_lt a (b + 1) ≡ nat_lt a b
    same a b e = grind (arith, nat_tests)

behind_front : (last : Option ℕ) (place : ℕ) → is_last last place ≡ true → is_behind last place ≡ false
behind_front None place here = absurd cc
behind_front (Some found) place here = not_less found place here
  where
    not_less : (a b : ℕ) → (a == b) ≡ true → nat_lt a b ≡ false
    not_less a b e = grind (arith, nat_tests)

behind_next : (last : Option ℕ) (place : ℕ) → is_last last place ≡ true → is_behind last (place + 1) ≡ true
behind_next None place here = absurd cc
behind_next (Some found) place here = less found place here
  where
    less : (a b : ℕ) → (a == b) ≡ true → nat_lt a (b + 1) ≡ true
    less a b e = grind (arith, nat_tests)

last_is : (last : Option ℕ) (place : ℕ) → is_last last place ≡ true → last ≡ Some place
last_is None place here = absurd cc
last_is (Some found) place here = ap Some (eqb-true found place here)

module _ (t : ℕ) (command : Command) (statement : Statement) where
  abbrev extra : Bool → List m.Entry → List m.Entry
  extra b entries = cond b (with_added t command statement entries) entries

  extra-tables : (b : Bool) (entries : List m.Entry) → tables_in (extra b entries) ≡ tables_in entries
  extra-tables true entries = (added_same t command statement entries).tables
  extra-tables false entries = refl

  -- nothing is added where there is no step
  added-none : (entries : List m.Entry) → AllByRecursion (λ (x : m.Entry). is_step_of t x ≡ false) entries → with_added t command statement entries ≡ entries
  added-none [] all = refl
  added-none (entry ∷ older) all =
      ap (λ b. cond b (m.Ran (suc (line_of entry)) (session_of entry) command t statement ∷ entry ∷ older) (entry ∷ with_added t command statement older))
      all.0
      ∙ ap (λ es. entry ∷ es) (added-none older all.1)

  -- the other transactions have as many statements
  count-added : (u : ℕ) (entries : List m.Entry) → (t == u) ≡ false → statement_count u (with_added t command statement entries) ≡ statement_count u entries
  count-added u [] other = refl
  count-added u (entry ∷ older) other = by (is_step_of t entry) (count-added u older other)
    where
      front : (entry : m.Entry) (one two : List m.Entry) → statement_count u one ≡ statement_count u two → statement_count u (entry ∷ one) ≡ statement_count u (entry ∷ two)
      front (m.Created line session table) one two same = same
      front (m.Began line session v level) one two same = same
      front (m.Ran line session own v now) one two same = ap (λ n. cond (v == u) (suc n) n) same
      front (m.Committed line session v) one two same = same
      front (m.Ended line session end v) one two same = same

      by : (b : Bool) → statement_count u (with_added t command statement older) ≡ statement_count u older
          → statement_count u (cond b (m.Ran (suc (line_of entry)) (session_of entry) command t statement ∷ entry ∷ older) (entry ∷ with_added t command statement older)) ≡ statement_count u (entry ∷ older)
      by true same = ap (λ b. cond b (suc (statement_count u (entry ∷ older))) (statement_count u (entry ∷ older))) other
      by false same = front entry (with_added t command statement older) older same

  -- a step is of the transaction, and another entry no statement of it
  step-own : (line session v : ℕ) (what : What) → is_step_of t (what_view line session v what) ≡ true → v ≡ t
  step-own line session v (w.Begin level) e = eqb-true v t e
  step-own line session v (w.Statement k own stmt) e = eqb-true v t e
  step-own line session v (w.Create table) e = absurd cc
  step-own line session v w.Commit e = absurd cc
  step-own line session v w.Lost e = absurd cc
  step-own line session v w.Rollback e = absurd cc

  not-own : (line session v : ℕ) (what : What) (k : ℕ) → step_of what ≡ Numbers k → is_step_of t (what_view line session v what) ≡ false → (t == v) ≡ false
  not-own line session v (w.Statement n own stmt) k step e = eq_turned v t e
  not-own line session v (w.Create table) k step e = absurd cc
  not-own line session v (w.Begin level) k step e = absurd cc
  not-own line session v w.Commit k step e = absurd cc
  not-own line session v w.Lost k step e = absurd cc
  not-own line session v w.Rollback k step e = absurd cc

  -- the statement behind a step
  added-here : (line session v : ℕ) (what : What) (older : List m.Entry) → is_step_of t (what_view line session v what) ≡ true
      → with_added t command statement (what_view line session v what ∷ older)
      ≡ m.Ran (suc line) session command v statement ∷ what_view line session v what ∷ older
  added-here line session v (w.Begin level) older e =
      ap (λ b. cond b (m.Ran (suc line) session command t statement ∷ here ∷ older) (here ∷ with_added t command statement older)) e
      ∙ ap (λ u. m.Ran (suc line) session command u statement ∷ here ∷ older) (sym (eqb-true v t e))
    where
      here : m.Entry
      here = m.Began line session v level
  added-here line session v (w.Statement k own stmt) older e =
      ap (λ b. cond b (m.Ran (suc line) session command t statement ∷ here ∷ older) (here ∷ with_added t command statement older)) e
      ∙ ap (λ u. m.Ran (suc line) session command u statement ∷ here ∷ older) (sym (eqb-true v t e))
    where
      here : m.Entry
      here = what_view line session v (w.Statement k own stmt)
  added-here line session v (w.Create table) older e = absurd cc
  added-here line session v w.Commit older e = absurd cc
  added-here line session v w.Lost older e = absurd cc
  added-here line session v w.Rollback older e = absurd cc

  -- the log up to a place, with the statement added
  pub record Extended (entries : List Entry) (last : Option ℕ) (place : ℕ) (new : List Entry) : Type 0 where
    pub count : length new ≡ place + cond (is_behind last place) 1 0
    pub view : log_view new ≡ extra (is_behind last place) (log_view (take place entries))

  module _ (entries : List Entry) (last : Option ℕ) (is : IsLastStep t entries (length entries) last) where
    abbrev before : ℕ → List m.Entry
    before place = log_view (take place entries)

    pub few_here : (place : ℕ) (new : List Entry) → is_last last place ≡ true → Extended entries last place new → length new ≡ place
    few_here place new here holds =
        let count = holds.count in let front : cond {A = ℕ} (is_behind last place) 1 0 ≡ 0 = ap (λ b. cond b 1 0) (behind_front last place here) in omega arith

    -- no step comes behind the last one
    no-step : (place : ℕ) (entry : Entry) → slice_get entries place ≡ Some entry → is_behind last place ≡ true → is_step_of t (entry_view entry) ≡ false
    no-step place entry at = go last refl
      where
        go : (found : Option ℕ) → last ≡ found → is_behind found place ≡ true → is_step_of t (entry_view entry) ≡ false
        go None e behind = absurd cc
        go (Some found) e behind = is.later found place entry e (ltb-true found place behind) (slice_get_within entries place entry at) at

    pub extended_addable : (place : ℕ) (new : List Entry) (entry copy : Entry) → HaveDifferentNames (tables_in (log_view entries)) → length (tables_in (log_view entries)) ≤ MAX_TABLES → slice_get entries place ≡ Some entry
        → IsNumbered (before place) entry → SameStep copy entry → Extended entries last place new → IsAddable (log_view new) copy
    extended_addable place new entry copy different few at number same holds =
        subst (λ es. IsAddable es copy) (sym holds.view)
        (addable (before place) (extra (is_behind last place) (before place)) entry copy
        (extra-tables (is_behind last place) (before place))
        (counts (is_behind last place) refl) same (creates_new entries place entry different few at, number))
      where
        counts : (b : Bool) → is_behind last place ≡ b → (k : ℕ) → step_of entry.what ≡ Numbers k → statement_count entry.t (extra b (before place)) ≡ statement_count entry.t (before place)
        counts true behind k step =
            count-added entry.t (before place) (not-own entry.line entry.session entry.t entry.what k step (no-step place entry at behind))
        counts false behind k step = refl

    pub extended_next : (place : ℕ) (new : List Entry) (entry copy : Entry) → slice_get entries place ≡ Some entry → is_last last place ≡ false → entry_view copy ≡ entry_view entry
        → Extended entries last place new → Extended entries last (place + 1) (new ++ copy ∷ [])
    extended_next place new entry copy at other view holds = record {
      count =
          let whole = length-append new (copy ∷ []) in
          let count = holds.count in let same : cond {A = ℕ} (is_behind last (place + 1)) 1 0 ≡ cond {A = ℕ} (is_behind last place) 1 0 = ap (λ b. cond b 1 0) (behind_kept last place other) in omega arith;
      view =
          log-pushed new copy ∙ (λ i. view i ∷ holds.view i)
          ∙ push (is_behind last place) (no-step place entry at)
          ∙ (ap (λ b. extra b (entry_view entry ∷ before place)) (sym (behind_kept last place other))
          ∙ ap (λ es. extra (is_behind last (place + 1)) es) (sym (log-more entries place entry at)));
    }
      where
        push : (b : Bool) → (b ≡ true → is_step_of t (entry_view entry) ≡ false) → entry_view entry ∷ extra b (before place) ≡ extra b (entry_view entry ∷ before place)
        push true is =
            sym (ap (λ b. cond b (m.Ran (suc (line_of (entry_view entry))) (session_of (entry_view entry)) command t statement ∷ entry_view entry ∷ before place) (entry_view entry ∷ with_added t command statement (before place)))
            (is refl))
        push false is = refl

    -- the last step is copied
    copied : (place : ℕ) (new : List Entry) (entry copy : Entry) → slice_get entries place ≡ Some entry → is_last last place ≡ true → entry_view copy ≡ entry_view entry → Extended entries last place new
        → log_view (new ++ copy ∷ []) ≡ entry_view entry ∷ before place
    copied place new entry copy at here view holds =
        log-pushed new copy ∙ (λ i. view i ∷ (holds.view ∙ ap (λ b. extra b (before place)) (behind_front last place here)) i)

    pub added_addable : (place : ℕ) (new : List Entry) (entry copy added : Entry) (k : ℕ) → slice_get entries place ≡ Some entry → is_last last place ≡ true → entry_view copy ≡ entry_view entry
        → step_of added.what ≡ Numbers k → added.t ≡ entry.t → k ≡ statement_count t (log_view entries) + 1 → Extended entries last place new → IsAddable (log_view (new ++ copy ∷ [])) added
    added_addable place new entry copy added k at here view step same next holds =
        numbers_next (log_view (new ++ copy ∷ [])) added k step
        (let counts = ap (λ u. statement_count u (log_view (new ++ copy ∷ []))) (same ∙ own) ∙ (ap (statement_count t) (copied place new entry copy at here view holds ∙ sym (log-more entries place entry at))
        ∙ (is.count place (last_is last place here) ∙ ap (statement_count t) (log-all entries (length entries) (omega arith)))) in omega (arith, counts, next))
      where
        own : entry.t ≡ t
        own = step-own entry.line entry.session entry.t entry.what (is.here place entry (last_is last place here) at)

    pub extended_here : (place : ℕ) (new : List Entry) (entry copy added : Entry) → slice_get entries place ≡ Some entry → is_last last place ≡ true → entry_view copy ≡ entry_view entry
        → entry_view added ≡ m.Ran (suc entry.line) entry.session command entry.t statement → Extended entries last place new → Extended entries last (place + 1) ((new ++ copy ∷ []) ++ added ∷ [])
    extended_here place new entry copy added at here view extra_view holds = record {
      count =
          let whole = length-append (new ++ copy ∷ []) (added ∷ []) in
          let part = length-append new (copy ∷ []) in
          let count = few_here place new here holds in let next : cond {A = ℕ} (is_behind last (place + 1)) 1 0 ≡ 1 = ap (λ b. cond b 1 0) (behind_next last place here) in omega arith;
      view =
          log-pushed (new ++ copy ∷ []) added ∙ (λ i. extra_view i ∷ copied place new entry copy at here view holds i)
          ∙ (sym (added-here entry.line entry.session entry.t entry.what (before place) (is.here place entry (last_is last place here) at))
          ∙ (ap (λ es. with_added t command statement es) (sym (log-more entries place entry at))
          ∙ ap (λ b. extra b (before (place + 1))) (sym (behind_next last place here))));
    }

    pub extended_all : (place : ℕ) (new : List Entry) → length entries ≤ place → Extended entries last place new → log_view new ≡ with_added t command statement (log_view entries)
    extended_all place new l holds = holds.view ∙ (ap (λ es. extra (is_behind last place) es) (log-all entries place l) ∙ go last refl)
      where
        go : (found : Option ℕ) → last ≡ found → extra (is_behind found place) (log_view entries) ≡ with_added t command statement (log_view entries)
        go None e =
            sym (added-none (log_view entries)
            (subst (λ es. AllByRecursion (λ (x : m.Entry). is_step_of t x ≡ false) es) (log-all entries (length entries) (omega arith)) (is.none e)))
        go (Some found) e =
            ap (λ b. extra b (log_view entries)) (less-true found place (let within = is.within found e in omega (arith, within, l)))
