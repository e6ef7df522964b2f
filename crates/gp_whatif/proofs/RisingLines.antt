-- The lines of a changed log rise.
use Rattle.gp_whatif.proofs.Prelude.{◌≡◌, ℕ, suc, ◌+◌, ◌*◌, ◌<◌, Bool, true, false, cond, List, [], ◌∷◌, filter, length, map, refl, sym, ◌∙◌, subst, arith, ◌==◌, Result, Ok, Err, option_or, eq-eqb, eqb-true, Refusal, Command, LogChange, Statement, Entry, Created, Began, Ran, Committed, Ended, line_of, session_of, Parameters, statement_refusal, transaction_refusal, IsLog}
use Rattle.std.proofs.Common.{◌⊎◌, inl, inr}
use Rattle.std.proofs.lemmas.Nat.{mul-add-lt}
use Rattle.gp_grammar.specs.Syntax as y
use Rattle.gp_log.specs.Discipline.{last_line}
use Rattle.gp_whatif.specs.Changed.{adds, all_changed, changed, changed_log, dropped_command, dropped_of, dropped_statement, is_at, is_step_of, lines_for, spread, steps_refusal, tables_at_end, tables_before, with_added, with_other}
use Rattle.gp_whatif.specs.ChangedForms.{AreLines, LinesRise}
use Rattle.gp_whatif.proofs.ReplayableLemmas.{put}

-- ---- a log that keeps the rules of its entries

pub logs_lines : (parameters : Parameters) (entries : List Entry) → IsLog parameters entries → AreLines entries
logs_lines parameters [] log = tt
logs_lines parameters (entry ∷ older) log = (log.0.line, logs_lines parameters older log.1)

pub logs_rise : (parameters : Parameters) (entries : List Entry) → IsLog parameters entries → LinesRise entries
logs_rise parameters [] log = tt
logs_rise parameters (entry ∷ older) log = (log.0.rises, logs_rise parameters older log.1)

-- ---- room for statements that are added

-- Behind an entry there is room before the next one: this many lines, or nothing is added there, as the next one is a step of the same transaction.
abbrev IsBehind : ℕ → Entry → List Entry → Type 0
IsBehind room entry [] = Unit {0}
IsBehind room entry (before ∷ older) = ((t : ℕ) → is_step_of t before ≡ true → is_step_of t entry ≡ true) ⊎ (line_of before + room < line_of entry)

abbrev HasRoom : ℕ → List Entry → Type 0
HasRoom room [] = Unit {0}
HasRoom room (entry ∷ older) = (last_line older < line_of entry) × (IsBehind room entry older × HasRoom room older)

room_rises : (room : ℕ) (entries : List Entry) → HasRoom room entries → LinesRise entries
room_rises room [] has = tt
room_rises room (entry ∷ older) has = (has.0, room_rises room older has.1.1)

less_behind : (room : ℕ) (entry : Entry) (older : List Entry) → IsBehind (suc room) entry older → IsBehind room entry older
less_behind room entry [] is = tt
less_behind room entry (before ∷ older) (inl same) = inl same
less_behind room entry (before ∷ older) (inr gap) = inr (omega (arith, gap))

less_room : (room : ℕ) (entries : List Entry) → HasRoom (suc room) entries → HasRoom room entries
less_room room [] has = tt
less_room room (entry ∷ older) has = (has.0, (less_behind room entry older has.1.0, less_room room older has.1.1))

-- ---- lines so many times as great

line_spread : (times : ℕ) (entry : Entry) → line_of (spread times entry) ≡ line_of entry * times
line_spread times (Created line session table) = refl
line_spread times (Began line session t level) = refl
line_spread times (Ran line session command t statement) = refl
line_spread times (Committed line session t) = refl
line_spread times (Ended line session end t) = refl

last_spread : (times : ℕ) (entries : List Entry) → last_line (map (spread times) entries) ≡ last_line entries * times
last_spread times [] = omega arith
last_spread times (entry ∷ older) = line_spread times entry

module _ (room : ℕ) where
  apart : (low high : ℕ) → low < high → low * suc room + room < high * suc room
  apart low high l = let much = mul-add-lt low (suc room) room high l (omega arith) in omega (arith, much)

  spread_behind : (entry : Entry) (older : List Entry) → last_line older < line_of entry → IsBehind room (spread (suc room) entry) (map (spread (suc room)) older)
  spread_behind entry [] l = tt
  spread_behind entry (before ∷ older) l =
      let much = apart (line_of before) (line_of entry) l in
      let one = line_spread (suc room) before in
      let two = line_spread (suc room) entry in
      inr (omega (arith, much, one, two))

  spread_room : (entries : List Entry) → LinesRise entries → HasRoom room (map (spread (suc room)) entries)
  spread_room [] rise = tt
  spread_room (entry ∷ older) rise =
      let much = apart (last_line older) (line_of entry) rise.0 in
      let one = last_spread (suc room) older in
      let two = line_spread (suc room) entry in
      (omega (arith, much, one, two), (spread_behind entry older rise.0, spread_room older rise.1))

-- ---- other statements on the same lines

data AreAlike : List Entry → List Entry → Type 0 where
  empty : AreAlike [] []
  front : (old new : Entry) (older others : List Entry) → line_of new ≡ line_of old → ((t : ℕ) → is_step_of t new ≡ is_step_of t old) → AreAlike older others
      → AreAlike (old ∷ older) (new ∷ others)

itself : (entries : List Entry) → AreAlike entries entries
itself [] = empty
itself (entry ∷ older) = front entry entry older older refl (λ t. refl) (itself older)

last_alike : {entries others : List Entry} → AreAlike entries others → last_line others ≡ last_line entries
last_alike empty = refl
last_alike (front old new older others line step rest) = line

behind_alike : (room : ℕ) (old new : Entry) {older others : List Entry} → line_of new ≡ line_of old → ((t : ℕ) → is_step_of t new ≡ is_step_of t old) → AreAlike older others
    → IsBehind room old older → IsBehind room new others
behind_alike room old new line step empty is = tt
behind_alike room old new line step (front before now older others under same rest) (inl steps) = inl (λ t own. step t ∙ steps t (sym (same t) ∙ own))
behind_alike room old new line step (front before now older others under same rest) (inr gap) = inr (omega (arith, gap, line, under))

room_alike : (room : ℕ) {entries others : List Entry} → AreAlike entries others → HasRoom room entries → HasRoom room others
room_alike room empty has = tt
room_alike room (front old new older others line step rest) has =
    let last = last_alike rest in
    let l = has.0 in
    (omega (arith, l, last, line), (behind_alike room old new line step rest has.1.0, room_alike room rest has.1.1))

module _ (t k : ℕ) (command : Command → Command) (statement : Statement → Statement) where
  other_alike : (entries : List Entry) → AreAlike entries (with_other t k command statement entries)
  other_alike [] = empty
  other_alike (Created line session table ∷ older) = front _ _ _ _ refl (λ u. refl) (other_alike older)
  other_alike (Began line session u level ∷ older) = front _ _ _ _ refl (λ v. refl) (other_alike older)
  other_alike (Ran line session own u now ∷ older) = by (is_at t k u older) (other_alike older)
    where
      by : (b : Bool) → AreAlike older (with_other t k command statement older)
          → AreAlike (Ran line session own u now ∷ older) (cond b (Ran line session (command own) u (statement now) ∷ older) (Ran line session own u now ∷ with_other t k command statement older))
      by true rest = front _ _ _ _ refl (λ v. refl) (itself older)
      by false rest = front _ _ _ _ refl (λ v. refl) rest
  other_alike (Committed line session u ∷ older) = front _ _ _ _ refl (λ v. refl) (other_alike older)
  other_alike (Ended line session end u ∷ older) = front _ _ _ _ refl (λ v. refl) (other_alike older)

all_dropped_alike : (t : ℕ) (entries : List Entry) → AreAlike entries (map (dropped_of t) entries)
all_dropped_alike t [] = empty
all_dropped_alike t (Created line session table ∷ older) = front _ _ _ _ refl (λ u. refl) (all_dropped_alike t older)
all_dropped_alike t (Began line session u level ∷ older) = front _ _ _ _ refl (λ v. refl) (all_dropped_alike t older)
all_dropped_alike t (Ran line session own u now ∷ older) = by (u == t) (all_dropped_alike t older)
  where
    by : (b : Bool) → AreAlike older (map (dropped_of t) older)
        → AreAlike (Ran line session own u now ∷ older) (cond b (Ran line session (dropped_command own) u (dropped_statement now)) (Ran line session own u now) ∷ map (dropped_of t) older)
    by true rest = front _ _ _ _ refl (λ v. refl) rest
    by false rest = front _ _ _ _ refl (λ v. refl) rest
all_dropped_alike t (Committed line session u ∷ older) = front _ _ _ _ refl (λ v. refl) (all_dropped_alike t older)
all_dropped_alike t (Ended line session end u ∷ older) = front _ _ _ _ refl (λ v. refl) (all_dropped_alike t older)

-- ---- a statement that is added

-- an entry is a step of one transaction alone
one_step : (t u : ℕ) (entry : Entry) → is_step_of t entry ≡ true → is_step_of u entry ≡ true → (t == u) ≡ true
one_step t u (Began line session v level) one two = eq-eqb t u (sym (eqb-true v t one) ∙ eqb-true v u two)
one_step t u (Ran line session command v statement) one two = eq-eqb t u (sym (eqb-true v t one) ∙ eqb-true v u two)
one_step t u (Created line session table) one two = absurd cc
one_step t u (Committed line session v) one two = absurd cc
one_step t u (Ended line session end v) one two = absurd cc

module _ (t : ℕ) (command : Command) (statement : Statement) (room : ℕ) where
  abbrev added : List Entry → List Entry
  added entries = with_added t command statement entries

  abbrev own_of : Entry → Entry
  own_of entry = Ran (suc (line_of entry)) (session_of entry) command t statement

  -- an entry that is no step of the transaction stands behind the log with the statement as it stood behind the log
  abbrev Follows : List Entry → List Entry → Type 0
  Follows entries new = (next : Entry) → is_step_of t next ≡ false → last_line entries < line_of next → IsBehind (suc room) next entries → (last_line new < line_of next) × IsBehind room next new

  added_room : (entries : List Entry) → HasRoom (suc room) entries → HasRoom room (added entries) × Follows entries (added entries)
  added_room [] has = (tt, λ next other l is. (l, tt))
  added_room (entry ∷ older) has = by (is_step_of t entry) refl (added_room older has.1.1)
    where
      behind_own : is_step_of t entry ≡ true → Follows (entry ∷ older) (own_of entry ∷ entry ∷ older)
      behind_own step next other l (inl same) = absurd (no (sym (same t step) ∙ other))
        where
          no : true ≡ false → ⊥
          no e = cc
      behind_own step next other l (inr gap) = (omega (arith, gap), inr (omega (arith, gap)))

      by : (b : Bool) → is_step_of t entry ≡ b → HasRoom room (added older) × Follows older (added older)
          → HasRoom room (cond b (own_of entry ∷ entry ∷ older) (entry ∷ added older)) × Follows (entry ∷ older) (cond b (own_of entry ∷ entry ∷ older) (entry ∷ added older))
      by true step rest = ((omega arith, (inl (λ u is. one_step t u entry step is), less_room room (entry ∷ older) has)), behind_own step)
      by false step rest =
          let here = rest.1 entry step has.0 has.1.0 in
          ((here.0, (here.1, rest.0)), λ next other l is. (l, less_behind room next (entry ∷ older) is))

-- ---- the changed log

abbrev IsSame : Result (List Entry) Refusal → Result (List Entry) Refusal → Type 0
IsSame one other = one ≡ other

same-ok : (a b : List Entry) → IsSame (Ok a) (Ok b) → a ≡ b
same-ok a b e = cc

module _ (parameters : Parameters) where
  -- a change leaves room for the statements of those behind it
  change_room : (room : ℕ) (entries new : List Entry) (change : LogChange) → HasRoom (cond (adds change) (suc room) room) entries → IsSame (changed parameters entries change) (Ok new) → HasRoom room new
  change_room room entries new (y.drop t k) has e =
      put parameters entries new (HasRoom room) (option_or (transaction_refusal t entries) (statement_refusal t k entries)) (Ok (tt {0}))
      (λ nothing. with_other t k dropped_command dropped_statement entries) e
      (λ nothing passes. room_alike room (other_alike t k dropped_command dropped_statement entries) has)
  change_room room entries new (y.drop_all t) has e =
      put parameters entries new (HasRoom room) (transaction_refusal t entries) (Ok (tt {0})) (λ nothing. map (dropped_of t) entries) e
      (λ nothing passes. room_alike room (all_dropped_alike t entries) has)
  change_room room entries new (y.replace t k command) has e =
      put parameters entries new (HasRoom room) (option_or (transaction_refusal t entries) (statement_refusal t k entries)) (parameters.checked (tables_before t k entries) command)
      (λ statement. with_other t k (λ own. command) (λ own. statement) entries) e
      (λ statement passes. room_alike room (other_alike t k (λ own. command) (λ own. statement) entries) has)
  change_room room entries new (y.add t command) has e =
      put parameters entries new (HasRoom room) (option_or (transaction_refusal t entries) (steps_refusal parameters entries t)) (parameters.checked (tables_at_end t entries) command)
      (λ statement. with_added t command statement entries) e
      (λ statement passes. (added_room t command statement room entries has).0)

  -- the changes that are left, with room for their statements
  abbrev room_for : List LogChange → ℕ
  room_for changes = length (filter adds changes)

  counted : (change : LogChange) (changes : List LogChange) → room_for (change ∷ changes) ≡ cond (adds change) (suc (room_for changes)) (room_for changes)
  counted change changes = by (adds change)
    where
      by : (b : Bool) → length (cond b (change ∷ filter adds changes) (filter adds changes)) ≡ cond b (suc (length (filter adds changes))) (length (filter adds changes))
      by true = refl
      by false = refl

  all_rise : (changes : List LogChange) (entries new : List Entry) → HasRoom (room_for changes) entries → IsSame (all_changed parameters (Ok entries) changes) (Ok new) → LinesRise new
  all_rise [] entries new has e = subst LinesRise (same-ok entries new e) (room_rises 0 entries has)
  all_rise (change ∷ changes) entries new has e = go (changed parameters entries change) refl (λ next. all_rise changes next new) e
    where
      go : (made : Result (List Entry) Refusal) → IsSame (changed parameters entries change) made
          → ((next : List Entry) → HasRoom (room_for changes) next → IsSame (all_changed parameters (Ok next) changes) (Ok new) → LinesRise new)
          → IsSame (all_changed parameters made changes) (Ok new) → LinesRise new
      go (Err refusal) is others e = absurd cc
      go (Ok next) is others e = others next (change_room (room_for changes) entries next change (subst (λ room. HasRoom room entries) (counted change changes) has) is) e

  pub changes_rise : (entries new : List Entry) (changes : List LogChange) → LinesRise entries → changed_log parameters entries changes ≡ Ok new → LinesRise new
  changes_rise entries new changes rise e = all_rise changes (map (spread (lines_for changes)) entries) new (spread_room (room_for changes) entries rise) e
