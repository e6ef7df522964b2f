-- The entries of the serial log say that the transactions run one after another in their order.
use Rattle.gp_serial.proofs.Prelude.{◌≡◌, ◌<◌, ◌≤◌, ◌+◌, ℕ, zero, suc, Bool, true, false, cond, List, [], ◌∷◌, length, get_or, refl, sym, ap, ◌∙◌, arith, ◌==◌, ◌||◌, nat_le, nat_lt, AllByRecursion, list_any, and_parts, false≢true, nat_tests, Table, eq_itself, Entry, log_of, transactions_in, versions_in, is_known, AreDistinct, place_in, tables_in}
use Rattle.gp_base.proofs.SmallLemmas.{eq_turned}
use Rattle.gp_machine.specs.Orders.{AreOnce}
use Rattle.gp_serial.specs.SerialLogs.{serial_entries}
use Rattle.gp_serial.proofs.SerialEntries.{AreNext, Says, base, behind, done_after, is_done, says_all, says_first}
use Rattle.gp_serial.proofs.SerialReplays.{SaysSerial}

-- ---- places

-- no number occurs twice
abbrev pub AreDifferent : List ℕ → Type 0
AreDifferent = AreDistinct (λ (t u : ℕ). t == u)

-- a number that is not there has no place
apart : (t : ℕ) (order : List ℕ) (u : ℕ) → list_any (λ other. other == t) order ≡ false → u < length order → (get_or order u 0 == t) ≡ false
apart t [] u none l = absurd (omega (arith, l))
apart t (w ∷ order) zero none l = by (w == t) none
  where
    by : (b : Bool) → b || list_any (λ other. other == t) order ≡ false → b ≡ false
    by true none = absurd (false≢true (sym none))
    by false none = refl
apart t (w ∷ order) (suc u) none l = by (λ none. apart t order u none (omega (arith, l))) (w == t) none
  where
    by : (list_any (λ other. other == t) order ≡ false → (get_or order u 0 == t) ≡ false) → (b : Bool) → b || list_any (λ other. other == t) order ≡ false → (get_or order u 0 == t) ≡ false
    by rest true none = absurd (false≢true (sym none))
    by rest false none = rest none

pub placed : (order : List ℕ) → AreDifferent order → (u : ℕ) → u < length order → place_in (get_or order u 0) order ≡ u
placed [] once u l = absurd (omega (arith, l))
placed (t ∷ order) (new, once) zero l = ap (λ b. cond b zero (suc (place_in t order))) (eq_itself t)
placed (t ∷ order) (new, once) (suc u) l =
    ap (λ b. cond b zero (suc (place_in (get_or order u 0) order))) (eq_turned (get_or order u 0) t (apart t order u new (omega (arith, l)))) ∙ ap suc (placed order once u (omega (arith, l)))

pub are_once : (order : List ℕ) → AreDifferent order → AreOnce order
are_once order once u v in_u in_v same = sym (placed order once u in_u) ∙ ap (λ t. place_in t order) same ∙ placed order once v in_v

-- ---- the transactions of an order that are done

done_long : (order done : List ℕ) → length (done_after done order) ≡ length done + length order
done_long [] done = omega arith
done_long (t ∷ order) done = omega (arith, done_long order (t ∷ done))

-- those behind it change nothing of a transaction
behind_kept : (t : ℕ) (order done : List ℕ) → list_any (λ other. other == t) order ≡ false → (is_done (done_after done order) t ≡ is_done done t) × (behind t (done_after done order) ≡ behind t done)
behind_kept t [] done none = (refl, refl)
behind_kept t (u ∷ order) done none = by (behind_kept t order (u ∷ done)) (u == t) refl none
  where
    by : (list_any (λ other. other == t) order ≡ false → (is_done (done_after (u ∷ done) order) t ≡ is_done (u ∷ done) t) × (behind t (done_after (u ∷ done) order) ≡ behind t (u ∷ done)))
        → (b : Bool) → (u == t) ≡ b → b || list_any (λ other. other == t) order ≡ false → (is_done (done_after (u ∷ done) order) t ≡ is_done done t) × (behind t (done_after (u ∷ done) order) ≡ behind t done)
    by kept true is none = absurd (false≢true (sym none))
    by kept false is none =
        let rest = kept none in
        (rest.0 ∙ ap (λ b. b || is_done done t) is, rest.1 ∙ ap (λ b. cond b (length done) (behind t done)) is)

none_more : (n : ℕ) → 0 + n ≡ n
none_more n = omega arith

pub done_at : (order done : List ℕ) → AreDifferent order → (u : ℕ) → u < length order
    → (is_done (done_after done order) (get_or order u 0) ≡ true) × (behind (get_or order u 0) (done_after done order) ≡ length done + u)
done_at [] done once u l = absurd (omega (arith, l))
done_at (t ∷ order) done (new, once) zero l =
    let rest = behind_kept t order (t ∷ done) new in
    (rest.0 ∙ ap (λ b. b || is_done done t) (eq_itself t), rest.1 ∙ ap (λ b. cond b (length done) (behind t done)) (eq_itself t) ∙ plus_none (length done))
  where
    plus_none : (n : ℕ) → n ≡ n + 0
    plus_none n = omega arith
done_at (t ∷ order) done (new, once) (suc u) l =
    let rest = done_at order (t ∷ done) once u (omega (arith, l)) in (rest.0, rest.1 ∙ plus_suc (length done) u)
  where
    plus_suc : (n u : ℕ) → suc n + u ≡ n + suc u
    plus_suc n u = omega arith

-- ---- the log

pub known_parts : (log : List Entry) (t : ℕ) → is_known t log ≡ true → (0 < t) × (t ≤ transactions_in log)
known_parts log t known = let parts = and_parts (nat_lt 0 t) (nat_le t (transactions_in log)) known in (above t parts.0, within t (transactions_in log) parts.1)
  where
    above : (t : ℕ) → nat_lt 0 t ≡ true → 0 < t
    above t e = grind (arith, nat_tests)

    within : (t n : ℕ) → nat_le t n ≡ true → t ≤ n
    within t n e = grind (arith, nat_tests)

module _ (log : List Entry) (tables : List Table) where
  -- none of these is done
  abbrev AreLeft : List ℕ → List ℕ → Type 0
  AreLeft done = AllByRecursion (λ t. is_done done t ≡ false)

  left_next : (t : ℕ) (done order : List ℕ) → list_any (λ other. other == t) order ≡ false → AreLeft done order → AreLeft (t ∷ done) order
  left_next t done [] none left = tt
  left_next t done (u ∷ order) none (own, left) = by (λ none. left_next t done order none left) (u == t) refl none
    where
      by : (list_any (λ other. other == t) order ≡ false → AreLeft (t ∷ done) order) → (b : Bool) → (u == t) ≡ b → b || list_any (λ other. other == t) order ≡ false → AreLeft (t ∷ done) (u ∷ order)
      by rest true is none = absurd (false≢true (sym none))
      by rest false is none = (ap (λ b. b || is_done done u) (eq_turned u t is) ∙ own, rest none)

  all_next : (order done : List ℕ) → AreDifferent order → AreLeft done order → AllByRecursion (λ t. is_known t log ≡ true) order → AreNext log tables done order
  all_next [] done once left known = tt
  all_next (t ∷ order) done (new, once) (own, left) (here, known) =
      let parts = known_parts log t here in (own, (parts.0, (parts.1, all_next order (t ∷ done) once (left_next t done order new left) known)))

  none_done : (order : List ℕ) → AreLeft [] order
  none_done [] = tt
  none_done (t ∷ order) = (refl, none_done order)

  module _ (order : List ℕ) (once : AreDifferent order) (known : AllByRecursion (λ t. is_known t log ≡ true) order) where
    abbrev own : List Entry
    own = serial_entries tables log order

    pub says : Says log tables (done_after [] order) own
    says = says_all log tables order [] (base log tables (transactions_in log)) (says_first log tables) (all_next order [] once (none_done order) known)

    pub own_versions : versions_in own ≡ length order
    own_versions = says.versions ∙ done_long order [] ∙ none_more (length order)

    pub own_tables : tables_in own ≡ tables
    own_tables = says.tables_are

    done_first : (u : ℕ) → u < length order → (is_done (done_after [] order) (get_or order u 0) ≡ true) × (behind (get_or order u 0) (done_after [] order) ≡ u)
    done_first u l = let at = done_at order [] once u l in (at.0, at.1 ∙ none_more u)

    pub says_serial : SaysSerial (log_of log) order (log_of own)
    says_serial = record {
      committer = λ u l. let at = done_first u l in ap (λ n. (log_of own).committer (suc n)) (sym at.1) ∙ says.maker (get_or order u 0) at.0;
      begin = λ u l. says.begin (get_or order u 0);
      version = λ u k l few. let at = done_first u l in says.version (get_or order u 0) k at.0 few ∙ at.1;
      count = λ u l. says.count (get_or order u 0) (done_first u l).0;
      statement = λ u k l few. says.statement (get_or order u 0) k (done_first u l).0 few;
    }
