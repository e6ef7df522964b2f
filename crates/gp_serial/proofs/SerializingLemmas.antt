-- The transactions that committed, and an order of them.
use Rattle.gp_serial.proofs.Prelude.{◌≡◌, ◌≢◌, ◌<◌, ◌≤◌, ◌+◌, ℕ, zero, suc, Bool, true, false, cond, List, [], ◌∷◌, ◌++◌, length, get_or, Option, Some, None, refl, sym, ap, ◌∙◌, subst, arith, add-one, length-append, ⊎_elim, ◌==◌, ◌&&◌, ◌||◌, filter, find, nat_le, nat_lt, not, Contains, AllByRecursion, list_any, option_map, option_map_or, cases_lt, eqb-true, false≢true, nat_tests, get_or_default_zero, get_or-map, length-map, list_any-append, unannotated, as_long, eq_itself, none_parts, some_none, tables_in, parameters, KeepsSessions, Entry, committer_of, log_of, statement_count, transactions_in, versions_in, as_of, RunStop, run_stop, is_before, numbers, RowChange, is_known, stop_refusal, Span}
use Rattle.std.proofs.Common.{◌^◌, is_some}
use Rattle.gp_base.proofs.Bags.{any_same}
use Rattle.gp_log.proofs.KeptSessions.{orderly}
use Rattle.gp_machine.specs.Entries.{is_commit, version_of}
use Rattle.gp_machine.specs.SerialRuns.{is_serial}
use Rattle.gp_machine.proofs.EntryCounts.{count-most}
use Rattle.gp_machine.proofs.HeldPoints.{version_is}
use Rattle.gp_serial.specs.Graphs.{is_free, least_cycle, order_of, ordered}
use Rattle.gp_serial.specs.Preceding.{IsMadeBy, IsPrecedence}
use Rattle.gp_serial.specs.SerialLogs.{AreFew}
use Rattle.gp_serial.specs.SerialViews.{cycle_answer}
use Rattle.gp_machine.specs.SerialForms.{committers}
use Rattle.gp_serial.specs.Serializing.{InOrder, Serial, Undecided, by_number, runs_refusal, serial_by, serial_of}
use Rattle.gp_serial.proofs.AgreeLemmas.{least_agree, order_agree}
use Rattle.gp_serial.proofs.OrderLemmas.{AreDifferent, order_takes, rest_of, without_different}
use Rattle.gp_serial.proofs.WholeOrders.{is_in, none_least}
use Rattle.gp_merge.proofs.NormalLemmas.{either_false}

-- ---- numbers

pub numbers_long : (n : ℕ) → length (numbers n) ≡ n
numbers_long zero = refl
numbers_long (suc n) = length-append (numbers n) (suc n ∷ []) ∙ add-one (length (numbers n)) ∙ ap suc (numbers_long n)

at_end : (xs : List ℕ) (x : ℕ) (n : ℕ) → n ≡ length xs → get_or (xs ++ x ∷ []) n 0 ≡ x
at_end [] x zero e = refl
at_end [] x (suc n) e = absurd (omega (arith, e))
at_end (y ∷ xs) x zero e = absurd (omega (arith, e))
at_end (y ∷ xs) x (suc n) e = at_end xs x n (omega (arith, e))

at_front : (xs ys : List ℕ) (n : ℕ) → n < length xs → get_or (xs ++ ys) n 0 ≡ get_or xs n 0
at_front [] ys n l = absurd (omega (arith, l))
at_front (x ∷ xs) ys zero l = refl
at_front (x ∷ xs) ys (suc n) l = at_front xs ys n (omega (arith, l))

pub numbers_at : (n u : ℕ) → u < n → get_or (numbers n) u 0 ≡ suc u
numbers_at zero u l = absurd (omega (arith, l))
numbers_at (suc n) u l =
    ⊎_elim
    (λ below. at_front (numbers n) (suc n ∷ []) u (omega (arith, below, numbers_long n)) ∙ numbers_at n u below)
    (λ above. at_end (numbers n) (suc n) u (omega (arith, above, l, numbers_long n)) ∙ ap suc (same above))
    (cases_lt u n)
  where
    same : n ≤ u → n ≡ u
    same above = omega (arith, above, l)

-- ---- lists without doubles

none_of : (list : List ℕ) (t : ℕ) → ((u : ℕ) → u < length list → get_or list u 0 ≢ t) → list_any (λ other. other == t) list ≡ false
none_of [] t other = refl
none_of (x ∷ list) t other = by (x == t) refl (none_of list t (λ u l. other (suc u) (omega (arith, l))))
  where
    by : (b : Bool) → (x == t) ≡ b → list_any (λ other. other == t) list ≡ false → b || list_any (λ other. other == t) list ≡ false
    by true is rest = absurd (other zero (omega arith) (eqb-true x t is))
    by false is rest = rest

distinct_from : (list : List ℕ) → ((u v : ℕ) → u < v → v < length list → get_or list u 0 ≢ get_or list v 0) → AreDifferent list
distinct_from [] apart = tt
distinct_from (x ∷ list) apart =
    (none_of list x (λ u l same. apart zero (suc u) (omega arith) (omega (arith, l)) (sym same)), distinct_from list (λ u v less l. apart (suc u) (suc v) (omega (arith, less)) (omega (arith, l))))

-- a test that none passes
pub each_fails : (p : ℕ → Bool) (list : List ℕ) → ((u : ℕ) → u < length list → p (get_or list u 0) ≡ false) → list_any p list ≡ false
each_fails p [] each = refl
each_fails p (x ∷ list) each = λ i. each zero (omega arith) i || each_fails p list (λ u l. each (suc u) (omega (arith, l))) i

pub each_from : (P : ℕ → Type 0) (p : ℕ → Bool) (list : List ℕ) → ((t : ℕ) → p t ≡ false → P t) → list_any p list ≡ false → AllByRecursion P list
each_from P p [] holds none = tt
each_from P p (x ∷ list) holds none = by (p x) refl none (each_from P p list holds)
  where
    by : (b : Bool) → p x ≡ b → b || list_any p list ≡ false → (list_any p list ≡ false → AllByRecursion P list) → AllByRecursion P (x ∷ list)
    by true is none rest = absurd (false≢true (sym none))
    by false is none rest = (holds x is, rest none)

-- ---- what is in a list

positive : (b : Bool) → not b ≡ false → b ≡ true
positive true e = refl
positive false e = absurd (false≢true (sym e))

in_at : (list : List ℕ) (u : ℕ) → u < length list → is_in list (get_or list u 0) ≡ true
in_at [] u l = absurd (omega (arith, l))
in_at (t ∷ list) zero l = ap (λ b. b || is_in list t) (eq_itself t)
in_at (t ∷ list) (suc u) l = any_more (t == get_or list u 0) (is_in list (get_or list u 0)) (in_at list u (omega (arith, l)))
  where
    any_more : (x y : Bool) → y ≡ true → (x || y) ≡ true
    any_more true y e = refl
    any_more false y e = e

contains_in : (list : List ℕ) (t : ℕ) → Contains list t → is_in list t ≡ true
contains_in list t (u, within, at) = subst (λ w. is_in list w ≡ true) (sym (get_or_default_zero list u t within) ∙ at) (in_at list u within)

each_place : (P : ℕ → Type 0) (list : List ℕ) → ((u : ℕ) → u < length list → P (get_or list u 0)) → AllByRecursion P list
each_place P [] each = tt
each_place P (x ∷ list) each = (each zero (omega arith), each_place P list (λ u l. each (suc u) (omega (arith, l))))

-- ---- orders without doubles

gone : (t : ℕ) (left : List ℕ) → list_any (λ other. other == t) (filter (λ other. not (other == t)) left) ≡ false
gone t [] = refl
gone t (u ∷ left) = by (u == t) refl (gone t left)
  where
    by : (b : Bool) → (u == t) ≡ b → list_any (λ other. other == t) (filter (λ other. not (other == t)) left) ≡ false
        → list_any (λ other. other == t) (cond (not b) (u ∷ filter (λ other. not (other == t)) left) (filter (λ other. not (other == t)) left)) ≡ false
    by true is rest = rest
    by false is rest = λ i. is i || rest i

module _ (is_before : ℕ → ℕ → Bool) where
  -- what none passes, none of an order passes
  ordered_fails : (p : ℕ → Bool) (more : ℕ) (left : List ℕ) → AreDifferent left → list_any p left ≡ false → list_any p (ordered is_before more left) ≡ false
  ordered_fails p more left once none =
      either_false (list_any p (ordered is_before more left)) (list_any p (rest_of is_before more left))
      (sym (list_any-append p (ordered is_before more left) (rest_of is_before more left)) ∙ any_same p (order_takes is_before more left once) ∙ none)

  ordered_different : (more : ℕ) (left : List ℕ) → AreDifferent left → AreDifferent (ordered is_before more left)
  ordered_different zero left once = tt
  ordered_different (suc more) left once =
      by (find (is_free is_before left) left) (λ t. ordered_different more (filter (λ other. not (other == t)) left) (without_different t left once))
      (λ t. ordered_fails (λ other. other == t) more (filter (λ other. not (other == t)) left) (without_different t left once) (gone t left))
    where
      by : (found : Option ℕ) → ((t : ℕ) → AreDifferent (ordered is_before more (filter (λ other. not (other == t)) left)))
          → ((t : ℕ) → list_any (λ other. other == t) (ordered is_before more (filter (λ other. not (other == t)) left)) ≡ false)
          → AreDifferent (option_map_or (λ (t : ℕ). t ∷ ordered is_before more (filter (λ other. not (other == t)) left)) found [])
      by None rest none = tt
      by (Some t) rest none = (none t, rest t)

-- ---- the transactions that committed

module _ (entries : List Entry) (keeps : KeepsSessions entries) where
  abbrev all : List ℕ
  all = committers entries

  abbrev versions : ℕ
  versions = versions_in entries

  pub all_long : length all ≡ versions
  all_long = length-map (numbers versions) (λ version. committer_of version entries) ∙ numbers_long versions

  pub all_at : (u : ℕ) → u < versions → get_or all u 0 ≡ committer_of (suc u) entries
  all_at u l =
      get_or-map (λ version. committer_of version entries) (numbers versions) u 0 0 (omega (arith, l, numbers_long versions)) ∙ ap (λ version. committer_of version entries) (numbers_at versions u l)

  pub all_different : AreDifferent all
  all_different =
      distinct_from all (λ u v less l same.
      (orderly entries keeps).once u v less (omega (arith, l, all_long))
      (sym (all_at u (omega (arith, less, l, all_long))) ∙ same ∙ all_at v (omega (arith, l, all_long))))

  pub maker_known : (u : ℕ) → u < versions → is_known (committer_of (suc u) entries) entries ≡ true
  maker_known u l = known (committer_of (suc u) entries) ((orderly entries keeps).makers u l)
    where
      known : (t : ℕ) → (1 ≤ t) × (t ≤ transactions_in entries) → is_known t entries ≡ true
      known t (first, most) = λ i. above t first i && within t (transactions_in entries) most i
        where
          above : (t : ℕ) → 1 ≤ t → nat_lt 0 t ≡ true
          above t first = grind (arith, nat_tests)

          within : (t n : ℕ) → t ≤ n → nat_le t n ≡ true
          within t n most = grind (arith, nat_tests)

  known_at : (u : ℕ) → u < length all → is_known (get_or all u 0) entries ≡ true
  known_at u l = ap (λ t. is_known t entries) (all_at u (omega (arith, l, all_long))) ∙ maker_known u (omega (arith, l, all_long))

  pub made_by : IsMadeBy entries all
  made_by = record {
    is = λ t there. few t there;
    all = λ t version is. found t version is;
  }
    where
      few : (t : ℕ) → Contains all t → t ≤ transactions_in entries
      few t (u, within, at) =
          let inside : u < versions = omega (arith, within, all_long) in
          let own : committer_of (suc u) entries ≡ t = sym (all_at u inside) ∙ sym (get_or_default_zero all u t within) ∙ at in
          let made = (orderly entries keeps).makers u inside in
          omega (arith, own, made.1)

      found : (t version : ℕ) → version_of t entries ≡ Some version → Contains all t
      found t version is =
          let own = version_is t version entries is in
          let within : own.earlier < length all = omega (arith, own.within, all_long) in
          (own.earlier, within, get_or_default_zero all own.earlier t within ∙ all_at own.earlier own.within ∙ own.made)

  -- the stop of the one that made a version
  abbrev stop_at : (ℕ → List Span) → ℕ → Option RunStop
  stop_at spans u = run_stop unannotated parameters (log_of entries) (committer_of (suc u) entries) (statement_count (committer_of (suc u) entries) entries) (as_of unannotated spans)

  none_stops : (found : Option RunStop) → option_map stop_refusal found ≡ None → found ≡ None
  none_stops None e = refl
  none_stops (Some stop) e = absurd (some_none (stop_refusal stop) e)

  runs_upto : (spans : ℕ → List Span) (n u : ℕ) → u < n → runs_refusal parameters entries spans n ≡ None → stop_at spans u ≡ None
  runs_upto spans zero u l none = absurd (omega (arith, l))
  runs_upto spans (suc n) u l none =
      let both = none_parts (runs_refusal parameters entries spans n) (option_map stop_refusal (stop_at spans n)) none in
      ⊎_elim
      (λ below. runs_upto spans n u below both.0)
      (λ above. subst (λ v. stop_at spans v ≡ None) (same above) (none_stops (stop_at spans n) both.1))
      (cases_lt u n)
    where
      same : n ≤ u → n ≡ u
      same above = omega (arith, above, l)

  -- whether one does not run whole
  abbrev stops : (ℕ → List Span) → ℕ → Bool
  stops spans t = is_some (run_stop unannotated parameters (log_of entries) t (statement_count t entries) (as_of unannotated spans))

  all_run : (spans : ℕ → List Span) → runs_refusal parameters entries spans versions ≡ None → list_any (stops spans) all ≡ false
  all_run spans none = each_fails (stops spans) all (λ u l.
      ap (stops spans) (all_at u (omega (arith, l, all_long))) ∙ ap is_some (runs_upto spans versions u (omega (arith, l, all_long)) none))

  all_known : list_any (λ t. not (is_known t entries)) all ≡ false
  all_known = each_fails (λ t. not (is_known t entries)) all (λ u l. ap not (known_at u l))

  -- those by their numbers are among them
  numbered : (P : ℕ → Type 0) → ((t : ℕ) → Contains all t → P t) → (list : List ℕ) → AllByRecursion P (filter (λ t. is_some (version_of t entries)) list)
  numbered P holds [] = tt
  numbered P holds (t ∷ list) = by (version_of t entries) refl (numbered P holds list)
    where
      by : (found : Option ℕ) → version_of t entries ≡ found → AllByRecursion P (filter (λ t. is_some (version_of t entries)) list)
          → AllByRecursion P (cond (is_some found) (t ∷ filter (λ t. is_some (version_of t entries)) list) (filter (λ t. is_some (version_of t entries)) list))
      by None is rest = rest
      by (Some version) is rest = (holds t (made_by.all t version is), rest)

  pub by_number_in : (P : ℕ → Type 0) → ((t : ℕ) → Contains all t → P t) → AllByRecursion P (by_number entries)
  by_number_in P holds = numbered P holds (numbers (transactions_in entries))

  pub all_in : (P : ℕ → Type 0) → ((t : ℕ) → Contains all t → P t) → AllByRecursion P all
  all_in P holds = each_place P all (λ u l. holds (get_or all u 0) (u, l, get_or_default_zero all u (get_or all u 0) l))

  -- ---- an order of them

  module _ (is_before : ℕ → ℕ → Bool) where
    abbrev order : List ℕ
    order = order_of is_before all

    order_fails : (p : ℕ → Bool) → list_any p all ≡ false → list_any p order ≡ false
    order_fails p none = ordered_fails is_before p (length all) all all_different none

    pub order_known : AllByRecursion (λ t. is_known t entries ≡ true) order
    order_known = each_from (λ t. is_known t entries ≡ true) (λ t. not (is_known t entries)) order (λ t. positive (is_known t entries)) (order_fails (λ t. not (is_known t entries)) all_known)

    pub order_runs : (spans : ℕ → List Span) → runs_refusal parameters entries spans versions ≡ None
        → AllByRecursion (λ t. run_stop unannotated parameters (log_of entries) t (statement_count t entries) (as_of unannotated spans) ≡ None) order
    order_runs spans none =
        each_from (λ t. run_stop unannotated parameters (log_of entries) t (statement_count t entries) (as_of unannotated spans) ≡ None) (stops spans) order
        (λ t. absent (run_stop unannotated parameters (log_of entries) t (statement_count t entries) (as_of unannotated spans))) (order_fails (stops spans) (all_run spans none))
      where
        absent : (found : Option RunStop) → is_some found ≡ false → found ≡ None
        absent None e = refl
        absent (Some stop) e = absurd (false≢true (sym e))

    order_long : length order + length (rest_of is_before (length all) all) ≡ length all
    order_long = sym (length-append order (rest_of is_before (length all) all)) ∙ as_long (order_takes is_before (length all) all all_different)

    pub order_most : length order ≤ versions
    order_most = omega (arith, order_long, all_long)

    pub order_different : AreDifferent order
    order_different = ordered_different is_before (length all) all all_different

    -- a whole one leaves none, and there is no cycle
    pub whole_rest : length all ≤ length order → rest_of is_before (length all) all ≡ []
    whole_rest whole = empty (rest_of is_before (length all) all) (omega (arith, whole, order_long))
      where
        empty : (rest : List ℕ) → length rest ≡ 0 → rest ≡ []
        empty [] e = refl
        empty (t ∷ rest) e = absurd (omega (arith, e))

    pub no_cycle : length all ≤ length order → least_cycle is_before (by_number entries) ≡ []
    no_cycle whole =
        none_least is_before all (whole_rest whole) (all_in (λ t. is_in all t ≡ true) (contains_in all)) (by_number entries) (by_number_in (λ t. is_in all t ≡ true) (contains_in all))

-- ---- the answer, given a relation that agrees on them

module _ (entries : List Entry) (keeps : KeepsSessions entries) (changes : List RowChange) (spans : ℕ → List Span) (relation : ℕ → ℕ → Bool)
    (agrees : IsPrecedence (tables_in entries) entries changes (committers entries) relation) where
  abbrev before : ℕ → ℕ → Bool
  before = is_before (tables_in entries) entries changes

  pub order_same : order_of relation (committers entries) ≡ order_of before (committers entries)
  order_same = order_agree relation before (Contains (committers entries)) agrees (length (committers entries)) (committers entries) (all_in entries keeps (Contains (committers entries)) (λ t there. there))

  pub least_same : least_cycle relation (by_number entries) ≡ least_cycle before (by_number entries)
  least_same = least_agree relation before (Contains (committers entries)) agrees (by_number entries) (by_number_in entries keeps (Contains (committers entries)) (λ t there. there))

  abbrev answer : Serial
  answer = serial_of (tables_in entries) entries changes parameters spans

  not_equal : (a b : ℕ) → a < b → (a == b) ≡ false
  not_equal a b l = grind (arith, nat_tests)

  pub short_answer : length (order_of relation (committers entries)) < length (committers entries) → cycle_answer (tables_in entries) entries changes (least_cycle relation (by_number entries)) ≡ answer
  short_answer short = ap (cycle_answer (tables_in entries) entries changes) least_same ∙ by (least_cycle before (by_number entries))
    where
      by : (cycle : List ℕ) → cycle_answer (tables_in entries) entries changes cycle ≡ serial_by (tables_in entries) entries changes parameters spans cycle
      by [] = sym (ap (λ b. cond (b && is_serial parameters (log_of entries) (length (tables_in entries)) (as_of unannotated spans) (order_of before (committers entries)))
          (InOrder (order_of before (committers entries))) Undecided) (ap (λ n. n == length (committers entries)) (ap length (sym order_same)) ∙ not_equal (length (order_of relation (committers entries))) (length (committers entries)) short))
      by (first ∷ others) = refl

  pub whole_answer : length (committers entries) ≤ length (order_of relation (committers entries))
      → cond (is_serial parameters (log_of entries) (length (tables_in entries)) (as_of unannotated spans) (order_of relation (committers entries))) (InOrder (order_of relation (committers entries))) Undecided ≡ answer
  whole_answer whole =
      ap (λ order. cond (is_serial parameters (log_of entries) (length (tables_in entries)) (as_of unannotated spans) order) (InOrder order) Undecided) order_same
      ∙ sym (ap (serial_by (tables_in entries) entries changes parameters spans) (no_cycle entries keeps before (omega (arith, whole, ap length order_same)))
      ∙ ap (λ b. cond (b && is_serial parameters (log_of entries) (length (tables_in entries)) (as_of unannotated spans) (order_of before (committers entries))) (InOrder (order_of before (committers entries))) Undecided)
      (ap (λ n. n == length (committers entries)) as_long ∙ eq_itself (length (committers entries))))
    where
      as_long : length (order_of before (committers entries)) ≡ length (committers entries)
      as_long = omega (arith, whole, ap length order_same, order_most entries keeps before, all_long entries keeps)

  pub order_few : (log : List Entry) → log ≡ entries → length entries + length entries < 2 ^ 32 → AreFew log (order_of relation (committers entries))
  order_few log is few = subst (λ (l : List Entry). AreFew l (order_of relation (committers entries))) (sym is) (subst (AreFew entries) (sym order_same) (record {
    once = order_different entries keeps before;
    known = order_known entries keeps before;
    most = omega (arith, order_most entries keeps before, count-most is_commit entries);
    few = few;
  }))

  pub order_whole : runs_refusal parameters entries spans (versions_in entries) ≡ None
      → AllByRecursion (λ t. run_stop unannotated parameters (log_of entries) t (statement_count t entries) (as_of unannotated spans) ≡ None) (order_of relation (committers entries))
  order_whole none =
      subst (AllByRecursion (λ t. run_stop unannotated parameters (log_of entries) t (statement_count t entries) (as_of unannotated spans) ≡ None)) (sym order_same) (order_runs entries keeps before spans none)
