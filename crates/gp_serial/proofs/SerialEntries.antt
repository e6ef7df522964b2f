-- What the entries of the serial log say of its transactions.
use Rattle.gp_serial.proofs.Prelude.{◌≡◌, ◌<◌, ◌≤◌, ℕ, zero, suc, Bool, true, false, cond, List, [], ◌∷◌, ◌++◌, length, map, reverse, Option, Some, None, refl, sym, ap, ◌∙◌, subst, arith, ⊎_elim, ◌==◌, ◌&&◌, ◌||◌, if◌then◌else◌, list_any, option_map_or, cases_lt, eqb-true, false≢true, Table, eq_itself, eq_not, Statement, reverse-append, reverse-reverse, Entry, Began, Created, Ran, committer_of, statement_at, statement_count, statement_version, transactions_in, versions_in, tables_in, no-statement}
use Rattle.gp_grammar.specs.Syntax as y
use Rattle.gp_machine.specs.Entries.{begin_version, is_read_committed, read_next}
use Rattle.gp_serial.specs.SerialLogs.{begun, created, with_statements, with_transaction, with_transactions}

-- ---- the statements of one transaction

module _ (log : List Entry) (t : ℕ) where
  -- what no statement of it changes
  pub kept : {X : Type 0} (f : List Entry → X) → ((statement : Statement) (es : List Entry) → f (Ran 0 t y.Command.commit t statement ∷ es) ≡ f es) → (m : ℕ) (es : List Entry)
      → f (with_statements log t m es) ≡ f es
  kept f same zero es = refl
  kept f same (suc m) es = by (statement_at t (suc m) log) ∙ kept f same m es
    where
      by : (found : Option Statement) → f (option_map_or (λ statement. Ran 0 t y.Command.commit t statement ∷ with_statements log t m es) found (with_statements log t m es)) ≡ f (with_statements log t m es)
      by None = refl
      by (Some statement) = same statement (with_statements log t m es)

  -- a statement that it has
  pub record Has (k : ℕ) : Type 0 where
    pub statement : Statement
    pub is : statement_at t (suc k) log ≡ Some statement

  pub has : (k : ℕ) → k < statement_count t log → Has k
  has k l = by (statement_at t (suc k) log) refl
    where
      by : (found : Option Statement) → statement_at t (suc k) log ≡ found → Has k
      by None is = absurd (⊎_elim (λ zero. omega arith) (λ over. omega (arith, over, l)) (no-statement t (suc k) log is))
      by (Some statement) is = record { statement = statement; is = is }

  added : (m : ℕ) (es : List Entry) (own : Has m) → with_statements log t (suc m) es ≡ Ran 0 t y.Command.commit t own.statement ∷ with_statements log t m es
  added m es own = ap (λ found. option_map_or (λ statement. Ran 0 t y.Command.commit t statement ∷ with_statements log t m es) found (with_statements log t m es)) own.is

  module _ (es : List Entry) (fresh : statement_count t es ≡ 0) where
    pub count_is : (m : ℕ) → m ≤ statement_count t log → statement_count t (with_statements log t m es) ≡ m
    count_is zero l = fresh
    count_is (suc m) l =
        ap (statement_count t) (added m es (has m (omega (arith, l))))
        ∙ ap (λ b. cond b (suc (statement_count t (with_statements log t m es))) (statement_count t (with_statements log t m es))) (eq_itself t)
        ∙ ap suc (count_is m (omega (arith, l)))

    at_is : (m k : ℕ) → m ≤ statement_count t log → k < m → statement_at t (suc k) (with_statements log t m es) ≡ statement_at t (suc k) log
    at_is zero k l less = absurd (omega (arith, less))
    at_is (suc m) k l less =
        let own = has m (omega (arith, l)) in
        ap (statement_at t (suc k)) (added m es own)
        ∙ (λ i. cond (eq_itself t i && (suc (count_is m (omega (arith, l)) i) == suc k)) (Some own.statement) (statement_at t (suc k) (with_statements log t m es)))
        ∙ by (λ less. at_is m k (omega (arith, l)) less) (suc m == suc k) refl own
      where
        by : (k < m → statement_at t (suc k) (with_statements log t m es) ≡ statement_at t (suc k) log) → (b : Bool) → (suc m == suc k) ≡ b → (own : Has m) → cond b (Some own.statement) (statement_at t (suc k) (with_statements log t m es)) ≡ statement_at t (suc k) log
        by rest true is own = let same : m ≡ k = omega (arith, eqb-true (suc m) (suc k) is) in sym own.is ∙ ap (λ n. statement_at t (suc n) log) same
        by rest false is own =
            rest
            (⊎_elim (λ below. below) (λ above. let same : k ≡ m = omega (arith, above, less) in absurd (false≢true (sym is ∙ ap (λ n. suc m == suc n) same ∙ eq_itself (suc m)))) (cases_lt k m))

    module _ (late : is_read_committed t es ≡ true) where
      version_is : (m k : ℕ) → m ≤ statement_count t log → k < m → statement_version t (suc k) (with_statements log t m es) ≡ versions_in es
      version_is zero k l less = absurd (omega (arith, less))
      version_is (suc m) k l less =
          let own = has m (omega (arith, l)) in
          ap (statement_version t (suc k)) (added m es own)
          ∙ (λ i. cond (eq_itself t i && (suc (count_is m (omega (arith, l)) i) == suc k)) (now i) (statement_version t (suc k) (with_statements log t m es)))
          ∙ by (λ less. version_is m k (omega (arith, l)) less) (suc m == suc k) refl
        where
          now : read_next t (with_statements log t m es) ≡ versions_in es
          now =
              (λ i. cond ((kept (is_read_committed t) (λ statement es. refl) m es ∙ late) i) (kept versions_in (λ statement es. refl) m es i) (begin_version t (with_statements log t m es)))

          by : (k < m → statement_version t (suc k) (with_statements log t m es) ≡ versions_in es) → (b : Bool) → (suc m == suc k) ≡ b → cond b (versions_in es) (statement_version t (suc k) (with_statements log t m es)) ≡ versions_in es
          by rest true is = refl
          by rest false is =
              rest
              (⊎_elim (λ below. below) (λ above. let same : k ≡ m = omega (arith, above, less) in absurd (false≢true (sym is ∙ ap (λ n. suc m == suc n) same ∙ eq_itself (suc m)))) (cases_lt k m))

-- ---- the transactions so far, the last one first

-- how many of these a transaction came behind
abbrev pub behind : ℕ → List ℕ → ℕ
behind t [] = zero
behind t (u ∷ done) = if u == t then length done else behind t done

abbrev pub is_done : List ℕ → ℕ → Bool
is_done done t = list_any (λ u. u == t) done

pub record Says (log : List Entry) (tables : List Table) (done : List ℕ) (es : List Entry) : Type 0 where
  pub versions : versions_in es ≡ length done
  pub tables_are : tables_in es ≡ tables
  pub begin : (t : ℕ) → begin_version t es ≡ 0
  pub late : (t : ℕ) → 0 < t → t ≤ transactions_in log → is_read_committed t es ≡ true
  pub maker : (t : ℕ) → is_done done t ≡ true → committer_of (suc (behind t done)) es ≡ t
  pub fresh : (t : ℕ) → is_done done t ≡ false → statement_count t es ≡ 0
  pub count : (t : ℕ) → is_done done t ≡ true → statement_count t es ≡ statement_count t log
  pub statement : (t k : ℕ) → is_done done t ≡ true → k < statement_count t log → statement_at t (suc k) es ≡ statement_at t (suc k) log
  pub version : (t k : ℕ) → is_done done t ≡ true → k < statement_count t log → statement_version t (suc k) es ≡ behind t done

behind_less : (done : List ℕ) (t : ℕ) → is_done done t ≡ true → behind t done < length done
behind_less [] t there = absurd (false≢true there)
behind_less (u ∷ done) t there = by (behind_less done t) (u == t) there
  where
    by : (is_done done t ≡ true → behind t done < length done) → (b : Bool) → b || is_done done t ≡ true → cond b (length done) (behind t done) < suc (length done)
    by rest true there = omega arith
    by rest false there = let less = rest there in omega (arith, less)

-- one more transaction
module _ (log : List Entry) (tables : List Table) (done : List ℕ) (es : List Entry) (says : Says log tables done es) (t : ℕ) (first : 0 < t) (last : t ≤ transactions_in log)
    (new : is_done done t ≡ false) where
  abbrev n : ℕ
  n = statement_count t log

  abbrev ran : List Entry
  ran = with_statements log t n es

  fresh : statement_count t es ≡ 0
  fresh = says.fresh t new

  made : versions_in ran ≡ length done
  made = kept log t versions_in (λ statement es. refl) n es ∙ says.versions

  -- another transaction
  module _ (u : ℕ) (other : (t == u) ≡ false) where
    count_kept : statement_count u ran ≡ statement_count u es
    count_kept = kept log t (statement_count u) (λ statement es. ap (λ b. cond b (suc (statement_count u es)) (statement_count u es)) other) n es

    at_kept : (k : ℕ) → statement_at u k ran ≡ statement_at u k es
    at_kept k = kept log t (statement_at u k) (λ statement es. ap (λ b. cond (b && (suc (statement_count u es) == k)) (Some statement) (statement_at u k es)) other) n es

    version_kept : (k : ℕ) → statement_version u (suc k) ran ≡ statement_version u (suc k) es
    version_kept k =
        kept log t (statement_version u (suc k)) (λ statement es. ap (λ b. cond (b && (suc (statement_count u es) == suc k)) (read_next u es) (statement_version u (suc k) es)) other) n es

  maker : (u : ℕ) → is_done (t ∷ done) u ≡ true → committer_of (suc (behind u (t ∷ done))) (with_transaction log t es) ≡ u
  maker u there = by (t == u) refl there
    where
      by : (b : Bool) → (t == u) ≡ b → b || is_done done u ≡ true
          → cond (suc (versions_in ran) == suc (cond b (length done) (behind u done))) t (committer_of (suc (cond b (length done) (behind u done))) ran) ≡ u
      by true is there =
          ap (λ b. cond b t (committer_of (suc (length done)) ran)) (ap (λ v. suc v == suc (length done)) made ∙ eq_itself (suc (length done))) ∙ eqb-true t u is
      by false is there =
          let less = behind_less done u there in
          ap (λ b. cond b t (committer_of (suc (behind u done)) ran)) (eq_not (suc (versions_in ran)) (suc (behind u done)) (λ same. omega (arith, same, made, less)))
          ∙ kept log t (committer_of (suc (behind u done))) (λ statement es. refl) n es
          ∙ says.maker u there

  pub says_next : Says log tables (t ∷ done) (with_transaction log t es)
  says_next = record {
    versions = ap suc made;
    tables_are = kept log t tables_in (λ statement es. refl) n es ∙ says.tables_are;
    begin = λ u. kept log t (begin_version u) (λ statement es. refl) n es ∙ says.begin u;
    late = λ u positive known. kept log t (is_read_committed u) (λ statement es. refl) n es ∙ says.late u positive known;
    maker = maker;
    fresh = λ u none. fresh_by u (t == u) refl none;
    count = λ u there. count_by u (t == u) refl there;
    statement = λ u k there l. statement_by u k (t == u) refl there l;
    version = λ u k there l. version_by u k (t == u) refl there l;
  }
    where
      fresh_by : (u : ℕ) (b : Bool) → (t == u) ≡ b → b || is_done done u ≡ false → statement_count u ran ≡ 0
      fresh_by u true is none = absurd (false≢true (sym none))
      fresh_by u false is none = count_kept u is ∙ says.fresh u none

      count_by : (u : ℕ) (b : Bool) → (t == u) ≡ b → b || is_done done u ≡ true → statement_count u ran ≡ statement_count u log
      count_by u true is there = subst (λ w. statement_count w ran ≡ statement_count w log) (eqb-true t u is) (count_is log t es fresh n (omega arith))
      count_by u false is there = count_kept u is ∙ says.count u there

      statement_by : (u k : ℕ) (b : Bool) → (t == u) ≡ b → b || is_done done u ≡ true → k < statement_count u log → statement_at u (suc k) ran ≡ statement_at u (suc k) log
      statement_by u k true is there l =
          subst (λ w. k < statement_count w log → statement_at w (suc k) ran ≡ statement_at w (suc k) log) (eqb-true t u is) (λ l. at_is log t es fresh n k (omega arith) l) l
      statement_by u k false is there l = at_kept u is (suc k) ∙ says.statement u k there l

      version_by : (u k : ℕ) (b : Bool) → (t == u) ≡ b → b || is_done done u ≡ true → k < statement_count u log
          → statement_version u (suc k) ran ≡ cond b (length done) (behind u done)
      version_by u k true is there l =
          subst (λ w. k < statement_count w log → statement_version w (suc k) ran ≡ length done) (eqb-true t u is)
          (λ l. version_is log t es fresh (says.late t first last) n k (omega arith) l ∙ says.versions) l
      version_by u k false is there l = version_kept u is k ∙ says.version u k there l

-- ---- before the first of them

pub tables_from : (own : List Table) → tables_in (map (Created 0 0) own) ≡ reverse own
tables_from [] = refl
tables_from (table ∷ own) = ap (λ before. before ++ table ∷ []) (tables_from own) ∙ sym (reverse-append (table ∷ []) own)

-- those that are done behind an order, the last ones first
abbrev pub done_after : List ℕ → List ℕ → List ℕ
done_after done [] = done
done_after done (t ∷ order) = done_after (t ∷ done) order

module _ (log : List Entry) (tables : List Table) where
  abbrev pub base : ℕ → List Entry
  base n = begun n (created tables)

  -- what no CREATE TABLE changes
  of_tables : {X : Type 0} (f : List Entry → X) → ((table : Table) (es : List Entry) → f (Created 0 0 table ∷ es) ≡ f es) → (own : List Table) → f (map (Created 0 0) own) ≡ f []
  of_tables f same [] = refl
  of_tables f same (table ∷ own) = same table (map (Created 0 0) own) ∙ of_tables f same own

  -- what no BEGIN changes
  of_begins : {X : Type 0} (f : List Entry → X) → ((t : ℕ) (es : List Entry) → f (Began 0 t t true ∷ es) ≡ f es) → (n : ℕ) (es : List Entry) → f (begun n es) ≡ f es
  of_begins f same zero es = refl
  of_begins f same (suc n) es = same (suc n) (begun n es) ∙ of_begins f same n es

  none_made : (n : ℕ) → versions_in (base n) ≡ 0
  none_made n = of_begins versions_in (λ t es. refl) n (created tables) ∙ of_tables versions_in (λ table es. refl) (reverse tables)

  began_none : (n t : ℕ) → begin_version t (base n) ≡ 0
  began_none zero t = of_tables (begin_version t) (λ table es. refl) (reverse tables)
  began_none (suc n) t = by (began_none n t) (suc n == t)
    where
      by : begin_version t (base n) ≡ 0 → (b : Bool) → cond b (versions_in (base n)) (begin_version t (base n)) ≡ 0
      by rest true = none_made n
      by rest false = rest

  all_late : (n t : ℕ) → 0 < t → t ≤ n → is_read_committed t (base n) ≡ true
  all_late zero t positive known = absurd (omega (arith, positive, known))
  all_late (suc n) t positive known = by (all_late n t positive) (suc n == t) refl
    where
      by : (t ≤ n → is_read_committed t (base n) ≡ true) → (b : Bool) → (suc n == t) ≡ b → cond b true (is_read_committed t (base n)) ≡ true
      by rest true is = refl
      by rest false is = rest (⊎_elim (λ below. omega (arith, below)) (λ above. absurd (false≢true (sym is ∙ ap (λ m. suc n == m) (same above) ∙ eq_itself (suc n)))) (cases_lt t (suc n)))
        where
          same : suc n ≤ t → t ≡ suc n
          same above = omega (arith, above, known)

  pub says_first : Says log tables [] (base (transactions_in log))
  says_first = record {
    versions = none_made (transactions_in log);
    tables_are = of_begins tables_in (λ t es. refl) (transactions_in log) (created tables) ∙ tables_from (reverse tables) ∙ reverse-reverse tables;
    begin = began_none (transactions_in log);
    late = all_late (transactions_in log);
    maker = λ t there. absurd (false≢true there);
    fresh = λ t none. of_begins (statement_count t) (λ u es. refl) (transactions_in log) (created tables) ∙ of_tables (statement_count t) (λ table es. refl) (reverse tables);
    count = λ t there. absurd (false≢true there);
    statement = λ t k there l. absurd (false≢true there);
    version = λ t k there l. absurd (false≢true there);
  }

  -- those of an order, none of which is done, and no two of which are one
  abbrev pub AreNext : List ℕ → List ℕ → Type 0
  AreNext done [] = Unit {0}
  AreNext done (t ∷ order) = (is_done done t ≡ false) × ((0 < t) × ((t ≤ transactions_in log) × AreNext (t ∷ done) order))

  pub says_all : (order done : List ℕ) (es : List Entry) → Says log tables done es → AreNext done order → Says log tables (done_after done order) (with_transactions log order es)
  says_all [] done es says next = says
  says_all (t ∷ order) done es says (new, (first, (last, next))) = says_all order (t ∷ done) (with_transaction log t es) (says_next log tables done es says t first last new) next
