-- The serial log keeps its sessions, and its statements fit its tables: so it can be replayed.
use Rattle.gp_serial.proofs.Prelude.{◌≡◌, ◌<◌, ◌≤◌, ℕ, zero, suc, Bool, true, false, cond, List, [], ◌∷◌, map, reverse, Option, Some, None, refl, sym, ap, ◌∙◌, subst, arith, ⊎_elim, ◌==◌, ◌&&◌, ◌||◌, AllByRecursion, list_any, option_map_or, cases_lt, eqb-true, false≢true, Table, eq_itself, eq_not, Statement, Entry, Created, Ran, statement_at, statement_count, transactions_in, is_known, AreDistinct, statements_fit, KeepsSessions, FitsIfSome, logged_fits, IsReplayable}
use Rattle.gp_grammar.specs.Syntax as y
use Rattle.gp_log.specs.Discipline.{transaction_in}
use Rattle.gp_serial.specs.SerialLogs.{begun, created, serial_entries, with_statements, with_transaction, with_transactions}
use Rattle.gp_serial.proofs.SerialEntries.{kept}
use Rattle.gp_serial.proofs.SerialOrders.{known_parts, own_tables}

-- ---- sessions

none_in_tables : (session : ℕ) (own : List Table) → transaction_in session (map (Created 0 0) own) ≡ None
none_in_tables session [] = refl
none_in_tables session (table ∷ own) = none_in_tables session own

tables_keep : (own : List Table) → KeepsSessions (map (Created 0 0) own)
tables_keep [] = tt
tables_keep (table ∷ own) = (none_in_tables 0 own, tables_keep own)

none_began : (own : List Table) → transactions_in (map (Created 0 0) own) ≡ 0
none_began [] = refl
none_began (table ∷ own) = none_began own

module _ (tables : List Table) where
  abbrev started : ℕ → List Entry
  started n = begun n (created tables)

  began : (n : ℕ) → transactions_in (started n) ≡ n
  began zero = none_began (reverse tables)
  began (suc n) = ap suc (began n)

  later_none : (n session : ℕ) → n < session → transaction_in session (started n) ≡ None
  later_none zero session l = none_in_tables session (reverse tables)
  later_none (suc n) session l = ap (λ b. cond b (Some (suc n)) (transaction_in session (started n))) (eq_not session (suc n) (λ is. omega (arith, is, l))) ∙ later_none n session (omega (arith, l))

  begins_keep : (n : ℕ) → KeepsSessions (started n)
  begins_keep zero = tables_keep (reverse tables)
  begins_keep (suc n) = (ap suc (sym (began n)), (later_none n (suc n) (omega arith), begins_keep n))

  each_open : (n t : ℕ) → 0 < t → t ≤ n → transaction_in t (started n) ≡ Some t
  each_open zero t first most = absurd (omega (arith, first, most))
  each_open (suc n) t first most = by (each_open n t first) (t == suc n) refl
    where
      own : suc n ≤ t → t ≡ suc n
      own above = omega (arith, above, most)

      by : (t ≤ n → transaction_in t (started n) ≡ Some t) → (b : Bool) → (t == suc n) ≡ b → cond b (Some (suc n)) (transaction_in t (started n)) ≡ Some t
      by rest true is = ap (λ m. Some m) (sym (eqb-true t (suc n) is))
      by rest false is = rest (⊎_elim (λ below. omega (arith, below)) (λ above. absurd (false≢true (sym is ∙ ap (λ m. t == m) (sym (own above)) ∙ eq_itself t))) (cases_lt t (suc n)))

-- those of an order are open
abbrev AreOpen : List Entry → List ℕ → Type 0
AreOpen es = AllByRecursion (λ t. transaction_in t es ≡ Some t)

module _ (log : List Entry) (t : ℕ) (es : List Entry) where
  still_in : (m session : ℕ) → transaction_in session (with_statements log t m es) ≡ transaction_in session es
  still_in m session = kept log t (transaction_in session) (λ statement es. refl) m es

  statements_keep : (m : ℕ) → transaction_in t es ≡ Some t → KeepsSessions es → KeepsSessions (with_statements log t m es)
  statements_keep zero own keeps = keeps
  statements_keep (suc m) own keeps = by (statements_keep m own keeps) (statement_at t (suc m) log)
    where
      by : KeepsSessions (with_statements log t m es) → (found : Option Statement) → KeepsSessions (option_map_or (λ statement. Ran 0 t y.Command.commit t statement ∷ with_statements log t m es) found (with_statements log t m es))
      by rest None = rest
      by rest (Some statement) = (still_in m t ∙ own, rest)

  transaction_keeps : transaction_in t es ≡ Some t → KeepsSessions es → KeepsSessions (with_transaction log t es)
  transaction_keeps own keeps = (still_in (statement_count t log) t ∙ own, statements_keep (statement_count t log) own keeps)

  others_open : (order : List ℕ) → list_any (λ other. other == t) order ≡ false → AreOpen es order → AreOpen (with_transaction log t es) order
  others_open [] none opened = tt
  others_open (u ∷ order) none (own, opened) = by (λ none. others_open order none opened) (u == t) refl none
    where
      by : (list_any (λ other. other == t) order ≡ false → AreOpen (with_transaction log t es) order) → (b : Bool) → (u == t) ≡ b → b || list_any (λ other. other == t) order ≡ false → AreOpen (with_transaction log t es) (u ∷ order)
      by rest true is none = absurd (false≢true (sym none))
      by rest false is none = (ap (λ b. cond b None (transaction_in u (with_statements log t (statement_count t log) es))) is ∙ still_in (statement_count t log) u ∙ own, rest none)

transactions_keep : (log : List Entry) (order : List ℕ) (es : List Entry) → AreDistinct (λ (t u : ℕ). t == u) order → AreOpen es order → KeepsSessions es → KeepsSessions (with_transactions log order es)
transactions_keep log [] es once opened keeps = keeps
transactions_keep log (t ∷ order) es (new, once) (own, opened) keeps =
    transactions_keep log order (with_transaction log t es) once (others_open log t es order new opened) (transaction_keeps log t es own keeps)

-- ---- statements

module _ (log : List Entry) (tables : List Table) (fits : statements_fit tables log ≡ true) where
  statements_fit_own : (t m : ℕ) (es : List Entry) → statements_fit tables es ≡ true → statements_fit tables (with_statements log t m es) ≡ true
  statements_fit_own t zero es own = own
  statements_fit_own t (suc m) es own = by (statements_fit_own t m es own) (statement_at t (suc m) log) (logged_fits tables t (suc m) log fits)
    where
      by : statements_fit tables (with_statements log t m es) ≡ true → (found : Option Statement) → FitsIfSome tables found
          → statements_fit tables (option_map_or (λ statement. Ran 0 t y.Command.commit t statement ∷ with_statements log t m es) found (with_statements log t m es)) ≡ true
      by rest None fit = rest
      by rest (Some statement) fit = λ i. fit i && rest i

  transactions_fit : (order : List ℕ) (es : List Entry) → statements_fit tables es ≡ true → statements_fit tables (with_transactions log order es) ≡ true
  transactions_fit [] es own = own
  transactions_fit (t ∷ order) es own = transactions_fit order (with_transaction log t es) (statements_fit_own t (statement_count t log) es own)

  tables_fit : (own : List Table) → statements_fit tables (map (Created 0 0) own) ≡ true
  tables_fit [] = refl
  tables_fit (table ∷ own) = tables_fit own

  begins_fit : (n : ℕ) → statements_fit tables (begun n (created tables)) ≡ true
  begins_fit zero = tables_fit (reverse tables)
  begins_fit (suc n) = begins_fit n

-- ---- the whole

pub serial_replayable : (log : List Entry) (tables : List Table) (order : List ℕ) → AreDistinct (λ (t u : ℕ). t == u) order → AllByRecursion (λ t. is_known t log ≡ true) order
    → statements_fit tables log ≡ true → IsReplayable (serial_entries tables log order)
serial_replayable log tables order once known fits = record {
  sessions = transactions_keep log order (begun (transactions_in log) (created tables)) once (all_open order known) (begins_keep tables (transactions_in log));
  fits = subst (λ own. statements_fit own (serial_entries tables log order) ≡ true) (sym (own_tables log tables order once known))
      (transactions_fit log tables fits order (begun (transactions_in log) (created tables)) (begins_fit log tables fits (transactions_in log)));
}
  where
    all_open : (order : List ℕ) → AllByRecursion (λ t. is_known t log ≡ true) order → AreOpen (begun (transactions_in log) (created tables)) order
    all_open [] known = tt
    all_open (t ∷ order) (own, known) = let parts = known_parts log t own in (each_open tables (transactions_in log) t parts.0 parts.1, all_open order known)
