-- Logs to which entries are added one after another: what they have by then, and that there is room for the next one.
use Rattle.gp_serial.proofs.Prelude.{◌≡◌, ◌≢◌, ◌<◌, ◌≤◌, ◌+◌, ℕ, zero, suc, Bool, true, false, cond, List, [], ◌∷◌, ◌++◌, length, map, reverse, take, get_or, Option, Some, None, refl, sym, ap, ◌∙◌, subst, arith, ◌==◌, ◌||◌, nat_lt, slice_get, list_any, option_map_or, eqb-true, false≢true, nat_tests, get_or-map, length-map, reverse-append, reverse-reverse, get_or_from_slice_get, slice_get_within, Table, Statement, Entry, Began, Created, Ran, statement_at, statement_count, transactions_in, AreDistinct, tables_in, entry_view, log_view}
use Rattle.std.proofs.Common.{bytes_eq}
use Rattle.std.proofs.lemmas.List.{get_or-take, length-reverse, length-take, take_more}
use Rattle.std.proofs.lemmas.List.Sums.{position_or_len_is}
use Rattle.std.proofs.lemmas.Slice.Eq.{bytes_eq-Decides}
use Rattle.gp_base.specs.CatalogForms.{HaveDifferentNames}
use Rattle.gp_base.specs.Catalogs.{place_of, table_names}
use Rattle.gp_grammar.specs.Syntax as y
use Rattle.gp_machine.specs.Entries.{Committed, Ended, statements_in}
use Rattle.gp_log.specs.declared.entry.Entry as code
use Rattle.gp_log.proofs.CountLemmas.{log_view-length}
use Rattle.gp_log.proofs.EntryLemmas.{entries-counted, log-pushed}
use Rattle.gp_serial.specs.SerialLogs.{begun, created, with_statements, with_transaction, with_transactions}
use Rattle.gp_serial.proofs.SerialEntries.{kept, tables_from}

-- ---- one more entry

pub pushed : (new old : List code.Entry) (entry : code.Entry) → new ≡ old ++ entry ∷ [] → log_view new ≡ entry_view entry ∷ log_view old
pushed new old entry e = ap log_view e ∙ log-pushed old entry

-- ---- tables

pub tables_created : (own : List Table) → tables_in (created own) ≡ own
tables_created own = tables_from (reverse own) ∙ reverse-reverse own

pub created_next : (tables : List Table) (place : ℕ) (table : Table) → slice_get tables place ≡ Some table → created (take (place + 1) tables) ≡ Created 0 0 table ∷ created (take place tables)
created_next tables place table is =
    ap created (take_more tables place table (slice_get_within tables place table is) ∙ ap (λ t. take place tables ++ t ∷ []) (get_or_from_slice_get tables place table table is))
    ∙ ap (map (Created 0 0)) (reverse-append (take place tables) (table ∷ []))

pub created_long : (own : List Table) → length (created own) ≡ length own
created_long own = length-map (reverse own) (Created 0 0) ∙ length-reverse own

-- a table has another name than those before it
pub new_name : (tables : List Table) (place : ℕ) (table : Table) → HaveDifferentNames tables → slice_get tables place ≡ Some table → place_of table.name (take place tables) ≡ None
new_name tables place table different is =
    ap (λ n. cond (nat_lt n (length names)) (Some n) None) (position_or_len_is (bytes_eq table.name) names (length names) [] (omega arith) unlike (λ l. absurd (omega (arith, l))))
    ∙ ap (λ b. cond b (Some (length names)) None) (not_less (length names))
  where
    names : List (List ℕ)
    names = table_names (take place tables)

    within : place < length tables
    within = slice_get_within tables place table is

    as_many : length names ≤ place
    as_many = omega (arith, length-map (take place tables) (λ (t : Table). t.name), length-take place tables)

    not_less : (n : ℕ) → nat_lt n n ≡ false
    not_less n = grind (arith, nat_tests)

    name_at : (k : ℕ) → k < length (take place tables) → get_or names k [] ≡ get_or (table_names tables) k []
    name_at k l =
        get_or-map (λ (t : Table). t.name) (take place tables) k table [] l
        ∙ ap (λ (t : Table). t.name) (get_or-take place tables k table (omega (arith, l, length-take place tables)))
        ∙ sym (get_or-map (λ (t : Table). t.name) tables k table [] (omega (arith, l, length-take place tables)))

    own : get_or (table_names tables) place [] ≡ table.name
    own = get_or-map (λ (t : Table). t.name) tables place table [] within ∙ ap (λ (t : Table). t.name) (get_or_from_slice_get tables place table table is)

    unlike : (k : ℕ) → k < length names → bytes_eq table.name (get_or names k []) ≡ false
    unlike k l = by (bytes_eq table.name (get_or names k [])) refl
      where
        by : (b : Bool) → bytes_eq table.name (get_or names k []) ≡ b → b ≡ false
        by true e =
            absurd (different k place [] (omega (arith, l, as_many)) (omega (arith, within, length-map tables (λ (t : Table). t.name)))
            (sym (name_at k (omega (arith, l, length-map (take place tables) (λ (t : Table). t.name)))) ∙ sym ((bytes_eq-Decides table.name (get_or names k [])).0 e) ∙ sym own))
        by false e = refl

-- ---- BEGINs

begun_long : (n : ℕ) (es : List Entry) → length (begun n es) ≡ n + length es
begun_long zero es = omega arith
begun_long (suc n) es = omega (arith, begun_long n es)

pub begun_few : (n : ℕ) (old new : List code.Entry) → log_view new ≡ begun n (log_view old) → length new ≡ n + length (log_view old)
begun_few n old new e = sym (log_view-length new) ∙ ap length e ∙ begun_long n (log_view old)

-- ---- statements

module _ (log : List Entry) (t : ℕ) where
  pub statements_long : (m : ℕ) (es : List Entry) → length (with_statements log t m es) ≤ m + length es
  statements_long zero es = omega arith
  statements_long (suc m) es = by (statements_long m es) (statement_at t (suc m) log)
    where
      by : length (with_statements log t m es) ≤ m + length es → (found : Option Statement)
          → length (option_map_or (λ statement. Ran 0 t y.Command.commit t statement ∷ with_statements log t m es) found (with_statements log t m es)) ≤ suc m + length es
      by rest None = omega (arith, rest)
      by rest (Some statement) = omega (arith, rest)

-- ---- transactions

-- a transaction that is not among these has no more statements
pub not_counted : (log : List Entry) (order : List ℕ) (es : List Entry) (t : ℕ) → list_any (λ u. u == t) order ≡ false → statement_count t (with_transactions log order es) ≡ statement_count t es
not_counted log [] es t none = refl
not_counted log (u ∷ order) es t none = by (not_counted log order (with_transaction log u es) t) (u == t) refl none
  where
    by : (list_any (λ u. u == t) order ≡ false → statement_count t (with_transactions log order (with_transaction log u es)) ≡ statement_count t (with_transaction log u es))
        → (b : Bool) → (u == t) ≡ b → b || list_any (λ u. u == t) order ≡ false → statement_count t (with_transactions log order (with_transaction log u es)) ≡ statement_count t es
    by rest true is none = absurd (false≢true (sym none))
    by rest false is none =
        rest none
        ∙ kept log u (statement_count t) (λ statement es. ap (λ b. cond b (suc (statement_count t es)) (statement_count t es)) is) (statement_count u log) es

pub transactions_append : (log : List Entry) (order more : List ℕ) (es : List Entry) → with_transactions log (order ++ more) es ≡ with_transactions log more (with_transactions log order es)
transactions_append log [] more es = refl
transactions_append log (t ∷ order) more es = transactions_append log order more (with_transaction log t es)

-- all statements of these transactions
abbrev total : List Entry → List ℕ → ℕ
total log [] = zero
total log (t ∷ order) = statement_count t log + total log order

transactions_long : (log : List Entry) (order : List ℕ) (es : List Entry) → length (with_transactions log order es) ≤ length order + (total log order + length es)
transactions_long log [] es = omega arith
transactions_long log (t ∷ order) es = omega (arith, transactions_long log order (with_transaction log t es), statements_long log t (statement_count t log) es)

-- how often a number is among these
abbrev hits : ℕ → List ℕ → ℕ
hits u [] = zero
hits u (t ∷ order) = cond (u == t) (suc (hits u order)) (hits u order)

hits_none : (u : ℕ) (order : List ℕ) → list_any (λ t. t == u) order ≡ false → hits u order ≡ 0
hits_none u [] none = refl
hits_none u (t ∷ order) none = by (hits_none u order) (u == t) refl (t == u) refl none
  where
    itself : (n : ℕ) → (n == n) ≡ true
    itself n = grind (arith, nat_tests)

    by : (list_any (λ t. t == u) order ≡ false → hits u order ≡ 0) → (b : Bool) → (u == t) ≡ b → (c : Bool) → (t == u) ≡ c → c || list_any (λ t. t == u) order ≡ false → cond b (suc (hits u order)) (hits u order) ≡ 0
    by rest b is true own none = absurd (false≢true (sym none))
    by rest true is false own none = absurd (false≢true (sym own ∙ ap (λ w. t == w) (eqb-true u t is) ∙ itself t))
    by rest false is false own none = rest none

hits_once : (u : ℕ) (order : List ℕ) → AreDistinct (λ (t u : ℕ). t == u) order → hits u order ≤ 1
hits_once u [] once = omega arith
hits_once u (t ∷ order) (new, once) = by (u == t) refl (hits_once u order once)
  where
    by : (b : Bool) → (u == t) ≡ b → hits u order ≤ 1 → cond b (suc (hits u order)) (hits u order) ≤ 1
    by true is most = let none = subst (λ w. hits w order ≡ 0) (sym (eqb-true u t is)) (hits_none t order new) in omega (arith, none)
    by false is most = most

total_ran : (line session u : ℕ) (command : y.Command) (statement : Statement) (log : List Entry) (order : List ℕ) → total (Ran line session command u statement ∷ log) order ≡ hits u order + total log order
total_ran line session u command statement log [] = refl
total_ran line session u command statement log (t ∷ order) = by (u == t) (total_ran line session u command statement log order)
  where
    by : (b : Bool) → total (Ran line session command u statement ∷ log) order ≡ hits u order + total log order
        → cond b (suc (statement_count t log)) (statement_count t log) + total (Ran line session command u statement ∷ log) order ≡ cond b (suc (hits u order)) (hits u order) + (statement_count t log + total log order)
    by true rest = omega (arith, rest)
    by false rest = omega (arith, rest)

total_same : (a b : List Entry) → ((t : ℕ) → statement_count t a ≡ statement_count t b) → (order : List ℕ) → total a order ≡ total b order
total_same a b same [] = refl
total_same a b same (t ∷ order) = λ i. same t i + total_same a b same order i

-- different transactions have no more statements than the log
total_most : (log : List Entry) (order : List ℕ) → AreDistinct (λ (t u : ℕ). t == u) order → total log order ≤ statements_in log
total_most [] order once = omega (arith, nothing order)
  where
    nothing : (order : List ℕ) → total [] order ≡ 0
    nothing [] = refl
    nothing (t ∷ order) = omega (arith, nothing order)
total_most (Created line session table ∷ log) order once = omega (arith, total_same (Created line session table ∷ log) log (λ t. refl) order, total_most log order once)
total_most (Began line session t level ∷ log) order once = omega (arith, total_same (Began line session t level ∷ log) log (λ t. refl) order, total_most log order once)
total_most (Ran line session command t statement ∷ log) order once = omega (arith, total_ran line session t command statement log order, hits_once t order once, total_most log order once)
total_most (Committed line session t ∷ log) order once = omega (arith, total_same (Committed line session t ∷ log) log (λ t. refl) order, total_most log order once)
total_most (Ended line session end t ∷ log) order once = omega (arith, total_same (Ended line session end t ∷ log) log (λ t. refl) order, total_most log order once)

-- a part of distinct numbers
distinct_take : (n : ℕ) (order : List ℕ) → AreDistinct (λ (t u : ℕ). t == u) order → AreDistinct (λ (t u : ℕ). t == u) (take n order)
distinct_take zero order once = tt
distinct_take (suc n) [] once = tt
distinct_take (suc n) (t ∷ order) (new, once) = (fewer n order new, distinct_take n order once)
  where
    fewer : (n : ℕ) (order : List ℕ) → list_any (λ other. other == t) order ≡ false → list_any (λ other. other == t) (take n order) ≡ false
    fewer zero order none = refl
    fewer (suc n) [] none = refl
    fewer (suc n) (u ∷ order) none = by (fewer n order) (u == t) none
      where
        by : (list_any (λ other. other == t) order ≡ false → list_any (λ other. other == t) (take n order) ≡ false) → (b : Bool) → b || list_any (λ other. other == t) order ≡ false → b || list_any (λ other. other == t) (take n order) ≡ false
        by rest true none = absurd (false≢true (sym none))
        by rest false none = rest none

-- a number at a place is there
there : (t : ℕ) (order : List ℕ) (n : ℕ) → slice_get order n ≡ Some t → list_any (λ other. other == t) order ≡ false → ⊥
there t [] n is none = absurd cc
there t (w ∷ order) zero is none = absurd (false≢true (sym none ∙ ap (λ b. b || list_any (λ other. other == t) order) (here w is)))
  where
    here : (w : ℕ) → Some w ≡ Some t → (w == t) ≡ true
    here w is = let same : w ≡ t = cc in grind (arith, nat_tests)
there t (w ∷ order) (suc n) is none = by (there t order n is) (w == t) none
  where
    by : (list_any (λ other. other == t) order ≡ false → ⊥) → (b : Bool) → b || list_any (λ other. other == t) order ≡ false → ⊥
    by rest true none = absurd (false≢true (sym none))
    by rest false none = rest none

-- of distinct numbers, none is among those before it
pub not_before : (order : List ℕ) (n t : ℕ) → AreDistinct (λ (t u : ℕ). t == u) order → slice_get order n ≡ Some t → list_any (λ u. u == t) (take n order) ≡ false
not_before [] n t once is = absurd cc
not_before (u ∷ order) zero t once is = refl
not_before (u ∷ order) (suc n) t (new, once) is = by (not_before order n t once is) (u == t) refl
  where
    by : list_any (λ u. u == t) (take n order) ≡ false → (b : Bool) → (u == t) ≡ b → b || list_any (λ u. u == t) (take n order) ≡ false
    by rest true same = absurd (there t order n is (subst (λ w. list_any (λ other. other == w) order ≡ false) (eqb-true u t same) new))
    by rest false same = rest

-- ---- room

-- with the first transactions of an order, there is room for the entries of the next one
pub room : (log : List Entry) (tables : List Table) (order : List ℕ) (n t : ℕ) (new : List code.Entry) → tables ≡ tables_in log → AreDistinct (λ (t u : ℕ). t == u) order
    → length order ≤ length log → slice_get order n ≡ Some t → log_view new ≡ with_transactions log (take n order) (begun (transactions_in log) (created tables))
    → length new + statement_count t log + 1 ≤ length log + length log
room log tables order n t new same once most is e =
    omega (
      arith,
      log_view-length new,
      ap length e,
      transactions_long log (take n order) (begun (transactions_in log) (created tables)),
      begun_long (transactions_in log) (created tables),
      created_long tables,
      ap length same,
      entries-counted log,
      both,
      total_more,
      total_most log (take (n + 1) order) (distinct_take (n + 1) order once),
      longer,
      most,
    )
  where
    within : n < length order
    within = slice_get_within order n t is

    next : take (n + 1) order ≡ take n order ++ t ∷ []
    next = take_more order n t within ∙ ap (λ u. take n order ++ u ∷ []) (get_or_from_slice_get order n t t is)

    total_append : (xs ys : List ℕ) → total log (xs ++ ys) ≡ total log xs + total log ys
    total_append [] ys = omega arith
    total_append (x ∷ xs) ys = omega (arith, total_append xs ys)

    both : total log (take n order ++ t ∷ []) ≡ total log (take n order) + (statement_count t log + 0)
    both = total_append (take n order) (t ∷ [])

    total_more : total log (take (n + 1) order) ≡ total log (take n order ++ t ∷ [])
    total_more = ap (total log) next

    longer : length (take n order) + 1 ≤ length order
    longer = omega (arith, length-take n order, within)

-- one more transaction
pub transactions_next : (log : List Entry) (order : List ℕ) (n : ℕ) (es : List Entry) → n < length order
    → with_transactions log (take (n + 1) order) es ≡ with_transaction log (get_or order n 0) (with_transactions log (take n order) es)
transactions_next log order n es within = ap (λ own. with_transactions log own es) (take_more order n 0 within) ∙ transactions_append log (take n order) (get_or order n 0 ∷ []) es
