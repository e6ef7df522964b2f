-- What a statement does over row versions, by what one sees and looks at of it.
use Rattle.gp_serial.proofs.Prelude.{Global, Vec, ◌≡◌, ◌≢◌, ◌≤◌, ◌+◌, ◌-◌, ℕ, zero, suc, Bool, true, false, cond, List, [], ◌∷◌, ◌++◌, length, map, take, Option, Some, None, Result, Ok, Err, refl, sym, ap, ◌∙◌, subst, arith, length-append, inl, inr, ⊎_elim, nat_le, nat_lt, filter, slice_get, if◌then◌else◌, IsPermutation, option_map, option_map_or, option_or, cases_lt, false≢true, nat_tests, Cell, Refusal, Table, Annotated, Database, Environment, unannotated, row_cmp, sorted_by, none_parts, Statement, no-statement, statements_fit, parameters, Entry, log_of, statement_at, statement_count, is_over_answer, as_of, RunStop, run_stop, is_known, stop_refusal, run_before, stepped, row_cells, shown, FitsIfSome, logged_fits, Span}
use Rattle.std.proofs.lemmas.List.Sorted.{IsPermutation-trans}
use Rattle.gp_base.specs.declared.cell.Cell.TheVariants as cell
use Rattle.gp_base.specs.declared.refusal.Refusal.TheVariants.{E20, E22, E27}
use Rattle.gp_base.proofs.OrderLemmas.{rows_permuted, rows_sorted, sorted_rows_unique}
use Rattle.gp_expr.specs.Values.{passes}
use Rattle.gp_algebra.specs.Answers.{Element, answer, cells_of}
use Rattle.gp_algebra.specs.Fitting.{select_fits}
use Rattle.gp_algebra.specs.Statements.{Select, insert, insert_select, update, delete, read}
use Rattle.gp_compose.specs.Seen.{changed_rows, is_changed_by, writes}
use Rattle.gp_machine.specs.Points.{OverNodes, OverRows}
use Rattle.gp_machine.specs.Questions.{given}
use Rattle.gp_reenact.specs.Looking.{saw_answer}
use Rattle.gp_reenact.specs.LookingForms.{Looks, looked_answer, looked_rows, system_row}
use Rattle.gp_reenact.specs.Reenacting.{Reenacts}
use Rattle.gp_base.specs.declared.stop.Stop.{Stop}
use Rattle.gp_base.specs.declared.stop.Stop.TheVariants as reenact
use Rattle.gp_serial.specs.declared.error.SerialStop.{SerialStop}
use Rattle.gp_serial.specs.declared.error.SerialStop.TheVariants.{Refused}
use Rattle.gp_serial.specs.Running.{IsShown, IsStopOf, IsToldOf, IsUnanswered, changed_of, id_in, identity_of, unmarked}

-- ---- rows in order

-- equal bags are sorted to one list
pub sorted_same : (rows others : List (List Cell)) → IsPermutation rows others → sorted_by row_cmp rows ≡ sorted_by row_cmp others
sorted_same rows others same =
    sym (sorted_rows_unique rows (sorted_by row_cmp others) (IsPermutation-trans rows others (sorted_by row_cmp others) same (rows_permuted others)) (rows_sorted others))

-- ---- rows with an identity and a mark behind their cells

unmarked_is : (cells : List Cell) (x y : Cell) → unmarked (cells ++ x ∷ y ∷ []) ≡ cells ++ x ∷ []
unmarked_is cells x y = ap (λ n. take n (cells ++ x ∷ y ∷ [])) one_less ∙ front cells
  where
    one_less : length (cells ++ x ∷ y ∷ []) - 1 ≡ suc (length cells)
    one_less = omega (arith, length-append cells (x ∷ y ∷ []))

    front : (cells : List Cell) → take (suc (length cells)) (cells ++ x ∷ y ∷ []) ≡ cells ++ x ∷ []
    front [] = refl
    front (z ∷ cells) = ap (λ rest. z ∷ rest) (front cells)

pub identity_is : (row : Annotated (Unit {0})) → identity_of (system_row row) ≡ Some row.identity
identity_is row = ap id_in (ap (slice_get (system_row row)) two_less ∙ at row.cells)
  where
    two_less : length (system_row row) - 2 ≡ length row.cells
    two_less = omega (arith, length-append row.cells (cell.Id row.identity ∷ cell.Mark row.mark ∷ []))

    at : (cells : List Cell) → slice_get (cells ++ cell.Id row.identity ∷ cell.Mark row.mark ∷ []) (length cells) ≡ Some (cell.Id row.identity)
    at [] = refl
    at (z ∷ cells) = at cells

-- of the rows by which one looks at a statement, those that it changed
pub changed_is : (t k : ℕ) (statement : Statement) (rows : List (Annotated (Unit {0})))
    → changed_of t k statement (map system_row rows) ≡ map row_cells (filter (λ row. is_changed_by t k statement row.identity) rows)
changed_is t k statement [] = refl
changed_is t k statement (row ∷ rows) =
    ap (λ found. map unmarked (cond (option_map_or (λ id. is_changed_by t k statement id) found false) (system_row row ∷ others) others)) (identity_is row)
    ∙ by (is_changed_by t k statement row.identity) (changed_is t k statement rows)
  where
    others : List (List Cell)
    others = filter (λ row. option_map_or (λ id. is_changed_by t k statement id) (identity_of row) false) (map system_row rows)

    by : (b : Bool) → map unmarked others ≡ map row_cells (filter (λ row. is_changed_by t k statement row.identity) rows)
        → map unmarked (cond b (system_row row ∷ others) others) ≡ map row_cells (cond b (row ∷ filter (λ row. is_changed_by t k statement row.identity) rows) (filter (λ row. is_changed_by t k statement row.identity) rows))
    by true rest = λ i. unmarked_is row.cells (cell.Id row.identity) (cell.Mark row.mark) i ∷ rest i
    by false rest = rest

pub all_kept : {A : Type 0} (xs : List A) → filter (λ x. true) xs ≡ xs
all_kept [] = refl
all_kept (x ∷ xs) = ap (λ others. x ∷ others) (all_kept xs)

-- they are what it shows
pub shown_is : (t k : ℕ) (statement : Statement) (db : Database (Unit {0})) → writes statement ≡ true → map row_cells (changed_rows unannotated t k statement db) ≡ shown t k statement db
shown_is t k (insert table rows) db w = refl
shown_is t k (insert_select table select) db w = refl
shown_is t k (update table sets c) db w = ap (map row_cells) (all_kept (filter (λ row. passes c row.cells) (db table)))
shown_is t k (delete table c) db w = ap (map row_cells) (all_kept (filter (λ row. passes c row.cells) (db table)))
shown_is t k (read select) db w = absurd (false≢true w)

-- only a query has too many rows
pub few_changed : (statement : Statement) (most : ℕ) (db : Database (Unit {0})) → writes statement ≡ true → is_over_answer unannotated most statement db ≡ false
few_changed (insert table rows) most db w = refl
few_changed (insert_select table select) most db w = refl
few_changed (update table sets c) most db w = refl
few_changed (delete table c) most db w = refl
few_changed (read select) most db w = absurd (false≢true w)

-- ---- answers and refusals

abbrev Gives : {A : Type 0} → Option RunStop → Bool → A → Result A Refusal
Gives own over found = given (option_or (option_map stop_refusal own) (if over then Some E27 else None)) found

module _ {X : Type 0} (view : X → List (List Cell)) (own : Option RunStop) (over : Bool) (elements : List (Element (Unit {0}))) where
  abbrev Own : Result X Stop → Type 0
  Own result = Reenacts view result (Gives own over elements)

ok_parts : {X : Type 0} (view : X → List (List Cell)) (found : X) (own : Option RunStop) (over : Bool) (elements : List (Element (Unit {0}))) → Own view own over elements (Ok found)
    → (own ≡ None) × ((over ≡ false) × IsPermutation (view found) (cells_of elements))
ok_parts view found None true elements e = absurd e
ok_parts view found None false elements e = (refl, (refl, e))
ok_parts view found (Some stop) over elements e = absurd e

abbrev is_limit : Refusal → Bool
is_limit E27 = true
is_limit _ = false

run_refused : (stop : RunStop) → is_limit (stop_refusal stop) ≡ false
run_refused (OverRows t k) = refl
run_refused (OverNodes t k) = refl

limit_parts : {X : Type 0} (view : X → List (List Cell)) (own : Option RunStop) (over : Bool) (elements : List (Element (Unit {0}))) → Own view own over elements (Err (reenact.Refused E27))
    → (own ≡ None) × (over ≡ true)
limit_parts view None true elements e = (refl, refl)
limit_parts view None false elements e = absurd e
limit_parts view (Some stop) over elements e = absurd (false≢true (sym (run_refused stop) ∙ ap is_limit (sym e)))

refusal_parts : {X : Type 0} (view : X → List (List Cell)) (own : Option RunStop) (over : Bool) (elements : List (Element (Unit {0}))) (refusal : Refusal) → refusal ≢ E27
    → Own view own over elements (Err (reenact.Refused refusal)) → option_map stop_refusal own ≡ Some refusal
refusal_parts view None true elements refusal other e = absurd (other e)
refusal_parts view None false elements refusal other e = absurd e
refusal_parts view (Some stop) over elements refusal other e = ap (λ r. Some r) (sym e)

-- ---- a query

module _ (entries : List Entry) (spans : ℕ → List Span) (t before : ℕ) (select : Select) (known : is_known t entries ≡ true) (most : suc before ≤ statement_count t entries)
    (here : statement_at t (suc before) entries ≡ Some (read select)) where
  abbrev versions : Environment (Unit {0})
  versions = as_of unannotated spans

  abbrev read_by : Database (Unit {0})
  read_by = run_before unannotated (log_of entries) t before versions

  abbrev own_stop : Option RunStop
  own_stop = run_stop unannotated parameters (log_of entries) t (suc before) versions

  within : nat_le (suc before) (statement_count t entries) ≡ true
  within = grind (arith, nat_tests)

  saw_is : saw_answer parameters entries spans t (suc before) select ≡ Gives own_stop (nat_lt parameters.answer (length (answer unannotated select read_by))) (answer unannotated select read_by)
  saw_is = λ i.
      let db = stepped unannotated t (suc before) (here i) read_by in
      given (option_or (option_or (cond (known i) None (Some (E20 t))) (cond (within i) None (Some (E22 t (statement_count t entries)))))
      (option_or None (option_or (option_map stop_refusal own_stop) (cond (nat_lt parameters.answer (length (answer unannotated select db))) (Some E27) None)))) (answer unannotated select db)

  told : (rows : Option (Vec (List Cell) Global)) → IsToldOf (Some (read select)) t (suc before) read_by rows → IsToldOf (statement_at t (suc before) entries) t (suc before) read_by rows
  told rows is = subst (λ own. IsToldOf own t (suc before) read_by rows) (sym here) is

  pub answers_rows : (rows sorted : Vec (List Cell) Global) → Reenacts (λ rows. rows.items) (Ok rows) (saw_answer parameters entries spans t (suc before) select) → sorted.items ≡ sorted_by row_cmp rows.items
      → IsShown entries spans t (suc before) (Ok (Some sorted))
  answers_rows rows sorted e ordered =
      let parts = ok_parts (λ (rows : Vec (List Cell) Global). rows.items) rows own_stop _ _ (subst (Reenacts (λ (rows : Vec (List Cell) Global). rows.items) (Ok rows)) saw_is e) in
      (parts.0, told (Some sorted) (parts.1.0, ordered ∙ sorted_same rows.items _ parts.1.1))

  answers_none : Reenacts (λ (rows : Vec (List Cell) Global). rows.items) (Err (reenact.Refused E27)) (saw_answer parameters entries spans t (suc before) select) → IsShown entries spans t (suc before) (Ok None)
  answers_none e =
      let parts = limit_parts (λ (rows : Vec (List Cell) Global). rows.items) own_stop _ _ (subst (Reenacts (λ (rows : Vec (List Cell) Global). rows.items) (Err (reenact.Refused E27))) saw_is e) in
      (parts.0, told None parts.1)

  answers_stop : (refusal : Refusal) → refusal ≢ E27 → Reenacts (λ (rows : Vec (List Cell) Global). rows.items) (Err (reenact.Refused refusal)) (saw_answer parameters entries spans t (suc before) select)
      → IsShown entries spans t (suc before) (Err (Refused refusal))
  answers_stop refusal other e =
      refusal_parts (λ (rows : Vec (List Cell) Global). rows.items) own_stop _ _ refusal other (subst (Reenacts (λ (rows : Vec (List Cell) Global). rows.items) (Err (reenact.Refused refusal))) saw_is e)

  pub answers_otherwise : (stop : Stop) (found : Result (Option (Vec (List Cell) Global)) SerialStop) → IsUnanswered stop found
      → Reenacts (λ (rows : Vec (List Cell) Global). rows.items) (Err stop) (saw_answer parameters entries spans t (suc before) select) → IsShown entries spans t (suc before) found
  answers_otherwise reenact.NoMemory found is e = subst (IsShown entries spans t (suc before)) (sym is) tt
  answers_otherwise (reenact.Refused refusal) (Ok None) is e = answers_none (subst (λ r. Reenacts (λ (rows : Vec (List Cell) Global). rows.items) (Err (reenact.Refused r)) (saw_answer parameters entries spans t (suc before) select)) is e)
  answers_otherwise (reenact.Refused refusal) (Ok (Some rows)) is e = absurd is
  answers_otherwise (reenact.Refused refusal) (Err stop) (is, other) e = subst (λ stop. IsShown entries spans t (suc before) (Err stop)) (sym is) (answers_stop refusal other e)

  pub select_fitting : (tables : List Table) → statements_fit tables entries ≡ true → select_fits tables select ≡ true
  select_fitting tables fit = subst (FitsIfSome tables) here (logged_fits tables t (suc before) entries fit)

-- ---- another statement

module _ (entries : List Entry) (spans : ℕ → List Span) (t before : ℕ) (statement : Statement) (here : statement_at t (suc before) entries ≡ Some statement) (writing : writes statement ≡ true) where
  abbrev own_before : Database (Unit {0})
  own_before = run_before unannotated (log_of entries) t before (as_of unannotated spans)

  abbrev looked : Result (List (List Cell)) Refusal
  looked = looked_answer parameters entries spans t before statement

  looked_parts : {X : Type 0} (view : X → List (List Cell)) (rows : X) (own : Option RunStop) (found : List (List Cell)) → Looks view (Ok rows) (given (option_map stop_refusal own) found)
      → (own ≡ None) × (view rows ≡ found)
  looked_parts view rows None found e = (refl, e)
  looked_parts view rows (Some stop) found e = absurd e

  pub looks_rows : (rows found : Vec (List Cell) Global) (changed : List (List Cell)) → Looks (λ (rows : Vec (List Cell) Global). rows.items) (Ok rows) looked
      → changed ≡ changed_of t (suc before) statement rows.items → found.items ≡ sorted_by row_cmp changed → IsShown entries spans t (suc before) (Ok (Some found))
  looks_rows rows found changed e is ordered =
      let parts = looked_parts (λ (rows : Vec (List Cell) Global). rows.items) rows (run_stop unannotated parameters (log_of entries) t (suc before) (as_of unannotated spans))
      (map system_row (looked_rows parameters entries spans t before statement)) e in (
        parts.0,
        subst (λ own. IsToldOf own t (suc before) own_before (Some found)) (sym here) (
          few_changed statement parameters.answer own_before writing,
          ordered ∙ ap (sorted_by row_cmp) (is ∙ ap (changed_of t (suc before) statement) parts.1 ∙ changed_is t (suc before) statement (looked_rows parameters entries spans t before statement) ∙ shown_is t (suc before) statement own_before writing),
        ),
      )

  stop_parts : {X : Type 0} (view : X → List (List Cell)) (refusal : Refusal) (own : Option RunStop) (found : List (List Cell))
      → Looks view (Err (reenact.Refused refusal)) (given (option_map stop_refusal own) found) → option_map stop_refusal own ≡ Some refusal
  stop_parts view refusal None found e = absurd e
  stop_parts view refusal (Some stop) found e = ap (λ r. Some r) (sym e)

  pub looks_otherwise : (stop : Stop) (own : SerialStop) → IsStopOf stop own → Looks (λ (rows : Vec (List Cell) Global). rows.items) (Err stop) looked → IsShown entries spans t (suc before) (Err own)
  looks_otherwise reenact.NoMemory own is e = subst (λ own. IsShown entries spans t (suc before) (Err own)) (sym is) tt
  looks_otherwise (reenact.Refused refusal) own is e =
      subst (λ own. IsShown entries spans t (suc before) (Err own)) (sym is)
      (stop_parts (λ (rows : Vec (List Cell) Global). rows.items) refusal (run_stop unannotated parameters (log_of entries) t (suc before) (as_of unannotated spans))
      (map system_row (looked_rows parameters entries spans t before statement)) e)

-- ---- a statement is there

pub is_there : (entries : List Entry) (t before : ℕ) → suc before ≤ statement_count t entries → statement_at t (suc before) entries ≡ None → ⊥
is_there entries t before most none = elim (no-statement t (suc before) entries none) [ inl e ↦ omega (arith, e) | inr l ↦ omega (arith, l, most) ]

-- a run that does not stop does not stop earlier
pub stops_later : (entries : List Entry) (t n k : ℕ) (versions : Environment (Unit {0})) → k ≤ n → run_stop unannotated parameters (log_of entries) t n versions ≡ None
    → run_stop unannotated parameters (log_of entries) t k versions ≡ None
stops_later entries t zero k versions l none = ap (λ k. run_stop unannotated parameters (log_of entries) t k versions) (zero_of k l)
  where
    zero_of : (k : ℕ) → k ≤ 0 → k ≡ 0
    zero_of k l = omega (arith, l)
stops_later entries t (suc n) k versions l none =
    ⊎_elim
    (λ below. stops_later entries t n k versions (omega (arith, below)) (none_parts (run_stop unannotated parameters (log_of entries) t n versions) _ none).0)
    (λ above. subst (λ m. run_stop unannotated parameters (log_of entries) t m versions ≡ None) (same above) none)
    (cases_lt k (suc n))
  where
    same : suc n ≤ k → suc n ≡ k
    same above = omega (arith, above, l)
