-- The script that is written is that of the sheet.
use Rattle.std.proofs.Common.{◌≡◌, ℕ, suc, ◌+◌, ◌<◌, ◌≤◌, Bool, true, false, cond, eqb, leb, ltb, ◌&&◌, List, [], ◌∷◌, ◌++◌, length, Result, Ok, Err, refl, sym, ap, ◌∙◌, append_assoc, append-nil, length-append, arith, inl, inr}
use Rattle.std.specs.Prelude.{IfOk, codes, ◌%◌}
use Rattle.std.specs.List.{concat}
use Rattle.std.proofs.lemmas.Grind.{flat_map-append}
use Rattle.std.proofs.lemmas.Bool.{cases_Bool, ne_eqb, leb-true, le-leb, ltb-true, lt-ltb}
use Rattle.gp_base.specs.declared.cell.Cell.{Cell}
use Rattle.gp_base.specs.declared.table.Column.{Column}
use Rattle.gp_grammar.specs.Canonical.{command_text}
use Rattle.gp_grammar.specs.Syntax.{Command, begin, insert}
use Rattle.gp_grammar.specs.declared.limits.TheConstants.{MAX_LINE_LENGTH, MAX_VALUES}
use Rattle.gp_csv.specs.Faults.{Fault, refuse, result_map, result_then}
use Rattle.gp_csv.specs.Packing.{Output, has_room, joined, begun, line_end, put_row, put_rows, tuple_text, insert_text, no_line, create_of, packed_script, script_head, script_end}
use Rattle.gp_base.specs.CellForms.{ArePlain}
use Rattle.gp_csv.specs.Scripts.{session_line, ended_line, fits_line, batches_from, batches_of, transaction_break, inserts_from, script_text, script_of}
use Rattle.gp_csv.specs.SheetForms.{ArePlainRows}
use Rattle.gp_csv.specs.declared.error.TheConstants.{LONG_ROW, TOO_MANY}
use Rattle.gp_csv.specs.declared.script.TheConstants.{MAX_ROWS, MAX_INSERTS, MAX_STEPS}
use Rattle.gp_csv.specs.declared.script.LineCounts.{LineCounts}
use Rattle.gp_csv.specs.declared.sheet.Sheet.{Sheet}
use Rattle.gp_csv.proofs.TextLemmas.{line-one, line-more, all_more, commit-line, begin-line}

-- ---- there is a line

abbrev IsFull : List (List (List Cell)) → Type 0
IsFull [] = ⊥
IsFull (line ∷ lines) = Unit {0}

put_full : (line : List (List Cell)) (x : Result (List (List (List Cell))) Fault) → IfOk (result_map (λ (more : List (List (List Cell))). line ∷ more) x) IsFull
put_full line (Ok more) = tt
put_full line (Err fault) = tt

lines-full : (name : List ℕ) (number n : ℕ) (line rows : List (List Cell)) → IfOk (batches_from name number n line rows) IsFull
lines-full name number n line [] = tt
lines-full name number n line (row ∷ rows) = elim (cases_Bool (ltb MAX_LINE_LENGTH (length (session_line (insert name (row ∷ [])))))) [
  | inl long ↦ rw long tt
  | inr short ↦ rw short (elim (cases_Bool (ltb (MAX_ROWS + 1) number)) [
    | inl many ↦ rw many tt
    | inr few ↦ rw few (elim (cases_Bool (fits_line name (line ++ row ∷ []))) [
      | inl fits ↦ rw fits (lines-full name (suc number) n (line ++ row ∷ []) rows)
      | inr full ↦ rw full (elim (cases_Bool (leb MAX_INSERTS n)) [
        | inl most ↦ rw most tt
        | inr more ↦ rw more (put_full line (batches_from name (suc number) (suc n) (row ∷ []) rows))
      ])
    ])
  ])
]

-- ---- the text of the lines

-- the text of the last lines, of which the first has so many before it with itself
abbrev tail : List ℕ → ℕ → List (List (List Cell)) → List ℕ
tail name n [] = []
tail name n (line ∷ others) = script_text (insert name line ∷ (inserts_from name n others ++ (Command.commit ∷ [])))

script-append : (a b : List Command) → script_text (a ++ b) ≡ script_text a ++ script_text b
script-append a b = flat_map-append ended_line a b

transaction_break-by : (n : ℕ) (b : Bool) → eqb (n % MAX_STEPS) 0 ≡ b → codes "\n" ++ script_text (cond b (Command.commit ∷ begin false ∷ []) []) ≡ cond b (codes "\ns1: COMMIT\ns1: BEGIN\n") (codes "\n")
transaction_break-by n true e = ap (λ (t : List ℕ). codes "\n" ++ (t ++ (ended_line (begin false) ++ []))) commit-line ∙ ap (λ (t : List ℕ). codes "\ns1: COMMIT\n" ++ (t ++ [])) begin-line
transaction_break-by n false e = refl

not_zero : (n : ℕ) → eqb (suc n) 0 ≡ false
not_zero n = ne_eqb (suc n) 0 (λ e. absurd (omega (arith, e)))

line_end-suc : (n : ℕ) → line_end (suc n) ≡ cond (eqb (suc n % MAX_STEPS) 0) (codes "\ns1: COMMIT\ns1: BEGIN\n") (codes "\n")
line_end-suc n = rw (not_zero n) refl

script_end-suc : (n : ℕ) → script_end (suc n) ≡ codes "\ns1: COMMIT\n"
script_end-suc n = rw (not_zero n) refl

transaction_break-text : (n : ℕ) → codes "\n" ++ script_text (transaction_break (suc n)) ≡ line_end (suc n)
transaction_break-text n = rw (lt-ltb 0 (suc n) (omega arith)) (transaction_break-by (suc n) (eqb (suc n % MAX_STEPS) 0) refl ∙ sym (line_end-suc n))

tail-more : (name : List ℕ) (n : ℕ) (line : List (List Cell)) (more : List (List (List Cell))) → IsFull more
    → tail name (suc n) (line ∷ more) ≡ session_line (insert name line) ++ (line_end (suc n) ++ tail name (suc (suc n)) more)
tail-more name n line [] full = absurd full
tail-more name n line (next ∷ others) full =
    let rest : List Command = insert name next ∷ (inserts_from name (suc (suc n)) others ++ (Command.commit ∷ [])) in
    ap (λ (t : List ℕ). ended_line (insert name line) ++ t) (ap script_text (append_assoc (transaction_break (suc n)) (insert name next ∷ inserts_from name (suc (suc n)) others) (Command.commit ∷ [])) ∙ script-append (transaction_break (suc n)) rest)
    ∙ append_assoc (session_line (insert name line)) (codes "\n") (script_text (transaction_break (suc n)) ++ script_text rest)
    ∙ ap (λ (t : List ℕ). session_line (insert name line) ++ t) (sym (append_assoc (codes "\n") (script_text (transaction_break (suc n))) (script_text rest)) ∙ ap (λ (t : List ℕ). t ++ script_text rest) (transaction_break-text n))

-- ---- rows put in turn

abbrev finished : Result Output Fault → Result (List ℕ) Fault
finished r = result_map (λ (w : Output). w.0 ++ script_end w.1.inserts) r

abbrev expected : List ℕ → List ℕ → ℕ → Result (List (List (List Cell))) Fault → Result (List ℕ) Fault
expected before name n r = result_map (λ (lines : List (List (List Cell))). before ++ tail name n lines) r

same_cond : {A B C : Type 0} (f : A → C) (g : B → C) (b b' : Bool) (x y : A) (x' y' : B) → b ≡ b' → f x ≡ g x' → f y ≡ g y' → f (cond b x y) ≡ g (cond b' x' y')
same_cond f g true true x y x' y' e hx hy = hx
same_cond f g false false x y x' y' e hx hy = hy
same_cond f g true false x y x' y' e hx hy = absurd cc
same_cond f g false true x y x' y' e hx hy = absurd cc

expected-more : (before name : List ℕ) (n : ℕ) (line : List (List Cell)) (r : Result (List (List (List Cell))) Fault) → IfOk r IsFull
    → expected (before ++ (session_line (insert name line) ++ line_end (suc n))) name (suc (suc n)) r ≡ expected before name (suc n) (result_map (λ (more : List (List (List Cell))). line ∷ more) r)
expected-more before name n line (Err fault) full = refl
expected-more before name n line (Ok more) full =
    ap (λ (t : List ℕ). Ok t) (append_assoc before (session_line (insert name line) ++ line_end (suc n)) (tail name (suc (suc n)) more)
    ∙ ap (λ (t : List ℕ). before ++ t) (append_assoc (session_line (insert name line)) (line_end (suc n)) (tail name (suc (suc n)) more) ∙ sym (tail-more name n line more full)))

-- the last line as the script has it
abbrev last_line : List ℕ → ℕ → List (List Cell) → LineCounts
last_line name n line = record { length = length (session_line (insert name line)); rows = length line; inserts = n }

abbrev last_written : List ℕ → List ℕ → ℕ → List (List Cell) → Output
last_written before name n line = (before ++ session_line (insert name line), last_line name n line)

same_test : (a b : Bool) → (a ≡ true → b ≡ true) → (b ≡ true → a ≡ true) → a ≡ b
same_test true b f g = sym (f refl)
same_test false true f g = g refl
same_test false false f g = refl

same_written : (t t' : List ℕ) (a b c a' b' c' : ℕ) → t ≡ t' → a ≡ a' → b ≡ b' → c ≡ c' → ◌≡◌ {A = Output} (t, record { length = a; rows = b; inserts = c }) (t', record { length = a'; rows = b'; inserts = c' })
same_written t t' a b c a' b' c' e1 e2 e3 e4 = rw (e1, e2, e3, e4) refl

room-numbers : (k m l n : ℕ) → m ≡ suc (suc k) → n ≡ l → (ltb 0 (suc k) && (ltb (suc k) MAX_VALUES && leb l MAX_LINE_LENGTH)) ≡ (ltb 0 m && (leb m MAX_VALUES && leb n MAX_LINE_LENGTH))
room-numbers k m l n em en =
    let some : ltb 0 (suc k) ≡ true = lt-ltb 0 (suc k) (omega arith) in
    let more : ltb 0 m ≡ true = lt-ltb 0 m (omega (arith, em)) in
    let few : ltb (suc k) MAX_VALUES ≡ leb m MAX_VALUES = same_test _ _ (λ h. le-leb m MAX_VALUES (let p : suc k < MAX_VALUES = ltb-true (suc k) MAX_VALUES h in omega (arith, p, em))) (λ h. lt-ltb (suc k) MAX_VALUES (let p : m ≤ MAX_VALUES = leb-true m MAX_VALUES h in omega (arith, p, em))) in
    rw (some, more, few, en) refl

-- the length of a line with one row more
more-length : (name : List ℕ) (first : List Cell) (line : List (List Cell)) (row : List Cell) → ArePlain first → ArePlainRows line → ArePlain row
    → length (session_line (insert name (first ∷ (line ++ row ∷ [])))) ≡ length (session_line (insert name (first ∷ line))) + 2 + length (tuple_text row)
more-length name first line row plain others last =
    let e : length (session_line (insert name (first ∷ (line ++ row ∷ [])))) ≡ length (session_line (insert name (first ∷ line))) + length (concat (codes ", " ∷ tuple_text row ∷ [])) =
    ap (λ (t : List ℕ). length t) (line-more name first line row plain others last) ∙ length-append (session_line (insert name (first ∷ line))) (concat (codes ", " ∷ tuple_text row ∷ [])) in
    let f : length (tuple_text row ++ []) ≡ length (tuple_text row) = ap (λ (t : List ℕ). length t) (append-nil (tuple_text row)) in
    omega (arith, e, f)

row-count : (first row : List Cell) (line : List (List Cell)) → length (first ∷ (line ++ row ∷ [])) ≡ suc (suc (length line))
row-count first row line = let e : length (line ++ row ∷ []) ≡ length line + 1 = length-append line (row ∷ []) in omega (arith, e)

room : (name : List ℕ) (n : ℕ) (first : List Cell) (line : List (List Cell)) (row : List Cell) → ArePlain first → ArePlainRows line → ArePlain row
    → has_room (last_line name n (first ∷ line)) (tuple_text row) ≡ fits_line name (first ∷ (line ++ row ∷ []))
room name n first line row plain others last =
    room-numbers (length line) (length (first ∷ (line ++ row ∷ []))) (length (session_line (insert name (first ∷ line))) + 2 + length (tuple_text row)) (length (session_line (insert name (first ∷ (line ++ row ∷ [])))))
    (row-count first row line) (more-length name first line row plain others last)

joined-is : (before name : List ℕ) (n : ℕ) (first : List Cell) (line : List (List Cell)) (row : List Cell) → ArePlain first → ArePlainRows line → ArePlain row
    → joined (last_written before name n (first ∷ line)) (tuple_text row) ≡ last_written before name n (first ∷ (line ++ row ∷ []))
joined-is before name n first line row plain others last =
    same_written _ _ _ _ _ _ _ _
    (append_assoc before (session_line (insert name (first ∷ line))) (concat (codes ", " ∷ tuple_text row ∷ [])) ∙ ap (λ (t : List ℕ). before ++ t) (sym (line-more name first line row plain others last)))
    (sym (more-length name first line row plain others last))
    (let e : length (first ∷ (line ++ row ∷ [])) ≡ suc (suc (length line)) = row-count first row line in omega (arith, e))
    refl

one-length : (name : List ℕ) (row : List Cell) → ArePlain row → length (insert_text name) + length (tuple_text row) ≡ length (session_line (insert name (row ∷ [])))
one-length name row plain = sym (ap (λ (t : List ℕ). length t) (line-one name row plain) ∙ length-append (insert_text name) (tuple_text row))

begun-is : (before name : List ℕ) (n : ℕ) (line : List (List Cell)) (row : List Cell) → ArePlain row
    → begun (insert_text name) (last_written before name (suc n) line) (tuple_text row) ≡ last_written (before ++ (session_line (insert name line) ++ line_end (suc n))) name (suc (suc n)) (row ∷ [])
begun-is before name n line row plain =
    same_written _ _ _ _ _ _ _ _
    (append_assoc before (session_line (insert name line)) (line_end (suc n) ++ (insert_text name ++ (tuple_text row ++ [])))
    ∙ ap (λ (t : List ℕ). before ++ t) (sym (append_assoc (session_line (insert name line)) (line_end (suc n)) (insert_text name ++ (tuple_text row ++ []))))
    ∙ sym (append_assoc before (session_line (insert name line) ++ line_end (suc n)) (insert_text name ++ (tuple_text row ++ [])))
    ∙ ap (λ (t : List ℕ). (before ++ (session_line (insert name line) ++ line_end (suc n))) ++ t) (ap (λ (t : List ℕ). insert_text name ++ t) (append-nil (tuple_text row)) ∙ sym (line-one name row plain)))
    (one-length name row plain)
    refl
    (omega arith)

long-is : (name : List ℕ) (row : List Cell) → ArePlain row → ltb MAX_LINE_LENGTH (length (insert_text name) + length (tuple_text row)) ≡ ltb MAX_LINE_LENGTH (length (session_line (insert name (row ∷ []))))
long-is name row plain = ap (λ (k : ℕ). ltb MAX_LINE_LENGTH k) (one-length name row plain)

ended-text : (before line : List ℕ) → (before ++ line) ++ codes "\ns1: COMMIT\n" ≡ before ++ ((line ++ codes "\n") ++ (codes "s1: COMMIT\n" ++ []))
ended-text before line = append_assoc before line (codes "\ns1: COMMIT\n") ∙ ap (λ (t : List ℕ). before ++ t) (sym (append_assoc line (codes "\n") (codes "s1: COMMIT\n")))

put-is : (before name : List ℕ) (number n : ℕ) (first : List Cell) (line rows : List (List Cell)) → ArePlain first → ArePlainRows line → ArePlainRows rows
    → finished (put_rows (insert_text name) number (last_written before name (suc n) (first ∷ line)) rows) ≡ expected before name (suc n) (batches_from name number (suc n) (first ∷ line) rows)
unfolding put_row
put-is before name number n first line [] plain others rest =
    ap (λ (t : List ℕ). Ok ((before ++ session_line (insert name (first ∷ line))) ++ t)) (script_end-suc n)
    ∙ ap (λ (t : List ℕ). Ok t) (ended-text before (session_line (insert name (first ∷ line))) ∙ ap (λ (t : List ℕ). before ++ (ended_line (insert name (first ∷ line)) ++ (t ++ []))) (sym commit-line))
put-is before name number n first line (row ∷ rows) plain others rest =
    let f : Result Output Fault → Result (List ℕ) Fault = λ r. finished (result_then (λ (next : Output). put_rows (insert_text name) (suc number) next rows) r) in
    let g : Result (List (List (List Cell))) Fault → Result (List ℕ) Fault = expected before name (suc n) in
    let all : List (List Cell) = first ∷ (line ++ row ∷ []) in
    let so_far : Output = last_written before name (suc n) (first ∷ line) in
    let stop : Result Output Fault = refuse TOO_MANY number in
    let halt : Result (List (List (List Cell))) Fault = refuse TOO_MANY number in
    let y4 : Result Output Fault = Ok (begun (insert_text name) so_far (tuple_text row)) in
    let z4 : Result (List (List (List Cell))) Fault = result_map (λ (more : List (List (List Cell))). (first ∷ line) ∷ more) (batches_from name (suc number) (suc (suc n)) (row ∷ []) rows) in
    let y3 : Result Output Fault = cond (leb MAX_INSERTS (suc n)) stop y4 in
    let z3 : Result (List (List (List Cell))) Fault = cond (leb MAX_INSERTS (suc n)) halt z4 in
    let y2 : Result Output Fault = cond (has_room (last_line name (suc n) (first ∷ line)) (tuple_text row)) (Ok (joined so_far (tuple_text row))) y3 in
    let z2 : Result (List (List (List Cell))) Fault = cond (fits_line name all) (batches_from name (suc number) (suc n) all rows) z3 in
    let y1 : Result Output Fault = cond (ltb (MAX_ROWS + 1) number) stop y2 in
    let z1 : Result (List (List (List Cell))) Fault = cond (ltb (MAX_ROWS + 1) number) halt z2 in
    same_cond f g (ltb MAX_LINE_LENGTH (length (insert_text name) + length (tuple_text row))) (ltb MAX_LINE_LENGTH (length (session_line (insert name (row ∷ []))))) (refuse LONG_ROW number) y1 (refuse LONG_ROW number) z1 (long-is name row rest.0) refl
    (same_cond f g (ltb (MAX_ROWS + 1) number) (ltb (MAX_ROWS + 1) number) stop y2 halt z2 refl refl
    (same_cond f g (has_room (last_line name (suc n) (first ∷ line)) (tuple_text row)) (fits_line name all) (Ok (joined so_far (tuple_text row))) y3 (batches_from name (suc number) (suc n) all rows) z3 (room name (suc n) first line row plain others rest.0)
    (ap (λ (w : Output). finished (put_rows (insert_text name) (suc number) w rows)) (joined-is before name (suc n) first line row plain others rest.0)
    ∙ put-is before name (suc number) n first (line ++ row ∷ []) rows plain (all_more line row others rest.0) rest.1)
    (same_cond f g (leb MAX_INSERTS (suc n)) (leb MAX_INSERTS (suc n)) stop y4 halt z4 refl refl
    (ap (λ (w : Output). finished (put_rows (insert_text name) (suc number) w rows)) (begun-is before name n (first ∷ line) row rest.0)
    ∙ put-is (before ++ (session_line (insert name (first ∷ line)) ++ line_end (suc n))) name (suc number) (suc n) row [] rows rest.0 tt rest.1
    ∙ expected-more before name n (first ∷ line) (batches_from name (suc number) (suc (suc n)) (row ∷ []) rows) (lines-full name (suc number) (suc (suc n)) (row ∷ []) rows)))))

-- the lines before the first INSERT
head-text : (name : List ℕ) (cols : List Column) (rest : List ℕ) → script_head name cols ++ rest ≡ ended_line (create_of name cols) ++ (ended_line (begin false) ++ rest)
head-text name cols rest =
    append_assoc (codes "s1: ") (command_text (create_of name cols) ++ codes "\ns1: BEGIN\n") rest
    ∙ ap (λ (t : List ℕ). codes "s1: " ++ t) (append_assoc (command_text (create_of name cols)) (codes "\ns1: BEGIN\n") rest)
    ∙ sym (ap (λ (t : List ℕ). ended_line (create_of name cols) ++ (t ++ rest)) begin-line ∙ append_assoc (session_line (create_of name cols)) (codes "\n") (codes "s1: BEGIN\n" ++ rest) ∙ append_assoc (codes "s1: ") (command_text (create_of name cols)) (codes "\n" ++ (codes "s1: BEGIN\n" ++ rest)))

abbrev whole : List ℕ → List Column → List (List (List Cell)) → List ℕ
whole name cols lines = script_text (create_of name cols ∷ begin false ∷ (inserts_from name 0 lines ++ (Command.commit ∷ [])))

expected-whole : (name : List ℕ) (cols : List Column) (r : Result (List (List (List Cell))) Fault) → IfOk r IsFull
    → expected (script_head name cols) name 1 r ≡ result_map (λ (lines : List (List (List Cell))). whole name cols lines) r
expected-whole name cols (Err fault) full = refl
expected-whole name cols (Ok []) full = absurd full
expected-whole name cols (Ok (line ∷ others)) full = ap (λ (t : List ℕ). Ok t) (head-text name cols (tail name 1 (line ∷ others)))

first-written : (name : List ℕ) (cols : List Column) (row : List Cell) → ArePlain row
    → begun (insert_text name) (script_head name cols, no_line) (tuple_text row) ≡ last_written (script_head name cols) name 1 (row ∷ [])
first-written name cols row plain =
    same_written _ _ _ _ _ _ _ _ (ap (λ (t : List ℕ). script_head name cols ++ t) (ap (λ (t : List ℕ). insert_text name ++ t) (append-nil (tuple_text row)) ∙ sym (line-one name row plain))) (one-length name row plain) refl refl

packed-rows : (name : List ℕ) (cols : List Column) (rows : List (List Cell)) → ArePlainRows rows
    → finished (put_rows (insert_text name) 2 (script_head name cols, no_line) rows) ≡ result_map (λ (lines : List (List (List Cell))). whole name cols lines) (batches_of name rows)
unfolding put_row batches_of
packed-rows name cols [] plain = ap (λ (t : List ℕ). Ok t) (head-text name cols (codes "s1: COMMIT\n") ∙ ap (λ (t : List ℕ). ended_line (create_of name cols) ++ (ended_line (begin false) ++ (t ++ []))) (sym commit-line))
packed-rows name cols (row ∷ rows) plain =
    let f : Result Output Fault → Result (List ℕ) Fault = λ r. finished (result_then (λ (next : Output). put_rows (insert_text name) 3 next rows) r) in
    let g : Result (List (List (List Cell))) Fault → Result (List ℕ) Fault = λ r. result_map (λ (lines : List (List (List Cell))). whole name cols lines) r in
    same_cond f g (ltb MAX_LINE_LENGTH (length (insert_text name) + length (tuple_text row))) (ltb MAX_LINE_LENGTH (length (session_line (insert name (row ∷ []))))) (refuse LONG_ROW 2) (Ok (begun (insert_text name) (script_head name cols, no_line) (tuple_text row))) (refuse LONG_ROW 2) (batches_from name 3 1 (row ∷ []) rows) (long-is name row plain.0) refl
    (ap (λ (w : Output). finished (put_rows (insert_text name) 3 w rows)) (first-written name cols row plain.0)
    ∙ put-is (script_head name cols) name 3 0 row [] rows plain.0 tt plain.1
    ∙ expected-whole name cols (batches_from name 3 1 (row ∷ []) rows) (lines-full name 3 1 (row ∷ []) rows))

pub packed-is : (name : List ℕ) (sheet : Sheet) → ArePlainRows sheet.rows → packed_script name sheet ≡ script_of name sheet
unfolding packed_script
packed-is name sheet plain = packed-rows name sheet.cols sheet.rows plain

pub ruleset scripts = (packed-is)
