-- Each INSERT line of a script takes as many of the next rows as it can.
use Rattle.std.proofs.Common.{◌≡◌, ℕ, suc, ◌+◌, ◌<◌, false, leb, ltb, List, [], ◌∷◌, ◌++◌, length, length-append, Ok, sym, ap, subst, ◌∙◌, append_assoc, append-nil, arith, inl, inr}
use Rattle.std.proofs.lemmas.Bool.{cases_Bool, leb-false, lt-ltb}
use Rattle.gp_grammar.specs.Syntax.{insert}
use Rattle.gp_grammar.specs.declared.limits.TheConstants.{MAX_LINE_LENGTH, MAX_VALUES}
use Rattle.gp_csv.specs.Scripts.{Row, session_line, fits_line, batches_from, batches_of}
use Rattle.gp_csv.specs.SheetForms.{PassesLimit}
use Rattle.gp_csv.specs.declared.error.TheConstants.{LONG_ROW, TOO_MANY}
use Rattle.gp_csv.specs.declared.script.TheConstants.{MAX_ROWS, MAX_INSERTS}
use Rattle.gp_csv.proofs.LineLemmas.{Lines, is_long, same_lines}
use Rattle.gp_csv.proofs.ValidLemmas.{from_map, refused}

-- with the first row of the next lines a line would pass a limit
abbrev IsFull : List ℕ → List Row → Lines → Type 0
IsFull name line ((row ∷ rows) ∷ lines) = PassesLimit name (line ++ row ∷ [])
IsFull name line lines = Unit {0}

-- each line is full but the last one
abbrev AreFull : List ℕ → Lines → Type 0
AreFull name [] = Unit {0}
AreFull name (line ∷ lines) = IsFull name line lines × AreFull name lines

some-rows : (line : List Row) (row : Row) → 0 < length (line ++ row ∷ [])
some-rows line row = let e = length-append line (row ∷ []) in omega (arith, e)

passes : (name : List ℕ) (line : List Row) (row : Row) → fits_line name (line ++ row ∷ []) ≡ false → PassesLimit name (line ++ row ∷ [])
passes name line row e = elim (cases_Bool (leb (length (line ++ row ∷ [])) MAX_VALUES)) [
  | inr many ↦ inl (leb-false (length (line ++ row ∷ [])) MAX_VALUES many)
  | inl few ↦ elim (cases_Bool (leb (length (session_line (insert name (line ++ row ∷ [])))) MAX_LINE_LENGTH)) [
    | inr long ↦ inr (leb-false (length (session_line (insert name (line ++ row ∷ [])))) MAX_LINE_LENGTH long)
    | inl short ↦ let f = rw (lt-ltb 0 (length (line ++ row ∷ [])) (some-rows line row), few, short) at e in cc
  ]
]

-- lines of which the first begins with these rows
record Fills (name : List ℕ) (line : List Row) (lines : Lines) : Type 0 where
  more : List Row
  others : Lines
  are : lines ≡ (line ++ more) ∷ others
  full : AreFull name lines

lines-full : (name : List ℕ) (number n : ℕ) (line rows : List Row) (lines : Lines) → batches_from name number n line rows ≡ Ok lines → Fills name line lines
lines-full name number n line [] lines e =
    subst (Fills name line) (same_lines (line ∷ []) lines e) (record {
      more = [];
      others = [];
      are = ap (λ (t : List Row). t ∷ []) (sym (append-nil line));
      full = (tt, tt);
    })
lines-full name number n line (row ∷ rows) lines e = elim (cases_Bool (is_long name row)) [
  | inl long ↦ let f = rw long at e in absurd (refused LONG_ROW number lines f)
  | inr short ↦ let f = rw short at e in elim (cases_Bool (ltb (MAX_ROWS + 1) number)) [
    | inl many ↦ let g = rw many at f in absurd (refused TOO_MANY number lines g)
    | inr late ↦ let g = rw late at f in elim (cases_Bool (fits_line name (line ++ row ∷ []))) [
      | inl fits ↦ let h = rw fits at g in
          let x = lines-full name (suc number) n (line ++ row ∷ []) rows lines h in
          record {
            more = row ∷ x.more;
            others = x.others;
            are = x.are ∙ ap (λ (t : List Row). t ∷ x.others) (append_assoc line (row ∷ []) x.more);
            full = x.full;
          }
      | inr over ↦ let h = rw over at g in elim (cases_Bool (leb MAX_INSERTS n)) [
        | inl none ↦ let k = rw none at h in absurd (refused TOO_MANY number lines k)
        | inr left ↦ let k = rw left at h in
            let m = from_map (λ (more : Lines). line ∷ more) (batches_from name (suc number) (suc n) (row ∷ []) rows) lines k in
            let x = lines-full name (suc number) (suc n) (row ∷ []) rows m.0 m.1 in
            subst (Fills name line) m.2 (record {
              more = [];
              others = m.0;
              are = ap (λ (t : List Row). t ∷ m.0) (sym (append-nil line));
              full = (subst (IsFull name line) (sym x.are) (passes name line row over), x.full);
            })
      ]
    ]
  ]
]

all-full : (name : List ℕ) (rows : List Row) (lines : Lines) → batches_of name rows ≡ Ok lines → AreFull name lines
unfolding batches_of
all-full name [] lines e = subst (AreFull name) (same_lines [] lines e) tt
all-full name (row ∷ rows) lines e = elim (cases_Bool (is_long name row)) [
  | inl long ↦ let f = rw long at e in absurd (refused LONG_ROW 2 lines f)
  | inr short ↦ let f = rw short at e in (lines-full name 3 1 (row ∷ []) rows lines f).full
]

full-at : (name : List ℕ) (before after : Lines) (line rows : List Row) (row : Row) → AreFull name (before ++ line ∷ (row ∷ rows) ∷ after) → PassesLimit name (line ++ row ∷ [])
full-at name [] after line rows row all = all.0
full-at name (first ∷ before) after line rows row all = full-at name before after line rows row all.1

pub line-full : (name : List ℕ) (rows : List Row) (before after : Lines) (line next : List Row) (row : Row)
    → batches_of name rows ≡ Ok (before ++ line ∷ (row ∷ next) ∷ after) → PassesLimit name (line ++ row ∷ [])
line-full name rows before after line next row e = full-at name before after line next row (all-full name rows (before ++ line ∷ (row ∷ next) ∷ after) e)
