-- The INSERT lines of a script hold the rows, in order and each once, and are within the limits.
use Rattle.std.proofs.Common.{◌≡◌, ℕ, suc, ◌+◌, ◌<◌, ◌≤◌, Bool, true, false, leb, ltb, List, [], ◌∷◌, ◌++◌, length, Result, Ok, refl, ap, subst, ◌∙◌, append_assoc, arith, inl, inr}
use Rattle.std.specs.List.{list_all}
use Rattle.std.proofs.lemmas.Bool.{cases_Bool, and_from, ltb-false, le-leb, leb-false}
use Rattle.gp_grammar.specs.Syntax.{insert}
use Rattle.gp_grammar.specs.declared.limits.TheConstants.{MAX_LINE_LENGTH}
use Rattle.gp_csv.specs.Faults.{Fault}
use Rattle.gp_csv.specs.Scripts.{Row, session_line, fits_line, batches_from, batches_of}
use Rattle.gp_csv.specs.SheetForms.{rows_in}
use Rattle.gp_csv.specs.declared.error.TheConstants.{LONG_ROW, TOO_MANY}
use Rattle.gp_csv.specs.declared.script.TheConstants.{MAX_ROWS, MAX_INSERTS}
use Rattle.gp_csv.proofs.ValidLemmas.{from_map, refused}

abbrev pub Lines : Type 0
Lines = List (List Row)

pub same_lines : (a b : Lines) → ◌≡◌ {A = Result Lines Fault} (Ok a) (Ok b) → a ≡ b
same_lines a b e = cc

abbrev pub is_long : List ℕ → Row → Bool
is_long name row = ltb MAX_LINE_LENGTH (length (session_line (insert name (row ∷ []))))

one-fits : (name : List ℕ) (row : Row) → is_long name row ≡ false → fits_line name (row ∷ []) ≡ true
one-fits name row short =
    le-leb (length (session_line (insert name (row ∷ [])))) MAX_LINE_LENGTH (ltb-false MAX_LINE_LENGTH (length (session_line (insert name (row ∷ [])))) short)

-- what is so of the lines of a script, where a line of these rows is there, so many lines are begun, and this is the next record
record Holds (name : List ℕ) (number n : ℕ) (line rows : List Row) (lines : Lines) : Type 0 where
  kept : rows_in lines ≡ line ++ rows
  few : length lines + n ≤ MAX_INSERTS + 1
  counted : number + length rows ≤ MAX_ROWS + 2
  fit : list_all (fits_line name) lines ≡ true

lines-hold : (name : List ℕ) (number n : ℕ) (line rows : List Row) (lines : Lines) → batches_from name number n line rows ≡ Ok lines
    → n ≤ MAX_INSERTS → number ≤ MAX_ROWS + 2 → fits_line name line ≡ true → Holds name number n line rows lines
lines-hold name number n line [] lines e most early good =
    subst (Holds name number n line []) (same_lines (line ∷ []) lines e) (record {
      kept = refl;
      few = omega (arith, most);
      counted = omega (arith, early);
      fit = rw good refl;
    })
lines-hold name number n line (row ∷ rows) lines e most early good = elim (cases_Bool (is_long name row)) [
  | inl long ↦ let f = rw long at e in absurd (refused LONG_ROW number lines f)
  | inr short ↦ let f = rw short at e in elim (cases_Bool (ltb (MAX_ROWS + 1) number)) [
    | inl many ↦ let g = rw many at f in absurd (refused TOO_MANY number lines g)
    | inr late ↦ let g = rw late at f in
        let soon : number ≤ MAX_ROWS + 1 = ltb-false (MAX_ROWS + 1) number late in
        elim (cases_Bool (fits_line name (line ++ row ∷ []))) [
          | inl fits ↦ let h = rw fits at g in
              let x = lines-hold name (suc number) n (line ++ row ∷ []) rows lines h most (omega (arith, soon)) fits in
              record {
                kept = x.kept ∙ append_assoc line (row ∷ []) rows;
                few = x.few;
                counted = let c = x.counted in omega (arith, c);
                fit = x.fit;
              }
          | inr full ↦ let h = rw full at g in elim (cases_Bool (leb MAX_INSERTS n)) [
            | inl none ↦ let k = rw none at h in absurd (refused TOO_MANY number lines k)
            | inr left ↦ let k = rw left at h in
                let m = from_map (λ (more : Lines). line ∷ more) (batches_from name (suc number) (suc n) (row ∷ []) rows) lines k in
                let room : n < MAX_INSERTS = leb-false MAX_INSERTS n left in
                let x = lines-hold name (suc number) (suc n) (row ∷ []) rows m.0 m.1 (omega (arith, room)) (omega (arith, soon)) (one-fits name row short) in
                subst (Holds name number n line (row ∷ rows)) m.2 (record {
                  kept = ap (λ (t : List Row). line ++ t) x.kept;
                  few = let c = x.few in omega (arith, c);
                  counted = let c = x.counted in omega (arith, c);
                  fit = and_from (fits_line name line) (list_all (fits_line name) m.0) good x.fit;
                })
          ]
        ]
  ]
]

-- the lines of a sheet hold its rows
pub record HoldsAll (name : List ℕ) (rows : List Row) (lines : Lines) : Type 0 where
  pub kept : rows_in lines ≡ rows
  pub few : length lines ≤ MAX_INSERTS
  pub counted : length rows ≤ MAX_ROWS
  pub fit : list_all (fits_line name) lines ≡ true

pub lines-hold-all : (name : List ℕ) (rows : List Row) (lines : Lines) → batches_of name rows ≡ Ok lines → HoldsAll name rows lines
unfolding batches_of
lines-hold-all name [] lines e = subst (HoldsAll name []) (same_lines [] lines e) (record { kept = refl; few = omega arith; counted = omega arith; fit = refl })
lines-hold-all name (row ∷ rows) lines e = elim (cases_Bool (is_long name row)) [
  | inl long ↦ let f = rw long at e in absurd (refused LONG_ROW 2 lines f)
  | inr short ↦ let f = rw short at e in
      let x = lines-hold name 3 1 (row ∷ []) rows lines f (omega arith) (omega arith) (one-fits name row short) in
      record {
        kept = x.kept;
        few = let c = x.few in omega (arith, c);
        counted = let c = x.counted in omega (arith, c);
        fit = x.fit;
      }
]
