-- Names, and numbers with a sign, are read again in front of a rest.
use Rattle.gp_sql.proofs.Prelude.{◌≡◌, ◌≢◌, ℕ, ℤ, pos, zero, suc, ◌-◌, ◌^◌, ◌<◌, ◌≤◌, Bool, true, false, eqb, List, [], ◌∷◌, ◌++◌, length, map, get_or, take, drop, Some, None, option_and_then, refl, sym, ap, ◌∙◌, append-nil, length-append, arith, codes, ◌==◌, slice_get, decimal, signed_decimal, AllByRecursion, list_all, bytes_eq, and_parts, and_from, leb-true, ltb-true, false≢true, list_all-append, Table, table_names, fits_number, is_digit, is_name, behind, name_at, most_u64, number_at, EndsName, concat-onto, Ends}
use Rattle.std.specs.Option.{option_map_or}
use Rattle.std.proofs.Common.{negsuc, ◌&&◌, ◌||◌, inl, inr, Option, ne_eqb}
use Rattle.std.proofs.lemmas.Slice.Eq.{bytes_eq-Decides}
use Rattle.std.proofs.lemmas.Bool.{cases_Bool, eqb-true, or_left}
use Rattle.std.proofs.lemmas.Fmt.{digits_decimal, digits_value-decimal, decimal_nonempty}
use Rattle.std.proofs.lemmas.List.{take_at}
use Rattle.gp_base.proofs.DigitLemmas.{own_on}
use Rattle.gp_base.specs.declared.cell.Cell.TheVariants as cell
use Rattle.gp_base.specs.declared.table.Column as table
use Rattle.gp_base.specs.Digits.{are_digits}
use Rattle.gp_base.specs.Names.{is_name_byte, is_lower_letter}
use Rattle.gp_plantext.proofs.CellAgain.{cell-again}
use Rattle.gp_plantext.proofs.NumberAgain.{decimal-first, number-again}
use Rattle.gp_plantext.proofs.Rests.{no_digits, no_word}
use Rattle.gp_sql.specs.Spelled.{AreDifferent, HaveOwnNames, source_is_spelled, column_is_spelled, query_is_spelled}
use Rattle.gp_sql.specs.Spelling.{column_name, column_text, source_text}
use Rattle.gp_sql.specs.Sql as s
use Rattle.gp_sql.specs.Sql.{Column, NamedQuery, Source}
use Rattle.gp_sql.proofs.Reading.{place_in, column_names, last_byte, source_of, source_at, as_number, signed_at, begins_number, column_at}

abbrev pub named_is_spelled : List Table → NamedQuery → Bool
named_is_spelled tables named = source_is_spelled tables named.name && query_is_spelled tables named.query

-- ---- bytes of names

name-again : (name rest : List ℕ) → list_all is_name_byte name ≡ true → EndsName rest → name_at (name ++ rest) ≡ (name, rest)
name-again [] [] all ends = refl
name-again [] (b ∷ rest) all ends = rw ends refl
name-again (b ∷ name) rest all ends =
    let p = and_parts (is_name_byte b) (list_all is_name_byte name) all in
    rw p.0 (ap (λ (x : List ℕ × List ℕ). (b ∷ x.0, x.1)) (name-again name rest p.1 ends))

name-bytes : (name : List ℕ) → is_name name ≡ true → list_all is_name_byte name ≡ true
name-bytes [] is = absurd (false≢true is)
name-bytes (b ∷ bytes) is =
    let x = and_parts _ _ is in
    let y = and_parts _ _ x.0 in
    let z = and_parts (is_lower_letter b) (list_all is_name_byte bytes) y.0 in
    and_from (is_name_byte b) (list_all is_name_byte bytes) (or_left _ _ (or_left _ _ z.0)) z.1

middle : (a d c : Bool) → d ≡ true → ((a || d) || c) ≡ true
middle true d c is = refl
middle false d c is = ap (λ (x : Bool). x || c) is

digits-names : (ds : List ℕ) → are_digits ds ≡ true → list_all is_name_byte ds ≡ true
digits-names [] all = refl
digits-names (d ∷ ds) all =
    let p = and_parts (is_digit d) (are_digits ds) all in
    and_from (is_name_byte d) (list_all is_name_byte ds) (middle (is_lower_letter d) (is_digit d) (d == 95) p.0) (digits-names ds p.1)

-- ---- places of names

other-name : (name word : List ℕ) → name ≢ word → bytes_eq name word ≡ false
other-name name word differ = elim (cases_Bool (bytes_eq name word)) [
  | inl same ↦ absurd (differ ((bytes_eq-Decides name word).0 same))
  | inr different ↦ different
]

place-from : (names : List (List ℕ)) (n : ℕ) (word : List ℕ) → n < length names → get_or names n [] ≡ word → ((k : ℕ) → k < n → get_or names k [] ≢ word) → place_in names word ≡ n
place-from [] n word within here before = absurd (omega (arith, within))
place-from (name ∷ names) zero word within here before =
    let same : bytes_eq name word ≡ true = (bytes_eq-Decides name word).1 here in rw same refl
place-from (name ∷ names) (suc n) word within here before =
    let first : bytes_eq name word ≡ false = other-name name word (before 0 (omega arith)) in
    rw first (ap (λ (k : ℕ). suc k) (place-from names n word (omega (arith, within)) here (λ k below. before (suc k) (omega (arith, below)))))

place-again : (names : List (List ℕ)) (n : ℕ) → AreDifferent names → n < length names → place_in names (get_or names n []) ≡ n
place-again names n different within = place-from names n (get_or names n []) within refl (λ k below. different k n [] below within)

named-within : (names : List (List ℕ)) (n : ℕ) → is_name (get_or names n []) ≡ true → n < length names
named-within [] n is = absurd (false≢true is)
named-within (name ∷ names) zero is = omega arith
named-within (name ∷ names) (suc n) is = omega (arith, named-within names n is)

name-listed : (columns : List table.Column) (n : ℕ) → option_map_or (λ (column : table.Column). column.name) (slice_get columns n) [] ≡ get_or (map (λ (column : table.Column). column.name) columns) n []
name-listed [] n = refl
name-listed (column ∷ columns) zero = refl
name-listed (column ∷ columns) (suc n) = name-listed columns n

column-listed : (only : Option Table) (n : ℕ) → column_name only n ≡ get_or (column_names only) n []
column-listed None n = refl
column-listed (Some only) n = name-listed only.cols n

columns-differ : (tables : List Table) (only : ℕ) → AllByRecursion (λ (each : Table). AreDifferent (map (λ (column : table.Column). column.name) each.cols)) tables → AreDifferent (column_names (slice_get tables only))
columns-differ [] only apart = λ i j d below within. absurd (omega (arith, within))
columns-differ (each ∷ tables) zero apart = apart.0
columns-differ (each ∷ tables) (suc only) apart = columns-differ tables only apart.1

-- ---- numbers

small : (n : ℕ) → fits_number (pos n) ≡ true → n < 2 ^ 63
small n fits = ltb-true n (2 ^ 63) fits

small-below : (n : ℕ) → fits_number (negsuc n) ≡ true → n ≤ 2 ^ 63 - 1
small-below n fits = leb-true n (2 ^ 63 - 1) (and_parts _ true fits).0

pub number-is : (n : ℕ) (rest : List ℕ) → fits_number (pos n) ≡ true → Ends rest → number_at most_u64 (decimal n ++ rest) ≡ (n, rest)
number-is n rest fits ends = let few = small n fits in number-again most_u64 n rest (omega (arith, few)) (omega (arith, few)) (no_digits rest ends)

pub signed-again : (z : ℤ) (rest : List ℕ) → fits_number z ≡ true → Ends rest → signed_at (signed_decimal z ++ rest) ≡ Some (z, rest)
signed-again z rest fits ends =
    ap (option_and_then as_number) (cell-again (cell.Int z) (length (signed_decimal z ++ rest)) rest fits (omega (arith, length-append (signed_decimal z) rest)) ends)

pub begins-again : (z : ℤ) (rest : List ℕ) → fits_number z ≡ true → begins_number (signed_decimal z ++ rest) ≡ true
begins-again (pos n) rest fits =
    let few = small n fits in
    let first = decimal-first n (omega (arith, few)) in
    ap (λ (x : List ℕ). begins_number (x ++ rest)) first.is ∙ ap (λ (b : Bool). b || eqb 45 first.digit) first.digits
begins-again (negsuc n) rest fits = refl

pub not-opposite : (z : ℤ) (rest : List ℕ) → fits_number z ≡ true → behind (codes "- ") (signed_decimal z ++ rest) ≡ None
not-opposite (pos n) rest fits =
    let few = small n fits in
    let first = decimal-first n (omega (arith, few)) in
    ap (λ (x : List ℕ). behind (codes "- ") (x ++ rest)) first.is ∙ no_word 45 (32 ∷ []) first.digit (first.others ++ rest) refl first.digits
not-opposite (negsuc n) rest fits =
    let few = small-below n fits in
    let first = decimal-first (suc n) (omega (arith, few)) in
    ap (λ (x : List ℕ). behind (codes " ") (x ++ rest)) first.is ∙ no_word 32 [] first.digit (first.others ++ rest) refl first.digits

-- ---- sources

last-versions : (byte : ℕ) (name : List ℕ) → last_byte byte (name ++ codes "_versions") ≡ 115
last-versions byte [] = refl
last-versions byte (next ∷ name) = last-versions next name

last-digit : (byte : ℕ) (ds : List ℕ) → are_digits ds ≡ true → 0 < length ds → is_digit (last_byte byte ds) ≡ true
last-digit byte [] all some = absurd (omega (arith, some))
last-digit byte (d ∷ []) all some = (and_parts (is_digit d) true all).0
last-digit byte (d ∷ e ∷ ds) all some = last-digit d (e ∷ ds) (and_parts (is_digit d) (are_digits (e ∷ ds)) all).1 (omega arith)

module _ (tables : List Table) (apart : HaveOwnNames tables) where
  source-is : (source : Source) → source_is_spelled tables source ≡ true → source_of tables (source_text tables source) ≡ source
  source-is (s.versions table) is =
      let name = get_or (table_names tables) table [] in
      let last : is_digit (last_byte 0 (name ++ codes "_versions")) ≡ false = ap is_digit (last-versions 0 name) in
      let cut : take (length (name ++ codes "_versions") - 9) (name ++ codes "_versions") ≡ name = take_at name (codes "_versions") (length (name ++ codes "_versions") - 9) (omega (arith, length-append name (codes "_versions"))) in
      rw last (ap (λ (word : List ℕ). s.versions (place_in (table_names tables) word)) cut ∙ ap s.versions (place-again (table_names tables) table apart.0 (named-within (table_names tables) table is)))
  source-is (s.step j) is =
      let few : j < 2 ^ 64 = omega (arith, small j is) in
      let last : is_digit (last_byte 95 (decimal j)) ≡ true = last-digit 95 (decimal j) (digits_decimal own_on j few) (decimal_nonempty j few) in
      ap (λ (ds : List ℕ). source_of tables (codes "step_" ++ ds)) (append-nil (decimal j)) ∙ rw last (ap s.step (digits_value-decimal own_on j few))
  source-is (s.query n) is =
      let few : n < 2 ^ 64 = omega (arith, small n is) in
      let last : is_digit (last_byte 113 (decimal n)) ≡ true = last-digit 113 (decimal n) (digits_decimal own_on n few) (decimal_nonempty n few) in
      ap (λ (ds : List ℕ). source_of tables (codes "q" ++ ds)) (append-nil (decimal n)) ∙ rw last (ap s.query (digits_value-decimal own_on n few))

  source-bytes : (source : Source) → source_is_spelled tables source ≡ true → list_all is_name_byte (source_text tables source) ≡ true
  source-bytes (s.versions table) is =
      let name = get_or (table_names tables) table [] in
      list_all-append is_name_byte name (codes "_versions") ∙ and_from (list_all is_name_byte name) (list_all is_name_byte (codes "_versions")) (name-bytes name is) refl
  source-bytes (s.step j) is = ap (list_all is_name_byte) (append-nil (decimal j)) ∙ digits-names (decimal j) (digits_decimal own_on j (omega (arith, small j is)))
  source-bytes (s.query n) is = ap (list_all is_name_byte) (append-nil (decimal n)) ∙ digits-names (decimal n) (digits_decimal own_on n (omega (arith, small n is)))

  pub source-again : (source : Source) (rest : List ℕ) → source_is_spelled tables source ≡ true → EndsName rest → source_at tables (source_text tables source ++ rest) ≡ Some (source, rest)
  source-again source rest is ends =
      ap (λ (x : List ℕ × List ℕ). Some (source_of tables x.0, x.1)) (name-again (source_text tables source) rest (source-bytes source is) ends) ∙ ap (λ (only : Source). Some (only, rest)) (source-is source is)

  -- ---- columns

  -- the column of this name, of another table
  abbrev pub under : ℕ → Column → Column
  under only (s.stored table n) = s.stored only (place_in (column_names (slice_get tables only)) (column_name (slice_get tables table) n))
  under only s.identity = s.identity
  under only s.begins = s.begins
  under only s.ends = s.ends
  under only (s.numbered n) = s.numbered n

  quoted-column : (only : ℕ) (name rest : List ℕ) → is_name name ≡ true
      → column_at tables only (codes "\"" ++ (name ++ (codes "\"" ++ rest))) ≡ Some (s.stored only (place_in (column_names (slice_get tables only)) name), rest)
  quoted-column only [] rest is = absurd (false≢true is)
  quoted-column only (b ∷ bytes) rest is =
      let x = and_parts _ _ is in
      let y = and_parts _ _ x.0 in
      let z = and_parts (is_lower_letter b) (list_all is_name_byte bytes) y.0 in
      let letter : 97 ≤ b = leb-true 97 b (and_parts _ _ z.0).0 in
      let other : eqb 36 b ≡ false = ne_eqb 36 b (λ e. omega (arith, letter, e)) in
      rw other (ap (λ (w : List ℕ × List ℕ). Some (s.stored only (place_in (column_names (slice_get tables only)) w.0), drop 1 w.1)) (name-again (b ∷ bytes) (codes "\"" ++ rest) (name-bytes (b ∷ bytes) is) refl))

  pub column-again : (table : Option ℕ) (only : ℕ) (c : Column) (rest : List ℕ) → column_is_spelled tables table c ≡ true → Ends rest → column_at tables only (column_text tables c ++ rest) ≡ Some (under only c, rest)
  column-again table only s.identity rest is ends = refl
  column-again table only s.begins rest is ends = refl
  column-again table only s.ends rest is ends = refl
  column-again None only (s.stored place n) rest is ends = absurd (false≢true is)
  column-again (Some table) only (s.stored place n) rest is ends =
      let name = column_name (slice_get tables place) n in
      ap (column_at tables only) (concat-onto (codes "\"" ∷ name ∷ codes "\"" ∷ []) rest) ∙ quoted-column only name rest (and_parts (table == place) (is_name name) is).1
  column-again table only (s.numbered n) rest is ends =
      ap (column_at tables only) (concat-onto (codes "c" ∷ decimal n ∷ []) rest) ∙ ap (λ (x : ℕ × List ℕ). Some (s.numbered x.0, x.1)) (number-is n rest is ends)

  pub under-none : (only : ℕ) (c : Column) → column_is_spelled tables None c ≡ true → under only c ≡ c
  under-none only s.identity is = refl
  under-none only s.begins is = refl
  under-none only s.ends is = refl
  under-none only (s.stored table n) is = absurd (false≢true is)
  under-none only (s.numbered n) is = refl

  pub under-same : (only : ℕ) (c : Column) → column_is_spelled tables (Some only) c ≡ true → under only c ≡ c
  under-same only s.identity is = refl
  under-same only s.begins is = refl
  under-same only s.ends is = refl
  under-same only (s.stored table n) is =
      let p = and_parts (only == table) (is_name (column_name (slice_get tables table) n)) is in
      let same : only ≡ table = eqb-true only table p.0 in
      let names = column_names (slice_get tables table) in
      let listed = column-listed (slice_get tables table) n in
      let within : n < length names = named-within names n (ap is_name (sym listed) ∙ p.1) in
      let place : place_in names (column_name (slice_get tables table) n) ≡ n = ap (place_in names) listed ∙ place-again names n (columns-differ tables table apart.1) within in
      (λ i. s.stored (same i) (place_in (column_names (slice_get tables (same i))) (column_name (slice_get tables table) n))) ∙ ap (s.stored table) place
  under-same only (s.numbered n) is = refl
