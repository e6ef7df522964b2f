-- Lemmas of the cells of a row line as loops read them.
use Rattle.std.proofs.Common.{◌≡◌, ◌≢◌, eq-eqb, ℕ, zero, suc, ◌+◌, ◌^◌, ◌<◌, ◌≤◌, Bool, true, false, not, ◌&&◌, eqb, ltb, cond, List, [], ◌∷◌, ◌++◌, length, take, drop, get_or, Option, Some, None, option_and_then, ℤ, pos, negsuc, refl, sym, ap, ◌∙◌, append_assoc, arith}
use Rattle.std.specs.Prelude.{◌==◌, ◌-◌}
use Rattle.std.specs.List.{list_any}
use Rattle.std.specs.Option.{option_map}
use Rattle.std.proofs.lemmas.Bool.{ne_eqb, cond-false, eqb-true, le-ltb, or_parts}
use Rattle.std.proofs.lemmas.List.{drop_more, take_more, drop_all, take_all, append-nil}
use Rattle.gp_base.specs.declared.cell.Cell.{Cell}
use Rattle.gp_dumpline.specs.Numbers.{number_of, after_byte}
use Rattle.gp_dumpline.specs.RowForms.{put, parts_of, unquoted, negative_of, integer_of, cell_of, further_cells, cells_in, cells_of}
use Rattle.gp_dumpline.specs.CellParts.{puts, parts_behind, with_further}
use Rattle.gp_base.specs.Saturating.{saturated}
use Rattle.gp_base.proofs.SaturatingLemmas.{capped}
use Rattle.gp_base.proofs.SmallLemmas.{and_none}

-- ---- parts

puts-push : (text : List ℕ) (b : ℕ) (parts : List (List ℕ)) → puts (text ++ b ∷ []) parts ≡ puts text (put b parts)
puts-push [] b parts = refl
puts-push (x ∷ text) b parts = ap (put x) (puts-push text b parts)

pub puts-part : (text : List ℕ) (parts : List (List ℕ)) → puts text ([] ∷ parts) ≡ text ∷ parts
puts-part [] parts = refl
puts-part (b ∷ text) parts = ap (put b) (puts-part text parts)

-- the parts, of which the first begins with the bytes before this place
abbrev pub parts_from : ℕ → Bool → List ℕ → List (List ℕ)
parts_from i inside text = puts (take i text) (parts_of inside (drop i text))

stepped : (i : ℕ) (inside after : Bool) (text : List ℕ) → i < length text → parts_of inside (get_or text i 0 ∷ drop (i + 1) text) ≡ put (get_or text i 0) (parts_of after (drop (i + 1) text)) → parts_from (i + 1) after text ≡ parts_from i inside text
stepped i inside after text within here =
    ap (λ (front : List ℕ). puts front (parts_of after (drop (i + 1) text))) (take_more text i 0 within)
    ∙ puts-push (take i text) (get_or text i 0) (parts_of after (drop (i + 1) text))
    ∙ ap (puts (take i text)) (sym here)
    ∙ ap (λ (rest : List ℕ). puts (take i text) (parts_of inside rest)) (sym (drop_more text i 0 within))

at-quote : (inside : Bool) (b : ℕ) (bytes : List ℕ) → eqb b 39 ≡ true → parts_of inside (b ∷ bytes) ≡ put b (parts_of (not inside) bytes)
at-quote inside b bytes quote = rw quote refl

at-plain : (inside : Bool) (b : ℕ) (bytes : List ℕ) → eqb b 39 ≡ false → (eqb b 44 && not inside) ≡ false → parts_of inside (b ∷ bytes) ≡ put b (parts_of inside bytes)
at-plain inside b bytes other on = rw (other, on) refl

at-comma : (b : ℕ) (bytes : List ℕ) → eqb b 39 ≡ false → eqb b 44 ≡ true → parts_of false (b ∷ bytes) ≡ [] ∷ parts_of false bytes
at-comma b bytes other comma = rw (other, comma) refl

pub parts-quote : (i : ℕ) (inside : Bool) (text : List ℕ) → i < length text → eqb (get_or text i 0) 39 ≡ true → parts_from (i + 1) (not inside) text ≡ parts_from i inside text
parts-quote i inside text within quote = stepped i inside (not inside) text within (at-quote inside (get_or text i 0) (drop (i + 1) text) quote)

pub parts-inside : (i : ℕ) (text : List ℕ) → i < length text → eqb (get_or text i 0) 39 ≡ false → parts_from (i + 1) true text ≡ parts_from i true text
parts-inside i text within other = stepped i true true text within (at-plain true (get_or text i 0) (drop (i + 1) text) other (and_none (eqb (get_or text i 0) 44)))

pub parts-outside : (i : ℕ) (text : List ℕ) → i < length text → eqb (get_or text i 0) 39 ≡ false → eqb (get_or text i 0) 44 ≡ false → parts_from (i + 1) false text ≡ parts_from i false text
parts-outside i text within other on = stepped i false false text within (at-plain false (get_or text i 0) (drop (i + 1) text) other (rw on refl))

pub parts-comma : (i : ℕ) (text : List ℕ) → i < length text → get_or text i 0 ≢ 39 → get_or text i 0 ≡ 44 → parts_from i false text ≡ take i text ∷ parts_of false (drop (i + 1) text)
parts-comma i text within other comma =
    ap (λ (rest : List ℕ). puts (take i text) (parts_of false rest)) (drop_more text i 0 within)
    ∙ ap (puts (take i text)) (at-comma (get_or text i 0) (drop (i + 1) text) (ne_eqb (get_or text i 0) 39 other) (eq-eqb (get_or text i 0) 44 comma))
    ∙ puts-part (take i text) (parts_of false (drop (i + 1) text))

pub parts-end : (i : ℕ) (inside : Bool) (text : List ℕ) → length text ≤ i → parts_from i inside text ≡ text ∷ []
parts-end i inside text far =
    ap (λ (rest : List ℕ). puts (take i text) (parts_of inside rest)) (drop_all i text far)
    ∙ ap (λ (front : List ℕ). puts front ([] ∷ [])) (take_all i text far)
    ∙ puts-part text []

pub ruleset part_steps = (parts-quote, parts-inside, parts-outside, parts-comma, parts-end)

-- ---- texts in quotes

-- these bytes in front of a value
abbrev pub behind : List ℕ → Option (List ℕ) → Option (List ℕ)
behind front value = option_map (λ (rest : List ℕ). front ++ rest) value

behind-push : (front : List ℕ) (b : ℕ) (value : Option (List ℕ)) → behind (front ++ b ∷ []) value ≡ behind front (option_map (λ (rest : List ℕ). b ∷ rest) value)
behind-push front b None = refl
behind-push front b (Some rest) = ap (λ (x : List ℕ). Some x) (append_assoc front (b ∷ []) rest)

pub plain-unquoted : (b : ℕ) (bytes : List ℕ) → eqb b 39 ≡ false → unquoted (b ∷ bytes) ≡ option_map (λ (rest : List ℕ). b ∷ rest) (unquoted bytes)
plain-unquoted b [] other = rw other refl
plain-unquoted b (c ∷ bytes) other = rw other refl

pub quote-plain : (front : List ℕ) (b : ℕ) (bytes : List ℕ) → eqb b 39 ≡ false → behind (front ++ b ∷ []) (unquoted bytes) ≡ behind front (unquoted (b ∷ bytes))
quote-plain front b bytes other = behind-push front b (unquoted bytes) ∙ ap (behind front) (sym (plain-unquoted b bytes other))

two-quotes : (b c : ℕ) (bytes : List ℕ) → eqb b 39 ≡ true → eqb c 39 ≡ true → unquoted (b ∷ c ∷ bytes) ≡ option_map (λ (rest : List ℕ). 39 ∷ rest) (unquoted bytes)
two-quotes b c bytes one two = rw (one, two) refl

pub quote-two : (front : List ℕ) (b c : ℕ) (bytes : List ℕ) → eqb b 39 ≡ true → eqb c 39 ≡ true → behind (front ++ b ∷ []) (unquoted bytes) ≡ behind front (unquoted (b ∷ c ∷ bytes))
quote-two front b c bytes one two =
    ap (λ (x : ℕ). behind (front ++ x ∷ []) (unquoted bytes)) (eqb-true b 39 one)
    ∙ behind-push front 39 (unquoted bytes)
    ∙ ap (behind front) (sym (two-quotes b c bytes one two))

pub quote-last : (front : List ℕ) (b : ℕ) → eqb b 39 ≡ true → behind front (unquoted (b ∷ [])) ≡ Some front
quote-last front b one = ap (behind front) here ∙ ap (λ (x : List ℕ). Some x) (append-nil front)
  where
    here : unquoted (b ∷ []) ≡ Some []
    here = rw one refl

pub quote-early : (front : List ℕ) (b c : ℕ) (bytes : List ℕ) → eqb b 39 ≡ true → eqb c 39 ≡ false → behind front (unquoted (b ∷ c ∷ bytes)) ≡ None
quote-early front b c bytes one other = ap (behind front) here
  where
    here : unquoted (b ∷ c ∷ bytes) ≡ None
    here = rw (one, other) refl

pub ruleset quote_steps = (quote-plain, quote-two, quote-last, quote-early)

-- a text without a quote but the closing one
plain-quoted : (body : List ℕ) → list_any (λ (byte : ℕ). byte == 39) body ≡ false → unquoted (body ++ 39 ∷ []) ≡ Some body
plain-quoted [] none = refl
plain-quoted (b ∷ body) none =
    let parts = or_parts (b == 39) (list_any (λ (byte : ℕ). byte == 39) body) none in
    plain-unquoted b (body ++ 39 ∷ []) parts.0 ∙ ap (option_map (λ (rest : List ℕ). b ∷ rest)) (plain-quoted body parts.1)

-- where the last byte is a quote, and none is in front of it
pub plain-taken : (text : List ℕ) (d : ℕ) → 1 ≤ length text → get_or text (length text - 1) d ≡ 39 → list_any (λ (byte : ℕ). byte == 39) (take (length text - 1) text) ≡ false
    → unquoted text ≡ Some (take (length text - 1) text)
plain-taken text d some quote none =
    let place : ℕ = length text - 1 in
    let within : place < length text = omega (arith, some) in
    let whole : length text ≤ place + 1 = omega (arith, some) in
    let split : text ≡ take place text ++ 39 ∷ [] =
    sym (take_all (place + 1) text whole) ∙ take_more text place d within ∙ ap (λ (last : ℕ). take place text ++ last ∷ []) quote in
    ap unquoted split ∙ plain-quoted (take place text) none

-- ---- numbers

negative-none : (n : ℕ) → 2 ^ 63 < n → negative_of n ≡ None
negative-none zero large = absurd (omega (arith, large))
negative-none (suc n) large = cond-false (ltb n (2 ^ 63)) (Some (negsuc n)) None (le-ltb n (2 ^ 63) (omega (arith, large)))

abbrev positive_of : ℕ → Option ℤ
positive_of n = cond (ltb n (2 ^ 63)) (Some (pos n)) None

positive-none : (n : ℕ) → 2 ^ 63 < n → positive_of n ≡ None
positive-none n large = cond-false (ltb n (2 ^ 63)) (Some (pos n)) None (le-ltb n (2 ^ 63) (omega (arith, large)))

pub integer-negative : (b : ℕ) (bytes : List ℕ) → eqb b 45 ≡ true → integer_of (b ∷ bytes) ≡ option_and_then negative_of (saturated (number_of bytes))
integer-negative b bytes minus = rw minus (sym (capped negative_of negative-none (number_of bytes)))

pub integer-positive : (b : ℕ) (bytes : List ℕ) → eqb b 45 ≡ false → integer_of (b ∷ bytes) ≡ option_and_then positive_of (saturated (number_of (b ∷ bytes)))
integer-positive b bytes other = rw other (sym (capped positive_of positive-none (number_of (b ∷ bytes))))

pub ruleset integers = (integer-negative, integer-positive)

-- ---- further cells

pub further-none : (cells : List Cell) → with_further cells None ≡ Some cells
further-none cells = ap (λ (x : List Cell). Some x) (append-nil cells)

abbrev pub push_cell : List Cell → Option Cell → Option (List Cell)
push_cell cells cell = option_map (λ (c : Cell). cells ++ c ∷ []) cell

abbrev one_more : Option Cell → Option (List Cell) → Option (List Cell)
one_more cell others = option_and_then (λ (c : Cell). option_map (λ (cells : List Cell). c ∷ cells) others) cell

behind-more : (cells : List Cell) (c : Cell) (others : Option (List Cell)) → option_map (λ (more : List Cell). cells ++ more) (option_map (λ (more : List Cell). c ∷ more) others) ≡ option_map (λ (more : List Cell). (cells ++ c ∷ []) ++ more) others
behind-more cells c None = refl
behind-more cells c (Some more) = ap (λ (x : List Cell). Some x) (sym (append_assoc cells (c ∷ []) more))

found-more : (cells new : List Cell) (cell : Option Cell) (others : Option (List Cell)) → push_cell cells cell ≡ Some new → option_map (λ (more : List Cell). cells ++ more) (one_more cell others) ≡ option_map (λ (more : List Cell). new ++ more) others
found-more cells new None others e = absurd cc
found-more cells new (Some c) others e =
    let is : cells ++ c ∷ [] ≡ new = cc in
    behind-more cells c others ∙ ap (λ (front : List Cell). option_map (λ (more : List Cell). front ++ more) others) is

not-found : (cells : List Cell) (cell : Option Cell) (others : Option (List Cell)) → push_cell cells cell ≡ None → option_map (λ (more : List Cell). cells ++ more) (one_more cell others) ≡ None
not-found cells None others e = refl
not-found cells (Some c) others e = absurd cc

abbrev cell_in : Option (List ℕ) → Option Cell
cell_in part = option_and_then cell_of part

-- the next part is no further cell, since no space is in front of it
pub further-no_space : (cells : List Cell) (text part : List ℕ) (rest : Option (List ℕ)) → parts_of false text ≡ part ∷ parts_behind rest → after_byte 32 part ≡ None → with_further cells (Some text) ≡ None
further-no_space cells text part rest parts none =
    ap (λ (ps : List (List ℕ)). option_map (λ (more : List Cell). cells ++ more) (further_cells ps)) parts
    ∙ ap (λ (p : Option (List ℕ)). option_map (λ (more : List Cell). cells ++ more) (one_more (cell_in p) (further_cells (parts_behind rest)))) none

-- or since what is behind the space is no cell
pub further-no_cell : (cells : List Cell) (text part inside : List ℕ) (rest : Option (List ℕ)) → parts_of false text ≡ part ∷ parts_behind rest → after_byte 32 part ≡ Some inside → push_cell cells (cell_of inside) ≡ None → with_further cells (Some text) ≡ None
further-no_cell cells text part inside rest parts some none =
    ap (λ (ps : List (List ℕ)). option_map (λ (more : List Cell). cells ++ more) (further_cells ps)) parts
    ∙ ap (λ (p : Option (List ℕ)). option_map (λ (more : List Cell). cells ++ more) (one_more (cell_in p) (further_cells (parts_behind rest)))) some
    ∙ not-found cells (cell_of inside) (further_cells (parts_behind rest)) none

-- the next part is a cell
pub further-cell : (cells new : List Cell) (text part inside : List ℕ) (rest : Option (List ℕ)) → parts_of false text ≡ part ∷ parts_behind rest → after_byte 32 part ≡ Some inside → push_cell cells (cell_of inside) ≡ Some new → with_further cells (Some text) ≡ with_further new rest
further-cell cells new text part inside rest parts some found =
    ap (λ (ps : List (List ℕ)). option_map (λ (more : List Cell). cells ++ more) (further_cells ps)) parts
    ∙ ap (λ (p : Option (List ℕ)). option_map (λ (more : List Cell). cells ++ more) (one_more (cell_in p) (further_cells (parts_behind rest)))) some
    ∙ found-more cells new (cell_of inside) (further_cells (parts_behind rest)) found

map-nil : (others : Option (List Cell)) → option_map (λ (more : List Cell). [] ++ more) others ≡ others
map-nil None = refl
map-nil (Some more) = refl

-- the first part is no cell
pub first-no_cell : (text part : List ℕ) (rest : Option (List ℕ)) → parts_of false text ≡ part ∷ parts_behind rest → push_cell [] (cell_of part) ≡ None → cells_of text ≡ None
first-no_cell text part rest parts none =
    ap cells_in parts ∙ sym (map-nil (one_more (cell_of part) (further_cells (parts_behind rest)))) ∙ not-found [] (cell_of part) (further_cells (parts_behind rest)) none

-- the first part is a cell
pub first-cell : (new : List Cell) (text part : List ℕ) (rest : Option (List ℕ)) → parts_of false text ≡ part ∷ parts_behind rest → push_cell [] (cell_of part) ≡ Some new → cells_of text ≡ with_further new rest
first-cell new text part rest parts found =
    ap cells_in parts ∙ sym (map-nil (one_more (cell_of part) (further_cells (parts_behind rest)))) ∙ found-more [] new (cell_of part) (further_cells (parts_behind rest)) found

pub ruleset further_steps = (further-none, further-no_space, further-no_cell, further-cell, first-no_cell, first-cell)
