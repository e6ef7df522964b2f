-- Machinery: what the identity and the cells of a row line are read as. Each is the inverse of its text in gp_base.
use Rattle.std.specs.Prelude.{◌^◌, ◌*◌, ℕ, ℤ, pos, negsuc, zero, suc, Bool, false, ◌&&◌, not, List, [], ◌∷◌, Option, Some, None, option_and_then, nat_lt, nat_le, if◌then◌else◌, ◌==◌, codes}
use Rattle.std.specs.Option.{option_map}
use Rattle.std.specs.Str.{bytes_eq}
use Rattle.gp_base.specs.Leaves.{digits_at, if_there}
use Rattle.gp_base.specs.declared.cell.Cell.{Cell}
use Rattle.gp_base.specs.declared.cell.Cell.TheVariants as cell
use Rattle.gp_base.specs.declared.row_id.TheConstants.{MAX_NODES}
use Rattle.gp_base.specs.Identities.{Identity, Sources, identity, no_sources, source, nodes}
use Rattle.gp_dumpline.specs.declared.identity.TheConstants.{MAX_PART}
use Rattle.gp_dumpline.specs.Numbers.{number_of, after_byte}

-- ---- identities

abbrev pub if_part : ℕ × List ℕ → Option (ℕ × List ℕ)
if_part x = if nat_le x.0 MAX_PART then Some x else None

-- a number of an identity in front, which is not 0 and has no leading zeros
unfoldable pub part_at : List ℕ → Option (ℕ × List ℕ)
part_at [] = None
part_at (byte ∷ bytes) = if nat_le 49 byte && nat_le byte 57 then if_part (digits_at 0 (byte ∷ bytes)) else None

pub record Numbers : Type 0 where
  pub t : ℕ
  pub k : ℕ
  pub n : ℕ
  pub rest : List ℕ

unfoldable pub numbers_at : List ℕ → Option Numbers
numbers_at bytes =
    option_and_then (λ (t : ℕ × List ℕ).
    option_and_then (λ (a : List ℕ).
    option_and_then (λ (k : ℕ × List ℕ).
    option_and_then (λ (b : List ℕ).
    option_and_then (λ (n : ℕ × List ℕ). Some (record { t = t.0; k = k.0; n = n.0; rest = n.1 }))
    (part_at b)) (after_byte 46 k.1)) (part_at a)) (after_byte 46 t.1)) (part_at bytes)

-- an identity of these numbers and sources, unless it has too many nodes
abbrev pub made : Numbers → Sources × List ℕ → Option (Identity × List ℕ)
made x y = if nat_le (nodes (identity x.t x.k x.n y.0)) MAX_NODES then Some (identity x.t x.k x.n y.0, y.1) else None

abbrev pub joined : Identity → Sources × List ℕ → Option (Sources × List ℕ)
joined first y = Some (source first y.0, y.1)

-- an identity in front, within so many steps
unfoldable mutual
  pub identity_at : ℕ → List ℕ → Option (Identity × List ℕ)
  identity_at zero bytes = None
  identity_at (suc steps) bytes = option_and_then (λ (x : Numbers). option_and_then (made x) (sources_at steps x.rest)) (numbers_at bytes)

  pub sources_at : ℕ → List ℕ → Option (Sources × List ℕ)
  sources_at zero bytes = None
  sources_at (suc steps) bytes =
      if_there (after_byte 40 bytes) (λ inside. option_and_then (λ (x : Identity × List ℕ). option_and_then (joined x.0) (others_at steps x.1)) (identity_at steps inside)) (Some (no_sources, bytes))

  pub others_at : ℕ → List ℕ → Option (Sources × List ℕ)
  others_at zero bytes = None
  others_at (suc steps) bytes =
      if_there (after_byte 41 bytes) (λ rest. Some (no_sources, rest))
      (if_there (after_byte 44 bytes) (λ inside. option_and_then (λ (x : Identity × List ℕ). option_and_then (joined x.0) (others_at steps x.1)) (identity_at steps inside)) None)

-- enough steps for an identity: three for each of its nodes
abbrev pub most_steps : ℕ
most_steps = 3 * MAX_NODES

abbrev pub if_whole : Identity × List ℕ → Option Identity
if_whole (id, []) = Some id
if_whole (id, byte ∷ bytes) = None

abbrev pub identity_of : List ℕ → Option Identity
identity_of text = option_and_then if_whole (identity_at most_steps text)

-- ---- cells

-- the byte in front of the first part
abbrev pub put : ℕ → List (List ℕ) → List (List ℕ)
put byte [] = (byte ∷ []) ∷ []
put byte (part ∷ parts) = (byte ∷ part) ∷ parts

-- the parts between commas outside of quotes, given whether the first byte is inside; a quote opens or closes, so two of them change nothing
abbrev pub parts_of : Bool → List ℕ → List (List ℕ)
parts_of inside [] = [] ∷ []
parts_of inside (byte ∷ bytes) =
    if byte == 39 then put byte (parts_of (not inside) bytes)
    else (if (byte == 44) && not inside then [] ∷ parts_of inside bytes
    else put byte (parts_of inside bytes))

-- the value of a text behind its opening quote: each quote inside is doubled, and the last byte is the closing quote
abbrev pub unquoted : List ℕ → Option (List ℕ)
unquoted [] = None
unquoted (byte ∷ []) = if byte == 39 then Some [] else None
unquoted (byte ∷ next ∷ bytes) =
    if byte == 39 then (if next == 39 then option_map (λ (rest : List ℕ). 39 ∷ rest) (unquoted bytes) else None)
    else option_map (λ (rest : List ℕ). byte ∷ rest) (unquoted (next ∷ bytes))

-- a number with a sign that fits 64 bits; -0 is none
abbrev pub negative_of : ℕ → Option ℤ
negative_of zero = None
negative_of (suc n) = if nat_lt n (2 ^ 63) then Some (negsuc n) else None

abbrev pub integer_of : List ℕ → Option ℤ
integer_of [] = None
integer_of (byte ∷ bytes) =
    if byte == 45 then option_and_then negative_of (number_of bytes)
    else option_and_then (λ n. if nat_lt n (2 ^ 63) then Some (pos n) else None) (number_of (byte ∷ bytes))

unfoldable pub cell_of : List ℕ → Option Cell
cell_of [] = None
cell_of (byte ∷ bytes) =
    if byte == 39 then option_map (λ (text : List ℕ). cell.Text text) (unquoted bytes)
    else if bytes_eq (byte ∷ bytes) (codes "NULL") then Some cell.Null
    else option_map (λ (number : ℤ). cell.Int number) (integer_of (byte ∷ bytes))

-- the cells of parts, of which all but the first begin with a space
abbrev pub further_cells : List (List ℕ) → Option (List Cell)
further_cells [] = Some []
further_cells (part ∷ parts) =
    option_and_then (λ (cell : Cell). option_map (λ (cells : List Cell). cell ∷ cells) (further_cells parts))
    (option_and_then cell_of (after_byte 32 part))

abbrev pub cells_in : List (List ℕ) → Option (List Cell)
cells_in [] = None
cells_in (part ∷ parts) = option_and_then (λ (cell : Cell). option_map (λ (cells : List Cell). cell ∷ cells) (further_cells parts)) (cell_of part)

abbrev pub cells_of : List ℕ → Option (List Cell)
cells_of text = cells_in (parts_of false text)
