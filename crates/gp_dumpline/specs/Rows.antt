-- Part of the statement: which texts are row lines, whether there are such versions or not.
use Rattle.std.specs.List.{concat, list_all}
use Rattle.std.specs.Prelude.{◌≡◌, ◌≤◌, ◌⊎◌, ℕ, Bool, true, false, not, ◌&&◌, ◌==◌, List, [], ◌∷◌, length, codes}
use Rattle.gp_base.specs.Digits.{are_digits, is_digit}
use Rattle.gp_base.specs.declared.cell.Cell.{Cell}
use Rattle.gp_base.specs.declared.cell.Cell.TheVariants as cell
use Rattle.gp_base.specs.declared.row_id.TheConstants.{MAX_NODES}
use Rattle.gp_base.specs.Cells.{fits_number}
use Rattle.gp_base.specs.Identities.{Identity, Sources, identity, identity_text, no_sources, source, nodes}
use Rattle.gp_base.specs.Texts.{row_text}
use Rattle.gp_dumpline.specs.declared.identity.TheConstants.{MAX_PART}

abbrev pub IsPart : ℕ → Type 0
IsPart n = (1 ≤ n) × (n ≤ MAX_PART)

-- an identity whose numbers are in their range, and that has not too many nodes
abbrev mutual
  pub IsReadable : Identity → Type 0
  IsReadable (identity t k n ids) = IsPart t × (IsPart k × (IsPart n × ((nodes (identity t k n ids) ≤ MAX_NODES) × AreReadable ids)))

  pub AreReadable : Sources → Type 0
  AreReadable no_sources = Unit {0}
  AreReadable (source id ids) = IsReadable id × AreReadable ids

-- NULL, a number of 64 bits with sign, or a text
abbrev pub is_readable_cell : Cell → Bool
is_readable_cell cell.Null = true
is_readable_cell (cell.Int number) = fits_number number
is_readable_cell (cell.Text text) = true
is_readable_cell cell = false

-- a decimal number of any length, without leading zeros
abbrev pub is_numeral : List ℕ → Bool
is_numeral [] = false
is_numeral (digit ∷ []) = is_digit digit
is_numeral (first ∷ next ∷ digits) = are_digits (first ∷ next ∷ digits) && not (first == 48)

-- A row line with these cells: an identity, two numbers of any length, of which the second may be a hyphen, and the cells.
pub record IsRowLine (text : List ℕ) (row : List Cell) : Type 0 where
  pub id : Identity
  pub from : List ℕ
  pub to : List ℕ
  pub is : text ≡ concat (identity_text id ∷ codes " " ∷ from ∷ codes " " ∷ to ∷ codes " " ∷ row_text row ∷ [])
  pub identity : IsReadable id
  pub begins : is_numeral from ≡ true
  pub ends : (is_numeral to ≡ true) ⊎ (to ≡ codes "-")
  pub some : 1 ≤ length row
  pub cells : list_all is_readable_cell row ≡ true
