-- Machinery: the keys by which a table finds its spans. That of an identity has the identity's own numbers, and one folded from all numbers of it
-- and of its sources, in order; that of a cell has its number, or one folded from the bytes of its text. Equal identities and equal cells have equal
-- keys, and nothing is asked of the keys of others.
use Rattle.std.specs.Prelude.{ℕ, ◌+◌, ◌*◌, ◌^◌, ◌%◌, List, map, Option, Some, None, unsigned_abs}
use Rattle.std.specs.List.{fold}
use Rattle.gp_base.specs.declared.cell.Cell.{Cell}
use Rattle.gp_base.specs.declared.cell.Cell.TheVariants as cell
use Rattle.gp_base.specs.Identities.{Identity, Sources, identity, no_sources, source}
use Rattle.gp_base.specs.IdentityParts.{identity_statement, identity_transaction}
use Rattle.gp_base.specs.IdentityForms.{number_of}
use Rattle.gp_versions.specs.declared.key.By.{By}
use Rattle.gp_versions.specs.declared.key.By.TheVariants as variant
use Rattle.gp_versions.specs.declared.key.Key.{Key}
use Rattle.gp_versions.specs.declared.key.TheConstants.{FACTOR}
use Rattle.gp_versions.specs.declared.span.Span.{Span}
use Rattle.gp_versions.specs.Places.{cell_at}

-- one step of a fold, in 64 bits
abbrev pub mixed : ℕ → ℕ → ℕ
mixed folded number = ((folded * FACTOR) % 2 ^ 64 + number) % 2 ^ 64

abbrev mutual
  pub folded_over : ℕ → Identity → ℕ
  folded_over folded (identity t k n ids) = folded_over_all (mixed (mixed (mixed folded t) k) n) ids

  pub folded_over_all : ℕ → Sources → ℕ
  folded_over_all folded no_sources = folded
  folded_over_all folded (source id ids) = folded_over_all (folded_over folded id) ids

abbrev pub key_of : Identity → Key
key_of id = record { t = identity_transaction id; k = identity_statement id; n = number_of id; folded = folded_over 0 id }

abbrev pub folded_cell : Cell → ℕ
folded_cell (cell.Int n) = unsigned_abs n
folded_cell (cell.Text text) = fold mixed 0 text
folded_cell _ = 0

abbrev pub key_of_cell : Cell → Key
key_of_cell x = record { t = 0; k = 0; n = 0; folded = folded_cell x }

-- that of a version, or of a transaction
abbrev pub key_of_number : ℕ → Key
key_of_number number = record { t = number; k = 0; n = 0; folded = 0 }

abbrev pub key_of_end : Option ℕ → Key
key_of_end None = key_of_number 0
key_of_end (Some to) = key_of_number to

-- the key of a span: of its identity, of its cell in a column, of the version at which it begins or ends, or of the transaction that inserted its row
abbrev pub key_by : By → Span → Key
key_by variant.Identity span = key_of span.id
key_by (variant.Column column) span = key_of_cell (cell_at column span.row)
key_by variant.Begin span = key_of_number span.from
key_by variant.End span = key_of_end span.to
key_by variant.Transaction span = key_of_number (identity_transaction span.id)

abbrev pub keys_by : By → List Span → List Key
keys_by by_what spans = map (key_by by_what) spans
