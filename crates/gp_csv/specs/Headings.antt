-- Part of the statement: the headings of a sheet, which are its first record. Each is a name, in letters of either case, alone or followed by one
-- space and INT or TEXT.
use Rattle.std.specs.Prelude.{ℕ, nat_lt, Bool, not, List, [], ◌∷◌, ◌++◌, length, take, drop, Option, Some, None, Result, option_and_then, if◌then◌else◌, ◌==◌, codes}
use Rattle.std.specs.List.{list_all, list_any, position_or_len}
use Rattle.std.specs.Str.{bytes_eq, is_utf8, str_to_ascii_lowercase}
use Rattle.gp_base.specs.Names.{is_name}
use Rattle.gp_base.specs.declared.table.Kind.{Kind}
use Rattle.gp_base.specs.declared.table.Kind.TheVariants as kind
use Rattle.gp_grammar.specs.declared.limits.TheConstants.{MAX_COLUMNS}
use Rattle.gp_csv.specs.Faults.{Fault, or_refuse, refuse}
use Rattle.gp_csv.specs.declared.heading.Heading.{Heading}
use Rattle.gp_csv.specs.declared.error.TheConstants.{NOT_UTF8, BAD_HEADER}

-- the length of the name: what is before the first space
abbrev pub name_len : List ℕ → ℕ
name_len field = position_or_len (λ byte. byte == 32) field

-- the type in the rest of a field after its name: none, or a space and a type
abbrev pub kind_of_suffix : List ℕ → Option (Option Kind)
kind_of_suffix rest =
    if bytes_eq rest [] then Some None
    else (if bytes_eq rest (codes " INT") then Some (Some kind.Int)
    else (if bytes_eq rest (codes " TEXT") then Some (Some kind.Text) else None))

-- the heading of a word and a type, if the word in lower case is a name
abbrev pub heading_named : List ℕ → Option Kind → Option Heading
heading_named word written = if is_name (str_to_ascii_lowercase word) then Some (record { name = str_to_ascii_lowercase word; kind = written }) else None

unfoldable pub heading_of : List ℕ → Option Heading
heading_of field = option_and_then (heading_named (take (name_len field) field)) (kind_of_suffix (drop (name_len field) field))

-- whether a heading has this name
abbrev pub is_taken : List ℕ → List Heading → Bool
is_taken name headings = list_any (λ (heading : Heading). bytes_eq heading.name name) headings

-- the headings with one more, unless another has its name
abbrev pub with_heading : List Heading → Option Heading → Option (List Heading)
with_heading headings None = None
with_heading headings (Some heading) = if is_taken heading.name headings then None else Some (headings ++ heading ∷ [])

-- these headings, and then those of the fields
abbrev pub headings_from : List Heading → List (List ℕ) → Option (List Heading)
headings_from headings [] = Some headings
headings_from headings (field ∷ fields) = option_and_then (λ (more : List Heading). headings_from more fields) (with_heading headings (heading_of field))

-- the headings of the first record, or its first fault
unfoldable pub header_of : List (List ℕ) → Result (List Heading) Fault
header_of fields =
    if not (list_all is_utf8 fields) then refuse NOT_UTF8 1
    else (if nat_lt MAX_COLUMNS (length fields) then refuse BAD_HEADER 1 else or_refuse BAD_HEADER 1 (headings_from [] fields))
