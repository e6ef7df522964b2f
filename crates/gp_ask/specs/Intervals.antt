-- Part of the statement: in which versions a row is in the answer of a query, by the answers over the versions. What holds of these, from a dump and as the history
-- held them, holds of it. A row that an answer has several times is counted: there is an interval for each number of times.
use Rattle.std.specs.Prelude.{ℕ, zero, suc, ◌∷◌, ◌++◌, ◌&&◌, nat_le, nat_lt, Bool, List, [], codes, filter, length, map, Option, Some, None, Result, if◌then◌else◌}
use Rattle.std.specs.Fmt.{decimal}
use Rattle.std.specs.List.{concat}
use Rattle.std.specs.Option.{option_map_or, option_or}
use Rattle.std.specs.Ordering.{is_eq, nat_cmp, ordering_then}
use Rattle.std.specs.Result.{result_err, result_unwrap_or}
use Rattle.std.specs.declared.cmp.Ordering.{Ordering}
use Rattle.std.specs.declared.cmp.Ordering.TheVariants.{Less, Equal, Greater}
use Rattle.gp_base.specs.declared.cell.Cell.{Cell}
use Rattle.gp_base.specs.declared.refusal.Refusal.{Refusal}
use Rattle.gp_base.specs.declared.refusal.Refusal.TheVariants.{E27}
use Rattle.gp_base.specs.Order.{row_cmp, sorted_by}
use Rattle.gp_base.specs.Texts.{row_text}
use Rattle.gp_grammar.specs.Syntax as y
use Rattle.gp_log.specs.Parameters.{parameters}
use Rattle.gp_machine.specs.Entries.{Entry, versions_in}
use Rattle.gp_versions.specs.Spans.{is_before_end}
use Rattle.gp_ask.specs.declared.answered.Answered.{Answered}
use Rattle.gp_ask.specs.declared.answered.Answered.TheVariants.{Lines, Refused}
use Rattle.gp_ask.specs.declared.answered.Heading.TheVariants.{When}
use Rattle.gp_ask.specs.Differences.{rows_in}
use Rattle.gp_ask.specs.Values.{unless_refused}

-- a row, the first version of an interval, and the first one behind it, if there is one
pub record Interval : Type 0 where
  pub row : List Cell
  pub from : ℕ
  pub to : Option ℕ

abbrev pub has_version : ℕ → Interval → Bool
has_version version interval = nat_le interval.from version && is_before_end version interval.to

-- ---- the intervals

-- how often a row is among others
abbrev pub times : List Cell → List (List Cell) → ℕ
times row rows = length (filter (λ other. is_eq (row_cmp row other)) rows)

-- rows behind others, each with a number: it is so often among those up to it
abbrev pub numbered : List (List Cell) → List (List Cell) → List (List Cell × ℕ)
numbered before [] = []
numbered before (row ∷ rows) = (row, suc (times row before)) ∷ numbered (row ∷ before) rows

-- given the answers over the versions
module _ (answers : ℕ → List (List Cell)) where
  -- The first version since which each answer up to this one has the row `count` times at least; this one has it so often.
  abbrev pub first_with : List Cell → ℕ → ℕ → ℕ
  first_with row count zero = zero
  first_with row count (suc version) = if nat_le count (times row (answers version)) then first_with row count version else suc version

  -- the interval up to a version in whose answer the row is, with the version behind it, if there is one
  abbrev pub interval_upto : ℕ → Option ℕ → List Cell × ℕ → Interval
  interval_upto version to row = record { row = row.0; from = first_with row.0 row.1 version; to = to }

  -- those that end with a version: the next one has the row fewer times
  abbrev pub ending_with : ℕ → List Interval
  ending_with version =
      map (interval_upto version (Some (suc version))) (filter (λ (row : List Cell × ℕ). nat_lt (times row.0 (answers (suc version))) row.1) (numbered [] (answers version)))

  -- those that end with one of the first versions, this many
  abbrev pub ending_before : ℕ → List Interval
  ending_before zero = []
  ending_before (suc version) = ending_before version ++ ending_with version

  -- all of them, up to the last version
  abbrev pub intervals : ℕ → List Interval
  intervals last = ending_before last ++ map (interval_upto last None) (numbered [] (answers last))

-- ---- their lines

-- an interval without an end is behind those with one
abbrev pub end_cmp : Option ℕ → Option ℕ → Ordering
end_cmp None None = Equal
end_cmp None (Some other) = Greater
end_cmp (Some to) None = Less
end_cmp (Some to) (Some other) = nat_cmp to other

abbrev pub interval_cmp : Interval → Interval → Ordering
interval_cmp interval other = ordering_then (row_cmp interval.row other.row) (ordering_then (nat_cmp interval.from other.from) (end_cmp interval.to other.to))

abbrev pub interval_text : Interval → List ℕ
interval_text interval = concat (row_text interval.row ∷ codes " : " ∷ decimal interval.from ∷ codes " " ∷ option_map_or decimal interval.to (codes "-") ∷ [])

abbrev pub interval_lines : List Interval → Answered
interval_lines found = if nat_lt parameters.answer (length found) then Refused E27 else Lines When (map interval_text (sorted_by interval_cmp found))

-- ---- by the answers to queries

module _ (asks : y.Subject → y.Query → Answered) where
  abbrev pub version_rows : y.Query → ℕ → Result (List (List Cell)) Refusal
  version_rows query version = rows_in (asks (y.of_state y.rows (y.as_of version)) query)

  -- the first refusal of the versions up to this one
  abbrev pub refusal_upto : y.Query → ℕ → Option Refusal
  refusal_upto query zero = result_err (version_rows query zero)
  refusal_upto query (suc version) = option_or (refusal_upto query version) (result_err (version_rows query (suc version)))

  abbrev pub when_answer : List Entry → y.Query → Answered
  when_answer entries query =
      unless_refused (refusal_upto query (versions_in entries))
      (interval_lines (intervals (λ version. result_unwrap_or (version_rows query version) []) (versions_in entries)))
