-- Part of the statement: what became of the rows of a table on which a condition was true in some version. Each change of such a row by a statement of a transaction
-- that committed is a line: by identity, and of each identity in the order of versions and statements.
use Rattle.std.specs.Prelude.{ℕ, zero, suc, ◌-◌, ◌==◌, ◌&&◌, nat_lt, Bool, true, false, List, [], ◌∷◌, ◌++◌, codes, filter, length, map, Option, if◌then◌else◌}
use Rattle.std.specs.Fmt.{decimal}
use Rattle.std.specs.List.{concat, list_all, list_any}
use Rattle.std.specs.Option.{option_map_or}
use Rattle.gp_base.specs.declared.cell.Cell.{Cell}
use Rattle.gp_base.specs.declared.refusal.Refusal.TheVariants.{E27}
use Rattle.gp_base.specs.Annotated.{Annotations, Database}
use Rattle.gp_base.specs.Identities.{Identity, identity_cmp, identity_text, same_identity}
use Rattle.gp_base.specs.Order.{sorted_by}
use Rattle.gp_grammar.specs.Syntax as y
use Rattle.gp_expr.specs.Values.{passes}
use Rattle.gp_algebra.specs.Statements.{Branch, Select, Statement, target}
use Rattle.gp_log.specs.Parameters.{parameters}
use Rattle.gp_machine.specs.Entries.{Entry, committer_of, statement_at, statement_count, versions_in}
use Rattle.gp_versions.specs.declared.span.Span.{Span}
use Rattle.gp_ask.specs.declared.answered.Answered.{Answered}
use Rattle.gp_ask.specs.declared.answered.Answered.TheVariants.{Lines, Refused}
use Rattle.gp_ask.specs.declared.answered.Heading.TheVariants.{History}
use Rattle.gp_ask.specs.Asking.{table_spans}
use Rattle.gp_ask.specs.Changes.{Change, changed_by, side_text}

-- SELECT * FROM the table WHERE the condition: the table and the condition are checked as those of this query
abbrev pub all_of : y.Bytes → Option y.Term → y.Query
all_of table cond = record { items = y.star; from = record { table = table; name = table } ∷ []; cond = cond } ∷ []

-- the WHERE of the checked query is true of a row
abbrev pub meets : Select → List Cell → Bool
meets select cells = list_all (λ (branch : Branch). option_map_or (λ cond. passes cond cells) branch.cond true) select

abbrev pub history_text : ℕ → ℕ → ℕ → Change → List ℕ
history_text version t k change =
    concat (identity_text change.0 ∷ codes " at " ∷ decimal version ∷ codes " by " ∷ decimal t ∷ codes "." ∷ decimal k ∷ codes " :" ∷ side_text change.1.0 ∷ codes " ->" ∷ side_text change.1.1 ∷ [])

-- given whether an identity is asked for, and what a statement of a transaction changed in the table
module _ (entries : List Entry) (is_asked : Identity → Bool) (changes : ℕ → ℕ → List Change) where
  -- those of the first statements of the transaction that made a version, this many
  abbrev pub statement_lines : ℕ → ℕ → List (Identity × List ℕ)
  statement_lines version zero = []
  statement_lines version (suc k) =
      let t = committer_of version entries in
      statement_lines version k ++ map (λ (change : Change). (change.0, history_text version t (suc k) change)) (filter (λ (change : Change). is_asked change.0) (changes t (suc k)))

  -- those of the first versions, this many
  abbrev pub version_lines : ℕ → List (Identity × List ℕ)
  version_lines zero = []
  version_lines (suc version) = version_lines version ++ statement_lines (suc version) (statement_count (committer_of (suc version) entries) entries)

  -- by identity; those of one identity stay in their order
  abbrev pub history_of : Answered
  history_of =
      let lines = version_lines (versions_in entries) in
      if nat_lt parameters.answer (length lines) then Refused E27
      else Lines History (map (λ (line : Identity × List ℕ). line.1) (sorted_by (λ (line other : Identity × List ℕ). identity_cmp line.0 other.0) lines))

-- the row of some row version of the identity
abbrev pub asked_in : List Span → Select → Identity → Bool
asked_in spans select id = list_any (λ (span : Span). same_identity span.id id && meets select span.row) spans

-- Of a log and the row versions of its tables: given what a transaction read before its statement k + 1.
module _ {M : Type 0} (domain : Annotations M) (entries : List Entry) (spans : List (List Span)) (before : ℕ → ℕ → Database M) where
  -- what a statement changed, if it writes the table
  abbrev pub changed_in : ℕ → ℕ → ℕ → List Change
  changed_in table t k =
      option_map_or
      (λ (statement : Statement).
      if option_map_or (λ (place : ℕ). place == table) (target statement) false then changed_by domain t k statement (before t (k - 1)) else [])
      (statement_at t k entries) []

  abbrev pub row_history : ℕ → Select → Answered
  row_history table select = history_of entries (asked_in (table_spans spans table) select) (changed_in table)
