-- Part of the statement: what a statement changed, over what its transaction read, whatever became of the transaction; and what a commit changed, by the row
-- versions. Each row that was inserted, updated or deleted is a line with its table, its identity, and its cells before and after.
use Rattle.std.specs.Prelude.{ℕ, suc, ◌-◌, ◌==◌, ◌&&◌, List, [], ◌∷◌, ◌++◌, filter, map, codes, Option, Some, None}
use Rattle.std.specs.List.{concat, flat_map, zip}
use Rattle.std.specs.Option.{option_map_or}
use Rattle.gp_base.specs.declared.cell.Cell.{Cell}
use Rattle.gp_base.specs.declared.refusal.Refusal.{Refusal}
use Rattle.gp_base.specs.declared.table.Table.{Table}
use Rattle.gp_base.specs.Annotated.{Annotated, Annotations, Database}
use Rattle.gp_base.specs.Identities.{Identity, identity_cmp, identity_text}
use Rattle.gp_base.specs.IdentityParts.{identity_statement, identity_transaction}
use Rattle.gp_base.specs.Order.{sorted_by}
use Rattle.gp_base.specs.Texts.{row_text}
use Rattle.gp_expr.specs.Values.{passes}
use Rattle.gp_algebra.specs.Effects.{assigned, step}
use Rattle.gp_algebra.specs.Statements.{Statement, insert, insert_select, update, delete, read, target}
use Rattle.gp_machine.specs.Entries.{Entry, statement_at}
use Rattle.gp_machine.specs.Event.{name_at}
use Rattle.gp_machine.specs.Questions.{given}
use Rattle.gp_machine.specs.RowChanges.{RowChange, spans_changes}
use Rattle.gp_versions.specs.declared.span.Span.{Span}
use Rattle.gp_ask.specs.declared.answered.Answered.{Answered}
use Rattle.gp_ask.specs.declared.answered.Answered.TheVariants.{Lines}
use Rattle.gp_ask.specs.declared.answered.Heading.TheVariants.{Changes}
use Rattle.gp_ask.specs.Values.{or_refused}

-- ---- texts

-- a row behind a space, or nothing where there is none
abbrev pub side_text : Option (List Cell) → List ℕ
side_text side = option_map_or (λ (cells : List Cell). codes " " ++ row_text cells) side []

abbrev pub change_text : List ℕ → Identity → Option (List Cell) → Option (List Cell) → List ℕ
change_text name id before after = concat (name ∷ codes " " ∷ identity_text id ∷ codes " :" ∷ side_text before ∷ codes " ->" ∷ side_text after ∷ [])

-- ---- a statement

-- a row that it changed: its identity, and its cells before and after
abbrev pub Change : Type 0
Change = Identity × (Option (List Cell) × Option (List Cell))

module _ {M : Type 0} (domain : Annotations M) where
  -- of the rows that an INSERT leaves, those with an identity that it made
  abbrev pub inserted_by : ℕ → ℕ → List (Annotated M) → List Change
  inserted_by t k rows =
      map (λ (row : Annotated M). (row.identity, (None, Some row.cells)))
      (filter (λ row. (identity_transaction row.identity == t) && (identity_statement row.identity == k)) rows)

  -- the rows that statement k of transaction t changes of a database
  abbrev pub changed_by : ℕ → ℕ → Statement → Database M → List Change
  changed_by t k (insert table rows) db = inserted_by t k (step domain t k (insert table rows) db table)
  changed_by t k (insert_select table select) db = inserted_by t k (step domain t k (insert_select table select) db table)
  changed_by t k (update table sets cond) db =
      map (λ (row : Annotated M). (row.identity, (Some row.cells, Some (assigned sets row.cells)))) (filter (λ row. passes cond row.cells) (db table))
  changed_by t k (delete table cond) db = map (λ (row : Annotated M). (row.identity, (Some row.cells, None))) (filter (λ row. passes cond row.cells) (db table))
  changed_by t k (read select) db = []

-- their lines, in the order of the identities; rows of one identity, which no history has, are in the order of the table
abbrev pub change_texts : List ℕ → List Change → List (List ℕ)
change_texts name changes =
    map (λ (change : Change). change_text name change.0 change.1.0 change.1.1) (sorted_by (λ (change other : Change). identity_cmp change.0 other.0) changes)

-- Of a log and its tables: given what a transaction read before its statement k + 1, and what stops it there.
module _ {M : Type 0} (domain : Annotations M) (entries : List Entry) (tables : List Table) (before : ℕ → ℕ → Database M) (stop : ℕ → ℕ → Option Refusal) where
  -- what statement k + 1 changed; a SELECT changes nothing, whatever its transaction read
  abbrev pub statement_changes : ℕ → ℕ → Statement → Answered
  statement_changes t k statement =
      let changes = given (stop t (suc k)) (changed_by domain t (suc k) statement (before t k)) in
      option_map_or (λ (place : ℕ). or_refused (λ (changed : List Change). Lines Changes (change_texts (name_at place tables) changed)) changes) (target statement) (Lines Changes [])

  -- a number without a statement changes nothing
  abbrev pub numbered_changes : ℕ → ℕ → Answered
  numbered_changes t k = option_map_or (statement_changes t (k - 1)) (statement_at t k entries) (Lines Changes [])

-- ---- a commit

-- the rows of a table that the commit of a version changed, in the order of the row versions
abbrev pub commit_texts : List ℕ → ℕ → List Span → List (List ℕ)
commit_texts name version spans =
    map (λ (change : RowChange). change_text name change.row.identity change.before change.after) (filter (λ (change : RowChange). change.version == version) (spans_changes 0 None spans))

-- by table, in the order of creation, and then by identity
abbrev pub commit_changes : List Table → List (List Span) → ℕ → Answered
commit_changes tables spans version = Lines Changes (flat_map (λ (pair : Table × List Span). commit_texts pair.0.name version pair.1) (zip tables spans))
