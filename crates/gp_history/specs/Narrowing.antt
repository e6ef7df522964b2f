-- Machinery: what the programs of a commit are run over: the row versions that matter to it. Two kinds are left out: those that hold none of the versions
-- that its transaction reads, nor the one that it makes, and those that stay: they hold all of these versions, and no statement of the transaction writes
-- their rows or makes a row of one.
use Rattle.std.specs.Prelude.{◌≡◌, ◌+◌, ◌≤◌, ◌==◌, ◌&&◌, ◌||◌, not, nat_le, ℕ, zero, suc, Bool, true, false, List, [], ◌∷◌, ◌++◌, length, filter, map, Option, Some, None, slice_get, slice_index_or, unwrap_or, if◌then◌else◌}
use Rattle.std.specs.List.{list_all, list_any}
use Rattle.std.specs.Option.{is_none}
use Rattle.gp_base.specs.declared.cell.Cell.{Cell}
use Rattle.gp_base.specs.declared.limit.TheConstants.{MAX_TABLE_ROWS}
use Rattle.gp_base.specs.Annotated.{Environment}
use Rattle.gp_base.specs.IdentityParts.{identity_transaction}
use Rattle.gp_expr.specs.Expressions.{Cond, always}
use Rattle.gp_expr.specs.ExpressionForms.{cond_is_simple}
use Rattle.gp_expr.specs.Values.{passes}
use Rattle.gp_algebra.specs.Simple.{select_is_simple}
use Rattle.gp_algebra.specs.Statements.{Branch, Statement, delete, insert, insert_select, read, update}
use Rattle.gp_machine.specs.Entries.{Log}
use Rattle.gp_versions.specs.declared.span.Span.{Span}
use Rattle.gp_versions.specs.Spans.{holds_at, is_before_end}
use Rattle.gp_versions.specs.TableSpans.{AreWhole, NoOverlap}
use Rattle.gp_history.specs.SpanAnnotations.{span_rows}
use Rattle.gp_history.specs.declared.narrowed.Narrowed.{Narrowed}
use Rattle.gp_history.specs.declared.narrowed.Part.{Part}
use Rattle.gp_history.specs.declared.narrowed.Reach.{Reach}

-- ---- rows that a statement neither writes nor makes a row of

abbrev pub is_among : ℕ → List ℕ → Bool
is_among table tables = list_any (λ other. other == table) tables

-- the condition is there, and is not true
abbrev pub is_refused : Option Cond → List Cell → Bool
is_refused None row = false
is_refused (Some c) row = not (passes c row)

-- A SELECT makes no row of a row of the table: it does not read the table, or it reads nothing else, and its condition is not true. Rows that a join
-- reads are not looked at one by one.
abbrev pub skips : ℕ → List Cell → Branch → Bool
skips table row branch = if is_among table branch.from then (length branch.from == 1) && is_refused branch.cond row else true

abbrev pub leaves : ℕ → List Cell → Statement → Bool
leaves table row (insert written rows) = true
leaves table row (insert_select written select) = list_all (skips table row) select
leaves table row (update written sets c) = if written == table then not (passes c row) else true
leaves table row (delete written c) = if written == table then not (passes c row) else true
leaves table row (read select) = true

-- the conditions that are tested are simple
abbrev pub tests_are_simple : Statement → Bool
tests_are_simple (insert written rows) = true
tests_are_simple (insert_select written select) = select_is_simple select
tests_are_simple (update written sets c) = cond_is_simple c
tests_are_simple (delete written c) = cond_is_simple c
tests_are_simple (read select) = true

abbrev pub inserts_into : ℕ → Statement → Bool
inserts_into table (insert written rows) = written == table
inserts_into table (insert_select written select) = written == table
inserts_into table (update written sets c) = false
inserts_into table (delete written c) = false
inserts_into table (read select) = false

-- ---- statements that leave no row of a table as it is, whatever its cells are

abbrev pub is_always : Cond → Bool
is_always always = true
is_always _ = false

-- a SELECT passes over no row of the table: it joins the table, or has no WHERE
abbrev pub takes : ℕ → Branch → Bool
takes table branch = is_among table branch.from && (not (length branch.from == 1) || is_none branch.cond)

abbrev pub sweeps : ℕ → Statement → Bool
sweeps table (insert written rows) = false
sweeps table (insert_select written select) = list_any (takes table) select
sweeps table (update written sets c) = (written == table) && is_always c
sweeps table (delete written c) = (written == table) && is_always c
sweeps table (read select) = false

-- ---- the statements of a transaction

abbrev pub listed : {X : Type 0} → Option X → List X
listed None = []
listed (Some x) = x ∷ []

-- the first ones, this many
abbrev pub statements_upto : Log → ℕ → ℕ → List Statement
statements_upto log t zero = []
statements_upto log t (suc k) = statements_upto log t k ++ listed (log.statement t (suc k))

-- ---- the versions that a transaction reads, and the one that it makes

abbrev pub meets : Reach → Span → Bool
meets reach span = nat_le span.from reach.last && is_before_end reach.first span.to

abbrev pub is_held : Reach → Span → Bool
is_held reach span = nat_le span.from reach.first && is_before_end reach.last span.to

-- The row of a span stays as it is: all versions have it, it is no row of the transaction's own, and its statements leave it.
abbrev pub row_stays : Reach → ℕ → List Statement → ℕ → Span → Bool
row_stays reach t statements table span =
    is_held reach span && (not (identity_transaction span.id == t) && list_all (leaves table span.row) statements)

-- no row stays where an UPDATE or a DELETE writes all rows of the table, so that none is tested
abbrev pub stays_if : Bool → Reach → ℕ → List Statement → ℕ → Span → Bool
stays_if tested reach t statements table span = tested && row_stays reach t statements table span

-- whether the row version of a span is left, where rows are tested
abbrev pub is_left : Reach → ℕ → List Statement → ℕ → Span → Bool
is_left reach t statements table span = meets reach span && not (row_stays reach t statements table span)

-- a version that the transaction reads which makes the version after this one, or that version
pub data IsRead (log : Log) (t before : ℕ) : ℕ → Type 0 where
  at_begin : {j : ℕ} → j ≤ log.statement_count t → IsRead log t before (log.version t j)
  at_end : IsRead log t before before
  of_commit : IsRead log t before (suc before)

-- they are between these
pub record Covers (log : Log) (t before : ℕ) (reach : Reach) : Type 0 where
  pub all : (v : ℕ) → IsRead log t before v → (reach.first ≤ v) × (v ≤ reach.last)

-- ---- the row versions that are left

-- the annotations of the spans that pass
abbrev pub chosen_with : {M : Type 0} → (Span → Bool) → List Span → List M → List M
chosen_with p [] annotations = []
chosen_with p (span ∷ spans) [] = []
chosen_with p (span ∷ spans) (annotation ∷ annotations) = if p span then annotation ∷ chosen_with p spans annotations else chosen_with p spans annotations

module _ {M : Type 0} where
  abbrev pub part_spans : Part M → List Span
  part_spans part = map (λ span. span.now) part.spans.items

  abbrev pub part_annotations : Part M → List M
  part_annotations part = map (λ annotation. annotation.now) part.annotations.items

  abbrev pub part_of : Narrowed M → ℕ → Part M
  part_of narrowed table = unwrap_or (slice_get narrowed.parts.items table) narrowed.none

  abbrev pub narrow_spans : Narrowed M → ℕ → List Span
  narrow_spans narrowed table = part_spans (part_of narrowed table)

  abbrev pub narrow_annotations : Narrowed M → ℕ → List M
  narrow_annotations narrowed table = part_annotations (part_of narrowed table)

  -- the versions of all tables
  abbrev pub narrow_versions : Narrowed M → Environment M
  narrow_versions narrowed version table = span_rows version (narrow_spans narrowed table) (narrow_annotations narrowed table)

-- an item, if it is wanted
abbrev pub only : {X : Type 0} → Bool → X → List X
only wanted x = if wanted then x ∷ [] else []

-- what is left of spans, some of which meet the versions, and some stay; with the number of those that stay
pub record IsLeft {M : Type 0} (meets stays : Span → Bool) (spans : List Span) (annotations : List M) (part : Part M) : Type 0 where
  pub spans_are : part_spans part ≡ filter (λ span. meets span && not (stays span)) spans
  pub annotations_are : part_annotations part ≡ chosen_with (λ span. meets span && not (stays span)) spans annotations
  pub count : part.left_out ≡ length (filter stays spans)

-- what is left of spans, without the number of those that stay
pub record IsFound {M : Type 0} (is_left : Span → Bool) (spans : List Span) (annotations : List M) (part : Part M) : Type 0 where
  pub spans_are : part_spans part ≡ filter is_left spans
  pub annotations_are : part_annotations part ≡ chosen_with is_left spans annotations
  pub none : part.left_out ≡ 0

-- By a reach and statements, where no more rows stay than a table may have. Those that stay are counted where an INSERT into the table counts all.
pub record IsLeftBy {M : Type 0} (reach : Reach) (t : ℕ) (statements : List Statement) (table : ℕ) (spans : List Span) (annotations : List M) (part : Part M) : Type 0 where
  pub tested : Bool
  pub spans_are : part_spans part ≡ filter (λ span. meets reach span && not (stays_if tested reach t statements table span)) spans
  pub annotations_are : part_annotations part ≡ chosen_with (λ span. meets reach span && not (stays_if tested reach t statements table span)) spans annotations
  pub count : list_any (inserts_into table) statements ≡ true → part.left_out ≡ length (filter (stays_if tested reach t statements table) spans)
  pub few : part.left_out ≤ MAX_TABLE_ROWS

-- What is left of the spans of a table: those that meet the versions and do not stay. What stays is left by all statements, and is no row of the
-- transaction's own. An INSERT into the table has room for the rows that stay.
pub record IsPart {M : Type 0} (log : Log) (t before most table : ℕ) (spans : List Span) (annotations : List M) (few : List Span) (left : List M) : Type 0 where
  pub apart : NoOverlap spans
  pub whole : AreWhole spans
  pub meets : Span → Bool
  pub stays : Span → Bool
  pub met : (v : ℕ) → IsRead log t before v → (span : Span) → holds_at v span ≡ true → meets span ≡ true
  pub held : (v : ℕ) → IsRead log t before v → (span : Span) → stays span ≡ true → holds_at v span ≡ true
  pub foreign : (span : Span) → stays span ≡ true → (identity_transaction span.id == t) ≡ false
  pub left_alone : (span : Span) → stays span ≡ true → (k : ℕ) (statement : Statement) → log.statement t k ≡ Some statement → leaves table span.row statement ≡ true
  pub room : (k : ℕ) (statement : Statement) → log.statement t k ≡ Some statement → inserts_into table statement ≡ true → most + length (filter stays spans) ≤ MAX_TABLE_ROWS
  pub spans_are : few ≡ filter (λ span. meets span && not (stays span)) spans
  pub annotations_are : left ≡ chosen_with (λ span. meets span && not (stays span)) spans annotations

abbrev pub IsNarrow : {M : Type 0} → Log → ℕ → ℕ → (ℕ → List Span) → List (List M) → Narrowed M → Type 0
IsNarrow log t before spans known narrowed =
    (table : ℕ) → IsPart log t before narrowed.most table (spans table) (slice_index_or known table []) (narrow_spans narrowed table) (narrow_annotations narrowed table)
