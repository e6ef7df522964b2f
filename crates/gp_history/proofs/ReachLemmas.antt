-- The statements of the transaction that made a version, and the versions that it read.
use Rattle.std.proofs.Common.{◌≡◌, inl, inr, ℕ, zero, suc, ◌+◌, ◌<◌, ◌≤◌, ◌⊎◌, Bool, true, cond, List, [], ◌++◌, refl, sym, ap, ◌∙◌, subst, arith, Option, Some, None, Contains, length, nat_lt, slice_get}
use Rattle.std.specs.Prelude.{◌&&◌, slice_index_or}
use Rattle.std.specs.List.{list_all, list_any}
use Rattle.std.proofs.lemmas.Bool.{le-leb}
use Rattle.std.proofs.lemmas.Bool.Decides.{nat_tests}
use Rattle.std.proofs.lemmas.List.{get_or_past, get_or_read}
use Rattle.std.proofs.lemmas.List.Elements.{Contains-append_left, Contains-push}
use Rattle.std.proofs.lemmas.List.Folds.{list_all-append}
use Rattle.std.proofs.lemmas.Option.{none-some}
use Rattle.gp_base.specs.declared.limit.TheConstants.{MAX_TABLE_ROWS}
use Rattle.gp_base.specs.declared.table.Table.{Table}
use Rattle.gp_algebra.specs.Statements.{Statement}
use Rattle.gp_log.specs.LogCounts.{numbered}
use Rattle.gp_log.specs.LogFitting.{statements_fit}
use Rattle.gp_log.specs.Sessions.{KeepsSessions}
use Rattle.gp_log.proofs.FittingLogs.{statement_at_fits}
use Rattle.gp_log.proofs.KeptSessions as kept
use Rattle.gp_log.proofs.NumberingLemmas.{statement-outside}
use Rattle.gp_machine.specs.Entries.{Entry, Log, begin_version, log_of, statement_at, statement_count, statement_version, transactions_in, version_of, versions_in}
use Rattle.gp_versions.specs.declared.span.Span.{Span}
use Rattle.gp_versions.specs.Spans.{Versions}
use Rattle.gp_versions.specs.TableSpans.{AreWhole, NoOverlap}
use Rattle.gp_reenact.specs.Reenacting.{spans_of}
use Rattle.gp_reenact.specs.Travel.{no_table}
use Rattle.gp_history.specs.Changes.{maker}
use Rattle.gp_history.specs.Narrowing.{Covers, IsLeftBy, IsPart, IsRead, at_begin, at_end, inserts_into, listed, of_commit, part_annotations, part_spans, statements_upto, tests_are_simple}
use Rattle.gp_history.specs.declared.narrowed.Part.{Part}
use Rattle.gp_history.specs.declared.narrowed.Reach.{Reach}
use Rattle.gp_history.proofs.NarrowedLemmas.{fits_tests, part_from}
use Rattle.gp_history.proofs.StartLemmas.{ended}

-- ---- numbers

-- the transaction that made a version has begun
pub begun : {A : Type 0} (entries : List Entry) (t before : ℕ) (value : A) → KeepsSessions entries → before < versions_in entries → t ≡ maker (log_of entries) before → numbered t (transactions_in entries) value ≡ None → ⊥
begun entries t before value keeps within is none =
    let made = (kept.orderly entries keeps).makers before within in
    some t (subst (λ (u : ℕ). 1 ≤ u) (sym is) made.0) (subst (λ (u : ℕ). u ≤ transactions_in entries) (sym is) made.1) none
  where
    first : (t : ℕ) → 1 ≤ t → nat_lt 0 t ≡ true
    first t l = grind (arith, nat_tests)

    some : (t : ℕ) → 1 ≤ t → t ≤ transactions_in entries → numbered t (transactions_in entries) value ≡ None → ⊥
    some t one few none = none-some value (sym none ∙ (λ i. cond (first t one i && le-leb t (transactions_in entries) few i) (Some value) None))

-- ---- versions

pub covers : (entries : List Entry) (t before first last : ℕ) → KeepsSessions entries → before < versions_in entries → t ≡ maker (log_of entries) before → first ≡ begin_version t entries → last ≡ before + 1
    → Covers (log_of entries) t before (record { first = first; last = last })
covers entries t before first last keeps within is begins ends = record { all = by }
  where
    made : version_of t entries ≡ Some (suc before)
    made = ap (λ (u : ℕ). version_of u entries) is ∙ kept.maker_version entries keeps before within

    by : (v : ℕ) → IsRead (log_of entries) t before v → (first ≤ v) × (v ≤ last)
    by _ (at_begin {j} few) =
        let rises : begin_version t entries ≤ statement_version t j entries = kept.rising entries keeps t zero j (omega arith) few in
        let below : statement_version t j entries < suc before = kept.read_before entries keeps t (suc before) j made few in
        (omega (arith, begins, rises), omega (arith, ends, below))
    by _ at_end =
        let below : begin_version t entries < suc before = kept.read_before entries keeps t (suc before) zero made (omega arith) in
        (omega (arith, begins, below), omega (arith, ends))
    by _ of_commit =
        let below : begin_version t entries < suc before = kept.read_before entries keeps t (suc before) zero made (omega arith) in
        (omega (arith, begins, below), omega (arith, ends))

-- ---- statements

upto_found : (log : Log) (t count k : ℕ) (statement : Statement) → suc k ≤ count → log.statement t (suc k) ≡ Some statement → Contains (statements_upto log t count) statement
upto_found log t zero k statement less there = absurd (omega (arith, less))
upto_found log t (suc count) k statement less there = by (λ within. upto_found log t count k statement within there) (le_cases k count less)
  where
    le_cases : (k count : ℕ) → suc k ≤ suc count → (suc k ≤ count) ⊎ (k ≡ count)
    le_cases zero zero l = inr refl
    le_cases zero (suc count) l = inl (omega arith)
    le_cases (suc k) zero l = absurd (omega (arith, l))
    le_cases (suc k) (suc count) l = more (le_cases k count (omega (arith, l)))
      where
        more : (suc k ≤ count) ⊎ (k ≡ count) → (suc (suc k) ≤ suc count) ⊎ (suc k ≡ suc count)
        more (inl less) = inl (omega (arith, less))
        more (inr same) = inr (ap suc same)

    by : (suc k ≤ count → Contains (statements_upto log t count) statement) → (suc k ≤ count) ⊎ (k ≡ count) → Contains (statements_upto log t count ++ listed (log.statement t (suc count))) statement
    by earlier (inl within) = Contains-append_left (statements_upto log t count) (listed (log.statement t (suc count))) statement (earlier within)
    by earlier (inr same) =
        subst (λ (found : Option Statement). Contains (statements_upto log t count ++ listed found) statement) (sym there ∙ ap (λ (n : ℕ). log.statement t (suc n)) same)
        (Contains-push (statements_upto log t count) statement)

-- each statement of a transaction is among its first ones, as many as it has
pub all_found : (entries : List Entry) (t k : ℕ) (statement : Statement) → statement_at t k entries ≡ Some statement → Contains (statements_upto (log_of entries) t (statement_count t entries)) statement
all_found entries t zero statement there = absurd (none-some statement (sym (statement-outside t zero entries (inl refl)) ∙ there))
all_found entries t (suc k) statement there = by (cases (suc k) (statement_count t entries))
  where
    cases : (a b : ℕ) → (a ≤ b) ⊎ (b < a)
    cases zero b = inl (omega arith)
    cases (suc a) zero = inr (omega arith)
    cases (suc a) (suc b) = more (cases a b)
      where
        more : (a ≤ b) ⊎ (b < a) → (suc a ≤ suc b) ⊎ (suc b < suc a)
        more (inl less) = inl (omega (arith, less))
        more (inr over) = inr (omega (arith, over))

    by : (suc k ≤ statement_count t entries) ⊎ (statement_count t entries < suc k) → Contains (statements_upto (log_of entries) t (statement_count t entries)) statement
    by (inl within) = upto_found (log_of entries) t (statement_count t entries) k statement within there
    by (inr past) = absurd (none-some statement (sym (statement-outside t (suc k) entries (inr past)) ∙ there))

-- and their conditions are simple
pub all_simple : (tables : List Table) (entries : List Entry) → statements_fit tables entries ≡ true → (t count : ℕ) → list_all tests_are_simple (statements_upto (log_of entries) t count) ≡ true
all_simple tables entries fit t zero = refl
all_simple tables entries fit t (suc count) =
    list_all-append tests_are_simple (statements_upto (log_of entries) t count) (listed (statement_at t (suc count) entries))
    ∙ (λ i. all_simple tables entries fit t count i && last (statement_at t (suc count) entries) refl i)
  where
    last : (found : Option Statement) → statement_at t (suc count) entries ≡ found → list_all tests_are_simple (listed found) ≡ true
    last None is = refl
    last (Some statement) is = λ i. fits_tests tables statement (statement_at_fits tables entries fit t (suc count) statement is) i && true

-- ---- one table

module _ (entries : List Entry) (t : ℕ) (statements : List Statement) (are : statements ≡ statements_upto (log_of entries) t (statement_count t entries)) where
  pub tests_simple : (tables : List Table) → statements_fit tables entries ≡ true → list_all tests_are_simple statements ≡ true
  tests_simple tables fit = ap (list_all tests_are_simple) are ∙ all_simple tables entries fit t (statement_count t entries)

  -- what is left of a table, with the room that an INSERT has
  pub part_next : {M : Type 0} (before table most : ℕ) (spans : List Span) (annotations : List M) (reach : Reach) (part : Part M) (inserts : Bool) → Covers (log_of entries) t before reach
      → IsLeftBy reach t statements table spans annotations part → inserts ≡ list_any (inserts_into table) statements → (inserts ≡ true → most + part.left_out ≤ MAX_TABLE_ROWS) → NoOverlap spans → AreWhole spans
      → IsPart (log_of entries) t before most table spans annotations (part_spans part) (part_annotations part)
  part_next before table most spans annotations reach part inserts covered left into room apart whole =
      part_from (log_of entries) t before table spans annotations reach statements covered
      (λ k statement there. subst (λ (all : List Statement). Contains all statement) (sym are) (all_found entries t k statement there)) most part left (λ any. room (into ∙ any)) apart whole

-- ---- tables that are not there

-- behind the last part there are no row versions
pub parts_end : {X : Type 0} (versions : List Versions) (parts : List X) (count : ℕ) → length parts ≡ count → length versions ≤ count → (table : ℕ) → slice_get parts table ≡ None → spans_of versions table ≡ []
parts_end versions parts count many few table none =
    let past = ended parts table none in
    ap (λ (t : Versions). t.spans) (get_or_past versions table no_table (omega (arith, many, few, past)))

-- the row versions of the table at a place
pub spans_at_place : (versions : List Versions) (table : ℕ) (own : Versions) → table < length versions → own ≡ slice_index_or versions table own → own.spans ≡ spans_of versions table
spans_at_place versions table own within is = ap (λ (t : Versions). t.spans) (get_or_read versions table own within is no_table)
