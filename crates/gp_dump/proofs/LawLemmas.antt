-- The laws of dumps: the round trip, one dump for one text, and the order of its row lines.
use Rattle.gp_dump.proofs.Prelude.{◌≡◌, inl, inr, ℕ, ◌<◌, Bool, true, List, [], ◌∷◌, map, Some, None, refl, sym, ap, subst, ◌∙◌, AllByRecursion, is_le, nat_cmp, Less, Equal, tied_itself, Column, Table, identity_cmp, identity_cmp_total, insert_sorted, sorted_by, Span, span_cmp, AreWhole, NoOverlap, span_cmp_total}
use Rattle.std.specs.Cmp.{nat_cmp_is}
use Rattle.gp_dump.specs.Dumps.{Dump, dump_text, has_read_committed, written_text}
use Rattle.gp_dump.specs.WholeDumps.{AreInPlace, AreOfTables, IsDump, IsTextOf, dump_with}
use Rattle.gp_dump.specs.Rules.{WellFormed}
use Rattle.gp_dump.specs.Verdicts.{Fails, Holds, Verdict, fault_in, first_fault, verdict_on}
use Rattle.gp_dump.proofs.PlaceLemmas.{Follows, in-place-apart, rows-follow}
use Rattle.gp_dump.proofs.FaultLemmas.{kept-found, kept-is}
use Rattle.gp_dump.proofs.LineLemmas.{line-laws, log-lawful}
use Rattle.gp_dump.proofs.RoundTrip.{read-well-formed, well-formed-read, held}
use Rattle.gp_dump.proofs.SortLemmas.{IsAscending, IsLowerBound}

-- ---- the round trip

text-read : (bytes : List ℕ) (dump : Dump) → IsTextOf bytes dump → verdict_on bytes ≡ Holds dump
text-read = well-formed-read line-laws log-lawful

pub read-text : (bytes : List ℕ) (dump : Dump) → verdict_on bytes ≡ Holds dump → IsTextOf bytes dump
read-text = read-well-formed line-laws log-lawful

pub whole-text : (bytes : List ℕ) (dump : Dump) → WellFormed bytes dump → IsTextOf bytes dump
whole-text bytes dump is = read-text bytes dump (kept-is bytes dump is)

pub text-lines : (bytes : List ℕ) (dump : Dump) → IsTextOf bytes dump → WellFormed bytes dump
text-lines bytes dump is = kept-found bytes dump (text-read bytes dump is)

-- ---- the order of row lines

less-is : (a b : ℕ) → a < b → is_le (nat_cmp a b) ≡ true
less-is a b less = ap is_le (sym (nat_cmp_is a b Less less))

follows-le : (last span : Span) → Follows last span → is_le (span_cmp last span) ≡ true
follows-le last span (inl less) = rw less refl
follows-le last span (inr later) =
    let tie : identity_cmp last.id span.id ≡ Equal = subst (λ id. identity_cmp last.id id ≡ Equal) later.0 (tied_itself identity_cmp_total last.id) in
    rw tie (less-is last.from span.from later.1.0)

all-lower : (last : Span) (spans : List Span) → AllByRecursion (Follows last) spans → IsLowerBound span_cmp span_cmp_total last spans
all-lower last [] all = tt
all-lower last (span ∷ spans) all = (follows-le last span all.0, all-lower last spans all.1)

rows-ascending : (cols : List Column) (versions : ℕ) (before spans : List Span) → AreInPlace cols versions before spans → IsAscending span_cmp span_cmp_total spans
rows-ascending cols versions before [] all = tt
rows-ascending cols versions before (span ∷ spans) all =
    (all-lower span spans (rows-follow cols versions before span spans all.1), rows-ascending cols versions (span ∷ before) spans all.1)

insert-first : (span : Span) (spans : List Span) → IsLowerBound span_cmp span_cmp_total span spans → insert_sorted span_cmp span spans ≡ span ∷ spans
insert-first span [] lower = refl
insert-first span (next ∷ spans) lower = rw lower.0 refl

sorted-itself : (spans : List Span) → IsAscending span_cmp span_cmp_total spans → sorted_by span_cmp spans ≡ spans
sorted-itself [] up = refl
sorted-itself (span ∷ spans) up = ap (insert_sorted span_cmp span) (sorted-itself spans up.1) ∙ insert-first span spans up.0

tables-ordered : (others : List Table) (versions : ℕ) (tables : List (List Span)) → AreOfTables others versions tables → map (sorted_by span_cmp) tables ≡ tables
tables-ordered [] versions [] all = refl
tables-ordered [] versions (spans ∷ tables) all = absurd all
tables-ordered (table ∷ others) versions [] all = absurd all
tables-ordered (table ∷ others) versions (spans ∷ tables) all =
    let first : sorted_by span_cmp spans ≡ spans = sorted-itself spans (rows-ascending table.cols versions [] spans all.0) in
    let rest : map (sorted_by span_cmp) tables ≡ tables = tables-ordered others versions tables all.1 in
    cc

-- ---- the spans of the tables

tables-apart : (others : List Table) (versions : ℕ) (tables : List (List Span)) → AreOfTables others versions tables → AllByRecursion NoOverlap tables
tables-apart [] versions [] all = tt
tables-apart [] versions (spans ∷ tables) all = absurd all
tables-apart (table ∷ others) versions [] all = absurd all
tables-apart (table ∷ others) versions (spans ∷ tables) all = ((in-place-apart table.cols versions [] spans all.0).0, tables-apart others versions tables all.1)

tables-whole : (others : List Table) (versions : ℕ) (tables : List (List Span)) → AreOfTables others versions tables → AllByRecursion AreWhole tables
tables-whole [] versions [] all = tt
tables-whole [] versions (spans ∷ tables) all = absurd all
tables-whole (table ∷ others) versions [] all = absurd all
tables-whole (table ∷ others) versions (spans ∷ tables) all = ((in-place-apart table.cols versions [] spans all.0).1, tables-whole others versions tables all.1)

-- ---- one dump for one text

some-none : (fault : ℕ × ℕ) → None ≡ Some fault → ⊥
some-none fault e = cc

-- a verdict without a fault holds a dump
held-by : (bytes : List ℕ) (verdict : Verdict) → verdict_on bytes ≡ verdict → fault_in verdict ≡ None → (dump : Dump) × (verdict_on bytes ≡ Holds dump)
held-by bytes (Holds dump) is none = (dump, is)
held-by bytes (Fails fault line) is none = absurd (some-none (fault, line) (sym none))

pub one-dump : (bytes : List ℕ) (dump other : Dump) → WellFormed bytes dump → WellFormed bytes other → dump ≡ other
one-dump bytes dump other first second = held dump other (sym (kept-is bytes dump first) ∙ kept-is bytes other second)

pub no-fault : (bytes : List ℕ) (dump : Dump) → WellFormed bytes dump → first_fault bytes ≡ None
no-fault bytes dump is = ap fault_in (kept-is bytes dump is)

pub fault-excludes : (bytes : List ℕ) (fault : ℕ × ℕ) (dump : Dump) → first_fault bytes ≡ Some fault → WellFormed bytes dump → ⊥
fault-excludes bytes fault dump found is = some-none fault (sym (no-fault bytes dump is) ∙ found)

pub dump-found : (bytes : List ℕ) → first_fault bytes ≡ None → (dump : Dump) × WellFormed bytes dump
dump-found bytes none = let found = held-by bytes (verdict_on bytes) refl none in (found.0, kept-found bytes found.0 found.1)

pub one-text : (bytes others : List ℕ) (dump : Dump) (is : IsTextOf bytes dump) (are : IsTextOf others dump) → is.second ≡ are.second → bytes ≡ others
one-text bytes others dump is are same = is.text ∙ ap (λ (second : Bool). dump_text second dump) same ∙ sym are.text

pub written-again : (bytes : List ℕ) (dump : Dump) (is : IsTextOf bytes dump) → dump_text is.second (dump_with dump.entries dump.tables) ≡ bytes
written-again bytes dump is =
    ap (λ (tables : List (List Span)). dump_text is.second (record { entries = dump.entries; tables = tables })) (tables-ordered _ _ dump.tables is.rules.spans) ∙ sym is.text

pub written-well-formed : (dump : Dump) → IsDump dump → WellFormed (written_text dump) dump
written-well-formed dump is = text-lines (written_text dump) dump (record { second = has_read_committed dump.entries; text = refl; format = λ has. has; rules = is })

pub written-same : (bytes : List ℕ) (dump : Dump) (is : IsTextOf bytes dump) → has_read_committed dump.entries ≡ is.second → written_text (dump_with dump.entries dump.tables) ≡ bytes
written-same bytes dump is same = ap (λ (second : Bool). dump_text second (dump_with dump.entries dump.tables)) same ∙ written-again bytes dump is

pub rows-apart : (bytes : List ℕ) (dump : Dump) → WellFormed bytes dump → AllByRecursion NoOverlap dump.tables
rows-apart bytes dump is = tables-apart _ _ dump.tables (whole-text bytes dump is).rules.spans

pub rows-whole : (bytes : List ℕ) (dump : Dump) → WellFormed bytes dump → AllByRecursion AreWhole dump.tables
rows-whole bytes dump is = tables-whole _ _ dump.tables (whole-text bytes dump is).rules.spans
