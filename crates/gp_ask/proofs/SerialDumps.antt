-- A well-formed dump can be asked SERIAL and ANOMALIES: the changes of a row stand together, since its row versions are in order.
use Rattle.std.proofs.Common.{Global, Vec, map, ◌≡◌, ◌⊎◌, ◌<◌, ◌≤◌, ◌+◌, ℕ, zero, suc, Bool, true, false, cond, List, [], ◌∷◌, ◌++◌, Option, Some, None, Result, Ok, Err, refl, sym, ap, ◌∙◌, subst, arith, inl, inr}
use Rattle.std.specs.Prelude.{◌==◌, ◌&&◌, ◌||◌, nat_le, nat_lt, slice_get}
use Rattle.std.specs.List.{AllByRecursion}
use Rattle.std.specs.Option.{option_map_or}
use Rattle.std.specs.Ordering.{is_lt, ordering_reverse}
use Rattle.std.specs.declared.cmp.Ordering.{Ordering}
use Rattle.std.specs.declared.cmp.Ordering.TheVariants.{Less, Equal, Greater}
use Rattle.std.proofs.lemmas.Bool.{and_parts, eqb-true, false≢true}
use Rattle.std.proofs.lemmas.Option.{same_Some}
use Rattle.gp_base.specs.declared.table.Column.{Column}
use Rattle.gp_base.specs.declared.table.Table.{Table}
use Rattle.gp_base.specs.Identities.{Identity, identity_cmp, same_identity}
use Rattle.gp_base.specs.IdentityOrder.{identity_cmp_total}
use Rattle.gp_base.proofs.SmallLemmas.{each_append, eq_itself, some_none}
use Rattle.gp_versions.proofs.SameLemmas.{same-exact, same-itself}
use Rattle.gp_versions.specs.declared.span.Span.{Span}
use Rattle.gp_log.specs.LogFacts.{tables_in}
use Rattle.gp_machine.specs.Entries.{versions_in}
use Rattle.gp_machine.specs.Precedence.{same_row}
use Rattle.gp_machine.specs.RowChanges.{RowChange, deleted_changes, goes_on_in, span_changes, spans_changes, tables_changes}
use Rattle.gp_dump.specs.Dumps.{has_ended_by, ends_within, is_after, is_in_place}
use Rattle.gp_dump.specs.Views.{dump_view, tables_view}
use Rattle.gp_dump.specs.WholeDumps.{AreInPlace, AreOfTables, IsDump}
use Rattle.gp_dump.specs.declared.dump.Dump as code
use Rattle.gp_serial.specs.Anomalies.{Anomalies, anomalies_of}
use Rattle.gp_serial.specs.AnomalyViews.{AreAnomalies, anomaly_view}
use Rattle.gp_serial.specs.Preceding.{AreGrouped}
use Rattle.gp_serial.specs.SerialViews.{IsSerialOf, IsSerializable, serial_view}
use Rattle.gp_serial.specs.Serializing.{runs_refusal, serial_of}
use Rattle.gp_serial.specs.declared.anomaly.Anomaly.{Anomaly}
use Rattle.gp_serial.specs.declared.error.SerialStop.{SerialStop}
use Rattle.gp_serial.specs.declared.error.SerialStop.TheVariants as stop
use Rattle.gp_serial.specs.declared.serializing.Serial.{Serial}
use Rattle.gp_ask.specs.declared.answered.Answered.{Answered}
use Rattle.gp_ask.specs.declared.answered.Answered.TheVariants as answered
use Rattle.gp_ask.specs.AnomalyAnswers.{anomaly_answer, anomaly_text, answered_anomalies}
use Rattle.gp_ask.specs.SerialAnswers.{answered_serial, serial_answer}
use Rattle.gp_ask.specs.SerialStops.{IsUnserialized}
use Rattle.gp_ask.specs.Values.{unless_refused}
use Rattle.gp_log.specs.Parameters.{parameters}
use Rattle.gp_machine.specs.Entries.{Entry}
use Rattle.gp_reenact.specs.Reenacting.{spans_of}
use Rattle.gp_versions.specs.Spans.{Versions}
use Rattle.std.specs.Prelude.{IfOk}
use Rattle.gp_ask.proofs.ProvenanceLemmas.{sound}
use Rattle.gp_ask.proofs.ReenactedLemmas.{dump-spans}

-- ---- the order of rows

-- one identity, or a lesser one
abbrev IsUpto : Identity → Identity → Type 0
IsUpto id other = (id ≡ other) ⊎ (identity_cmp id other ≡ Less)

upto_through : (a b c : Identity) → IsUpto a b → IsUpto b c → IsUpto a c
upto_through a b c (inl is) two = subst (λ x. IsUpto x c) (sym is) two
upto_through a b c (inr less) (inl is) = inr (subst (λ x. identity_cmp a x ≡ Less) is less)
upto_through a b c (inr less) (inr more) = inr (identity_cmp_total.trans a b c less more)

less_not : (a : Identity) → identity_cmp a a ≡ Less → ⊥
less_not a e = by (identity_cmp a a) e (identity_cmp_total.antisymm a a)
  where
    by : (o : Ordering) → o ≡ Less → o ≡ ordering_reverse o → ⊥
    by Less e turned = absurd cc
    by Equal e turned = absurd cc
    by Greater e turned = absurd cc

-- one between two equal ones
between : (a b : Identity) → IsUpto a b → IsUpto b a → a ≡ b
between a b (inl is) two = is
between a b (inr less) (inl is) = sym is
between a b (inr less) (inr more) = absurd (less_not a (identity_cmp_total.trans a b a less more))

abbrev IsAhead : RowChange → RowChange → Type 0
IsAhead one other = (one.row.table < other.row.table) ⊎ ((one.row.table ≡ other.row.table) × IsUpto one.row.identity other.row.identity)

-- each is ahead of those behind it
abbrev AreRising : List RowChange → Type 0
AreRising [] = Unit {0}
AreRising (change ∷ changes) = AllByRecursion (IsAhead change) changes × AreRising changes

each_at : {A : Type 0} (P : A → Type 0) (xs : List A) → AllByRecursion P xs → (i : ℕ) (x : A) → slice_get xs i ≡ Some x → P x
each_at P [] all i x at = absurd (some_none x (sym at))
each_at P (y ∷ xs) (own, all) zero x at = subst P (same_Some y x at) own
each_at P (y ∷ xs) (own, all) (suc i) x at = each_at P xs all i x at

rising_at : (changes : List RowChange) → AreRising changes → (i j : ℕ) (one other : RowChange) → i < j → slice_get changes i ≡ Some one → slice_get changes j ≡ Some other → IsAhead one other
rising_at [] rising i j one other l at_i at_j = absurd (some_none one (sym at_i))
rising_at (first ∷ changes) (own, rising) zero zero one other l at_i at_j = absurd (omega (arith, l))
rising_at (first ∷ changes) (own, rising) zero (suc j) one other l at_i at_j = subst (λ x. IsAhead x other) (same_Some first one at_i) (each_at (IsAhead first) changes own j other at_j)
rising_at (first ∷ changes) (own, rising) (suc i) zero one other l at_i at_j = absurd (omega (arith, l))
rising_at (first ∷ changes) (own, rising) (suc i) (suc j) one other l at_i at_j = rising_at changes rising i j one other (omega (arith, l)) at_i at_j

pub grouped_from : (changes : List RowChange) → AreRising changes → AreGrouped changes
grouped_from changes rising i j k one other third li lj at_i at_j at_k e =
    by (rising_at changes rising i j one other li at_i at_j) (rising_at changes rising j k other third lj at_j at_k)
  where
    parts : ((one.row.table == third.row.table) ≡ true) × (same_identity one.row.identity third.row.identity ≡ true)
    parts = and_parts (one.row.table == third.row.table) (same_identity one.row.identity third.row.identity) e

    table : one.row.table ≡ third.row.table
    table = eqb-true one.row.table third.row.table parts.0

    id : one.row.identity ≡ third.row.identity
    id = same-exact one.row.identity third.row.identity parts.1

    by : IsAhead one other → IsAhead other third → same_row one other ≡ true
    by (inl less) (inl more) = absurd (omega (arith, less, more, table))
    by (inl less) (inr (same, upto)) = absurd (omega (arith, less, same, table))
    by (inr (same, upto)) (inl more) = absurd (omega (arith, same, more, table))
    by (inr (same, upto)) (inr (same', upto')) = λ i.
        (ap (λ t. one.row.table == t) (sym same) ∙ eq_itself one.row.table) i
        && (ap (same_identity one.row.identity) (sym (between one.row.identity other.row.identity upto (subst (IsUpto other.row.identity) (sym id) upto'))) ∙ same-itself one.row.identity) i

-- ---- the changes of a dump

rising_append : (xs ys : List RowChange) → AreRising xs → AreRising ys → AllByRecursion (λ x. AllByRecursion (IsAhead x) ys) xs → AreRising (xs ++ ys)
rising_append [] ys one two across = two
rising_append (x ∷ xs) ys (own, one) two (ahead, across) = (each_append (IsAhead x) xs ys own ahead, rising_append xs ys one two across)

each_weaker : {A : Type 0} (P Q : A → Type 0) → ((x : A) → P x → Q x) → (xs : List A) → AllByRecursion P xs → AllByRecursion Q xs
each_weaker P Q weaker [] all = tt
each_weaker P Q weaker (x ∷ xs) (own, all) = (weaker x own, each_weaker P Q weaker xs all)

-- a change of a table, of an identity from this one on
abbrev IsFrom : ℕ → Identity → RowChange → Type 0
IsFrom table id change = (change.row.table ≡ table) × IsUpto id change.row.identity

-- of this one
abbrev IsOf : ℕ → Identity → RowChange → Type 0
IsOf table id change = (change.row.table ≡ table) × (change.row.identity ≡ id)

deleted_of : (table : ℕ) (span : Span) (next : Option Span) → AllByRecursion (IsOf table span.id) (deleted_changes table span next) × AreRising (deleted_changes table span next)
deleted_of table span next = by (option_map_or (goes_on_in span) next false) span.to
  where
    by : (b : Bool) (to : Option ℕ)
        → AllByRecursion (IsOf table span.id) (cond b [] (option_map_or (λ (to : ℕ). record { version = to; row = record { table = table; identity = span.id }; before = Some span.row; after = None } ∷ []) to []))
        × AreRising (cond b [] (option_map_or (λ (to : ℕ). record { version = to; row = record { table = table; identity = span.id }; before = Some span.row; after = None } ∷ []) to []))
    by true to = (tt, tt)
    by false None = (tt, tt)
    by false (Some to) = (((refl, refl), tt), (tt, tt))

span_of : (table : ℕ) (last : Option Span) (span : Span) (next : Option Span) → AllByRecursion (IsOf table span.id) (span_changes table last span next) × AreRising (span_changes table last span next)
span_of table last span next =
    let deleted = deleted_of table span next in (
      ((refl, refl), deleted.0),
      (
        each_weaker (IsOf table span.id) (λ change. (table < change.row.table) ⊎ ((table ≡ change.row.table) × IsUpto span.id change.row.identity)) (λ change is. inr (sym is.0, inl (sym is.1)))
            (deleted_changes table span next) deleted.0,
        deleted.1,
      ),
    )

-- ---- row versions in order

-- the first of some row versions has an identity from this one on
after_upto : (last span : Span) → is_after last span ≡ true → IsUpto last.id span.id
after_upto last span e = by (identity_cmp last.id span.id) refl e
  where
    by : (o : Ordering) → identity_cmp last.id span.id ≡ o → is_lt o || (same_identity last.id span.id && (nat_lt last.from span.from && has_ended_by last.to span.from)) ≡ true → IsUpto last.id span.id
    by Less is e = inr is
    by Equal is e = inl (same-exact last.id span.id (and_parts (same_identity last.id span.id) (nat_lt last.from span.from && has_ended_by last.to span.from) e).0)
    by Greater is e = inl (same-exact last.id span.id (and_parts (same_identity last.id span.id) (nat_lt last.from span.from && has_ended_by last.to span.from) e).0)

abbrev IsChain : List Span → Type 0
IsChain [] = Unit {0}
IsChain (span ∷ []) = Unit {0}
IsChain (span ∷ next ∷ spans) = IsUpto span.id next.id × IsChain (next ∷ spans)

chain_of : (cols : List Column) (versions : ℕ) (before : List Span) (span : Span) (spans : List Span) → AreInPlace cols versions before (span ∷ spans) → IsChain (span ∷ spans)
chain_of cols versions before span [] place = tt
chain_of cols versions before span (next ∷ spans) (own, (row, place)) = (after_upto span next (follows row.place), chain_of cols versions (span ∷ before) next spans (row, place))
  where
    follows : is_in_place versions (span ∷ before) next ≡ true → is_after span next ≡ true
    follows e =
        let first = and_parts (nat_le 1 next.from) (nat_le next.from versions && (ends_within versions next.from next.to && is_after span next)) e in
        let second = and_parts (nat_le next.from versions) (ends_within versions next.from next.to && is_after span next) first.1 in
        (and_parts (ends_within versions next.from next.to) (is_after span next) second.1).1

from_first : (table : ℕ) (last : Option Span) (id : Identity) (span : Span) (spans : List Span) → IsUpto id span.id → IsChain (span ∷ spans) → AllByRecursion (IsFrom table id) (spans_changes table last (span ∷ spans))
from_first table last id span [] upto chain =
    each_append (IsFrom table id) (span_changes table last span None) []
    (each_weaker (IsOf table span.id) (IsFrom table id) (λ change is. (is.0, subst (IsUpto id) (sym is.1) upto)) (span_changes table last span None) (span_of table last span None).0) tt
from_first table last id span (next ∷ spans) upto chain =
    each_append (IsFrom table id) (span_changes table last span (Some next)) (spans_changes table (Some span) (next ∷ spans))
    (each_weaker (IsOf table span.id) (IsFrom table id) (λ change is. (is.0, subst (IsUpto id) (sym is.1) upto)) (span_changes table last span (Some next)) (span_of table last span (Some next)).0)
    (from_first table (Some span) id next spans (upto_through id span.id next.id upto chain.0) chain.1)

of_ahead : (table : ℕ) (id : Identity) (one other : RowChange) → IsOf table id one → IsFrom table id other → IsAhead one other
of_ahead table id one other is from = inr (is.0 ∙ sym from.0, subst (λ x. IsUpto x other.row.identity) (sym is.1) from.1)

spans_rise : (table : ℕ) (last : Option Span) (spans : List Span) → IsChain spans → AreRising (spans_changes table last spans)
spans_rise table last [] chain = tt
spans_rise table last (span ∷ []) chain =
    rising_append (span_changes table last span None) [] (span_of table last span None).1 tt
    (each_weaker (IsOf table span.id) (λ x. AllByRecursion (IsAhead x) []) (λ x is. tt) (span_changes table last span None) (span_of table last span None).0)
spans_rise table last (span ∷ next ∷ spans) chain =
    rising_append (span_changes table last span (Some next)) (spans_changes table (Some span) (next ∷ spans)) (span_of table last span (Some next)).1 (spans_rise table (Some span) (next ∷ spans) chain.1)
    (each_weaker (IsOf table span.id) (λ x. AllByRecursion (IsAhead x) (spans_changes table (Some span) (next ∷ spans)))
    (λ x is. each_weaker (IsFrom table span.id) (IsAhead x) (λ other from. of_ahead table span.id x other is from) (spans_changes table (Some span) (next ∷ spans))
    (from_first table (Some span) span.id next spans chain.0 chain.1))
    (span_changes table last span (Some next)) (span_of table last span (Some next)).0)

spans_in : (table : ℕ) (last : Option Span) (spans : List Span) → AllByRecursion (λ (change : RowChange). change.row.table ≡ table) (spans_changes table last spans)
spans_in table last [] = tt
spans_in table last (span ∷ spans) =
    each_append (λ (change : RowChange). change.row.table ≡ table) (span_changes table last span (slice_get spans 0)) (spans_changes table (Some span) spans)
    (each_weaker (IsOf table span.id) (λ change. change.row.table ≡ table) (λ change is. is.0) (span_changes table last span (slice_get spans 0)) (span_of table last span (slice_get spans 0)).0)
    (spans_in table (Some span) spans)

-- ---- all tables

chains : (tables : List Table) (versions : ℕ) (spans : List (List Span)) → AreOfTables tables versions spans → AllByRecursion IsChain spans
chains [] versions [] are = tt
chains [] versions (own ∷ spans) are = absurd are
chains (table ∷ tables) versions [] are = absurd are
chains (table ∷ tables) versions (own ∷ spans) are = (one own are.0, chains tables versions spans are.1)
  where
    one : (own : List Span) → AreInPlace table.cols versions [] own → IsChain own
    one [] place = tt
    one (span ∷ own) place = chain_of table.cols versions [] span own place

tables_rise : (table : ℕ) (spans : List (List Span)) → AllByRecursion IsChain spans → AreRising (tables_changes table spans) × AllByRecursion (λ (change : RowChange). table ≤ change.row.table) (tables_changes table spans)
tables_rise table [] all = (tt, tt)
tables_rise table (own ∷ spans) (chain, all) =
    let rest = tables_rise (suc table) spans all in (
      rising_append (spans_changes table None own) (tables_changes (suc table) spans) (spans_rise table None own chain) rest.0
          (each_weaker (λ (change : RowChange). change.row.table ≡ table) (λ x. AllByRecursion (IsAhead x) (tables_changes (suc table) spans))
          (λ x is. each_weaker (λ (change : RowChange). suc table ≤ change.row.table) (IsAhead x) (λ other above. inl (less is above)) (tables_changes (suc table) spans) rest.1)
          (spans_changes table None own) (spans_in table None own)),
      each_append (λ (change : RowChange). table ≤ change.row.table) (spans_changes table None own) (tables_changes (suc table) spans)
          (each_weaker (λ (change : RowChange). change.row.table ≡ table) (λ change. table ≤ change.row.table) (λ change is. equal is) (spans_changes table None own) (spans_in table None own))
          (each_weaker (λ (change : RowChange). suc table ≤ change.row.table) (λ change. table ≤ change.row.table) (λ change above. more above) (tables_changes (suc table) spans) rest.1),
    )
  where
    less : {n m : ℕ} → n ≡ table → suc table ≤ m → n < m
    less is above = omega (arith, is, above)

    equal : {n : ℕ} → n ≡ table → table ≤ n
    equal is = omega (arith, is)

    more : {n : ℕ} → suc table ≤ n → table ≤ n
    more above = omega (arith, above)

-- ---- the dump of the code

pub serializable : (dump : code.Dump) → IsDump (dump_view dump) → IsSerializable dump.log dump.versions
serializable dump rules =
    let can = sound dump in
    record {
      sessions = can.sessions;
      statements = can.statements;
      count = can.tables;
      spans = can.spans;
      grouped = grouped_from (tables_changes 0 (tables_view dump.versions))
          (tables_rise 0 (tables_view dump.versions) (chains (tables_in (dump_view dump).entries) (versions_in (dump_view dump).entries) (tables_view dump.versions) rules.spans)).0;
      few = omega (arith, rules.few_entries);
    }

-- ---- the answer

-- what was found is the answer of the dump
pub found_is : (entries : List Entry) (versions : List Versions) (found : Serial)
    → IsSerialOf entries versions (serial_of (tables_in entries) entries (tables_changes 0 (tables_view versions)) parameters (spans_of versions)) (Ok found)
    → answered_serial (tables_in entries) entries (serial_view found) ≡ serial_answer (record { entries = entries; tables = tables_view versions })
found_is entries versions found (none, is) =
    ap (answered_serial (tables_in entries) entries) is
    ∙ (λ i. unless_refused (sym none i) (answered_serial (tables_in entries) entries (serial_of (tables_in entries) entries (tables_changes 0 (tables_view versions)) parameters (spans_of versions))))
    ∙ ap (λ spans. unless_refused (runs_refusal parameters entries spans (versions_in entries)) (answered_serial (tables_in entries) entries (serial_of (tables_in entries) entries (tables_changes 0 (tables_view versions)) parameters spans)))
    (dump-spans versions)

pub refused_is : {E : Type 0} (entries : List Entry) (versions : List Versions) (stop : SerialStop) (result : Result Answered E)
    → IsSerialOf entries versions (serial_of (tables_in entries) entries (tables_changes 0 (tables_view versions)) parameters (spans_of versions)) (Err stop) → IsUnserialized stop result
    → IfOk result (λ answered. answered ≡ serial_answer (record { entries = entries; tables = tables_view versions }))
refused_is entries versions (stop.Refused refusal) result is of =
    subst (λ result. IfOk result (λ answered. answered ≡ serial_answer (record { entries = entries; tables = tables_view versions }))) (sym of)
    ((λ i. unless_refused (sym is i) (answered_serial (tables_in entries) entries (serial_of (tables_in entries) entries (tables_changes 0 (tables_view versions)) parameters (spans_of versions))))
    ∙ ap (λ spans. unless_refused (runs_refusal parameters entries spans (versions_in entries)) (answered_serial (tables_in entries) entries (serial_of (tables_in entries) entries (tables_changes 0 (tables_view versions)) parameters spans)))
    (dump-spans versions))
refused_is entries versions stop.NoMemory (Ok answered) is of = absurd (false≢true of)
refused_is entries versions stop.NoMemory (Err error) is of = tt

-- ---- the answer to ANOMALIES

module _ (entries : List Entry) (versions : List Versions) where
  abbrev found_over : (ℕ → List Span) → Anomalies
  found_over spans = anomalies_of (tables_in entries) entries (tables_changes 0 (tables_view versions)) parameters spans

  over_dump : answered_anomalies (tables_in entries) entries (found_over (spans_of versions)) ≡ anomaly_answer (record { entries = entries; tables = tables_view versions })
  over_dump = ap (λ spans. answered_anomalies (tables_in entries) entries (found_over spans)) (dump-spans versions)

  pub anomalies_found : (found : Vec Anomaly Global) → AreAnomalies (found_over (spans_of versions)) (Ok found)
      → answered.Anomalies (map (anomaly_text (tables_in entries) entries) (map anomaly_view found.items)) ≡ anomaly_answer (record { entries = entries; tables = tables_view versions })
  anomalies_found found is = ap (answered_anomalies (tables_in entries) entries) is ∙ over_dump

  pub anomalies_refused : {E : Type 0} (stop : SerialStop) (result : Result Answered E) → AreAnomalies (found_over (spans_of versions)) (Err stop) → IsUnserialized stop result
      → IfOk result (λ answered. answered ≡ anomaly_answer (record { entries = entries; tables = tables_view versions }))
  anomalies_refused (stop.Refused refusal) result is of =
      subst (λ result. IfOk result (λ answered. answered ≡ anomaly_answer (record { entries = entries; tables = tables_view versions }))) (sym of)
      (ap (answered_anomalies (tables_in entries) entries) is ∙ over_dump)
  anomalies_refused stop.NoMemory (Ok answered) is of = absurd (false≢true of)
  anomalies_refused stop.NoMemory (Err error) is of = tt
