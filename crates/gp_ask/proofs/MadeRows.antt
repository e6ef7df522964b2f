-- Where nothing says that the rows of a dump are not made, each version has the rows that are.
use Rattle.std.proofs.Common.{◌≡◌, ◌⊎◌, inl, inr, ℕ, zero, suc, ◌<◌, ◌≤◌, Bool, true, false, cond, ltb, List, [], length, map, Option, Some, None, refl, sym, ap, ◌∙◌, subst, arith}
use Rattle.std.proofs.Math.Nat.{eq-or-lt_of_le}
use Rattle.std.specs.Cmp.Lexicographic.{slice_cmp}
use Rattle.std.specs.List.Sorted.{IsPermutation}
use Rattle.std.specs.Option.{is_some, option_or}
use Rattle.std.proofs.lemmas.Bool.{false≢true, ltb-false, ltb-true}
use Rattle.std.specs.Ordering.{is_eq}
use Rattle.std.proofs.lemmas.List.{get_or_past}
use Rattle.std.proofs.lemmas.List.Sorted.{IsPermutation-refl, IsPermutation-sym}
use Rattle.gp_base.specs.Annotated.{Environment, unannotated}
use Rattle.gp_base.specs.Order.{row_cmp, sorted_by}
use Rattle.gp_base.specs.declared.cell.Cell.{Cell}
use Rattle.gp_base.specs.declared.refusal.Refusal.TheVariants.{E24}
use Rattle.gp_base.specs.declared.table.Table.{Table}
use Rattle.gp_dump.specs.Dumps.{Dump}
use Rattle.gp_dump.specs.Views.{dump_view}
use Rattle.gp_dump.specs.declared.dump.Dump as code
use Rattle.gp_history.specs.Agreement.{agree, key_of}
use Rattle.gp_history.proofs.AgreementLemmas.{same_order}
use Rattle.gp_log.specs.LogFacts.{tables_in}
use Rattle.gp_log.specs.Parameters.{parameters}
use Rattle.gp_machine.specs.Entries.{Entry, log_of, versions_in}
use Rattle.gp_machine.specs.Event.{name_at}
use Rattle.gp_machine.specs.HistorySpans.{as_of}
use Rattle.gp_machine.specs.Questions.{difference_refusal}
use Rattle.gp_machine.specs.Replayed.{replayed_state}
use Rattle.gp_machine.specs.ReplayForms.{replayed_spans}
use Rattle.gp_machine.specs.Replaying.{ReplayStop}
use Rattle.gp_reenact.specs.Reenacting.{spans_of}
use Rattle.gp_reenact.specs.Travel.{no_table}
use Rattle.gp_versions.specs.declared.span.Span.{Span}
use Rattle.gp_versions.specs.Spans.{Versions}
use Rattle.gp_whatif.specs.Replays.{IsMade, stop_upto}
use Rattle.gp_ask.specs.Asking.{table_spans}
use Rattle.gp_ask.specs.Hypothetical.{remaking_refusal, replay_refusal, replayed_dump}
use Rattle.gp_ask.specs.Made.{differing_refusal, unmade_refusal, version_refusal}
use Rattle.gp_ask.specs.Keeping.{IsFound}
use Rattle.gp_ask.specs.MadeForms.{AreDiffering, HasMadeVersions, has_none}
use Rattle.gp_ask.specs.Replays.{dump_in}
use Rattle.gp_ask.proofs.MadeSpans.{keys-moved, none-set}
use Rattle.gp_ask.proofs.ProvenanceLemmas.{sound, spans-are}
use Rattle.gp_ask.proofs.SpanLemmas.{dumped}
use Rattle.gp_ask.proofs.WhatIfLemmas.{remaking_is}
use Rattle.gp_base.proofs.SmallLemmas.{none_parts, some_none}

agreed : {R : Type 0} (same : Bool) (found : R) → cond same None (Some found) ≡ None → same ≡ true
agreed true found none = refl
agreed false found none = absurd (cc)

-- of the first that is found, if none is
none-each : {R : Type 0} (g f : ℕ → Option R) → ((n : ℕ) → g (suc n) ≡ option_or (g n) (f n)) → (at upto : ℕ) → at < upto → g upto ≡ None → f at ≡ None
none-each g f next at zero below none = absurd (omega (arith, below))
none-each {R} g f next at (suc upto) below none =
    by (eq-or-lt_of_le (let own : at ≤ upto = omega (arith, below) in own)) (none_parts (g upto) (f upto) (sym (next upto) ∙ none)) (λ lower earlier. none-each g f next at upto lower earlier)
  where
    by : (at ≡ upto) ⊎ (at < upto) → (g upto ≡ None) × (f upto ≡ None) → (at < upto → g upto ≡ None → f at ≡ None) → f at ≡ None
    by (inl here) both earlier = subst (λ n. f n ≡ None) (sym here) both.1
    by (inr lower) both earlier = earlier lower both.0

module _ (tables : List Table) (rows others : Environment (Unit {0})) where
  rows-agree : (versions version table : ℕ) → version < versions → table < length tables → differing_refusal tables versions rows others ≡ None
      → agree (rows (suc version) table) (others (suc version) table) ≡ true
  rows-agree versions version table below listed none =
      agreed (agree (rows (suc version) table) (others (suc version) table)) (E24 (suc version) (name_at table tables))
      (none-each (λ n. difference_refusal unannotated parameters agree tables (suc version) n (rows (suc version)) (others (suc version)))
      (λ n. cond (agree (rows (suc version) n) (others (suc version) n)) None (Some (E24 (suc version) (name_at n tables)))) (λ n. refl) table (length tables) listed
      (none-each (λ n. differing_refusal tables n rows others) (λ n. version_refusal tables (suc n) (rows (suc n)) (others (suc n))) (λ n. refl) version versions below none))

-- the order of the rows that are made does not matter
module _ (tables : List Table) (rows others moved : Environment (Unit {0}))
    (same : (version table : ℕ) → IsPermutation (map key_of (others version table)) (map key_of (moved version table))) where
  agree-moved : (version table : ℕ) → agree (rows version table) (others version table) ≡ agree (rows version table) (moved version table)
  agree-moved version table =
      ap (λ (sorted : List (List Cell)). is_eq (slice_cmp row_cmp (sorted_by row_cmp (map key_of (rows version table))) sorted))
      (same_order (map key_of (others version table)) (map key_of (moved version table)) (same version table))

  tables-moved : (version count : ℕ) → difference_refusal unannotated parameters agree tables version count (rows version) (others version)
      ≡ difference_refusal unannotated parameters agree tables version count (rows version) (moved version)
  tables-moved version zero = refl
  tables-moved version (suc table) =
      λ i. option_or (tables-moved version table i) (cond (agree-moved version table i) None (Some (E24 version (name_at table tables))))

  pub versions-moved : (versions : ℕ) → differing_refusal tables versions rows others ≡ differing_refusal tables versions rows moved
  versions-moved zero = refl
  versions-moved (suc version) = λ i. option_or (versions-moved version i) (tables-moved (suc version) (length tables) i)

module _ (entries : List Entry) (versions : List Versions) (made : IsMade entries (versions_in entries) versions) where
  beyond : (place : ℕ) → length (tables_in entries) ≤ place → replayed_spans unannotated (log_of entries) (length (tables_in entries)) (versions_in entries) place ≡ []
  beyond place past = sym (made.spans place) ∙ ap (λ (table : Versions). table.spans) (get_or_past versions place no_table (omega (arith, past, made.count)))

  made-spans : (place : ℕ) → IsPermutation (spans_of versions place) (table_spans (replayed_dump entries).tables place)
  made-spans place =
      subst (λ (spans : List Span). IsPermutation spans (table_spans (replayed_dump entries).tables place)) (sym (made.spans place))
      (IsPermutation-sym (table_spans (replayed_dump entries).tables place) (replayed_spans unannotated (log_of entries) (length (tables_in entries)) (versions_in entries) place)
      (dumped (replayed_state unannotated (tables_in entries) entries) beyond place))

  -- by the rows of a dump of the log
  pub unmade-is : (tables : List (List Span)) → differing_refusal (tables_in entries) (versions_in entries) (as_of unannotated (table_spans tables)) (as_of unannotated (spans_of versions))
      ≡ unmade_refusal (dump_in entries tables)
  unmade-is tables =
      versions-moved (tables_in entries) (as_of unannotated (table_spans tables)) (as_of unannotated (spans_of versions)) (as_of unannotated (table_spans (replayed_dump entries).tables))
      (λ version table. keys-moved version (spans_of versions table) (table_spans (replayed_dump entries).tables table) (made-spans table)) (versions_in entries)
      ∙ ap
      (λ found. option_or found
      (differing_refusal (tables_in entries) (versions_in entries) (as_of unannotated (table_spans tables)) (as_of unannotated (table_spans (replayed_dump entries).tables))))
      (sym (remaking_is entries None made.unstopped))

-- then no commit stops
pub remaking-none : (dump : Dump) → unmade_refusal dump ≡ None → remaking_refusal dump.entries ≡ None
remaking-none dump none =
    (none_parts (remaking_refusal dump.entries)
    (differing_refusal (tables_in dump.entries) (versions_in dump.entries) (as_of unannotated (table_spans dump.tables)) (as_of unannotated (table_spans (replayed_dump dump.entries).tables))) none).0

-- row versions that are made, and are those of the dump table by table, are all that the log makes
module _ (dump : code.Dump) (versions : List Versions)
    (made : IsMade (dump_view dump).entries (versions_in (dump_view dump).entries) versions) where
  as-listed : (place : ℕ) → IsPermutation (spans_of dump.versions place) (spans_of versions place)
      → IsPermutation (table_spans (dump_view dump).tables place) (replayed_spans unannotated (log_of (dump_view dump).entries) (length (tables_in (dump_view dump).entries)) (versions_in (dump_view dump).entries) place)
  as-listed place moved =
      subst (λ (spans : ℕ → List Span). IsPermutation (spans place) (replayed_spans unannotated (log_of (dump_view dump).entries) (length (tables_in (dump_view dump).entries)) (versions_in (dump_view dump).entries) place))
      (spans-are dump dump.versions refl)
      (subst (λ (spans : List Span). IsPermutation (spans_of dump.versions place) spans) (made.spans place) moved)

  past-tables : (place : ℕ) → length dump.versions ≤ place → IsPermutation (spans_of dump.versions place) (spans_of versions place)
  past-tables place past =
      let tables : length dump.versions ≡ length (tables_in (dump_view dump).entries) = (sound dump).tables in
      let others : length versions ≡ length (tables_in (dump_view dump).entries) = made.count in
      subst (λ (table : Versions). IsPermutation table.spans (spans_of versions place)) (sym (get_or_past dump.versions place no_table (omega (arith, past))))
      (subst (λ (table : Versions). IsPermutation no_table.spans table.spans) (sym (get_or_past versions place no_table (omega (arith, past, tables, others)))) (IsPermutation-refl no_table.spans))

  pub has-made : (flags : List Bool) → AreDiffering dump.versions versions flags → has_none flags ≡ true → HasMadeVersions (dump_view dump)
  has-made flags are none place = as-listed place (by (ltb place (length dump.versions)) refl)
    where
      by : (below : Bool) → ltb place (length dump.versions) ≡ below → IsPermutation (spans_of dump.versions place) (spans_of versions place)
      by true is =
          let listed : place < length dump.versions = ltb-true place (length dump.versions) is in
          are.same place (none-set flags none place (omega (arith, listed, are.as_many)))
      by false is = past-tables place (ltb-false place (length dump.versions) is)

-- what was found says that nothing tells the rows apart
pub found-none : (dump : code.Dump) (found : Option Bool) → IsFound dump found → is_some found ≡ true → None ≡ unmade_refusal (dump_view dump)
found-none dump None is some = absurd (false≢true some)
found-none dump (Some made) is some = sym is.0

-- and where the row versions are those that are made
pub found-made : (dump : code.Dump) (found : Option Bool) → IsFound dump found → found ≡ Some true → HasMadeVersions (dump_view dump)
found-made dump found is made = (subst (IsFound dump) made is).1 refl

-- no commit stops
pub unstopped : (entries : List Entry) → remaking_refusal entries ≡ None → stop_upto entries (versions_in entries) ≡ None
unstopped entries none = by (stop_upto entries (versions_in entries)) refl
  where
    by : (stop : Option ReplayStop) → stop_upto entries (versions_in entries) ≡ stop → stop_upto entries (versions_in entries) ≡ None
    by None is = is
    by (Some stop) is = absurd (some_none (replay_refusal entries stop) (sym (remaking_is entries (Some stop) is) ∙ none))

pub made-rows : (dump : Dump) → unmade_refusal dump ≡ None → (version table : ℕ) → version < versions_in dump.entries → table < length (tables_in dump.entries)
    → agree (as_of unannotated (table_spans dump.tables) (suc version) table) (as_of unannotated (table_spans (replayed_dump dump.entries).tables) (suc version) table) ≡ true
made-rows dump none version table below listed =
    let tables : List Table = tables_in dump.entries in
    let rows : Environment (Unit {0}) = as_of unannotated (table_spans dump.tables) in
    let others : Environment (Unit {0}) = as_of unannotated (table_spans (replayed_dump dump.entries).tables) in
    rows-agree tables rows others (versions_in dump.entries) version table below listed
    (none_parts (remaking_refusal dump.entries) (differing_refusal tables (versions_in dump.entries) rows others) none).1
