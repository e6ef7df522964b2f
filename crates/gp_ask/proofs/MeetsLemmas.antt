-- The conflicts of a transaction are told of a history by its dump as the machine held them.
use Rattle.std.proofs.Common.{◌≡◌, ◌≢◌, ⊎_elim, ℕ, zero, suc, ◌+◌, ◌-◌, ◌<◌, ◌≤◌, Bool, true, false, cond, List, [], ◌∷◌, ◌++◌, map, Option, None, Some, refl, sym, ap, ◌∙◌, subst, arith}
use Rattle.std.specs.Prelude.{◌&&◌, ◌||◌, ◌==◌, filter, nat_le, not}
use Rattle.std.specs.List.{AllByRecursion, flat_map, list_any}
use Rattle.std.specs.Option.{option_map, option_map_or}
use Rattle.std.specs.Ordering.{MatchOrdering, is_eq, nat_cmp, ordering_then}
use Rattle.std.specs.declared.cmp.Ordering.{Ordering}
use Rattle.std.specs.declared.cmp.Ordering.TheVariants.{Less, Equal, Greater}
use Rattle.std.proofs.lemmas.Bool.{and_parts, eq-eqb, eqb-true, or_parts}
use Rattle.std.proofs.lemmas.Cmp.{nat_cmp_total, ranked, tied_itself}
use Rattle.std.proofs.lemmas.List.{append-nil}
use Rattle.std.proofs.lemmas.Option.{same_Some}
use Rattle.gp_base.proofs.Bags.{SameBag, any_same, filtered, joined, mapped, same, same_from, through, turned}
use Rattle.gp_base.proofs.IdentityLaws.{same_identity-is}
use Rattle.gp_base.proofs.SmallLemmas.{any-map, each_append, eq_itself, filter-map, filter_agree, some_none}
use Rattle.gp_base.specs.declared.refusal.Refusal.TheVariants.{E20}
use Rattle.gp_base.specs.declared.table.Table.{Table}
use Rattle.gp_base.specs.Annotated.{Annotated, Database, Environment, monomials, unannotated}
use Rattle.gp_algebra.specs.Reannotation.{forgotten, reannotated}
use Rattle.gp_base.specs.Identities.{Identity, identity_cmp, same_identity}
use Rattle.gp_base.specs.IdentityOrder.{identity_cmp_total}
use Rattle.gp_base.specs.IdentityParts.{identity_transaction}
use Rattle.gp_base.specs.Order.{sorted_by}
use Rattle.gp_base.specs.Tokens.{Monomial}
use Rattle.gp_algebra.proofs.Erasure.{wrote_reannotated}
use Rattle.gp_algebra.proofs.StepBags.{wrote_same}
use Rattle.gp_algebra.specs.Effects.{Written, wrote}
use Rattle.gp_algebra.specs.Statements.{Statement}
use Rattle.gp_dump.specs.Dumps.{Dump}
use Rattle.gp_log.proofs.KeptSessions.{orderly}
use Rattle.gp_log.specs.LogFacts.{tables_in}
use Rattle.gp_log.specs.Parameters.{parameters}
use Rattle.gp_log.specs.Sessions.{KeepsSessions}
use Rattle.gp_machine.proofs.ActiveLemmas.{IsOver, active_clean, made_by_others}
use Rattle.gp_machine.proofs.BaseLemmas.{found}
use Rattle.gp_machine.proofs.Distinct.{each_weaker}
use Rattle.gp_machine.proofs.FoundLemmas.{IsRead, bases_read}
use Rattle.gp_machine.proofs.HeldPoints.{version_is}
use Rattle.gp_machine.proofs.LogLemmas.{versions_le}
use Rattle.gp_machine.proofs.Made.{same_equal}
use Rattle.gp_machine.proofs.PointReannotation.{before_reannotated, forgotten_keeps}
use Rattle.gp_machine.proofs.SpanLaws.{plain_spans_rows}
use Rattle.gp_machine.specs.Points.{RunStop}
use Rattle.gp_machine.specs.Bases.{Based, is_new, pairs, with_base}
use Rattle.gp_machine.specs.Committed.{is_written}
use Rattle.gp_machine.specs.Entries as m
use Rattle.gp_machine.specs.Entries.{Entry, Log, committer_of, log_of, statement_at, statement_count, statement_version, version_of, versions_in}
use Rattle.gp_machine.specs.Event.{name_at}
use Rattle.gp_machine.specs.Histories.{IsHistory}
use Rattle.gp_machine.specs.HistorySpans.{as_of, next_written, span_from, spans_from, spans_upto, state_spans}
use Rattle.gp_machine.specs.Publishing.{holds_identity}
use Rattle.gp_machine.specs.Questions.{is_known, stop_refusal}
use Rattle.gp_machine.specs.Reached.{IsReached}
use Rattle.gp_machine.specs.ReadBy.{seen_by, start_by}
use Rattle.gp_machine.specs.Reading.{wrote_by}
use Rattle.gp_machine.specs.ReplayForms.{upto_version}
use Rattle.gp_machine.specs.Runs.{run_before}
use Rattle.gp_machine.specs.SeenRows.{AreDistinct}
use Rattle.gp_machine.specs.State.{Active, State}
use Rattle.gp_versions.specs.declared.span.Span.{Span}
use Rattle.gp_versions.specs.Spans.{holds_at, row_of, spans_at}
use Rattle.gp_ask.specs.declared.answered.Answered.TheVariants.{Lines}
use Rattle.gp_ask.specs.declared.answered.Heading.TheVariants.{Conflicts}
use Rattle.gp_ask.specs.Asking.{table_spans}
use Rattle.gp_ask.specs.ChangeForms.{ends_at}
use Rattle.gp_ask.specs.ConflictForms.{dump_wrote}
use Rattle.gp_ask.specs.RowConflicts as s
use Rattle.gp_ask.specs.RowConflicts.{based_cmp}
use Rattle.gp_ask.specs.Seeing.{unknown_refusal}
use Rattle.gp_ask.specs.Values.{unless_refused}
use Rattle.gp_ask.proofs.ConflictLemmas.{based-total, firsts-once}
use Rattle.gp_ask.proofs.HeldLemmas.{forgetting}
use Rattle.gp_ask.proofs.IntervalLines.{all-sorted}
use Rattle.gp_ask.proofs.MetLemmas.{IsFirst, one-first, searched, searched-upto}
use Rattle.gp_ask.proofs.OnceLemmas as o
use Rattle.gp_ask.proofs.SeenLemmas.{IsTransaction, is-known, rises}
use Rattle.gp_ask.proofs.StableLemmas.{AreApart, apart-moved, once-apart, sorted-moved}
use Rattle.gp_ask.proofs.TransactionRuns.{IsRising, MakesOnce, ReadsWithin, different-before, first-versions, own-once, own-starts, passes-none, reads-within, same_written, started, wrote-once}

-- ---- the commits before the end of a transaction

abbrev ends : ℕ → Entry → Bool
ends t entry = m.is_end entry && m.is_of t entry

abbrev before-end : ℕ → ℕ → List Entry → ℕ
before-end t other entries = m.at_newest (λ entry older. ends t entry) (λ entry older. versions_in older) other entries

more-versions : (entry : Entry) (older : List Entry) → versions_in older ≤ versions_in (entry ∷ older)
more-versions entry older = elim (m.is_commit entry) as (λ b. versions_in older ≤ cond b (suc (versions_in older)) (versions_in older)) [ true ↦ omega arith | false ↦ omega arith ]

at-most : (t other most : ℕ) (entries : List Entry) → other ≤ most → versions_in entries ≤ most → before-end t other entries ≤ most
at-most t other most [] within below = within
at-most t other most (entry ∷ older) within below =
    let less = more-versions entry older in
    let rest = at-most t other most older within (omega arith) in
    elim (ends t entry) as (λ b. cond b (versions_in older) (before-end t other older) ≤ most) [ true ↦ omega arith | false ↦ omega arith ]

-- one that committed made the version after them
committed-at : (t w other : ℕ) (entries : List Entry) → KeepsSessions entries → version_of t entries ≡ Some (suc w) → before-end t other entries ≡ w
committed-at t w other [] keeps made = absurd (some_none (suc w) (sym made))
committed-at t w other (m.Created line session table ∷ older) keeps made = committed-at t w other older keeps.1 made
committed-at t w other (m.Began line session u level ∷ older) keeps made = committed-at t w other older keeps.1.1 made
committed-at t w other (m.Ran line session command u statement ∷ older) keeps made = committed-at t w other older keeps.1 made
committed-at t w other (m.Committed line session u ∷ older) keeps made =
    elim (u == t) as (λ b. (u == t) ≡ b → cond b (Some (suc (versions_in older))) (version_of t older) ≡ Some (suc w) → cond b (versions_in older) (before-end t other older) ≡ w) [
      | true ↦ λ own is. let same = same_Some (suc (versions_in older)) (suc w) is in omega arith
      | false ↦ λ own is. committed-at t w other older keeps.1 is
    ] refl made
committed-at t w other (m.Ended line session end u ∷ older) keeps made =
    elim (u == t) as (λ b. (u == t) ≡ b → cond b (versions_in older) (before-end t other older) ≡ w) [
      | true ↦ λ own.
          let i = version_is t (suc w) older made in
          absurd ((orderly older keeps.1).unfinished session u i.earlier keeps.0 i.within (i.made ∙ sym (eqb-true u t own)))
      | false ↦ λ own. committed-at t w other older keeps.1 made
    ] refl

-- ---- the spans of a history, and what its commits wrote

module _ {M : Type 0} (versions : ℕ) (committed : Environment M) (written : ℕ → List Written) (table : ℕ) where
  abbrev WasWritten : Span → Type 0
  WasWritten span = (is_written table span.id (written span.from) ≡ true) × ((v : ℕ) → span.to ≡ Some v → is_written table span.id (written v) ≡ true)

  next-is-written : (id : Identity) (more from v : ℕ) → next_written written table id from more ≡ Some v → is_written table id (written v) ≡ true
  next-is-written id zero from v is = absurd (some_none v (sym is))
  next-is-written id (suc more) from v is =
      elim (is_written table id (written (suc from))) as (λ b. is_written table id (written (suc from)) ≡ b → cond b (Some (suc from)) (next_written written table id (suc from) more) ≡ Some v → is_written table id (written v) ≡ true) [
        | true ↦ λ own found. subst (λ n. is_written table id (written n) ≡ true) (same_Some (suc from) v found) own
        | false ↦ λ own found. next-is-written id more (suc from) v found
      ] refl is

  begun-written : (version : ℕ) (rows : List (Annotated M)) → AllByRecursion WasWritten (map (span_from versions committed written table version) (filter (λ row. is_written table row.identity (written version)) rows))
  begun-written version [] = tt
  begun-written version (row ∷ rows) =
      elim (is_written table row.identity (written version)) as (λ b. is_written table row.identity (written version) ≡ b
      → AllByRecursion WasWritten (map (span_from versions committed written table version) (cond b (row ∷ filter (λ row. is_written table row.identity (written version)) rows) (filter (λ row. is_written table row.identity (written version)) rows)))) [
        | true ↦ λ own. ((own, λ v is. next-is-written row.identity (versions - version) version v is), begun-written version rows)
        | false ↦ λ own. begun-written version rows
      ] refl

  spans-written : (n : ℕ) → AllByRecursion WasWritten (spans_upto versions committed written table n)
  spans-written zero = tt
  spans-written (suc n) =
      each_append WasWritten (spans_upto versions committed written table n) (spans_from versions committed written table (suc n)) (spans-written n) (begun-written (suc n) (committed (suc n) table))

module _ (written : ℕ → List Written) (table : ℕ) (id : Identity) where
  abbrev own-write : ℕ → Bool
  own-write version = is_written table id (written version)

  -- what the spans show was written
  shown-written : (spans : List Span) (v : ℕ)
      → AllByRecursion (λ (span : Span). (is_written table span.id (written span.from) ≡ true) × ((v : ℕ) → span.to ≡ Some v → is_written table span.id (written v) ≡ true)) spans
      → s.spans_wrote spans id v ≡ true → own-write v ≡ true
  shown-written [] v all is = absurd cc
  shown-written (span ∷ spans) v all is =
      elim (same_identity span.id id && ((span.from == v) || ends_at v span)) as (λ b. (same_identity span.id id && ((span.from == v) || ends_at v span)) ≡ b → (b || s.spans_wrote spans id v) ≡ true → own-write v ≡ true) [
        | true ↦ λ own rest.
            let parts = and_parts (same_identity span.id id) ((span.from == v) || ends_at v span) own in
            subst (λ (other : Identity). is_written table other (written v) ≡ true) (same_equal span.id id parts.0) (touched (span.from == v) refl parts.1)
        | false ↦ λ own rest. shown-written spans v all.1 rest
      ] refl is
    where
      ended : (to : Option ℕ) → span.to ≡ to → option_map_or (λ own. own == v) to false ≡ true → is_written table span.id (written v) ≡ true
      ended None is none = absurd cc
      ended (Some to) is own = all.0.1 v (is ∙ ap Some (eqb-true to v own))

      touched : (b : Bool) → (span.from == v) ≡ b → (b || ends_at v span) ≡ true → is_written table span.id (written v) ≡ true
      touched true own some = subst (λ n. is_written table span.id (written n) ≡ true) (eqb-true span.from v own) all.0.0
      touched false own some = ended span.to refl some

  -- of a row that a version has, they show the next write
  next-shown : (last base v : ℕ) (spans : List Span)
      → AllByRecursion (λ (span : Span). (version : ℕ) → version ≤ last → holds_at version span ≡ true → span.to ≡ next_written written table span.id version (last - version)) spans
      → base ≤ last → list_any (λ (span : Span). same_identity span.id id) (spans_at base spans) ≡ true → next_written written table id base (last - base) ≡ Some v → s.spans_wrote spans id v ≡ true
  next-shown last base v [] all within held next = absurd cc
  next-shown last base v (span ∷ spans) all within held next = by (holds_at base span) (same_identity span.id id) refl refl held (next-shown last base v spans all.1 within)
    where
      or-true : (a : Bool) → (a || true) ≡ true
      or-true true = refl
      or-true false = refl

      later : s.spans_wrote spans id v ≡ true → s.spans_wrote (span ∷ spans) id v ≡ true
      later is = ap (λ b. (same_identity span.id id && ((span.from == v) || ends_at v span)) || b) is ∙ or-true (same_identity span.id id && ((span.from == v) || ends_at v span))

      here : holds_at base span ≡ true → same_identity span.id id ≡ true → s.spans_wrote (span ∷ spans) id v ≡ true
      here holds same =
          let to : span.to ≡ Some v = all.0 base within holds ∙ ap (λ (own : Identity). next_written written table own base (last - base)) (same_equal span.id id same) ∙ next in
          (λ i. (same i && ((span.from == v) || option_map_or (λ own. own == v) (to i) false)) || s.spans_wrote spans id v)
          ∙ ap (λ b. ((span.from == v) || b) || s.spans_wrote spans id v) (eq_itself v)
          ∙ ap (λ b. b || s.spans_wrote spans id v) (or-true (span.from == v))

      by : (b c : Bool) → holds_at base span ≡ b → same_identity span.id id ≡ c → list_any (λ (own : Span). same_identity own.id id) (cond b (span ∷ spans_at base spans) (spans_at base spans)) ≡ true
          → (list_any (λ (own : Span). same_identity own.id id) (spans_at base spans) ≡ true → next_written written table id base (last - base) ≡ Some v → s.spans_wrote spans id v ≡ true)
          → s.spans_wrote (span ∷ spans) id v ≡ true
      by true true holds same some rest = here holds same
      by true false holds same some rest = later (rest (ap (λ c. c || list_any (λ (own : Span). same_identity own.id id) (spans_at base spans)) (sym same) ∙ some) next)
      by false c holds same some rest = later (rest some next)

  -- the next write is the first version that wrote it
  same-search : (base more : ℕ) → s.first_writer own-write base more ≡ next_written written table id base more
  same-search base zero = refl
  same-search base (suc more) = ap (λ (rest : Option ℕ). cond (own-write (suc base)) (Some (suc base)) rest) (same-search (suc base) more)

not-true : (b : Bool) → (b ≡ true → ⊥) → b ≡ false
not-true true deny = absurd (deny refl)
not-true false deny = refl

-- where what the spans show was written, and the first write is shown, the first of both is one
first-shown : (shows writes : ℕ → Bool) (base upto : ℕ) → ((v : ℕ) → base < v → v ≤ upto → shows v ≡ true → writes v ≡ true)
    → ((v : ℕ) → IsFirst writes base upto (Some v) → shows v ≡ true)
    → s.first_writer shows base (upto - base) ≡ s.first_writer writes base (upto - base)
first-shown shows writes base upto only first =
    one-first shows base upto (s.first_writer shows base (upto - base)) (s.first_writer writes base (upto - base)) (searched-upto shows base upto (nat_le base upto) refl)
    (by (s.first_writer writes base (upto - base)) (searched-upto writes base upto (nat_le base upto) refl))
  where
    none : (v : ℕ) → base < v → v ≤ upto → writes v ≡ false → shows v ≡ false
    none v above within is = not-true (shows v) (λ own. let wrong : false ≡ true = sym is ∙ only v above within own in absurd cc)

    by : (found : Option ℕ) → IsFirst writes base upto found → IsFirst shows base upto found
    by None is = λ v above within. none v above within (is v above within)
    by (Some v) (low, (high, (passes, rest))) = (low, (high, (first v (low, (high, (passes, rest))), λ w above below. none w above (omega arith) (rest w above below))))

-- ---- pairs

is-of-pair : (own other : Based) → is_eq (based_cmp own other) ≡ ((own.pair.table == other.pair.table) && same_identity own.pair.identity other.pair.identity)
is-of-pair own other = sym (both (own.pair.table == other.pair.table) refl)
  where
    both : (b : Bool) → (own.pair.table == other.pair.table) ≡ b → (b && same_identity own.pair.identity other.pair.identity) ≡ is_eq (ordering_then (nat_cmp own.pair.table other.pair.table) (identity_cmp own.pair.identity other.pair.identity))
    both true is =
        let same : own.pair.table ≡ other.pair.table = eqb-true own.pair.table other.pair.table is in
        same_identity-is own.pair.identity other.pair.identity
        ∙ ap (λ (u : Ordering). is_eq (ordering_then u (identity_cmp own.pair.identity other.pair.identity))) (sym (tied_itself nat_cmp_total other.pair.table))
        ∙ ap (λ n. is_eq (ordering_then (nat_cmp n other.pair.table) (identity_cmp own.pair.identity other.pair.identity))) (sym same)
    both false is = apart (nat_cmp own.pair.table other.pair.table) refl
      where
        apart : (u : Ordering) → nat_cmp own.pair.table other.pair.table ≡ u → false ≡ is_eq (ordering_then u (identity_cmp own.pair.identity other.pair.identity))
        apart Less own-is = refl
        apart Greater own-is = refl
        apart Equal own-is =
            let same : own.pair.table ≡ other.pair.table = subst (λ (u : Ordering). MatchOrdering u (own.pair.table < other.pair.table) (own.pair.table ≡ other.pair.table) (other.pair.table < own.pair.table)) own-is
            (ranked own.pair.table other.pair.table (nat_cmp own.pair.table other.pair.table) refl) in
            let wrong : false ≡ true = sym is ∙ eq-eqb own.pair.table other.pair.table same in absurd cc

among-pairs : (all : List Based) (own : Based) → o.is-among based_cmp based-total all own ≡ is_written own.pair.table own.pair.identity (pairs all)
among-pairs [] own = refl
among-pairs (first ∷ all) own = (λ i. is-of-pair first own i || among-pairs all own i)

distinct-apart : (all : List Based) → AreDistinct same_written (pairs all) → AreApart based_cmp based-total all
distinct-apart [] distinct = tt
distinct-apart (own ∷ all) distinct = (each all distinct.0, distinct-apart all distinct.1)
  where
    turned-same : (one two : Identity) → same_identity one two ≡ false → same_identity two one ≡ false
    turned-same one two is = not-true (same_identity two one) (λ own. let wrong : false ≡ true = sym is ∙ subst (λ (id : Identity). same_identity one id ≡ true) (sym (same_equal two one own)) (same_identity-is one one ∙ ap is_eq (tied_itself identity_cmp_total one)) in absurd cc)

    each : (others : List Based) → list_any (λ other. same_written other own.pair) (pairs others) ≡ false → AllByRecursion (λ (other : Based). is_eq (based_cmp own other) ≡ false) others
    each [] apart = tt
    each (other ∷ others) apart =
        let parts = or_parts (same_written other.pair own.pair) (list_any (λ another. same_written another own.pair) (pairs others)) apart in
        (not-true (is_eq (based_cmp own other)) (λ same. let wrong : false ≡ true = sym parts.0 ∙ back other (sym (is-of-pair own other) ∙ same) in absurd cc), each others parts.1)
      where
        back : (other : Based) → ((own.pair.table == other.pair.table) && same_identity own.pair.identity other.pair.identity) ≡ true → same_written other.pair own.pair ≡ true
        back other is =
            let both = and_parts (own.pair.table == other.pair.table) (same_identity own.pair.identity other.pair.identity) is in
            (λ i. (eq-eqb other.pair.table own.pair.table (sym (eqb-true own.pair.table other.pair.table both.0)) i)
            && (subst (λ (id : Identity). same_identity id own.pair.identity ≡ true) (same_equal own.pair.identity other.pair.identity both.1) (same_identity-is own.pair.identity own.pair.identity ∙ ap is_eq (tied_itself identity_cmp_total own.pair.identity))) i)

-- ---- the dump of a history

module _ (state : State Monomial) (reached : IsReached monomials parameters state) (plainly : IsReached unannotated parameters (forgetting state)) (sessions : KeepsSessions state.entries)
    (once : MakesOnce state.entries) (kept : tables_in state.entries ≡ state.catalogue) (tables : List (List Span))
    (are : (table : ℕ) → SameBag (table_spans tables table) (state_spans (forgetting state) table)) where
  abbrev dump : Dump
  dump = record { entries = state.entries; tables = tables }

  abbrev spans : ℕ → List Span
  spans = table_spans tables

  abbrev last : ℕ
  last = versions_in state.entries

  abbrev log : Log
  log = log_of state.entries

  -- what a transaction of which this many versions are not its own wrote is its own, or is in the version of its base
  module _ (t versions : ℕ) (rise : IsRising state.entries t) (is : ReadsWithin state.entries t versions) where
    abbrev early : IsHistory monomials (upto_version versions log) state.committed state.written
    early = first-versions monomials state reached.history versions is.within

    abbrev reading : Active Monomial
    reading = record {
      transaction = t;
      read_committed = false;
      version = log.version t (statement_count t state.entries);
      statements = statement_count t state.entries;
      seen = seen_by monomials log t (statement_count t state.entries) state.committed;
    }

    over : IsOver monomials (upto_version versions log) state.committed reading
    over = record { seen = refl; version = refl; read = is.reads; rising = rise; unfinished = is.unfinished }

    all-read : AllByRecursion (IsRead monomials (upto_version versions log) state.committed state.written early t (statement_count t state.entries)) (seen_by monomials log t (statement_count t state.entries) state.committed).written
    all-read = bases_read monomials (upto_version versions log) state.committed state.written early t (statement_count t state.entries) (active_clean monomials (upto_version versions log) state.committed state.written early reading over)

    others-made : (v : ℕ) → v ≤ versions → (place : ℕ) → AllByRecursion (λ (row : Annotated Monomial). identity_transaction row.identity ≢ t) (state.committed v place)
    others-made = made_by_others monomials (upto_version versions log) state.committed state.written early reading over

  held-by-all : (P : Identity → Type 0) (id : Identity) (rows : List (Annotated Monomial)) → AllByRecursion (λ (row : Annotated Monomial). P row.identity) rows → holds_identity id rows ≡ true → P id
  held-by-all P id [] all held = absurd cc
  held-by-all P id (row ∷ rows) all held =
      elim (same_identity row.identity id) as (λ b. same_identity row.identity id ≡ b → (b || holds_identity id rows) ≡ true → P id) [
        | true ↦ λ same some. subst P (same_equal row.identity id same) all.0
        | false ↦ λ other some. held-by-all P id rows all.1 some
      ] refl held

  -- a transaction made none of the rows that the first versions wrote, if it made none of these
  own-unwritten : (t versions : ℕ) (rise : IsRising state.entries t) (is : ReadsWithin state.entries t versions) (u table : ℕ) (id : Identity) → u < versions → identity_transaction id ≡ t
      → is_written table id (state.written (suc u)) ≡ false
  own-unwritten t versions rise is u table id within own = not-true (is_written table id (state.written (suc u))) wrong
    where
      maker : ℕ
      maker = committer_of (suc u) state.entries

      below : u < last
      below = let most = is.within in omega arith

      earlier : ReadsWithin state.entries maker u
      earlier = record {
        within = omega (arith, below);
        reads = λ k most. reached.history.order u k below most;
        unfinished = λ (w : ℕ) (less : w < u) same. let alike = reached.history.once w u (omega (arith, less, below)) below same in omega arith;
      }

      others : maker ≢ t
      others = is.unfinished u within

      wrong : is_written table id (state.written (suc u)) ≡ true → ⊥
      wrong written =
          found (λ place other. identity_transaction other ≢ t) (seen_by monomials log maker (statement_count maker state.entries) state.committed).written table id
          (each_weaker _ _ (λ (own : Based) r. ⊎_elim (λ by mine. others (sym by ∙ mine))
          (λ held. held-by-all (λ other. identity_transaction other ≢ t) own.pair.identity (state.committed own.base own.pair.table)
          (others-made t versions rise is own.base (subst (λ n. n ≤ versions) (sym r.base) (let most = reached.history.order u r.number below r.within in omega arith)) own.pair.table) held)
          r.read) (seen_by monomials log maker (statement_count maker state.entries) state.committed).written
          (all-read maker u (λ k most. reached.history.later u k below most) earlier))
          (subst (λ (pairs : List Written). is_written table id pairs ≡ true) (reached.history.wrote u below) written) own

  -- ---- a transaction

  module _ (ends : (table : ℕ) → AllByRecursion (λ (span : Span). (version : ℕ) → version ≤ last → holds_at version span ≡ true → span.to ≡ next_written state.written table span.id version (last - version)) (state_spans (forgetting state) table))
      (t : ℕ) (is : IsTransaction t state.entries) where
    abbrev count : ℕ
    count = statement_count t state.entries

    abbrev upto : ℕ
    upto = s.commits_before_end t state.entries

    abbrev held-written : List Based
    held-written = (seen_by monomials log t count state.committed).written

    rise : IsRising state.entries t
    rise = rises state reached plainly sessions once kept tables are t

    bound : (versions : ℕ) × ReadsWithin state.entries t versions
    bound = reads-within monomials state reached.history once t (version_of t state.entries) refl

    -- it made none of the versions before its end
    record Early : Type 0 where
      versions : ℕ
      reads : ReadsWithin state.entries t versions
      most : upto ≤ versions

    early-for : Early
    early-for = by (version_of t state.entries) refl
      where
        by : (version : Option ℕ) → version_of t state.entries ≡ version → Early
        by None none = record {
          versions = last;
          reads = record {
            within = omega arith;
            reads = λ k below. versions_le t k state.entries;
            unfinished = λ u below own. some_none (suc u) (sym (once u below) ∙ ap (λ n. version_of n state.entries) own ∙ none);
          };
          most = at-most t last last state.entries (omega arith) (omega arith);
        }
        by (Some version) made =
            let i = version_is t version state.entries made in
            let same : upto ≡ i.earlier = committed-at t i.earlier last state.entries sessions (made ∙ ap Some i.is) in
            let below = i.within in
            let next = i.is in
            record {
              versions = i.earlier;
              reads = record {
                within = omega arith;
                reads = λ k has. subst (λ n. k ≤ statement_count n state.entries → statement_version n k state.entries ≤ i.earlier) i.made (λ most. reached.history.order i.earlier k i.within most) has;
                unfinished = λ (u : ℕ) (less : u < i.earlier) own.
                    let alike : suc u ≡ version = same_Some (suc u) version (sym (once u (omega arith)) ∙ ap (λ n. version_of n state.entries) own ∙ made) in
                    omega arith;
              };
              most = omega arith;
            }

    -- ---- the commits that wrote its rows

    abbrev dump-writes : Based → ℕ → Bool
    dump-writes own version = dump_wrote dump version own.pair

    abbrev held-writes : Based → ℕ → Bool
    held-writes own version = is_written own.pair.table own.pair.identity (state.written version)

    shown-is-written : (own : Based) (v : ℕ) → dump-writes own v ≡ true → held-writes own v ≡ true
    shown-is-written own v is =
        shown-written state.written own.pair.table own.pair.identity (state_spans (forgetting state) own.pair.table) v
        (spans-written last (forgetting state).committed state.written own.pair.table last)
        (sym (any_same (λ (span : Span). same_identity span.id own.pair.identity && ((span.from == v) || ends_at v span)) (are own.pair.table)) ∙ is)

    held-spans : (own : Based) → own.base ≤ last → holds_identity own.pair.identity (state.committed own.base own.pair.table) ≡ true
        → list_any (λ (span : Span). same_identity span.id own.pair.identity) (spans_at own.base (state_spans (forgetting state) own.pair.table)) ≡ true
    held-spans own within held =
        sym (any-map (λ (row : Annotated (Unit {0})). same_identity row.identity own.pair.identity) (row_of unannotated) (spans_at own.base (state_spans (forgetting state) own.pair.table)))
        ∙ ap (list_any (λ (row : Annotated (Unit {0})). same_identity row.identity own.pair.identity)) (plain_spans_rows log (forgetting state).committed (forgetting state).written plainly.history own.base own.pair.table within)
        ∙ any-map (λ (row : Annotated (Unit {0})). same_identity row.identity own.pair.identity) (reannotated forgotten) (state.committed own.base own.pair.table)
        ∙ held

    most-last : upto ≤ last
    most-last = at-most t last last state.entries (omega arith) (omega arith)

    -- the first write of a row that its base has is shown
    first-is-shown : (own : Based) → own.base ≤ last → holds_identity own.pair.identity (state.committed own.base own.pair.table) ≡ true → (v : ℕ) → IsFirst (held-writes own) own.base upto (Some v) → dump-writes own v ≡ true
    first-is-shown own within held v (low, (high, (passes, rest))) =
        let whole : own.base + (last - own.base) ≡ last = omega arith in
        let next : next_written state.written own.pair.table own.pair.identity own.base (last - own.base) ≡ Some v =
        sym (same-search state.written own.pair.table own.pair.identity own.base (last - own.base))
        ∙ one-first (held-writes own) own.base last (s.first_writer (held-writes own) own.base (last - own.base)) (Some v)
        (subst (λ n. IsFirst (held-writes own) own.base n (s.first_writer (held-writes own) own.base (last - own.base))) whole (searched (held-writes own) own.base (last - own.base)))
        (low, (omega (arith, high, most-last), (passes, rest))) in
        any_same (λ (span : Span). same_identity span.id own.pair.identity && ((span.from == v) || ends_at v span)) (are own.pair.table)
        ∙ next-shown state.written own.pair.table own.pair.identity last own.base v (state_spans (forgetting state) own.pair.table) (ends own.pair.table) within (held-spans own within held) next

    -- no commit before its end wrote a row that it made
    own-first : (own : Based) → identity_transaction own.pair.identity ≡ t → (v : ℕ) → IsFirst (held-writes own) own.base upto (Some v) → dump-writes own v ≡ true
    own-first own mine zero (low, rest) = absurd (omega arith)
    own-first own mine (suc u) (low, (high, (passes, rest))) =
        let early = early-for in
        let none = own-unwritten t early.versions rise early.reads u own.pair.table own.pair.identity (let most = early.most in omega arith) mine in
        let wrong : false ≡ true = sym none ∙ passes in absurd cc

    same-writer : AllByRecursion (λ (own : Based). s.first_writer (dump-writes own) own.base (upto - own.base) ≡ s.first_writer (held-writes own) own.base (upto - own.base)) held-written
    same-writer =
        each_weaker _ _ (λ (own : Based) r.
        first-shown (dump-writes own) (held-writes own) own.base upto (λ v above within shown. shown-is-written own v shown)
        (⊎_elim (λ mine. own-first own mine)
        (λ held. first-is-shown own (subst (λ n. n ≤ last) (sym r.base) (versions_le t r.number state.entries)) held) r.read)) held-written
        (all-read t bound.0 rise bound.1)

    -- ---- the rows that it wrote

    abbrev held-at : ℕ → List Based
    held-at k = (seen_by monomials log t k state.committed).written

    abbrev dump-pairs : ℕ → List Written
    dump-pairs k = wrote_by unannotated t (suc k) (statement_at t (suc k) state.entries) (run_before unannotated log t k (as_of unannotated spans))

    abbrev held-pairs : ℕ → List Written
    held-pairs k = wrote_by monomials t (suc k) (statement_at t (suc k) state.entries) (start_by monomials log t k state.committed)

    pairs-moved : (k : ℕ) → k < count → SameBag (dump-pairs k) (held-pairs k)
    pairs-moved k within = by (statement_at t (suc k) state.entries)
      where
        found-db : Database (Unit {0})
        found-db = run_before unannotated log t k (as_of unannotated spans)

        plain-db : Database (Unit {0})
        plain-db = run_before unannotated log t k (forgetting state).committed

        own-db : Database Monomial
        own-db = run_before monomials log t k state.committed

        by : (own : Option Statement) → SameBag (wrote_by unannotated t (suc k) own found-db) (wrote_by monomials t (suc k) own (start_by monomials log t k state.committed))
        by None = same []
        by (Some statement) =
            through (wrote_same unannotated t (suc k) statement found-db plain-db (started parameters (forgetting state) plainly spans are t is.some is.known rise once k within))
            (same_from _ _
            (wrote_reannotated monomials unannotated forgotten (forgotten_keeps monomials) t (suc k) statement own-db plain-db
            (before_reannotated monomials unannotated forgotten (forgotten_keeps monomials) state.committed (forgetting state).committed (λ version table. refl) log t k)
            ∙ ap (wrote monomials t (suc k) statement) (own-starts monomials state reached.history t bound.0 rise bound.1 k within)))

    alone : (base : ℕ) (list : List Written) → pairs (map (with_base base) list) ≡ list
    alone base [] = refl
    alone base (pair ∷ list) = ap (λ (rest : List Written). pair ∷ rest) (alone base list)

    bags-at : (k : ℕ) → k ≤ count → SameBag (s.firsts (s.dump_written dump t k)) (held-at k)
    bags-at zero within = same []
    bags-at (suc k) within =
        let base = statement_version t (suc k) state.entries in
        let before = s.dump_written dump t k in
        let more = map (with_base base) (dump-pairs k) in
        let rest = bags-at k (omega arith) in
        let moved : SameBag (dump-pairs k) (held-pairs k) = pairs-moved k (omega arith) in
        let distinct : AreDistinct same_written (held-pairs k) =
        wrote-once monomials t (suc k) (statement_at t (suc k) state.entries) (start_by monomials log t k state.committed) (different-before monomials state reached.history t bound.0 rise bound.1 k (omega arith)) in
        let apart : AreApart based_cmp based-total more =
        apart-moved based_cmp based-total (turned (mapped (with_base base) moved)) (distinct-apart (map (with_base base) (held-pairs k)) (subst (AreDistinct same_written) (sym (alone base (held-pairs k))) distinct)) in
        let new : (pair : Written) → o.is-new based_cmp based-total before (with_base base pair) ≡ is_new (held-at k) pair =
        λ pair. ap not (sym (o.among-once based_cmp based-total before (with_base base pair)) ∙ ap (λ (list : List Based). o.is-among based_cmp based-total list (with_base base pair)) (firsts-once before)
        ∙ any_same (λ (own : Based). is_eq (based_cmp own (with_base base pair))) rest ∙ among-pairs (held-at k) (with_base base pair)) in
        through
        (same_from (s.firsts (before ++ more)) (s.firsts before ++ map (with_base base) (filter (is_new (held-at k)) (dump-pairs k)))
        (sym (firsts-once (before ++ more)) ∙ o.once-append based_cmp based-total before more
        ∙ (λ i. firsts-once before i ++ filter (o.is-new based_cmp based-total before) (once-apart based_cmp based-total more apart i))
        ∙ ap (λ (list : List Based). s.firsts before ++ list) (filter-map (o.is-new based_cmp based-total before) (with_base base) (dump-pairs k)
        ∙ ap (map (with_base base)) (filter_agree (λ pair. o.is-new based_cmp based-total before (with_base base pair)) (is_new (held-at k)) new (dump-pairs k)))))
        (joined rest (mapped (with_base base) (filtered (is_new (held-at k)) moved)))

    held-apart : AreApart based_cmp based-total held-written
    held-apart = distinct-apart held-written (own-once monomials state reached.history t bound.0 rise bound.1 count (omega arith))

    sorted-same : sorted_by based_cmp (s.firsts (s.dump_written dump t count)) ≡ sorted_by based_cmp held-written
    sorted-same =
        sym (ap (sorted_by based_cmp) (sym (append-nil held-written)) ∙ sorted-moved based_cmp based-total (turned (bags-at count (omega arith))) held-apart [] ∙ ap (sorted_by based_cmp) (append-nil (s.firsts (s.dump_written dump t count))))

    -- ---- lines

    lines-same : (all : List Based) → AllByRecursion (λ (own : Based). s.first_writer (dump-writes own) own.base (upto - own.base) ≡ s.first_writer (held-writes own) own.base (upto - own.base)) all
        → flat_map (s.conflict_lines state.entries state.catalogue (dump_wrote dump) upto) all
        ≡ flat_map (s.conflict_lines state.entries state.catalogue (λ version pair. is_written pair.table pair.identity (state.written version)) upto) all
    lines-same [] alike = refl
    lines-same (own ∷ all) alike = λ i.
        option_map_or (λ version. s.conflict_text (name_at own.pair.table state.catalogue) own.pair.identity own.base (committer_of version state.entries) version ∷ []) (alike.0 i) []
        ++ lines-same all alike.1 i

    conflicts-same : s.dump_conflicts dump t ≡ s.history_conflicts state t
    conflicts-same =
        ap (λ (stop : Option RunStop). unless_refused (option_map stop_refusal stop) (s.conflicts_of state.entries (tables_in state.entries) (dump_wrote dump) t (s.firsts (s.dump_written dump t count))))
        (passes-none parameters (forgetting state) plainly spans are t is.some is.known rise count (omega arith))
        ∙ ap (λ (catalogue : List Table). s.conflicts_of state.entries catalogue (dump_wrote dump) t (s.firsts (s.dump_written dump t count))) kept
        ∙ ap (Lines Conflicts)
        (ap (flat_map (s.conflict_lines state.entries state.catalogue (dump_wrote dump) upto)) sorted-same
        ∙ lines-same (sorted_by based_cmp held-written) (all-sorted based_cmp (λ (own : Based). s.first_writer (dump-writes own) own.base (upto - own.base) ≡ s.first_writer (held-writes own) own.base (upto - own.base)) held-written same-writer))

  -- CONFLICTS of a number
  pub meets : ((table : ℕ) → AllByRecursion (λ (span : Span). (version : ℕ) → version ≤ last → holds_at version span ≡ true → span.to ≡ next_written state.written table span.id version (last - version)) (state_spans (forgetting state) table))
      → (t : ℕ) → unless_refused (unknown_refusal t state.entries) (s.dump_conflicts dump t) ≡ unless_refused (unknown_refusal t state.entries) (s.history_conflicts state t)
  meets ends t = elim (is_known t state.entries) as (λ b. is_known t state.entries ≡ b
      → unless_refused (cond b None (Some (E20 t))) (s.dump_conflicts dump t) ≡ unless_refused (cond b None (Some (E20 t))) (s.history_conflicts state t)) [
        | true ↦ λ is. conflicts-same ends t (is-known t state.entries is)
        | false ↦ λ is. refl
      ] refl
