-- The history of rows is told of a history by its dump as the machine held it.
use Rattle.std.proofs.Common.{◌≡◌, ℕ, zero, suc, ◌-◌, ◌<◌, ◌≤◌, Bool, true, false, cond, List, [], ◌∷◌, ◌++◌, length, map, Option, None, Some, Result, Ok, Err, refl, sym, ap, ◌∙◌, arith}
use Rattle.std.specs.Prelude.{◌&&◌, ◌||◌, ◌==◌, filter, nat_lt}
use Rattle.std.specs.Cmp.{IsTotalOrder}
use Rattle.std.specs.List.{AllByRecursion, list_any}
use Rattle.std.specs.Option.{option_map, option_map_or, option_or}
use Rattle.std.specs.Ordering.{is_eq}
use Rattle.std.specs.declared.cmp.Ordering.{Ordering}
use Rattle.std.proofs.lemmas.Bool.{or_parts}
use Rattle.std.proofs.lemmas.Cmp.{on_total}
use Rattle.std.proofs.lemmas.List.{append-nil}
use Rattle.gp_base.proofs.Bags.{SameBag, any_same, filtered, mapped, same_from, through, turned}
use Rattle.gp_base.proofs.IdentityLaws.{same_identity-is}
use Rattle.gp_base.proofs.SmallLemmas.{map-map}
use Rattle.gp_base.specs.declared.refusal.Refusal.{Refusal}
use Rattle.gp_base.specs.declared.refusal.Refusal.TheVariants.{E04, E27}
use Rattle.gp_base.specs.Annotated.{Annotated, Annotations, Database, monomials, unannotated}
use Rattle.gp_algebra.specs.Reannotation.{forgotten, reannotated}
use Rattle.gp_base.specs.Identities.{Identity, identity_cmp, same_identity}
use Rattle.gp_base.specs.IdentityOrder.{identity_cmp_total}
use Rattle.gp_base.specs.Order.{sorted_by}
use Rattle.gp_base.specs.Tokens.{Monomial}
use Rattle.gp_base.specs.Catalogs.{place_of}
use Rattle.gp_base.specs.declared.table.Table.{Table}
use Rattle.gp_algebra.specs.Statements.{Select, Statement, target}
use Rattle.gp_compose.specs.Seen.{changed_rows}
use Rattle.gp_check.specs.Checking.{checked_query}
use Rattle.gp_dump.specs.Dumps.{Dump, dump_of}
use Rattle.gp_grammar.specs.Syntax as y
use Rattle.gp_log.proofs.KeptSessions.{orderly}
use Rattle.gp_log.specs.LogFacts.{tables_in}
use Rattle.gp_log.specs.Parameters.{parameters}
use Rattle.gp_log.specs.Sessions.{KeepsSessions}
use Rattle.gp_machine.specs.Entries.{committer_of, log_of, statement_at, statement_count, versions_in}
use Rattle.gp_machine.specs.HistorySpans.{as_of, state_spans}
use Rattle.gp_machine.specs.Questions.{stop_refusal}
use Rattle.gp_machine.specs.Reached.{IsReached}
use Rattle.gp_machine.specs.ReadBy.{start_by}
use Rattle.gp_machine.specs.Runs.{run_before}
use Rattle.gp_machine.specs.SeenRows.{HaveDifferentIdentities, same_row}
use Rattle.gp_machine.specs.State.{State}
use Rattle.gp_versions.specs.declared.span.Span.{Span}
use Rattle.gp_ask.specs.declared.answered.Answered.{Answered}
use Rattle.gp_ask.specs.declared.answered.Answered.TheVariants.{Lines, Refused}
use Rattle.gp_ask.specs.declared.answered.Heading.TheVariants.{History}
use Rattle.gp_ask.specs.Asking.{table_spans}
use Rattle.gp_ask.specs.ChangeForms.{after_of, before_of, held_starts, run_starts}
use Rattle.gp_ask.specs.Changes.{Change, changed_by}
use Rattle.gp_ask.specs.HistoryForms as f
use Rattle.gp_ask.specs.HistoryForms.{stop_upto}
use Rattle.gp_ask.specs.Printed.{answer_to, held_to}
use Rattle.gp_ask.specs.RowHistories as s
use Rattle.gp_ask.specs.Values.{or_refused, unless_refused}
use Rattle.gp_ask.proofs.ChangedLines.{turned-rows}
use Rattle.gp_ask.proofs.HeldLemmas.{forgetting}
use Rattle.gp_ask.proofs.HistoryLines.{Told}
use Rattle.gp_ask.proofs.SeenLemmas.{IsTransaction, different-rows, moved-rows, rises}
use Rattle.gp_ask.proofs.StableLemmas.{AreAlike, AreApart, alike-append, sorted-length, sorted-moved}
use Rattle.gp_ask.proofs.StatementLines.{changed-is, shown}
use Rattle.gp_ask.proofs.TransactionRuns.{MakesOnce, passes-none}

-- ---- lines that are the same once sorted

abbrev by-identity : Told → Told → Ordering
by-identity line other = identity_cmp line.0 other.0

told-total : IsTotalOrder by-identity
told-total = on_total (λ (line : Told). line.0) identity_cmp_total

-- a row that a statement changed, with its sides
abbrev shown-by : {M : Type 0} → Statement → Annotated M → Change
shown-by statement row = (row.identity, (before_of statement row.cells, after_of statement row.cells))

module _ (version t k : ℕ) (is_asked : Identity → Bool) where
  abbrev told-of : List Change → List Told
  told-of changes = map (λ (change : Change). (change.0, s.history_text version t k change)) (filter (λ (change : Change). is_asked change.0) changes)

  told-moved : {changes others : List Change} → SameBag changes others → SameBag (told-of changes) (told-of others)
  told-moved moved = mapped (λ (change : Change). (change.0, s.history_text version t k change)) (filtered (λ (change : Change). is_asked change.0) moved)

  -- changes of different rows are told apart
  told-apart : (statement : Statement) (rows : List (Annotated Monomial)) → HaveDifferentIdentities rows → AreApart by-identity told-total (told-of (map (shown-by statement) rows))
  told-apart statement [] different = tt
  told-apart statement (row ∷ rows) different =
      elim (is_asked row.identity) as (λ b. AreApart by-identity told-total (map (λ (change : Change). (change.0, s.history_text version t k change))
      (cond b (shown-by statement row ∷ filter (λ (change : Change). is_asked change.0) (map (shown-by statement) rows)) (filter (λ (change : Change). is_asked change.0) (map (shown-by statement) rows))))) [
        | true ↦ (each rows different.0, told-apart statement rows different.1)
        | false ↦ told-apart statement rows different.1
      ]
    where
      differs : (other : Annotated Monomial) → same_row other row ≡ false → is_eq (identity_cmp row.identity other.identity) ≡ false
      differs other apart = sym (same_identity-is row.identity other.identity) ∙ turned-rows row other ∙ apart

      each : (others : List (Annotated Monomial)) → list_any (λ other. same_row other row) others ≡ false
          → AllByRecursion (λ (line : Told). is_eq (identity_cmp row.identity line.0) ≡ false) (told-of (map (shown-by statement) others))
      each [] apart = tt
      each (other ∷ others) apart =
          let parts = or_parts (same_row other row) (list_any (λ another. same_row another row) others) apart in
          elim (is_asked other.identity) as (λ b. AllByRecursion (λ (line : Told). is_eq (identity_cmp row.identity line.0) ≡ false) (map (λ (change : Change). (change.0, s.history_text version t k change))
          (cond b (shown-by statement other ∷ filter (λ (change : Change). is_asked change.0) (map (shown-by statement) others)) (filter (λ (change : Change). is_asked change.0) (map (shown-by statement) others))))) [
            | true ↦ (differs other parts.0, each others parts.1)
            | false ↦ each others parts.1
          ]

-- ---- the dump of a history

module _ (state : State Monomial) (reached : IsReached monomials parameters state) (plainly : IsReached unannotated parameters (forgetting state)) (sessions : KeepsSessions state.entries)
    (once : MakesOnce state.entries) (kept : tables_in state.entries ≡ state.catalogue) (tables : List (List Span))
    (are : (table : ℕ) → SameBag (table_spans tables table) (state_spans (forgetting state) table))
    (own : (table : ℕ) → SameBag (table_spans (dump_of state).tables table) (state_spans (forgetting state) table)) where
  abbrev dump : Dump
  dump = record { entries = state.entries; tables = tables }

  abbrev last : ℕ
  last = versions_in state.entries

  abbrev spans : ℕ → List Span
  spans = table_spans tables

  known : (u : ℕ) → u < last → IsTransaction (committer_of (suc u) state.entries) state.entries
  known u within = let maker = (orderly state.entries sessions).makers u within in record { some = omega (arith, maker.0); known = maker.1 }

  -- no transaction stops
  none-stops : (n : ℕ) → n ≤ last → stop_upto dump n ≡ None
  none-stops zero within = refl
  none-stops (suc u) within =
      let t = committer_of (suc u) state.entries in
      let is = known u (omega arith) in
      let unstopped = passes-none parameters (forgetting state) plainly spans are t is.some is.known (rises state reached plainly sessions once kept tables are t) (statement_count t state.entries) (omega arith) in
      (λ i. option_or (none-stops u (omega arith) i) (option_map stop_refusal (unstopped i)))

  -- as the history held it: what a statement changed of what its transaction read by the rule of the history machine, of the rows of its own row versions
  abbrev held-changed : ℕ → ℕ → ℕ → List Change
  held-changed = s.changed_in monomials state.entries (dump_of state).tables (held_starts state)

  abbrev held-asked : ℕ → Select → Identity → Bool
  held-asked place select = s.asked_in (table_spans (dump_of state).tables place) select

  abbrev held-history : ℕ → Select → Answered
  held-history = s.row_history monomials state.entries (dump_of state).tables (held_starts state)

  module _ (place : ℕ) (select : Select) where
    -- which rows are asked for
    asked-same : (id : Identity) → f.dump_asked dump place select id ≡ held-asked place select id
    asked-same id =
        any_same (λ (span : Span). same_identity span.id id && s.meets select span.row) (are place)
        ∙ sym (any_same (λ (span : Span). same_identity span.id id && s.meets select span.row) (own place))

    -- ---- a statement

    module _ (t k : ℕ) (is : IsTransaction t state.entries) (within : k < statement_count t state.entries) where
      abbrev before : Database Monomial
      before = start_by monomials (log_of state.entries) t k state.committed

      abbrev found-db : Database (Unit {0})
      found-db = run_before unannotated (log_of state.entries) t k (as_of unannotated spans)

      -- by the statement and the table that it writes
      module _ (statement : Statement) (here : statement_at t (suc k) state.entries ≡ Some statement) where
        abbrev rows : List (Annotated Monomial)
        rows = changed_rows monomials t (suc k) statement before

        abbrev found : List (Annotated (Unit {0}))
        found = changed_rows unannotated t (suc k) statement found-db

        moved : SameBag (map (shown statement) found) (map (shown-by statement) rows)
        moved =
            through (mapped (shown statement) (moved-rows state reached plainly sessions once kept tables are t k is within statement here))
            (same_from _ _ (map-map (shown statement) (reannotated forgotten) rows))

        -- what is told of a statement, if it writes the table
        writes-told : (version : ℕ) (is_asked : Identity → Bool) (b : Bool)
            → AreAlike by-identity told-total
            (told-of version t (suc k) is_asked (cond b (changed_by unannotated t (suc k) statement found-db) []))
            (told-of version t (suc k) is_asked (cond b (changed_by monomials t (suc k) statement before) []))
        writes-told version is_asked true = λ zs.
            ap (λ (changes : List Change). sorted_by by-identity (told-of version t (suc k) is_asked changes ++ zs)) (changed-is unannotated t (suc k) statement found-db)
            ∙ sym (sorted-moved by-identity told-total (turned (told-moved version t (suc k) is_asked moved))
            (told-apart version t (suc k) is_asked statement rows (different-rows state reached plainly sessions once kept tables are t k is within statement here)) zs)
            ∙ ap (λ (changes : List Change). sorted_by by-identity (told-of version t (suc k) is_asked changes ++ zs)) (sym (changed-is monomials t (suc k) statement before))
        writes-told version is_asked false = λ zs. refl

      back : suc k - 1 ≡ k
      back = omega arith

      -- a statement of a transaction
      statement-alike : (version : ℕ) (is_asked : Identity → Bool)
          → AreAlike by-identity told-total (told-of version t (suc k) is_asked (f.dump_changed dump place t (suc k))) (told-of version t (suc k) is_asked (held-changed place t (suc k)))
      statement-alike version is_asked = λ zs.
          ap (λ n. sorted_by by-identity (told-of version t (suc k) is_asked (by-start unannotated (run_starts dump t n) (statement_at t (suc k) state.entries)) ++ zs)) back
          ∙ go (statement_at t (suc k) state.entries) refl zs
          ∙ ap (λ n. sorted_by by-identity (told-of version t (suc k) is_asked (by-start monomials (held_starts state t n) (statement_at t (suc k) state.entries)) ++ zs)) (sym back)
        where
          by-start : {M : Type 0} → Annotations M → Database M → Option Statement → List Change
          by-start domain db own =
              option_map_or (λ (statement : Statement). cond (option_map_or (λ (other : ℕ). other == place) (target statement) false) (changed_by domain t (suc k) statement db) []) own []

          go : (own : Option Statement) → statement_at t (suc k) state.entries ≡ own
              → AreAlike by-identity told-total (told-of version t (suc k) is_asked (by-start unannotated (run_starts dump t k) own)) (told-of version t (suc k) is_asked (by-start monomials (held_starts state t k) own))
          go None here = λ zs. refl
          go (Some statement) here = writes-told statement here version is_asked (option_map_or (λ (other : ℕ). other == place) (target statement) false)

    -- ---- all statements

    module _ (is_asked : Identity → Bool) where
      abbrev dump-lines : ℕ → ℕ → List Told
      dump-lines = s.statement_lines state.entries is_asked (f.dump_changed dump place)

      abbrev held-lines : ℕ → ℕ → List Told
      held-lines = s.statement_lines state.entries is_asked (held-changed place)

      statements-alike : (u : ℕ) → u < last → (k : ℕ) → k ≤ statement_count (committer_of (suc u) state.entries) state.entries
          → AreAlike by-identity told-total (dump-lines (suc u) k) (held-lines (suc u) k)
      statements-alike u within zero below = λ zs. refl
      statements-alike u within (suc k) below =
          let t = committer_of (suc u) state.entries in
          alike-append by-identity told-total (dump-lines (suc u) k) (held-lines (suc u) k)
          (told-of (suc u) t (suc k) is_asked (f.dump_changed dump place t (suc k))) (told-of (suc u) t (suc k) is_asked (held-changed place t (suc k)))
          (statements-alike u within k (omega arith)) (statement-alike t k (known u within) (omega arith) (suc u) is_asked)

      versions-alike : (n : ℕ) → n ≤ last
          → AreAlike by-identity told-total (s.version_lines state.entries is_asked (f.dump_changed dump place) n) (s.version_lines state.entries is_asked (held-changed place) n)
      versions-alike zero within = λ zs. refl
      versions-alike (suc u) within =
          let count = statement_count (committer_of (suc u) state.entries) state.entries in
          alike-append by-identity told-total (s.version_lines state.entries is_asked (f.dump_changed dump place) u) (s.version_lines state.entries is_asked (held-changed place) u)
          (dump-lines (suc u) count) (held-lines (suc u) count) (versions-alike u (omega arith)) (statements-alike u (omega arith) count (omega arith))

      answers-alike : s.history_of state.entries is_asked (f.dump_changed dump place) ≡ s.history_of state.entries is_asked (held-changed place)
      answers-alike =
          let own = s.version_lines state.entries is_asked (f.dump_changed dump place) last in
          let other = s.version_lines state.entries is_asked (held-changed place) last in
          let sorted : sorted_by by-identity own ≡ sorted_by by-identity other =
          ap (sorted_by by-identity) (sym (append-nil own)) ∙ versions-alike last (omega arith) [] ∙ ap (sorted_by by-identity) (append-nil other) in
          let counted : length own ≡ length other = sym (sorted-length by-identity told-total own) ∙ ap length sorted ∙ sorted-length by-identity told-total other in
          (λ i. cond (nat_lt parameters.answer (counted i)) (Refused E27) (Lines History (map (λ (line : Told). line.1) (sorted i))))

    history-same : f.dump_history dump place select ≡ held-history place select
    history-same =
        (λ i. unless_refused (none-stops last (omega arith) i) (s.history_of state.entries (λ id. asked-same id i) (f.dump_changed dump place)))
        ∙ answers-alike (held-asked place select)

  -- HISTORY of a table and a condition
  pub lives : (name : y.Bytes) (cond : Option y.Term) → answer_to dump (y.history name cond) ≡ held_to state (y.history name cond)
  lives name cond =
      ap (λ (catalogue : List Table). or_refused (λ (select : Select). option_map_or (λ (place : ℕ). f.dump_history dump place select) (place_of name catalogue) (Refused (E04 name))) (checked_query catalogue (s.all_of name cond))) kept
      ∙ by (checked_query state.catalogue (s.all_of name cond)) (place_of name state.catalogue)
    where
      by : (checked : Result Select Refusal) (found : Option ℕ)
          → or_refused (λ (select : Select). option_map_or (λ (place : ℕ). f.dump_history dump place select) found (Refused (E04 name))) checked
          ≡ or_refused (λ (select : Select). option_map_or (λ (place : ℕ). held-history place select) found (Refused (E04 name))) checked
      by (Err refusal) place = refl
      by (Ok select) None = refl
      by (Ok select) (Some place) = history-same place select
