-- Without a statement of the transaction that made a version, the log makes the versions before it as it did.
use Rattle.gp_whatif.proofs.Prelude.{◌≡◌, ◌≢◌, ℕ, zero, suc, ◌+◌, ◌<◌, ◌≤◌, Bool, true, false, cond, List, [], ◌∷◌, map, length, Option, Some, refl, sym, ap, ◌∙◌, subst, arith, ◌==◌, ◌&&◌, nat_lt, Ok, option_or, and_parts, eqb-true, false≢true, ne_eqb, same_Some, Environment, unannotated, Table, Command, Statement, Versions, with_bases, least_conflict, Entry, Created, Began, Ran, Committed, Ended, Log, committer_of, log_of, statement_at, statement_count, statement_version, versions_in, published_rows, run_stop, statement_stop, statement_refusal, transaction_refusal, Seen, wrote_by, Replay, first_stop, replay_stop, replayed, rerun, version_stop, replayed_spans, refreshed, run, run_before, stepped, parameters, tables_in, KeepsSessions}
use Rattle.std.proofs.Common.{unwrap_or}
use Rattle.std.specs.Option.{option_map_or}
use Rattle.gp_grammar.specs.Syntax as y
use Rattle.gp_machine.proofs.HeldPoints.{version_is}
use Rattle.gp_machine.specs.Entries.{begin_version, is_begin, is_commit, is_of, is_read_committed, is_statement, level_of, statement_of, transaction_of, version_of}
use Rattle.gp_machine.specs.HistorySpans.{spans_of}
use Rattle.gp_machine.specs.Replaying.{remade, run_written}
use Rattle.gp_log.proofs.KeptSessions.{maker_version}
use Rattle.gp_whatif.specs.Changed.{changed_log, dropped_command, dropped_statement, is_at, spread, with_other}
use Rattle.gp_whatif.specs.Replays.{IsMade, stop_upto}
use Rattle.gp_whatif.proofs.ReplayableLemmas.{changes_tables, one_change, put}

-- ---- two logs that differ in statements of one transaction alone

pub record SameEntry (t : ℕ) (old new : Entry) : Type 0 where
  pub begin : is_begin new ≡ is_begin old
  pub statement : is_statement new ≡ is_statement old
  pub commit : is_commit new ≡ is_commit old
  pub transaction : transaction_of new ≡ transaction_of old
  pub level : level_of new ≡ level_of old
  pub own : is_of t old ≡ false → statement_of new ≡ statement_of old

pub record SameLog (t : ℕ) (old new : List Entry) : Type 0 where
  pub versions : versions_in new ≡ versions_in old
  pub count : (u : ℕ) → statement_count u new ≡ statement_count u old
  pub begins : (u : ℕ) → begin_version u new ≡ begin_version u old
  pub levels : (u : ℕ) → is_read_committed u new ≡ is_read_committed u old
  pub version : (u k : ℕ) → statement_version u k new ≡ statement_version u k old
  pub committer : (v : ℕ) → committer_of v new ≡ committer_of v old
  pub statement : (u k : ℕ) → u ≢ t → statement_at u k new ≡ statement_at u k old

of_other : (t u : ℕ) (entry : Entry) → u ≢ t → is_of u entry ≡ true → is_of t entry ≡ false
of_other t u (Created line session table) other is = refl
of_other t u (Began line session w level) other is = ne_eqb w t (λ e. other (sym (eqb-true w u is) ∙ e))
of_other t u (Ran line session command w statement) other is = ne_eqb w t (λ e. other (sym (eqb-true w u is) ∙ e))
of_other t u (Committed line session w) other is = ne_eqb w t (λ e. other (sym (eqb-true w u is) ∙ e))
of_other t u (Ended line session end w) other is = ne_eqb w t (λ e. other (sym (eqb-true w u is) ∙ e))

module _ (t : ℕ) (entry now : Entry) (same : SameEntry t entry now) (old new : List Entry) (before : SameLog t old new) where
  of_same : (u : ℕ) → is_of u now ≡ is_of u entry
  of_same u = ap (λ (o : Option ℕ). option_map_or (λ w. w == u) o false) same.transaction

  version_front : (u k : ℕ) → statement_version u k (now ∷ new) ≡ statement_version u k (entry ∷ old)
  version_front u zero = λ i. cond (same.begin i && of_same u i) (before.versions i) (before.begins u i)
  version_front u (suc k) = λ i.
      cond (same.statement i && of_same u i && (suc (before.count u i) == suc k)) (cond (before.levels u i) (before.versions i) (before.begins u i)) (before.version u (suc k) i)

  statement_front : (u k : ℕ) → u ≢ t → statement_at u k (now ∷ new) ≡ statement_at u k (entry ∷ old)
  statement_front u k other =
      (λ i. cond (same.statement i && of_same u i && (suc (before.count u i) == k)) (statement_of now) (before.statement u k other i))
      ∙ by (is_statement entry && is_of u entry && (suc (statement_count u old) == k)) refl
    where
      by : (b : Bool) → (is_statement entry && is_of u entry && (suc (statement_count u old) == k)) ≡ b
          → cond b (statement_of now) (statement_at u k old) ≡ cond b (statement_of entry) (statement_at u k old)
      by false is = refl
      by true is =
          let parts = and_parts (is_statement entry && is_of u entry) (suc (statement_count u old) == k) is in
          same.own (of_other t u entry other (and_parts (is_statement entry) (is_of u entry) parts.0).1)

  pub front_same : SameLog t (entry ∷ old) (now ∷ new)
  front_same = record {
    versions = λ i. cond (same.commit i) (suc (before.versions i)) (before.versions i);
    count = λ u i. cond (same.statement i && of_same u i) (suc (before.count u i)) (before.count u i);
    begins = λ u i. cond (same.begin i && of_same u i) (before.versions i) (before.begins u i);
    levels = λ u i. cond (same.begin i && of_same u i) (same.level i) (before.levels u i);
    version = version_front;
    committer = λ v i. cond (same.commit i && (suc (before.versions i) == v)) (unwrap_or (same.transaction i) zero) (before.committer v i);
    statement = statement_front;
  }

none_same : (t : ℕ) → SameLog t [] []
none_same t = record {
  versions = refl;
  count = λ u. refl;
  begins = λ u. refl;
  levels = λ u. refl;
  version = λ u k. refl;
  committer = λ v. refl;
  statement = λ u k other. refl;
}

module _ (t : ℕ) where
  abbrev Same : Entry → Entry → Type 0
  Same old new = SameEntry t old new

  itself : (entry : Entry) → Same entry entry
  itself (Created line session table) = record { begin = refl; statement = refl; commit = refl; transaction = refl; level = refl; own = λ other. refl }
  itself (Began line session u level) = record { begin = refl; statement = refl; commit = refl; transaction = refl; level = refl; own = λ other. refl }
  itself (Ran line session command u statement) = record { begin = refl; statement = refl; commit = refl; transaction = refl; level = refl; own = λ other. refl }
  itself (Committed line session u) = record { begin = refl; statement = refl; commit = refl; transaction = refl; level = refl; own = λ other. refl }
  itself (Ended line session end u) = record { begin = refl; statement = refl; commit = refl; transaction = refl; level = refl; own = λ other. refl }

  spread_entry : (times : ℕ) (entry : Entry) → Same entry (spread times entry)
  spread_entry times (Created line session table) = record { begin = refl; statement = refl; commit = refl; transaction = refl; level = refl; own = λ other. refl }
  spread_entry times (Began line session u level) = record { begin = refl; statement = refl; commit = refl; transaction = refl; level = refl; own = λ other. refl }
  spread_entry times (Ran line session command u statement) = record { begin = refl; statement = refl; commit = refl; transaction = refl; level = refl; own = λ other. refl }
  spread_entry times (Committed line session u) = record { begin = refl; statement = refl; commit = refl; transaction = refl; level = refl; own = λ other. refl }
  spread_entry times (Ended line session end u) = record { begin = refl; statement = refl; commit = refl; transaction = refl; level = refl; own = λ other. refl }

  spread_log : (times : ℕ) (entries : List Entry) → SameLog t entries (map (spread times) entries)
  spread_log times [] = none_same t
  spread_log times (entry ∷ older) = front_same t entry (spread times entry) (spread_entry times entry) older (map (spread times) older) (spread_log times older)

  same_logs : (entries : List Entry) → SameLog t entries entries
  same_logs [] = none_same t
  same_logs (entry ∷ older) = front_same t entry entry (itself entry) older older (same_logs older)

  module _ (k : ℕ) (command : Command → Command) (statement : Statement → Statement) where
    abbrev others : List Entry → List Entry
    others entries = with_other t k command statement entries

    pub other_log : (entries : List Entry) → SameLog t entries (others entries)
    other_log [] = none_same t
    other_log (Created line session table ∷ older) = front_same t (Created line session table) (Created line session table) (itself (Created line session table)) older (others older) (other_log older)
    other_log (Began line session u level ∷ older) = front_same t (Began line session u level) (Began line session u level) (itself (Began line session u level)) older (others older) (other_log older)
    other_log (Committed line session u ∷ older) = front_same t (Committed line session u) (Committed line session u) (itself (Committed line session u)) older (others older) (other_log older)
    other_log (Ended line session end u ∷ older) = front_same t (Ended line session end u) (Ended line session end u) (itself (Ended line session end u)) older (others older) (other_log older)
    other_log (Ran line session own u now ∷ older) = by (is_at t k u older) refl (other_log older)
      where
        by : (b : Bool) → is_at t k u older ≡ b → SameLog t older (others older)
            → SameLog t (Ran line session own u now ∷ older)
            (cond b (Ran line session (command own) u (statement now) ∷ older) (Ran line session own u now ∷ others older))
        by true is rest =
            front_same t (Ran line session own u now) (Ran line session (command own) u (statement now))
            (record {
              begin = refl;
              statement = refl;
              commit = refl;
              transaction = refl;
              level = refl;
              own = λ other. absurd (false≢true (sym other ∙ (and_parts (u == t) (suc (statement_count t older) == k) is).0));
            })
            older older (same_logs older)
        by false is rest = front_same t (Ran line session own u now) (Ran line session own u now) (itself (Ran line session own u now)) older (others older) rest

  both_logs : (a b c : List Entry) → SameLog t a b → SameLog t b c → SameLog t a c
  both_logs a b c one two = record {
    versions = two.versions ∙ one.versions;
    count = λ u. two.count u ∙ one.count u;
    begins = λ u. two.begins u ∙ one.begins u;
    levels = λ u. two.levels u ∙ one.levels u;
    version = λ u k. two.version u k ∙ one.version u k;
    committer = λ v. two.committer v ∙ one.committer v;
    statement = λ u k other. two.statement u k other ∙ one.statement u k other;
  }

-- ---- they make the same versions, before the one of that transaction

-- two logs say the same of a transaction
record SameRun (log other : Log) (t : ℕ) : Type 0 where
  version : (k : ℕ) → other.version t k ≡ log.version t k
  count : other.statement_count t ≡ log.statement_count t
  statement : (k : ℕ) → other.statement t k ≡ log.statement t k

module _ (log other : Log) (tables : ℕ) where
  module _ (t : ℕ) (same : SameRun log other t) (versions : Environment (Unit {0})) where
    run_same : (k : ℕ) → run unannotated other t k versions ≡ run unannotated log t k versions
    run_same zero = ap versions (same.version zero)
    run_same (suc k) = λ i. stepped unannotated t (suc k) (same.statement (suc k) i) (refreshed (same.version k i) (same.version (suc k) i) versions (run_same k i))

    before_same : (k : ℕ) → run_before unannotated other t k versions ≡ run_before unannotated log t k versions
    before_same k = λ i. refreshed (same.version k i) (same.version (suc k) i) versions (run_same k i)

    written_same : (k : ℕ) → run_written unannotated other t k versions ≡ run_written unannotated log t k versions
    written_same zero = refl
    written_same (suc k) = λ i. with_bases (same.version (suc k) i) (written_same k i) (wrote_by unannotated t (suc k) (same.statement (suc k) i) (before_same k i))

    stop_same : (k : ℕ) → run_stop unannotated parameters other t k versions ≡ run_stop unannotated parameters log t k versions
    stop_same zero = refl
    stop_same (suc k) = λ i. option_or (stop_same k i) (statement_stop unannotated parameters t (suc k) (same.statement (suc k) i) (before_same k i))

    abbrev seen_of : Log → ℕ → Seen (Unit {0})
    seen_of own n = record { view = run unannotated own t n versions; written = run_written unannotated own t n versions }

    both_same : (n : ℕ) → seen_of other n ≡ seen_of log n
    both_same n = λ i. record { view = run_same n i; written = written_same n i }

    rerun_same : rerun unannotated other t versions ≡ rerun unannotated log t versions
    rerun_same = ap (seen_of other) same.count ∙ both_same (log.statement_count t)

    last_same : run_stop unannotated parameters other t (other.statement_count t) versions ≡ run_stop unannotated parameters log t (log.statement_count t) versions
    last_same = ap (λ n. run_stop unannotated parameters other t n versions) same.count ∙ stop_same (log.statement_count t)

  abbrev SameMakers : ℕ → Type 0
  SameMakers u = (v : ℕ) → v < u → (other.committer (suc v) ≡ log.committer (suc v)) × SameRun log other (log.committer (suc v))

  -- given the versions before
  module _ (u : ℕ) (is : other.committer (suc u) ≡ log.committer (suc u)) (same : SameRun log other (log.committer (suc u))) (before : replayed unannotated other tables u ≡ replayed unannotated log tables u) where
    abbrev t : ℕ
    t = log.committer (suc u)

    seen_same : rerun unannotated other (other.committer (suc u)) (replayed unannotated other tables u).committed ≡ rerun unannotated log t (replayed unannotated log tables u).committed
    seen_same = (λ i. rerun unannotated other (is i) (before i).committed) ∙ rerun_same t same (replayed unannotated log tables u).committed

    next_same : replayed unannotated other tables (suc u) ≡ replayed unannotated log tables (suc u)
    next_same = λ i. remade tables u (seen_same i) (before i)

    run_stop_same : run_stop unannotated parameters other (other.committer (suc u)) (other.statement_count (other.committer (suc u))) (replayed unannotated other tables u).committed
        ≡ run_stop unannotated parameters log t (log.statement_count t) (replayed unannotated log tables u).committed
    run_stop_same = (λ i. run_stop unannotated parameters other (is i) (other.statement_count (is i)) (before i).committed) ∙ last_same t same (replayed unannotated log tables u).committed

    version_stop_same : version_stop unannotated other parameters tables u ≡ version_stop unannotated log parameters tables u
    version_stop_same = λ i.
        first_stop (suc u) (run_stop_same i) (least_conflict (before i).written u (seen_same i).written) (nat_lt parameters.published ((before i).rows + published_rows (seen_same i) tables))

  replayed_same : (u : ℕ) → SameMakers u → replayed unannotated other tables u ≡ replayed unannotated log tables u
  replayed_same zero makers = refl
  replayed_same (suc u) makers = let maker = makers u (omega arith) in next_same u maker.0 maker.1 (replayed_same u (λ v l. makers v (omega arith)))

  replay_stop_same : (u : ℕ) → SameMakers u → replay_stop unannotated other parameters tables u ≡ replay_stop unannotated log parameters tables u
  replay_stop_same zero makers = refl
  replay_stop_same (suc u) makers =
      let maker = makers u (omega arith) in
      λ i. option_or (replay_stop_same u (λ v l. makers v (omega arith)) i) (version_stop_same u maker.0 maker.1 (replayed_same u (λ v l. makers v (omega arith))) i)

-- ---- a statement that is dropped

module _ (entries new : List Entry) (keeps : KeepsSessions entries) (t k version : ℕ) (made : version_of t entries ≡ Some version) (change : changed_log parameters entries (y.drop t k ∷ []) ≡ Ok new) where
  abbrev once : List Entry
  once = map (spread 1) entries

  same_log : SameLog t entries new
  same_log =
      both_logs t entries once new (spread_log t 1 entries)
      (put parameters once new (SameLog t once) (option_or (transaction_refusal t once) (statement_refusal t k once)) (Ok (tt {0}))
      (λ nothing. with_other t k dropped_command dropped_statement once) (one_change parameters once new (y.drop t k) change)
      (λ nothing checked. other_log t k dropped_command dropped_statement once))

  same_tables : tables_in new ≡ tables_in entries
  same_tables = changes_tables parameters entries new (y.drop t k ∷ []) change

  below : version ≤ versions_in entries
  below = let i = version_is t version entries made in omega (arith, i.is, i.within)

  pub dropped_within : version ≤ versions_in new
  dropped_within = omega (arith, below, same_log.versions)

  -- earlier versions are of other transactions
  earlier : (v : ℕ) → suc v < version → committer_of (suc v) entries ≢ t
  earlier v l is =
      let own : version_of t entries ≡ Some (suc v) = subst (λ u. version_of u entries ≡ Some (suc v)) is (maker_version entries keeps v (omega (arith, below, l))) in
      omega (arith, l, same_Some version (suc v) (sym made ∙ own))

  makers : (u : ℕ) → u < version → SameMakers (log_of entries) (log_of new) (length (tables_in entries)) u
  makers u l v m =
      let c : ℕ = committer_of (suc v) entries in
      (same_log.committer (suc v), record { version = same_log.version c; count = same_log.count c; statement = λ j. same_log.statement c j (earlier v (omega (arith, l, m))) })

  pub dropped_stops : (u : ℕ) → u < version → stop_upto new u ≡ stop_upto entries u
  dropped_stops u l =
      ap (λ (tables : List Table). replay_stop unannotated (log_of new) parameters (length tables) u) same_tables
      ∙ replay_stop_same (log_of entries) (log_of new) (length (tables_in entries)) u (makers u l)

  dropped_spans : (u : ℕ) → u < version → (place : ℕ)
      → replayed_spans unannotated (log_of new) (length (tables_in new)) u place ≡ replayed_spans unannotated (log_of entries) (length (tables_in entries)) u place
  dropped_spans u l place =
      ap (λ (tables : List Table). replayed_spans unannotated (log_of new) (length tables) u place) same_tables
      ∙ ap (λ (r : Replay (Unit {0})). spans_of u r.committed r.written place) (replayed_same (log_of entries) (log_of new) (length (tables_in entries)) u (makers u l))

  pub dropped_made : (u : ℕ) → u < version → (versions : List Versions) → IsMade entries u versions → IsMade new u versions
  dropped_made u l versions is = record {
    count = is.count ∙ ap length (sym same_tables);
    unstopped = dropped_stops u l ∙ is.unstopped;
    spans = λ place. is.spans place ∙ sym (dropped_spans u l place);
  }
