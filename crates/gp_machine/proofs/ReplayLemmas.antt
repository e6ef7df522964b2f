-- Commits made again: without a stop they are a history, and those of a history's own log are that history.
use Rattle.gp_machine.proofs.Prelude.{◌≡◌, ℕ, zero, suc, ◌+◌, ◌-◌, ◌<◌, ◌≤◌, Bool, true, false, cond, List, ◌++◌, length, map, Option, Some, None, refl, sym, ap, ◌∙◌, subst, arith, ⊎_elim, nat_lt, AllByRecursion, filter, option_or, false≢true, cases_lt, le-ltb, length-append, length-map, Written, Annotated, Annotations, Database, Environment, Identity, identity_transaction, pairs, cleared, is_written, merged, next_version, unmarked, Conflict, least_conflict, Log, log_of, Line, after, published_rows, IsFirst, IsHistory, next_written, span_from, spans_from, spans_of, spans_upto, state_spans, span_after, span_count, Parameters, ChecksTargets, run_stop, IsReached, Seen, seen_by, start_by, Replay, first_stop, replay_stop, replayed, rerun, version_stop, CommitsInOrder, replayed_spans, run_before, State, start, none_parts, some_none}
use Rattle.gp_machine.proofs.BaseLemmas.{of_based}
use Rattle.gp_machine.proofs.CommitLemmas.{Clean, IsMadeBy, all_sound, clean}
use Rattle.gp_machine.proofs.CountLemmas.{all_counted}
use Rattle.gp_machine.proofs.Distinct.{each_weaker}
use Rattle.gp_machine.proofs.LeastLemmas.{least_conflict_is}
use Rattle.gp_machine.proofs.LimitLemmas.{counts_are_within}
use Rattle.gp_machine.proofs.LogLemmas.{CommitBy, SameFor, SameSeen, at_other, at_value, commit_agree, commit_from, history_from, seen_agree}
use Rattle.gp_machine.proofs.ReachedLemmas.{all_reached, not_lost}
use Rattle.gp_machine.proofs.RunLemmas.{before_agree, before_is, run_agree, run_is, stop_agree, written_agree, written_is}
use Rattle.gp_machine.proofs.SpanGrowth.{spans_grow}
use Rattle.gp_machine.proofs.SpanRows.{written_rows}
use Rattle.gp_machine.proofs.UnstoppedLemmas.{reached_unstopped}
use Rattle.gp_machine.specs.Points.{RunStop}
use Rattle.gp_machine.specs.ReplayForms.{upto_version}

-- ---- no stop

-- what does not come where nothing stops
pub record Unstopped (run : Option RunStop) (lost : Option Conflict) (full : Bool) : Type 0 where
  pub runs : run ≡ None
  pub wins : lost ≡ None
  pub room : full ≡ false

pub unstopped : (version : ℕ) (stop : Option RunStop) (lost : Option Conflict) (full : Bool) → first_stop version stop lost full ≡ None → Unstopped stop lost full
unstopped version (Some stop) lost full e = absurd (some_none _ e)
unstopped version None (Some conflict) full e = absurd (some_none _ e)
unstopped version None None true e = absurd (some_none _ e)
unstopped version None None false e = record { runs = refl; wins = refl; room = refl }

pub same_log : (log : Log) (t n : ℕ) → SameFor log log t n
same_log log t n = record { version = λ k l. refl; statement = λ k l. refl }

pub upto_same : (u : ℕ) (log : Log) (t n : ℕ) → SameFor log (upto_version u log) t n
upto_same u log t n = record { version = λ k l. refl; statement = λ k l. refl }

module _ {M : Type 0} (domain : Annotations M) (log : Log) (tables : ℕ) where
  abbrev made : ℕ → Replay M
  made u = replayed domain log tables u

  abbrev again : ℕ → Seen M
  again u = rerun domain log (log.committer (suc u)) (made u).committed

  -- what is made stays
  pub committed_stays : (u v : ℕ) → v ≤ u → (made (suc u)).committed v ≡ (made u).committed v
  committed_stays u v l = at_other (suc u) (next_version ((made u).committed u) (again u).view (pairs (again u).written)) (made u).committed v (λ is. omega arith)

  pub written_stays : (u v : ℕ) → v ≤ u → (made (suc u)).written v ≡ (made u).written v
  written_stays u v l = at_other (suc u) (pairs (again u).written) (made u).written v (λ is. omega arith)

  pub committed_new : (u : ℕ) → (made (suc u)).committed (suc u) ≡ next_version ((made u).committed u) (again u).view (pairs (again u).written)
  committed_new u = at_value (suc u) (next_version ((made u).committed u) (again u).view (pairs (again u).written)) (made u).committed

  pub written_new : (u : ℕ) → (made (suc u)).written (suc u) ≡ pairs (again u).written
  written_new u = at_value (suc u) (pairs (again u).written) (made u).written

  -- ---- how many rows are published

  -- the spans of the first tables, this many
  abbrev pub spans_made : ℕ → ℕ → ℕ
  spans_made u zero = zero
  spans_made u (suc place) = spans_made u place + length (replayed_spans domain log tables u place)

  more_spans : (u place : ℕ) → length (replayed_spans domain log tables (suc u) place)
      ≡ length (replayed_spans domain log tables u place) + length (filter (λ row. is_written place row.identity (pairs (again u).written)) ((again u).view place))
  more_spans u place =
      ap length (spans_grow (made u).committed (made (suc u)).committed (made u).written (made (suc u)).written u place (committed_stays u) (written_stays u))
      ∙ length-append (map (span_after (suc u) (λ id. is_written place id ((made (suc u)).written (suc u)))) (replayed_spans domain log tables u place)) (spans_from (suc u) (made (suc u)).committed (made (suc u)).written place (suc u))
      ∙ (λ i. length-map (replayed_spans domain log tables u place) (span_after (suc u) (λ id. is_written place id ((made (suc u)).written (suc u)))) i + new_spans i)
    where
      new_spans : length (spans_from (suc u) (made (suc u)).committed (made (suc u)).written place (suc u)) ≡ length (filter (λ row. is_written place row.identity (pairs (again u).written)) ((again u).view place))
      new_spans =
          length-map _ (span_from (suc u) (made (suc u)).committed (made (suc u)).written place (suc u))
          ∙ (λ i. length (filter (λ (row : Annotated M). is_written place row.identity (written_new u i)) (committed_new u i place)))
          ∙ ap length (written_rows (λ id. is_written place id (pairs (again u).written)) ((made u).committed u place) ((again u).view place))
          ∙ length-map (filter (λ (row : Annotated M). is_written place row.identity (pairs (again u).written)) ((again u).view place)) unmarked

  spans_next : (u place : ℕ) → spans_made (suc u) place ≡ spans_made u place + published_rows (again u) place
  spans_next u zero = refl
  spans_next u (suc place) =
      let before = spans_next u place in
      let here = more_spans u place in
      omega (arith, before, here)

  no_spans : (place : ℕ) → spans_made zero place ≡ zero
  no_spans zero = refl
  no_spans (suc place) = omega (arith, no_spans place)

  pub rows_made : (u : ℕ) → (made u).rows ≡ spans_made u tables
  rows_made zero = sym (no_spans tables)
  rows_made (suc u) =
      let before = rows_made u in
      let next = spans_next u tables in
      omega (arith, before, next)

  -- ---- without a stop it is a history

  module _ (parameters : Parameters) (order : CommitsInOrder log) where
    -- the next transaction, over the versions before
    module _ (u : ℕ) (within : u < log.versions) (before : IsHistory domain (upto_version u log) (made u).committed (made u).written) where
      abbrev t : ℕ
      t = log.committer (suc u)

      abbrev n : ℕ
      n = log.statement_count t

      reads : (k : ℕ) → k ≤ n → log.version t k ≤ u
      reads k l = order.order u k within l

      fit : Clean domain (upto_version u log) (made u).committed (made u).written before t n
      fit =
          let sound = λ (k : ℕ) (l : k ≤ n). all_sound domain (upto_version u log) (made u).committed (made u).written before (log.version t k) (reads k l) (log.version t k) (omega arith) in
          record {
            different = λ k l table. (sound k l table).different;
            unmarked = λ k l table. (sound k l table).unmarked;
            others = λ k l table. each_weaker _ _ (λ row made own. by_another k l row made own) ((made u).committed (log.version t k) table) (sound k l table).makers;
          }
        where
          by_another : (k : ℕ) → k ≤ n → (row : Annotated M) → IsMadeBy (upto_version u log) (log.version t k) row.identity → identity_transaction row.identity ≡ t → ⊥
          by_another k l row (v, below, is) own =
              let r = reads k l in
              let same : v ≡ u = order.once v u (omega arith) within (sym is ∙ own) in
              omega arith

      -- run again, it reads and writes what it would in the history machine
      pub again_is : again u ≡ seen_by domain (upto_version u log) t n (made u).committed
      again_is =
          (λ i. record {
            view = sym (run_agree domain log (upto_version u log) t n (made u).committed (made u).committed (upto_same u log t n) (λ k l. refl) n (omega arith)) i;
            written = sym (written_agree domain log (upto_version u log) t n (made u).committed (made u).committed (upto_same u log t n) (λ k l. refl) n (omega arith)) i;
          })
          ∙ (λ i. record {
            view = run_is domain (upto_version u log) (made u).committed (made u).written before t n fit reads (λ k l. order.later u k within l) n (omega arith) i;
            written = written_is domain (upto_version u log) (made u).committed (made u).written before t n fit reads (λ k l. order.later u k within l) n (omega arith) i;
          })

      pub before_again : (k : ℕ) → k < n → run_before domain log t k (made u).committed ≡ start_by domain (upto_version u log) t k (made u).committed
      before_again k l =
          sym (before_agree domain log (upto_version u log) t n (made u).committed (made u).committed (upto_same u log t n) (λ k l. refl) k l)
          ∙ before_is domain (upto_version u log) (made u).committed (made u).written before t n fit reads (λ k l. order.later u k within l) k l

      seen_next : seen_by domain (upto_version (suc u) log) t n (made (suc u)).committed ≡ again u
      seen_next =
          seen_agree domain (upto_version u log) (upto_version (suc u) log) t n n (made u).committed (made (suc u)).committed (record { version = λ k l. refl; statement = λ k l. refl }) (omega arith)
          (λ k l. committed_stays u (log.version t k) (reads k l))
          ∙ sym again_is

      commit_by : version_stop domain log parameters tables u ≡ None → CommitBy domain (upto_version (suc u) log) (made (suc u)).committed (made (suc u)).written u t
      commit_by none =
          let clear = unstopped (suc u) _ _ _ none in
          record {
            order = reads;
            later = λ k l. order.later u k within l;
            wrote = written_new u ∙ sym (ap (λ (x : Seen M). pairs x.written) seen_next);
            published = λ table. ap (λ (db : Database M). db table) (committed_new u)
                ∙ sym (λ i. cleared (merged (committed_stays u u (omega arith) i) (seen_next i).view (written_new u i)) table);
            first = subst (λ (x : Seen M). AllByRecursion (IsFirst (made (suc u)).written u) x.written) (sym seen_next)
                (each_weaker _ _ (λ based f v a b. ap (is_written based.pair.table based.pair.identity) (written_stays u v b) ∙ f v a b) (again u).written
                (not_lost (made u).written u (again u).written clear.wins));
          }

    pub history_made : (u : ℕ) → u ≤ log.versions → replay_stop domain log parameters tables u ≡ None → IsHistory domain (upto_version u log) (made u).committed (made u).written
    history_made zero within none = history_from domain (upto_version zero log) _ _ (λ table. refl) (λ v w l. absurd (omega arith)) (λ v l. absurd (omega arith))
    history_made (suc u) within none =
        let both = none_parts (replay_stop domain log parameters tables u) (version_stop domain log parameters tables u) none in
        let before = history_made u (omega arith) both.0 in
        history_from domain (upto_version (suc u) log) (made (suc u)).committed (made (suc u)).written
        (λ table. ap (λ (db : Database M). db table) (committed_stays u zero (omega arith)) ∙ before.start table)
        (λ v w l m is. order.once v w (omega arith) (omega arith) is)
        (λ v l. ⊎_elim
        (λ below. commit_agree domain (upto_version u log) (upto_version (suc u) log) (made u).committed (made (suc u)).committed (made u).written (made (suc u)).written v (log.committer (suc v))
        (record { version = λ k m. refl; statement = λ k m. refl }) refl (λ w m. committed_stays u w (omega arith)) (λ w m. written_stays u w (omega arith))
        (commit_from domain (upto_version u log) (made u).committed (made u).written before v below))
        (λ above. let is : u ≡ v = omega arith in
        subst (λ v. CommitBy domain (upto_version (suc u) log) (made (suc u)).committed (made (suc u)).written v (log.committer (suc v))) is (commit_by u within before both.1))
        (cases_lt v u))

-- ---- the spans of versions that are the same

next_agree : (written other : ℕ → List Written) (n table : ℕ) (id : Identity) → ((v : ℕ) → v < n → other (suc v) ≡ written (suc v)) → (more from : ℕ) → from + more ≤ n
    → next_written other table id from more ≡ next_written written table id from more
next_agree written other n table id same zero from l = refl
next_agree written other n table id same (suc more) from l =
    λ i. cond (is_written table id (same from (omega arith) i)) (Some (suc from)) (next_agree written other n table id same more (suc from) (omega arith) i)

module _ {M : Type 0} (n : ℕ) (committed others : Environment M) (written more : ℕ → List Written) (rows : (v : ℕ) → v ≤ n → others v ≡ committed v) (same : (v : ℕ) → v < n → more (suc v) ≡ written (suc v)) (place : ℕ) where
  upto_agree : (m : ℕ) → m ≤ n → spans_upto n others more place m ≡ spans_upto n committed written place m
  upto_agree zero l = refl
  upto_agree (suc m) l =
      λ i. upto_agree m (omega arith) i
      ++ map (λ (row : Annotated M). record { id = row.identity; from = suc m; to = next_agree written more n place row.identity same (n - suc m) (suc m) (omega arith) i; row = row.cells })
      (filter (λ (row : Annotated M). is_written place row.identity (same m (omega arith) i)) (rows (suc m) l i place))

  pub spans_agree : spans_of n others more place ≡ spans_of n committed written place
  spans_agree = upto_agree n (omega arith)

-- ---- the log of a history

module _ {M : Type 0} (domain : Annotations M) (parameters : Parameters) (checks : ChecksTargets parameters) (lines : List Line) where
  abbrev state : State M
  state = after domain parameters start lines

  abbrev log : Log
  log = log_of state.entries

  abbrev tables : ℕ
  tables = length state.catalogue

  abbrev own : ℕ → Replay M
  own u = replayed domain log tables u

  reached : IsReached domain parameters state
  reached = all_reached domain parameters lines

  pub record IsOwn (u : ℕ) : Type 0 where
    pub committed : (v : ℕ) → v ≤ u → (own u).committed v ≡ state.committed v
    pub written : (v : ℕ) → v < u → (own u).written (suc v) ≡ state.written (suc v)

  -- the next transaction, run again over its own versions
  module _ (u : ℕ) (within : u < log.versions) (is : IsOwn u) where
    abbrev maker : ℕ
    maker = log.committer (suc u)

    abbrev steps : ℕ
    steps = log.statement_count maker

    abbrev mine : Seen M
    mine = rerun domain log maker (own u).committed

    agree : SameSeen domain log maker steps state.committed (own u).committed
    agree k l = is.committed (log.version maker k) (reached.history.order u k within l)

    fits_it : Clean domain log state.committed state.written reached.history maker steps
    fits_it = clean domain log state.committed state.written reached.history u within (all_sound domain log state.committed state.written reached.history u (omega arith)) steps (omega arith)

    inside : (k : ℕ) → k ≤ steps → log.version maker k ≤ log.versions
    inside k l = let o = reached.history.order u k within l in omega arith

    rising : (k : ℕ) → k < steps → log.version maker k ≤ log.version maker (suc k)
    rising k l = reached.history.later u k within l

    mine_is : mine ≡ seen_by domain log maker steps state.committed
    mine_is = λ i. record {
      view = (run_agree domain log log maker steps state.committed (own u).committed (same_log log maker steps) agree steps (omega arith)
          ∙ run_is domain log state.committed state.written reached.history maker steps fits_it inside rising steps (omega arith)) i;
      written = (written_agree domain log log maker steps state.committed (own u).committed (same_log log maker steps) agree steps (omega arith)
          ∙ written_is domain log state.committed state.written reached.history maker steps fits_it inside rising steps (omega arith)) i;
    }

    wrote_own : pairs mine.written ≡ state.written (suc u)
    wrote_own = ap (λ (x : Seen M). pairs x.written) mine_is ∙ sym (reached.history.wrote u within)

    own_next : IsOwn (suc u)
    own_next = record {
      committed = λ v l. ⊎_elim
          (λ below. committed_stays domain log tables u v (omega arith) ∙ is.committed v (omega arith))
          (λ above. let at' : v ≡ suc u = omega arith in
          subst (λ v. (own (suc u)).committed v ≡ state.committed v) (sym at')
          (committed_new domain log tables u ∙ (λ i. next_version (is.committed u (omega arith) i) (mine_is i).view (wrote_own i))
          ∙ sym (λ i table. reached.history.published u table within i)))
          (cases_lt v (suc u));
      written = λ v l. ⊎_elim
          (λ below. written_stays domain log tables u (suc v) below ∙ is.written v below)
          (λ above. let at' : v ≡ u = omega arith in
          subst (λ v. (own (suc u)).written (suc v) ≡ state.written (suc v)) (sym at') (written_new domain log tables u ∙ wrote_own))
          (cases_lt v u);
    }

    -- its run does not stop
    run_none : run_stop domain parameters log maker steps (own u).committed ≡ None
    run_none =
        stop_agree domain log log maker steps state.committed (own u).committed (same_log log maker steps) agree parameters steps (omega arith)
        ∙ (reached_unstopped domain parameters state reached).runs u within

    -- its commit is not lost
    won : least_conflict (own u).written u mine.written ≡ None
    won = go (least_conflict (own u).written u mine.written) refl
      where
        written_at : (v : ℕ) → zero < v → v ≤ u → (own u).written v ≡ state.written v
        written_at zero p l = absurd (omega arith)
        written_at (suc v) p l = is.written v (omega arith)

        first : AllByRecursion (IsFirst state.written u) mine.written
        first = subst (λ (x : Seen M). AllByRecursion (IsFirst state.written u) x.written) (sym mine_is) (reached.history.first u within)

        go : (o : Option Conflict) → least_conflict (own u).written u mine.written ≡ o → o ≡ None
        go None e = refl
        go (Some conflict) e =
            let least = least_conflict_is (own u).written u mine.written conflict e in
            absurd (false≢true (
            sym (of_based (IsFirst state.written u) mine.written first (record { pair = conflict.pair; base = least.base }) least.among conflict.version least.later least.there)
            ∙ ap (is_written conflict.pair.table conflict.pair.identity) (sym (written_at conflict.version (omega (arith, least.later)) least.there)) ∙ least.version))

    -- the spans that it begins
    new_length : (place : ℕ) → length (spans_from log.versions state.committed state.written place (suc u)) ≡ length (filter (λ row. is_written place row.identity (pairs mine.written)) (mine.view place))
    new_length place =
        length-map _ (span_from log.versions state.committed state.written place (suc u))
        ∙ ap (λ rows. length (filter (λ (row : Annotated M). is_written place row.identity (state.written (suc u))) rows)) (reached.history.published u place within)
        ∙ ap length (written_rows (λ id. is_written place id (state.written (suc u))) (state.committed u place) ((seen_by domain log maker steps state.committed).view place))
        ∙ length-map _ unmarked
        ∙ (λ i. length (filter (λ (row : Annotated M). is_written place row.identity (sym wrote_own i)) ((sym mine_is i).view place)))

  pub is_own : (u : ℕ) → u ≤ log.versions → IsOwn u
  is_own zero within = record {
    committed = λ v l. let at' : v ≡ zero = omega arith in subst (λ v. (own zero).committed v ≡ state.committed v) (sym at') (sym (λ i table. reached.history.start table i));
    written = λ v l. absurd (omega arith);
  }
  is_own (suc u) within = own_next u within (is_own u (omega arith))

  -- ---- the rows are not too many

  -- how many spans the first tables have that begin with the first versions
  abbrev spans_begun : ℕ → ℕ → ℕ
  spans_begun u zero = zero
  spans_begun u (suc place) = spans_begun u place + length (spans_upto log.versions state.committed state.written place u)

  begun_next : (u place : ℕ) → (within : u < log.versions) → (is : IsOwn u) → spans_begun (suc u) place ≡ spans_begun u place + published_rows (rerun domain log (log.committer (suc u)) (own u).committed) place
  begun_next u zero within is = refl
  begun_next u (suc place) within is =
      let before = begun_next u place within is in
      let here = length-append (spans_upto log.versions state.committed state.written place u) (spans_from log.versions state.committed state.written place (suc u)) in
      let new = new_length u within is place in
      omega (arith, before, here, new)

  none_begun : (place : ℕ) → spans_begun zero place ≡ zero
  none_begun zero = refl
  none_begun (suc place) = omega (arith, none_begun place)

  rows_are : (u : ℕ) → u ≤ log.versions → (own u).rows ≡ spans_begun u tables
  rows_are zero within = sym (none_begun tables)
  rows_are (suc u) within =
      let before = rows_are u (omega arith) in
      let next = begun_next u tables (omega arith) (is_own u (omega arith)) in
      omega (arith, before, next)

  begun_more : (u more : ℕ) → u + more ≤ log.versions → spans_begun u tables ≤ spans_begun (u + more) tables
  begun_more u zero l = let is : u + zero ≡ u = omega arith in subst (λ v. spans_begun u tables ≤ spans_begun v tables) (sym is) (omega arith)
  begun_more u (suc more) l =
      let before = begun_more u more (omega arith) in
      let next = begun_next (u + more) tables (omega arith) (is_own (u + more) (omega arith)) in
      let is : u + suc more ≡ suc (u + more) = omega arith in
      subst (λ v. spans_begun u tables ≤ spans_begun v tables) (sym is) (omega (arith, before, next))

  all_begun : (place : ℕ) → spans_begun log.versions place ≡ span_count state place
  all_begun zero = refl
  all_begun (suc place) = ap (λ n. n + length (state_spans state place)) (all_begun place)

  rows_fit : (u : ℕ) → u ≤ log.versions → (own u).rows ≤ parameters.published
  rows_fit u within =
      let upto = begun_more u (log.versions - u) (omega arith) in
      let end : u + (log.versions - u) ≡ log.versions = omega arith in
      let last : spans_begun u tables ≤ spans_begun log.versions tables = subst (λ v. spans_begun u tables ≤ spans_begun v tables) end upto in
      omega (arith, rows_are u within, last, all_begun tables, (all_counted domain parameters checks lines).count, (counts_are_within domain parameters lines).rows)

  has_room : (u : ℕ) → u < log.versions → nat_lt parameters.published ((own u).rows + published_rows (rerun domain log (log.committer (suc u)) (own u).committed) tables) ≡ false
  has_room u within = le-ltb parameters.published ((own u).rows + published_rows (rerun domain log (log.committer (suc u)) (own u).committed) tables) (rows_fit (suc u) within)

  -- ---- so nothing stops, and the spans are those of the history

  version_none : (u : ℕ) → u < log.versions → version_stop domain log parameters tables u ≡ None
  version_none u within =
      let is = is_own u (omega arith) in
      λ i. first_stop (suc u) (run_none u within is i) (won u within is i) (has_room u within i)

  pub own_unstopped : (u : ℕ) → u ≤ log.versions → replay_stop domain log parameters tables u ≡ None
  own_unstopped zero within = refl
  own_unstopped (suc u) within = ap (λ s. option_or s (version_stop domain log parameters tables u)) (own_unstopped u (omega arith)) ∙ version_none u within

  pub own_spans : (place : ℕ) → replayed_spans domain log tables log.versions place ≡ state_spans state place
  own_spans place =
      let is = is_own log.versions (omega arith) in
      spans_agree log.versions state.committed (own log.versions).committed state.written (own log.versions).written is.committed is.written place
