-- How often tokens occur in the annotations of a run, of a commit and of the versions of a log and its spans.
use Rattle.std.proofs.Common.{◌≡◌, ◌≤◌, ℕ, zero, suc, ◌*◌, cond, refl, subst, arith, Bool, true, false, List, [], ◌∷◌, Option, Some, None}
use Rattle.std.specs.Prelude.{◌==◌, ◌&&◌, nat_le, not}
use Rattle.std.specs.List.{AllByRecursion, filter}
use Rattle.std.proofs.lemmas.Bool.Decides.{nat_tests}
use Rattle.gp_base.specs.declared.token.Token.{Token}
use Rattle.gp_base.specs.declared.token.Token.TheVariants.{Inserted, Queried, Updated}
use Rattle.gp_base.specs.Annotated.{Annotated, Database, Environment}
use Rattle.gp_base.specs.Identities.{Identity, nodes, same_identity}
use Rattle.gp_versions.specs.declared.span.Span.{Span}
use Rattle.gp_versions.specs.Spans.{spans_at}
use Rattle.gp_algebra.specs.Statements.{Statement}
use Rattle.gp_machine.specs.Annotating.{annotated, annotated_row, annotation_of, computed}
use Rattle.gp_machine.specs.Committed.{cleared, unmarked}
use Rattle.gp_machine.specs.Entries.{Log}
use Rattle.gp_machine.specs.Publishing.{publish, was_written}
use Rattle.gp_machine.specs.Runs.{at_commit, refreshed, run, run_before, stepped}
use Rattle.gp_machine.proofs.Distinct.{each_all, each_filter}
use Rattle.gp_kexec.specs.SemiringForms.{occurs, words}
use Rattle.gp_history.specs.Room.{IsWithinNodes, for_each_node, made_by}
use Rattle.gp_history.proofs.Bounds.{nothing, same_equal, within_more}
use Rattle.gp_history.proofs.StatementBounds.{Grows, step_within}
use Rattle.gp_base.proofs.SmallLemmas.{each_append, each_map}

-- rows of each table
abbrev pub AreWithin : (Token → ℕ) → Database (List Token) → Type 0
AreWithin most db = (table : ℕ) → AllByRecursion (IsWithinNodes most) (db table)

-- ---- runs

-- how often a token can occur in a row of a run: as in for_each_node, but those of the first statements, this many, of transaction t once more
abbrev pub run_most : (ℕ → ℕ) → ℕ → ℕ → Token → ℕ
run_most runs t k (Inserted u j n) = 1
run_most runs t k (Queried u j) = 1
run_most runs t k (Updated u j) = cond ((t == u) && nat_le j k) (suc (runs u)) (runs u)

once_more : (b c : Bool) (n : ℕ) → (b ≡ true → c ≡ true) → cond b (suc n) n ≤ cond c (suc n) n
once_more true true n f = omega arith
once_more true false n f = absurd (let e : false ≡ true = f refl in cc)
once_more false true n f = omega arith
once_more false false n f = omega arith

both_later : (a b c : Bool) → (b ≡ true → c ≡ true) → (a && b) ≡ true → (a && c) ≡ true
both_later true b c f e = f e
both_later false b c f e = e

le_later : (j k : ℕ) → nat_le j k ≡ true → nat_le j (suc k) ≡ true
le_later j k e = grind (arith, nat_tests)

run_grows : (runs : ℕ → ℕ) (t k : ℕ) → Grows (run_most runs t k) (run_most runs t (suc k)) t (suc k)
run_grows runs t k = record { every = every; inserted = λ n. omega arith; queried = omega arith; updated = updated }
  where
    every : (token : Token) → run_most runs t k token ≤ run_most runs t (suc k) token
    every (Inserted u j n) = omega arith
    every (Queried u j) = omega arith
    every (Updated u j) = once_more ((t == u) && nat_le j k) ((t == u) && nat_le j (suc k)) (runs u) (both_later (t == u) (nat_le j k) (nat_le j (suc k)) (le_later j k))

    itself : (t == t) ≡ true
    itself = grind (arith, nat_tests)

    here : nat_le (suc k) (suc k) ≡ true
    here = grind (arith, nat_tests)

    before : nat_le (suc k) k ≡ false
    before = grind (arith, nat_tests)

    updated : suc (cond ((t == t) && nat_le (suc k) k) (suc (runs t)) (runs t)) ≤ cond ((t == t) && nat_le (suc k) (suc k)) (suc (runs t)) (runs t)
    updated = rw (itself, here, before) (omega arith)

-- rows that are published are rows of one of the two databases
publish_within : (most : Token → ℕ) (base mine later : Database (List Token)) → AreWithin most mine → AreWithin most later → AreWithin most (publish base mine later)
publish_within most base mine later own others table =
    each_append (IsWithinNodes most) (filter (λ row. not (was_written (base table) (mine table) row.identity)) (later table)) (filter (λ row. row.mark) (mine table))
    (each_filter (IsWithinNodes most) (IsWithinNodes most) (λ row. not (was_written (base table) (mine table) row.identity)) (λ row e is. is) (later table) (others table))
    (each_filter (IsWithinNodes most) (IsWithinNodes most) (λ row. row.mark) (λ row e is. is) (mine table) (own table))

module _ (log : Log) (t : ℕ) (versions : Environment (List Token)) (runs : ℕ → ℕ) (known : (version : ℕ) → AreWithin (for_each_node runs) (versions version)) where
  stepped_within : (k : ℕ) (statement : Option Statement) (db : Database (List Token)) → AreWithin (run_most runs t k) db → AreWithin (run_most runs t (suc k)) (stepped words t (suc k) statement db)
  stepped_within k None db within table = within_more (run_most runs t k) (run_most runs t (suc k)) (run_grows runs t k).every (db table) (within table)
  stepped_within k (Some statement) db within table = step_within (run_most runs t k) (run_most runs t (suc k)) t (suc k) (run_grows runs t k) statement db within table

  ran_most : (k : ℕ) (token : Token) → for_each_node runs token ≤ run_most runs t k token
  ran_most k (Inserted u j n) = omega arith
  ran_most k (Queried u j) = omega arith
  ran_most k (Updated u j) = elim ((t == u) && nat_le j k) as (λ b. runs u ≤ cond b (suc (runs u)) (runs u)) [ true ↦ omega arith | false ↦ omega arith ]

  version_within : (k version : ℕ) → AreWithin (run_most runs t k) (versions version)
  version_within k version table = within_more (for_each_node runs) (run_most runs t k) (ran_most k) (versions version table) (known version table)

  refreshed_within : (k old new : ℕ) (db : Database (List Token)) → AreWithin (run_most runs t k) db → AreWithin (run_most runs t k) (refreshed old new versions db)
  refreshed_within k old new db within =
      elim (new == old) as (λ b. AreWithin (run_most runs t k) (cond b db (publish (versions old) db (versions new)))) [
        | true ↦ within
        | false ↦ publish_within (run_most runs t k) (versions old) db (versions new) within (version_within k new)
      ]

  -- what a transaction reads after its first statements
  pub run_within : (k : ℕ) → AreWithin (run_most runs t k) (run words log t k versions)
  run_within zero = version_within zero (log.version t zero)
  run_within (suc k) =
      stepped_within k (log.statement t (suc k)) (run_before words log t k versions)
      (refreshed_within k (log.version t k) (log.version t (suc k)) (run words log t k versions) (run_within k))

  -- what its commit publishes
  pub commit_within : (before : ℕ) → AreWithin (run_most runs t (log.statement_count t)) (at_commit words log t before versions)
  commit_within before =
      let count = log.statement_count t in
      publish_within (run_most runs t count) (versions (log.version t count)) (run words log t count versions) (versions before) (run_within count) (version_within count before)

-- ---- versions

annotation_within : (most : Token → ℕ) (id : Identity) (rows : List (Annotated (List Token))) → AllByRecursion (IsWithinNodes most) rows → (token : Token) → occurs token (annotation_of words id rows) ≤ most token * nodes id
annotation_within most id [] within token = nothing (most token * nodes id)
annotation_within most id (row ∷ rows) within token =
    elim (same_identity row.identity id) as (λ b. same_identity row.identity id ≡ b → occurs token (cond b row.annotation (annotation_of words id rows)) ≤ most token * nodes id) [
      | true ↦ λ e. subst (λ own. occurs token row.annotation ≤ most token * nodes own) (same_equal row.identity id e) (within.0 token)
      | false ↦ λ e. annotation_within most id rows within.1 token
    ] refl

-- a transaction made at most the versions that there are
pub made_few : (log : Log) (u t : ℕ) → made_by log u t ≤ u
made_few log zero t = omega arith
made_few log (suc u) t =
    let few : made_by log u t ≤ u = made_few log u t in
    elim (log.committer (suc u) == t) as (λ b. cond b (suc (made_by log u t)) (made_by log u t) ≤ suc u) [ true ↦ omega arith | false ↦ omega arith ]

module _ (log : Log) (spans : ℕ → List Span) where
  annotated_within : (most : Token → ℕ) (versions : Environment (List Token)) → ((version : ℕ) → AreWithin most (versions version)) → (version : ℕ) → AreWithin most (annotated words spans versions version)
  annotated_within most versions within version table =
      each_map (IsWithinNodes most) (λ span. Unit {0}) (annotated_row words versions table) (λ span is token. annotation_within most span.id (versions span.from table) (within span.from table) token)
      (spans_at version (spans table)) (each_all (λ span. Unit {0}) (λ span. tt) (spans_at version (spans table)))

  -- a version more, which its transaction made
  more_most : (u k : ℕ) (token : Token) → run_most (made_by log u) (log.committer (suc u)) k token ≤ for_each_node (made_by log (suc u)) token
  more_most u k (Inserted t j n) = omega arith
  more_most u k (Queried t j) = omega arith
  more_most u k (Updated t j) = go (log.committer (suc u) == t) (nat_le j k)
    where
      go : (a b : Bool) → cond (a && b) (suc (made_by log u t)) (made_by log u t) ≤ cond a (suc (made_by log u t)) (made_by log u t)
      go true true = omega arith
      go true false = omega arith
      go false b = omega arith

  later_most : (u : ℕ) (token : Token) → for_each_node (made_by log u) token ≤ for_each_node (made_by log (suc u)) token
  later_most u (Inserted t j n) = omega arith
  later_most u (Queried t j) = omega arith
  later_most u (Updated t j) = elim (log.committer (suc u) == t) as (λ b. made_by log u t ≤ cond b (suc (made_by log u t)) (made_by log u t)) [ true ↦ omega arith | false ↦ omega arith ]

  cleared_within : (most : Token → ℕ) (db : Database (List Token)) → AreWithin most db → AreWithin most (cleared db)
  cleared_within most db within table = each_map (IsWithinNodes most) (IsWithinNodes most) unmarked (λ row is. is) (db table) (within table)

  next_within : (u : ℕ) → ((version : ℕ) → AreWithin (for_each_node (made_by log u)) (computed words log spans u version))
      → AreWithin (for_each_node (made_by log (suc u))) (cleared (at_commit words log (log.committer (suc u)) u (annotated words spans (computed words log spans u))))
  next_within u within =
      let t = log.committer (suc u) in
      let known = annotated words spans (computed words log spans u) in
      let before = annotated_within (for_each_node (made_by log u)) (computed words log spans u) within in
      cleared_within (for_each_node (made_by log (suc u))) (at_commit words log t u known)
      (λ table. within_more (run_most (made_by log u) t (log.statement_count t)) (for_each_node (made_by log (suc u))) (more_most u (log.statement_count t)) (at_commit words log t u known table)
      (commit_within log t known (made_by log u) before u table))

  -- whatever the versions that are computed, up to this one
  pub computed_within : (u version : ℕ) → AreWithin (for_each_node (made_by log u)) (computed words log spans u version)
  computed_within zero version table = tt
  computed_within (suc u) version table =
      elim (version == suc u) as (λ b. AllByRecursion (IsWithinNodes (for_each_node (made_by log (suc u))))
      ((cond b (cleared (at_commit words log (log.committer (suc u)) u (annotated words spans (computed words log spans u)))) (computed words log spans u version)) table)) [
        | true ↦ next_within u (computed_within u) table
        | false ↦ within_more (for_each_node (made_by log u)) (for_each_node (made_by log (suc u))) (later_most u) (computed words log spans u version table) (computed_within u version table)
      ]

  pub versions_within : (u version : ℕ) → AreWithin (for_each_node (made_by log u)) (annotated words spans (computed words log spans u) version)
  versions_within u version = annotated_within (for_each_node (made_by log u)) (computed words log spans u) (computed_within u) version
