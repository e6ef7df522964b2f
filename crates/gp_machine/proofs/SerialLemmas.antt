-- Transactions that run one after another commit in order, so they are a history if none of their commits stops; and where they do what they did over the
-- row versions of a history, each of their statements does what it did there.
use Rattle.std.proofs.Common.{◌≡◌, ◌<◌, ◌≤◌, ℕ, zero, suc, Bool, true, false, cond, List, [], ◌∷◌, ◌++◌, map, length, get_or, Option, Some, None, refl, sym, ap, ◌∙◌, subst, arith, ◌⊎◌, inl, inr, ⊎_elim}
use Rattle.std.specs.Prelude.{◌==◌, ◌&&◌, is_none, Contains}
use Rattle.std.specs.Cmp.Lexicographic.{slice_cmp}
use Rattle.std.specs.FinMap.{slice_cmp-IsAntisymmetric}
use Rattle.std.specs.List.{list_all}
use Rattle.std.specs.List.Sorted.{IsPermutation}
use Rattle.std.specs.Option.{option_map_or}
use Rattle.std.specs.Ordering.{is_eq}
use Rattle.std.proofs.lemmas.Bool.{and_parts, cases_lt, false≢true}
use Rattle.std.proofs.lemmas.List.Sorted.{Contains-permutation, IsPermutation-sym, IsPermutation-trans}
use Rattle.std.proofs.lemmas.Grind.{get_or_default_zero}
use Rattle.std.proofs.lemmas.List.{map-append}
use Rattle.gp_base.specs.declared.cell.Cell.{Cell}
use Rattle.gp_base.specs.Annotated.{Annotated, Annotations, Database, Environment, unannotated}
use Rattle.gp_base.specs.IdentityParts.{identity_statement, identity_transaction}
use Rattle.gp_base.specs.Order.{row_cmp, sorted_by}
use Rattle.gp_base.specs.RowOrder.{exact_rows}
use Rattle.gp_base.proofs.Bags.{SameBag, through, turned, same_from, mapped, filtered}
use Rattle.gp_base.proofs.OrderLemmas.{equal_from_is_eq, rows_permuted}
use Rattle.gp_base.proofs.Permutations.{permuted, unpermuted}
use Rattle.gp_base.proofs.SmallLemmas.{eq_itself}
use Rattle.gp_expr.specs.Values.{passes}
use Rattle.gp_algebra.specs.Statements.{Statement, insert, insert_select, update, delete, read}
use Rattle.gp_algebra.proofs.StepBags.{SameTables, answer_same, step_same}
use Rattle.gp_versions.specs.declared.span.Span.{Span}
use Rattle.gp_machine.specs.Entries.{Log, committer_of, log_of, statement_at, statement_count, versions_in}
use Rattle.gp_machine.specs.Event.{Line, after}
use Rattle.gp_machine.specs.Histories.{IsHistory}
use Rattle.gp_machine.specs.HistorySpans.{as_of, state_spans}
use Rattle.gp_machine.specs.Parameters.{Parameters}
use Rattle.gp_machine.specs.Points.{run_stop}
use Rattle.gp_machine.specs.Precedence.{numbers}
use Rattle.gp_machine.specs.ReadBy.{start_by}
use Rattle.gp_machine.specs.Replaying.{replay_stop}
use Rattle.gp_machine.specs.ReplayForms.{CommitsInOrder}
use Rattle.gp_machine.specs.Runs.{refreshed, run_before}
use Rattle.gp_machine.specs.Orders.{AreOnce}
use Rattle.gp_machine.specs.SerialForms.{IsSerialAs, committers, made_by}
use Rattle.gp_machine.specs.SerialRuns.{are_same, does_same, ends_same, first_do_same, is_serial, maker_in, place_in, row_cells, serial_log, serial_replay, shown}
use Rattle.gp_machine.specs.State.{State, start}
use Rattle.gp_algebra.specs.Effects.{Written}
use Rattle.gp_machine.proofs.CommitLemmas.{all_sound, refreshed_is, run_is_seen}
use Rattle.gp_machine.proofs.ReachedLemmas.{all_reached}
use Rattle.gp_machine.proofs.ReplayLemmas.{history_made}
use Rattle.gp_machine.proofs.RunBags.{before_same, run_stop_same}
use Rattle.gp_machine.proofs.Simulation.{versions_held}
use Rattle.gp_machine.proofs.UnstoppedLemmas.{all_unstopped}

-- ---- a history

-- the place of a number is at most any place where it stands
place_at_most : (order : List ℕ) (u : ℕ) → u < length order → place_in (get_or order u 0) order ≤ u
place_at_most [] u within = omega (arith, within)
place_at_most (t ∷ order) zero within = by (t == t) refl
  where
    by : (b : Bool) → (t == t) ≡ b → cond b zero (suc (place_in t order)) ≤ zero
    by true is = omega arith
    by false is = absurd (false≢true (sym is ∙ eq_itself t))
place_at_most (t ∷ order) (suc u) within = by (t == get_or order u 0) (place_at_most order u (omega (arith, within)))
  where
    by : (b : Bool) → place_in (get_or order u 0) order ≤ u → cond b zero (suc (place_in (get_or order u 0) order)) ≤ suc u
    by true below = omega arith
    by false below = omega (arith, below)

pub serial_in_order : (order : List ℕ) (log : Log) → AreOnce order → CommitsInOrder (serial_log order log)
serial_in_order order log once = record {
  order = λ u k within few. place_at_most order u within;
  later = λ u k within few. omega arith;
  once = λ u v u_within v_within same. once u v u_within v_within same;
}

pub serial_history : {M : Type 0} (domain : Annotations M) (parameters : Parameters) (log : Log) (order : List ℕ) (tables : ℕ) → AreOnce order
    → replay_stop domain (serial_log order log) parameters tables (length order) ≡ None
    → IsHistory domain (serial_log order log) (serial_replay domain order log tables).committed (serial_replay domain order log tables).written
serial_history domain parameters log order tables once none =
    history_made domain (serial_log order log) tables parameters (serial_in_order order log once) (length order) (omega arith) none

-- ---- what a statement reads

-- the run of a transaction of a history gives what it read before each statement
history_before : {M : Type 0} (domain : Annotations M) (log : Log) (committed : Environment M) (written : ℕ → List Written) (history : IsHistory domain log committed written) (u k : ℕ)
    → u < log.versions → k < log.statement_count (log.committer (suc u))
    → run_before domain log (log.committer (suc u)) k committed ≡ start_by domain log (log.committer (suc u)) k committed
history_before domain log committed written history u k within l =
    let t : ℕ = log.committer (suc u) in
    let sound = all_sound domain log committed written history u (omega arith) in
    ap (refreshed (log.version t k) (log.version t (suc k)) committed) (run_is_seen domain log committed written history u within sound k (omega arith))
    ∙ refreshed_is domain log committed written history u within sound k l

-- ---- the same rows

exact_lists : (xs ys : List (List Cell)) → is_eq (slice_cmp row_cmp xs ys) ≡ true → xs ≡ ys
exact_lists xs ys e = slice_cmp-IsAntisymmetric exact_rows xs ys (equal_from_is_eq (slice_cmp row_cmp xs ys) e)

pub same_rows : (rows others : List (List Cell)) → are_same rows others ≡ true → IsPermutation rows others
same_rows rows others e =
    IsPermutation-trans rows (sorted_by row_cmp rows) others (rows_permuted rows)
    (subst (λ (sorted : List (List Cell)). IsPermutation sorted others) (sym (exact_lists (sorted_by row_cmp rows) (sorted_by row_cmp others) e))
    (IsPermutation-sym others (sorted_by row_cmp others) (rows_permuted others)))

-- a statement does the same over the same rows in another order
shown_same : (t k : ℕ) (statement : Statement) (a b : Database (Unit {0})) → SameTables a b → SameBag (shown t k statement a) (shown t k statement b)
shown_same t k (read select) a b same = mapped (λ element. element.cells) (answer_same unannotated select a b same)
shown_same t k (insert table rows) a b same =
    mapped row_cells
    (filtered (λ row. (identity_transaction row.identity == t) && (identity_statement row.identity == k)) (step_same unannotated t k (insert table rows) a b same table))
shown_same t k (insert_select table select) a b same =
    mapped row_cells
    (filtered (λ row. (identity_transaction row.identity == t) && (identity_statement row.identity == k)) (step_same unannotated t k (insert_select table select) a b same table))
shown_same t k (update table sets c) a b same = mapped row_cells (filtered (λ row. passes c row.cells) (same table))
shown_same t k (delete table c) a b same = mapped row_cells (filtered (λ row. passes c row.cells) (same table))

none_from : {A : Type 0} (found : Option A) → is_none found ≡ true → found ≡ None
none_from None e = refl
none_from (Some a) e = absurd (false≢true e)

-- what is in two lists is in one of them
contains_parts : (xs ys : List ℕ) (t : ℕ) → Contains (xs ++ ys) t → Contains xs t ⊎ Contains ys t
contains_parts [] ys t there = inr there
contains_parts (x ∷ xs) ys t (zero, within, is) = inl (zero, omega arith, is)
contains_parts (x ∷ xs) ys t (suc k, within, is) = by (contains_parts xs ys t (k, omega (arith, within), is))
  where
    by : Contains xs t ⊎ Contains ys t → Contains (x ∷ xs) t ⊎ Contains ys t
    by (inl (j, inside, at)) = inl (suc j, omega (arith, inside), at)
    by (inr right) = inr right

-- ---- what they do is what they did

-- of a list that passes, what is in it passes
of_all : (p : ℕ → Bool) (list : List ℕ) (t : ℕ) → list_all p list ≡ true → Contains list t → p t ≡ true
of_all p list t all (n, within, is) = at n list all within is
  where
    at : (n : ℕ) (list : List ℕ) → list_all p list ≡ true → n < length list → get_or list n t ≡ t → p t ≡ true
    at n [] all within is = absurd (omega (arith, within))
    at zero (u ∷ others) all within is = subst (λ u. p u ≡ true) is (and_parts (p u) (list_all p others) all).0
    at (suc n) (u ∷ others) all within is = at n others (and_parts (p u) (list_all p others) all).1 (omega (arith, within)) is

module _ (parameters : Parameters) (log : Log) (tables : ℕ) (versions : Environment (Unit {0})) (order : List ℕ) where
  first_same : (t k n : ℕ) (statement : Statement) → k < n → log.statement t (suc k) ≡ Some statement → first_do_same parameters log tables versions order t n ≡ true
      → does_same parameters log tables versions order t k statement ≡ true
  first_same t k zero statement l here all = absurd (omega (arith, l))
  first_same t k (suc n) statement l here all =
      let parts = and_parts (first_do_same parameters log tables versions order t n) (option_map_or (does_same parameters log tables versions order t n) (log.statement t (suc n)) true) all in
      ⊎_elim
      (λ below. first_same t k n statement below here parts.0)
      (λ above.
      let is : k ≡ n = omega (arith, above, l) in
      ap (λ (own : Option Statement). option_map_or (does_same parameters log tables versions order t k) own true) (sym here)
      ∙ ap (λ m. option_map_or (does_same parameters log tables versions order t m) (log.statement t (suc m)) true) is ∙ parts.1)
      (cases_lt k n)

  end_same : (n table : ℕ) → table < n → ends_same parameters log tables versions order n ≡ true
      → are_same (map row_cells (versions log.versions table)) (map row_cells ((serial_replay unannotated order log tables).committed (length order) table)) ≡ true
  end_same zero table l all = absurd (omega (arith, l))
  end_same (suc n) table l all =
      let own : ℕ → Bool = λ m. are_same (map row_cells (versions log.versions m)) (map row_cells ((serial_replay unannotated order log tables).committed (length order) m)) in
      let parts = and_parts (ends_same parameters log tables versions order n) (own n) all in
      ⊎_elim (λ below. end_same n table below parts.0) (λ above. let is : table ≡ n = omega (arith, above, l) in ap own is ∙ parts.1) (cases_lt table n)

-- what is among the first numbers is one of them
numbered_from : (f : ℕ → ℕ) (n t : ℕ) → Contains (map f (numbers n)) t → (u : ℕ) × (u < n) × (f (suc u) ≡ t)
numbered_from f zero t (k, within, is) = absurd (omega (arith, within))
numbered_from f (suc n) t there =
    by (numbered_from f n t) (contains_parts (map f (numbers n)) (f (suc n) ∷ []) t (subst (λ list. Contains list t) (map-append f (numbers n) (suc n ∷ [])) there))
  where
    by : (Contains (map f (numbers n)) t → (u : ℕ) × (u < n) × (f (suc u) ≡ t)) → Contains (map f (numbers n)) t ⊎ Contains (f (suc n) ∷ []) t → (u : ℕ) × (u < suc n) × (f (suc u) ≡ t)
    by earlier (inl left) = let found = earlier left in (found.0, (let w = found.1 in omega arith), found.2)
    by earlier (inr (zero, within, is)) = (n, omega arith, is)
    by earlier (inr (suc k, within, is)) = absurd (omega (arith, within))

module _ (parameters : Parameters) (lines : List Line) (spans : ℕ → List Span)
    (are : (table : ℕ) → IsPermutation (spans table) (state_spans (after unannotated parameters start lines) table)) (u : ℕ) (within : u < versions_in (after unannotated parameters start lines).entries) where
  abbrev reached : State (Unit {0})
  reached = after unannotated parameters start lines

  abbrev maker_log : Log
  maker_log = log_of reached.entries

  abbrev maker_of : ℕ
  maker_of = committer_of (suc u) reached.entries

  own_history : IsHistory unannotated maker_log reached.committed reached.written
  own_history = (all_reached unannotated parameters lines).history

  -- a transaction of a history does not stop over its row versions
  pub runs_whole : run_stop unannotated parameters maker_log maker_of (statement_count maker_of reached.entries) (as_of unannotated spans) ≡ None
  runs_whole =
      run_stop_same unannotated parameters maker_log maker_of (statement_count maker_of reached.entries) (as_of unannotated spans) reached.committed
      (λ j l. versions_held unannotated maker_log reached.committed reached.written own_history spans (λ table. unpermuted _ _ (are table)) (maker_log.version maker_of j)
      (let below = own_history.order u j within l in omega (arith, below, within)))
      ∙ (all_unstopped unannotated parameters lines).runs u within

module _ (parameters : Parameters) (lines : List Line) (spans : ℕ → List Span)
    (are : (table : ℕ) → IsPermutation (spans table) (state_spans (after unannotated parameters start lines) table)) (order : List ℕ) (once : AreOnce order)
    (all : IsPermutation order (committers (after unannotated parameters start lines).entries))
    (is : is_serial parameters (log_of (after unannotated parameters start lines).entries) (length (after unannotated parameters start lines).catalogue) (as_of unannotated spans) order ≡ true) where
  abbrev state : State (Unit {0})
  state = after unannotated parameters start lines

  abbrev log : Log
  log = log_of state.entries

  abbrev tables : ℕ
  tables = length state.catalogue

  abbrev past : Environment (Unit {0})
  past = as_of unannotated spans

  abbrev serial : Log
  serial = serial_log order log

  abbrev made : Environment (Unit {0})
  made = (made_by state order).committed

  parts : (is_none (replay_stop unannotated serial parameters tables (length order)) ≡ true)
      × (list_all (λ t. first_do_same parameters log tables past order t (log.statement_count t)) order && ends_same parameters log tables past order tables ≡ true)
  parts =
      and_parts (is_none (replay_stop unannotated serial parameters tables (length order)))
      (list_all (λ t. first_do_same parameters log tables past order t (log.statement_count t)) order && ends_same parameters log tables past order tables) is

  both : (list_all (λ t. first_do_same parameters log tables past order t (log.statement_count t)) order ≡ true) × (ends_same parameters log tables past order tables ≡ true)
  both = and_parts (list_all (λ t. first_do_same parameters log tables past order t (log.statement_count t)) order) (ends_same parameters log tables past order tables) parts.1

  history : IsHistory unannotated serial made (made_by state order).written
  history = serial_history unannotated parameters log order tables once (none_from (replay_stop unannotated serial parameters tables (length order)) parts.0)

  own : IsHistory unannotated log state.committed state.written
  own = (all_reached unannotated parameters lines).history

  -- the row versions hold the versions
  held : (v : ℕ) → v ≤ versions_in state.entries → SameTables (past v) (state.committed v)
  held v l = versions_held unannotated log state.committed state.written own spans (λ table. unpermuted _ _ (are table)) v l

  -- what a transaction read before a statement, and what it reads now
  module _ (t k : ℕ) (there : Contains order t) (l : k < statement_count t state.entries) where
    maker : (u : ℕ) × (u < versions_in state.entries) × (committer_of (suc u) state.entries ≡ t)
    maker = numbered_from (λ version. committer_of version state.entries) (versions_in state.entries) t (Contains-permutation order (committers state.entries) t all there)

    before : SameTables (run_before unannotated log t k past) (start_by unannotated log t k state.committed)
    before table =
        through
        (before_same unannotated log t k past state.committed (λ j m. held (log.version t j) (reads j m)) table)
        (same_from _ _ (ap (λ (db : Database (Unit {0})). db table)
        (subst (λ t. k < statement_count t state.entries → run_before unannotated log t k state.committed ≡ start_by unannotated log t k state.committed) maker.2
        (λ within. history_before unannotated log state.committed state.written own maker.0 k maker.1 within) l)))
      where
        reads : (j : ℕ) → j ≤ suc k → log.version t j ≤ versions_in state.entries
        reads j m =
            let order_of = own.order maker.0 j maker.1 in
            let below : log.version (committer_of (suc maker.0) state.entries) j ≤ maker.0 =
            order_of (subst (λ u. j ≤ statement_count u state.entries) (sym maker.2) (omega (arith, m, l))) in
            let at : log.version (committer_of (suc maker.0) state.entries) j ≡ log.version t j = ap (λ u. log.version u j) maker.2 in
            omega (arith, below, at, maker.1)

    now : run_before unannotated serial t k made ≡ start_by unannotated serial t k made
    now =
        let at : maker_in order (suc there.0) ≡ t = sym (get_or_default_zero order there.0 t there.1) ∙ there.2 in
        subst (λ t. k < statement_count t state.entries → run_before unannotated serial t k made ≡ start_by unannotated serial t k made) at
        (λ within. history_before unannotated serial made (made_by state order).written history there.0 k there.1 within) l

  statements_same : (t k : ℕ) (statement : Statement) → Contains order t → k < statement_count t state.entries → statement_at t (suc k) state.entries ≡ Some statement
      → IsPermutation (shown t (suc k) statement (start_by unannotated log t k state.committed)) (shown t (suc k) statement (start_by unannotated serial t k made))
  statements_same t k statement there l here =
      let few = of_all (λ t. first_do_same parameters log tables past order t (log.statement_count t)) order t both.0 there in
      let same = first_same parameters log tables past order t k (log.statement_count t) statement l here few in
      let rows = same_rows (shown t (suc k) statement (run_before unannotated log t k past)) (shown t (suc k) statement (run_before unannotated serial t k made))
      (and_parts _ (are_same (shown t (suc k) statement (run_before unannotated log t k past)) (shown t (suc k) statement (run_before unannotated serial t k made))) same).1 in
      permuted _ _
      (through (turned (shown_same t (suc k) statement _ _ (before t k there l)))
      (through (unpermuted _ _ rows) (same_from _ _ (ap (shown t (suc k) statement) (now t k there l)))))

  last_same : (table : ℕ) → table < tables → IsPermutation (map row_cells (state.committed (versions_in state.entries) table)) (map row_cells (made (length order) table))
  last_same table l =
      let rows = same_rows (map row_cells (past (versions_in state.entries) table)) (map row_cells (made (length order) table)) (end_same parameters log tables past order tables table l both.1) in
      permuted _ _ (through (mapped row_cells (turned (held (versions_in state.entries) (omega arith) table))) (unpermuted _ _ rows))

  pub serial_same : IsSerialAs state order
  serial_same = record {
    all = all;
    history = history;
    changes = statements_same;
    answers = λ t k select there l here. statements_same t k (read select) there l here;
    last = last_same;
  }
