-- The spans that an engine keeps, and the rows that its writes name, show the conflict of a transaction.
use Rattle.gp_machine.proofs.Prelude.{◌≡◌, ◌≢◌, ℕ, zero, suc, ◌-◌, ◌<◌, ◌≤◌, ◌⊎◌, inl, inr, ⊎_elim, Bool, true, false, cond, List, [], ◌∷◌, refl, sym, ap, ◌∙◌, subst, arith, map, Option, Some, None, ◌&&◌, ◌||◌, ◌==◌, filter, false≢true, and_parts, eqb-true, not-true, or_right, Element, answer, Written, given_from, made, written_in, wrote, Statement, delete, insert, insert_select, read, update, Annotated, Annotations, Database, Environment, unannotated, Identity, same_identity, identity_transaction, Cell, passes, action_of, Based, is_new, pairs, with_base, is_written, Conflict, least_conflict, HaveOneBase, IsBased, IsLeastConflict, Answers, FindsConflict, Follows, Log, begin_version, log_of, Line, after, as_of, next_written, spans_of, IsHistory, Parameters, holds_identity, IsReached, Kept, Overlay, Represents, RepresentsActive, base_in, Seen, wrote_by, seen_by, start_by, Active, State, start, Reply, holds_at, row_of, rows_at, spans_at, Span, AllByRecursion, each_append, each_map, eq_itself, some_none}
use Rattle.std.specs.Prelude.{option_and_then}
use Rattle.gp_machine.proofs.ActiveLemmas.{IsOver, active_clean, active_over, made_by_others}
use Rattle.gp_machine.proofs.BaseLemmas.{base_is, bases_kept, found as what_holds, is_based, of_based}
use Rattle.gp_machine.proofs.CommitLemmas.{Clean, IsMadeBy, all_sound, clean, started_kept, view_kept}
use Rattle.gp_machine.proofs.Distinct.{each_both, each_filter, each_weaker}
use Rattle.gp_machine.proofs.EngineLemmas.{line_follows}
use Rattle.gp_machine.proofs.LeastLemmas.{least_conflict_is, least_once, next_first}
use Rattle.gp_machine.proofs.Made.{same_equal, same_itself}
use Rattle.gp_machine.proofs.ReachedLemmas.{all_reached, not_lost}
use Rattle.gp_machine.proofs.SpanEnds.{spans_end}
use Rattle.gp_machine.proofs.SpanLaws.{each_span, plain_spans_rows, spans_apart, spans_whole}
use Rattle.gp_machine.proofs.SpanOrder.{next_bounds, next_upto}
use Rattle.gp_machine.proofs.StepViews.{is_written_in}
use Rattle.gp_machine.proofs.ViewLemmas.{holds_others}
use Rattle.gp_machine.specs.EngineLine.{ShowsConflict, next_write}
use Rattle.gp_versions.proofs.HeldLemmas.{held-end}
use Rattle.gp_versions.specs.TableSpans.{later, later_end, least, written_after}

-- ---- rows that a transaction wrote are its own, or are in the versions of their bases

or_cases : (a b : Bool) → (a || b) ≡ true → (a ≡ true) ⊎ (b ≡ true)
or_cases true b e = inl refl
or_cases false b e = inr e

pub holds_own : {M : Type 0} (P : Identity → Type 0) (id : Identity) (rows : List (Annotated M)) → AllByRecursion (λ row. P row.identity) rows → holds_identity id rows ≡ true → P id
holds_own P id [] each e = absurd (false≢true e)
holds_own P id (row ∷ rows) each e =
    (elim (same_identity row.identity id) as (λ b. same_identity row.identity id ≡ b → (b || holds_identity id rows) ≡ true → P id) [
      | true ↦ λ is e. subst P (same_equal row.identity id is) each.0
      | false ↦ λ is e. holds_own P id rows each.1 e
    ]) refl e

holds_filter : {M : Type 0} (test : Annotated M → Bool) (id : Identity) (rows : List (Annotated M)) → holds_identity id (filter test rows) ≡ true → holds_identity id rows ≡ true
holds_filter test id [] e = e
holds_filter test id (row ∷ rows) e =
    (elim (test row) as (λ b. holds_identity id (cond b (row ∷ filter test rows) (filter test rows)) ≡ true → (same_identity row.identity id || holds_identity id rows) ≡ true) [
      | true ↦ λ e. ⊎_elim (λ here. ap (λ b. b || holds_identity id rows) here) (λ there. or_right (same_identity row.identity id) (holds_identity id rows) (holds_filter test id rows there)) (or_cases (same_identity row.identity id) (holds_identity id (filter test rows)) e)
      | false ↦ λ e. or_right (same_identity row.identity id) (holds_identity id rows) (holds_filter test id rows e)
    ]) e

module _ {M : Type 0} (domain : Annotations M) where
  given_own : (t k n : ℕ) (rows : List (List Cell)) → AllByRecursion (λ row. identity_transaction row.identity ≡ t) (given_from domain t k n rows)
  given_own t k n [] = tt
  given_own t k n (cells ∷ rows) = (refl, given_own t k (suc n) rows)

  made_own : (t k : ℕ) (elements : List (Element M)) → AllByRecursion (λ row. identity_transaction row.identity ≡ t) (map (made domain t k) elements)
  made_own t k [] = tt
  made_own t k (element ∷ elements) = (refl, made_own t k elements)

  -- a row that a statement wrote in a table
  in_table : (table other : ℕ) (id : Identity) (rows : List (Annotated M)) → is_written other id (written_in table rows) ≡ true → (other ≡ table) × (holds_identity id rows ≡ true)
  in_table table other id rows e =
      let both = and_parts (table == other) (holds_identity id rows) (sym (is_written_in domain table other id rows) ∙ e) in
      (sym (eqb-true table other both.0), both.1)

  wrote_own : (t k : ℕ) (statement : Statement) (view : Database M) (table : ℕ) (id : Identity) → is_written table id (wrote domain t k statement view) ≡ true
      → (identity_transaction id ≡ t) ⊎ (holds_identity id (view table) ≡ true)
  wrote_own t k (insert place rows) view table id e = inl (holds_own (λ id. identity_transaction id ≡ t) id (given_from domain t k 1 rows) (given_own t k 1 rows) (in_table place table id _ e).1)
  wrote_own t k (insert_select place select) view table id e = inl (holds_own (λ id. identity_transaction id ≡ t) id (map (made domain t k) (answer domain select view)) (made_own t k (answer domain select view)) (in_table place table id _ e).1)
  wrote_own t k (update place sets c) view table id e = let both = in_table place table id _ e in inr (holds_filter (λ row. passes c row.cells) id (view table) (subst (λ p. holds_identity id (filter (λ row. passes c row.cells) (view p)) ≡ true) (sym both.0) both.1))
  wrote_own t k (delete place c) view table id e = let both = in_table place table id _ e in inr (holds_filter (λ row. passes c row.cells) id (view table) (subst (λ p. holds_identity id (filter (λ row. passes c row.cells) (view p)) ≡ true) (sym both.0) both.1))
  wrote_own t k (read select) view table id e = absurd (false≢true e)

  stepped_own : (t k : ℕ) (statement : Option Statement) (view : Database M) (table : ℕ) (id : Identity) → is_written table id (wrote_by domain t k statement view) ≡ true
      → (identity_transaction id ≡ t) ⊎ (holds_identity id (view table) ≡ true)
  stepped_own t k None view table id e = absurd (false≢true e)
  stepped_own t k (Some statement) view table id e = wrote_own t k statement view table id e

-- each of these rows satisfies this, if each of the rows that were written does
each_of : (P : Written → Type 0) (all : List Written) → ((pair : Written) → is_written pair.table pair.identity all ≡ true → P pair) → AllByRecursion P all
each_of P [] f = tt
each_of P (pair ∷ all) f = (
  f pair (ap (λ b. b || is_written pair.table pair.identity all) (λ i. eq_itself pair.table i && same_itself pair.identity i)),
  each_of P all (λ other e. f other (or_right ((pair.table == other.table) && same_identity pair.identity other.identity) (is_written other.table other.identity all) e)),
)

module _ {M : Type 0} (domain : Annotations M) (log : Log) (committed : Environment M) (written : ℕ → List Written) (history : IsHistory domain log committed written) where
  -- a row that a transaction wrote is its own, or is in the version of its base, which is one that the transaction read
  pub record IsRead (t k : ℕ) (based : Based) : Type 0 where
    pub number : ℕ
    pub within : number ≤ k
    pub base : based.base ≡ log.version t number
    pub read : (identity_transaction based.pair.identity ≡ t) ⊎ (holds_identity based.pair.identity (committed based.base based.pair.table) ≡ true)

  pub bases_read : (t k : ℕ) → Clean domain log committed written history t k → AllByRecursion (IsRead t k) (seen_by domain log t k committed).written
  bases_read t zero fit = tt
  bases_read t (suc k) fit =
      each_append _ (seen_by domain log t k committed).written _
      (each_weaker _ _ (λ based r. record { number = r.number; within = omega (arith, r.within); base = r.base; read = r.read }) (seen_by domain log t k committed).written (bases_read t k less))
      (each_map _ (λ pair. (is_new (seen_by domain log t k committed).written pair ≡ true) × ((identity_transaction pair.identity ≡ t) ⊎ (holds_identity pair.identity (start_by domain log t k committed pair.table) ≡ true))) (with_base (log.version t (suc k)))
      (λ pair r. record { number = suc k; within = omega arith; base = refl; read = ⊎_elim inl (λ held. inr (there pair r.0 held)) r.1 })
      (filter (is_new (seen_by domain log t k committed).written) now)
      (each_filter _ (λ pair. (identity_transaction pair.identity ≡ t) ⊎ (holds_identity pair.identity (start_by domain log t k committed pair.table) ≡ true)) (is_new (seen_by domain log t k committed).written) (λ pair e r. (e, r)) now
      (each_of _ now (λ pair e. stepped_own domain t (suc k) (log.statement t (suc k)) (start_by domain log t k committed) pair.table pair.identity e))))
    where
      less : Clean domain log committed written history t k
      less = record { different = λ j l. fit.different j (omega arith); unmarked = λ j l. fit.unmarked j (omega arith); others = λ j l. fit.others j (omega arith) }

      now : List Written
      now = wrote_by domain t (suc k) (log.statement t (suc k)) (start_by domain log t k committed)

      -- a row that was not written before is read as it is in the version
      there : (pair : Written) → is_new (seen_by domain log t k committed).written pair ≡ true → holds_identity pair.identity (start_by domain log t k committed pair.table) ≡ true → holds_identity pair.identity (committed (log.version t (suc k)) pair.table) ≡ true
      there pair new held =
          let p : Identity → Bool = λ id. is_written pair.table id (pairs (seen_by domain log t k committed).written) in
          sym (holds_others p pair.identity (committed (log.version t (suc k)) pair.table) (not-true _ new))
          ∙ sym (ap (holds_identity pair.identity) (started_kept domain log committed written history t k fit (view_kept domain log committed written history t k less) pair.table).others)
          ∙ holds_others p pair.identity (start_by domain log t k committed pair.table) (not-true _ new) ∙ held

  -- no row has two bases
  pub one_base : (t k : ℕ) → HaveOneBase (seen_by domain log t k committed).written
  one_base t zero = λ pair base other a b. absurd a
  one_base t (suc k) = bases_kept (log.version t (suc k)) (seen_by domain log t k committed).written (wrote_by domain t (suc k) (log.statement t (suc k)) (start_by domain log t k committed)) (one_base t k)

  -- a row that a version wrote was made by a transaction that made a version
  committed_own : (u table : ℕ) (id : Identity) → u < log.versions → is_written table id (written (suc u)) ≡ true → IsMadeBy log log.versions id
  committed_own u table id l e =
      let t : ℕ = log.committer (suc u) in
      let sound = all_sound domain log committed written history u (omega arith) in
      what_holds (λ table id. IsMadeBy log log.versions id) (seen_by domain log t (log.statement_count t) committed).written table id
      (each_weaker _ _ (λ based r. ⊎_elim (λ own. (u, l, own))
      (λ held.
      let o : log.version t r.number ≤ u = history.order u r.number l r.within in
      let by = holds_own (IsMadeBy log based.base) based.pair.identity (committed based.base based.pair.table) (sound based.base (omega (arith, r.base)) based.pair.table).makers held in
      (by.0, omega (arith, by.1, r.base), by.2))
      r.read) (seen_by domain log t (log.statement_count t) committed).written (bases_read t (log.statement_count t) (clean domain log committed written history u l sound (log.statement_count t) (omega arith))))
      (ap (is_written table id) (sym (history.wrote u l)) ∙ e)

-- ---- what the spans show

-- spans of other rows show no write of a row
no_write : (id : Identity) (v : ℕ) (spans : List Span) → AllByRecursion (λ (span : Span). same_identity span.id id ≡ false) spans → written_after id v spans ≡ None
no_write id v [] each = refl
no_write id v (span ∷ spans) each = ap (λ b. cond b (least (least (later v span.from) (later_end v span.to)) (written_after id v spans)) (written_after id v spans)) each.0 ∙ no_write id v spans each.1

module _ (log : Log) (committed : Environment (Unit {0})) (written : ℕ → List Written) (history : IsHistory unannotated log committed written) (active : Active (Unit {0})) (over : IsOver unannotated log committed active)
    (kept : Kept) (represented : (place : ℕ) → kept.spans place ≡ spans_of log.versions committed written place)
    (begun : ℕ) (overlay : Overlay) (runs : RepresentsActive kept.spans begun overlay active) where
  abbrev last : ℕ
  last = log.versions

  abbrev wrote_all : List Based
  wrote_all = active.seen.written

  -- each row that it wrote is its own, or is in the version of its base
  read_each : AllByRecursion (λ (based : Based). (based.base ≤ last) × ((identity_transaction based.pair.identity ≡ active.transaction) ⊎ (holds_identity based.pair.identity (committed based.base based.pair.table) ≡ true))) wrote_all
  read_each =
      subst (λ (seen : Seen (Unit {0})). AllByRecursion (λ (based : Based). (based.base ≤ last) × ((identity_transaction based.pair.identity ≡ active.transaction) ⊎ (holds_identity based.pair.identity (committed based.base based.pair.table) ≡ true))) seen.written) (sym over.seen)
      (each_weaker _ _ (λ based b. (let l = over.read b.number b.within in omega (arith, b.base), b.read)) _
      (bases_read unannotated log committed written history active.transaction active.statements (active_clean unannotated log committed written history active over)))

  bases : HaveOneBase wrote_all
  bases = subst (λ (seen : Seen (Unit {0})). HaveOneBase seen.written) (sym over.seen) (one_base unannotated log committed written history active.transaction active.statements)

  -- no span is of a row that the transaction made
  other_spans : (place : ℕ) → AllByRecursion (λ (span : Span). identity_transaction span.id ≢ active.transaction) (kept.spans place)
  other_spans place =
      subst (AllByRecursion (λ (span : Span). identity_transaction span.id ≢ active.transaction)) (sym (represented place))
      (each_span last committed written place (λ span. identity_transaction span.id ≢ active.transaction) (λ row. identity_transaction row.identity ≢ active.transaction) (λ from row l n. n)
      (λ v l. made_by_others unannotated log committed written history active over v l place) last (omega arith))

  -- so a row of its own has no next write
  own_unwritten : (place : ℕ) (id : Identity) (base : ℕ) → identity_transaction id ≡ active.transaction → written_after id base (kept.spans place) ≡ None
  own_unwritten place id base own = no_write id base (kept.spans place) (each_weaker _ _ (λ span n. unlike span n) (kept.spans place) (other_spans place))
    where
      unlike : (span : Span) → identity_transaction span.id ≢ active.transaction → same_identity span.id id ≡ false
      unlike span n = elim (same_identity span.id id) as (λ b. same_identity span.id id ≡ b → b ≡ false) [
        | true ↦ λ is. absurd (n (ap identity_transaction (same_equal span.id id is) ∙ own))
        | false ↦ λ is. refl
      ] refl

  -- the spans hold the rows of each version
  held_rows : (version place : ℕ) → version ≤ last → as_of unannotated kept.spans version place ≡ committed version place
  held_rows version place l = ap (rows_at unannotated version) (represented place) ∙ plain_spans_rows log committed written history version place l

  -- the next write of a row of a version
  next_is : (place base : ℕ) (id : Identity) → base ≤ last → holds_identity id (committed base place) ≡ true → written_after id base (kept.spans place) ≡ next_written written place id base (last - base)
  next_is place base id within held =
      ap (written_after id base) (represented place)
      ∙ holds_own (λ id. written_after id base (spans_of last committed written place) ≡ next_written written place id base (last - base)) id (rows_at unannotated base (spans_of last committed written place))
      (each_map _ (λ (span : Span). written_after span.id base (spans_of last committed written place) ≡ next_written written place span.id base (last - base)) (row_of unannotated) (λ span is. is) (spans_at base (spans_of last committed written place))
      (each_both _ _ _ (λ span a b. a ∙ b) (spans_at base (spans_of last committed written place))
      (held-end base (spans_of last committed written place) (spans_apart unannotated log committed written history place) (spans_whole last committed written place))
      (each_filter _ (λ (span : Span). (v : ℕ) → v ≤ last → holds_at v span ≡ true → span.to ≡ next_written written place span.id v (last - v)) (holds_at base) (λ span there right. right base within there)
      (spans_of last committed written place) (spans_end committed written last place))))
      (ap (holds_identity id) (sym (ap (rows_at unannotated base) (represented place)) ∙ held_rows base place within) ∙ held)

  -- a row that a version wrote is none of the transaction's own
  others_wrote : (place v : ℕ) (id : Identity) → 0 < v → v ≤ last → is_written place id (written v) ≡ true → identity_transaction id ≢ active.transaction
  others_wrote place zero id p l there own = absurd (omega arith)
  others_wrote place (suc u) id p l there own =
      let by = committed_own unannotated log committed written history u place id l there in
      over.unfinished by.0 by.1 (sym by.2 ∙ own)

  -- a row that the transaction wrote and a version after its base too: its next write
  wrote_next : (based : Based) (v : ℕ) → IsBased based wrote_all → based.base < v → v ≤ last → is_written based.pair.table based.pair.identity (written v) ≡ true
      → (w : ℕ) × (next_write kept overlay based.pair.table based.pair.identity ≡ Some w)
  wrote_next based v among l m there =
      let r = of_based _ wrote_all read_each based among in
      let other = others_wrote based.pair.table v based.pair.identity (omega arith) m there in
      let upto = next_upto written based.pair.table based.pair.identity (last - based.base) based.base v there l (omega (arith, r.0)) in (
        upto.0,
        ap (option_and_then (λ base. written_after based.pair.identity base (kept.spans based.pair.table))) (runs.base based.pair.table based.pair.identity (λ own. other (own ∙ runs.transaction)) ∙ base_is wrote_all based bases among)
            ∙ ⊎_elim (λ own. absurd (other own)) (λ held. next_is based.pair.table based.base based.pair.identity r.0 held) r.1 ∙ upto.1,
      )

  -- a next write that the spans show is the first write of a row after its base
  record IsNext (place version : ℕ) (id : Identity) : Type 0 where
    base : ℕ
    among : IsBased (record { pair = record { table = place; identity = id }; base = base }) wrote_all
    within : base ≤ last
    next : next_written written place id base (last - base) ≡ Some version

  shown_next : (place version : ℕ) (id : Identity) → next_write kept overlay place id ≡ Some version → IsNext place version id
  shown_next place version id shows = go (base_in kept.spans overlay place id) refl shows
    where
      none_some : None ≡ Some version → ⊥
      none_some e = cc

      go : (o : Option ℕ) → base_in kept.spans overlay place id ≡ o → option_and_then (λ base. written_after id base (kept.spans place)) o ≡ Some version → IsNext place version id
      go None is shows = absurd (none_some shows)
      go (Some base) is shows =
          let other : identity_transaction id ≢ active.transaction = λ own. some_none version (sym shows ∙ own_unwritten place id base own) in
          let among = is_based place id wrote_all base (sym (runs.base place id (λ own. other (own ∙ runs.transaction))) ∙ is) in
          let r = of_based _ wrote_all read_each (record { pair = record { table = place; identity = id }; base = base }) among in
          record {
            base = base;
            among = among;
            within = r.0;
            next = ⊎_elim (λ own. absurd (other own)) (λ held. sym (next_is place base id r.0 held) ∙ shows) r.1;
          }

  shown_least : (conflict : Conflict) → ShowsConflict kept overlay (Some conflict) → IsLeastConflict written last wrote_all conflict
  shown_least conflict (shows, least) =
      let is = shown_next conflict.pair.table conflict.version conflict.pair.identity shows in
      let bounds = next_bounds written conflict.pair.table conflict.pair.identity (last - is.base) is.base conflict.version is.next in
      let first = next_first written conflict.pair.table conflict.pair.identity (last - is.base) is.base conflict.version is.next in
      let l = is.within in
      record {
        base = is.base;
        among = is.among;
        later = bounds.0;
        there = omega (arith, bounds.1);
        version = first.0;
        first = first.1;
        least = λ other v among l m there. let next = wrote_next other v among l m there in least other.pair next.0 next.1;
      }

  pub shown_is : (o : Option Conflict) → ShowsConflict kept overlay o → o ≡ least_conflict written last wrote_all
  shown_is o shows = go o (least_conflict written last wrote_all) refl shows
    where
      go : (o p : Option Conflict) → least_conflict written last wrote_all ≡ p → ShowsConflict kept overlay o → o ≡ p
      go None None is shows = refl
      go None (Some conflict) is shows =
          let least = least_conflict_is written last wrote_all conflict is in
          let next = wrote_next (record { pair = conflict.pair; base = least.base }) conflict.version least.among least.later least.there least.version in
          absurd (some_none next.0 (sym next.1 ∙ shows conflict.pair.table conflict.pair.identity))
      go (Some conflict) None is shows =
          let least = shown_least conflict shows in
          let first = of_based _ wrote_all (not_lost written last wrote_all is) (record { pair = conflict.pair; base = least.base }) least.among in
          absurd (false≢true (sym (first conflict.version least.later least.there) ∙ least.version))
      go (Some conflict) (Some other) is shows = ap Some (least_once written last wrote_all conflict other bases (shown_least conflict shows) (least_conflict_is written last wrote_all other is))

-- so an engine that finds it by its spans finds the conflict of the history
pub found : (parameters : Parameters) (state : State (Unit {0})) (kept : Kept) → Represents kept state → IsReached unannotated parameters state → (session : ℕ) (conflict : Overlay → Option Conflict)
    → ((overlay : Overlay) → kept.sessions session ≡ Some overlay → ShowsConflict kept overlay (conflict overlay)) → FindsConflict kept state session conflict
found parameters state kept represents reached session conflict shows overlay active f e runs =
    shown_is (log_of state.entries) state.committed state.written reached.history active (active_over unannotated parameters state reached session active e) kept represents.spans (begin_version active.transaction state.entries) overlay runs (conflict overlay) (shows overlay f)

pub line_shown : (parameters : Parameters) (line : Line) (kept new : Kept) (answer : Reply) (conflict : Overlay → Option Conflict)
    → ((overlay : Overlay) → kept.sessions line.session ≡ Some overlay → ShowsConflict kept overlay (conflict overlay))
    → Answers parameters kept line.number line.session new answer conflict (kept.sessions line.session) (action_of line.command) → Follows parameters kept new line answer
line_shown parameters line kept new answer conflict shows answers =
    line_follows parameters line kept new answer conflict (λ lines represents. found parameters (after unannotated parameters start lines) kept represents (all_reached unannotated parameters lines) line.session conflict shows) answers
