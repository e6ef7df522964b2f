-- A transaction of a history that was lost had to be: not every row that it wrote was first.
use Rattle.std.proofs.Common.{◌≡◌, ◌≢◌, inl, inr, ℕ, suc, ◌≤◌, Bool, true, false, cond, nat_le, List, [], ◌∷◌, Option, Some, None, Result, Ok, Err, refl, sym, ap, ◌∙◌, subst, arith, ⊎_elim}
use Rattle.std.specs.Prelude.{◌==◌}
use Rattle.std.specs.List.{AllByRecursion}
use Rattle.std.proofs.lemmas.Bool.{eqb-true, false≢true}
use Rattle.std.proofs.lemmas.Option.{none-some, same_Some}
use Rattle.gp_base.proofs.SmallLemmas.{eq_not}
use Rattle.gp_base.specs.declared.refusal.Fate.TheVariants as fate
use Rattle.gp_base.specs.declared.refusal.Refusal.{Refusal}
use Rattle.gp_base.specs.declared.table.Table.{Table}
use Rattle.gp_base.specs.Annotated.{Annotations}
use Rattle.gp_algebra.specs.Effects.{Written}
use Rattle.gp_algebra.specs.Statements.{Statement}
use Rattle.gp_grammar.specs.Syntax.{Command}
use Rattle.gp_machine.proofs.ActionLemmas.{event-answered}
use Rattle.gp_machine.proofs.Distinct.{each_weaker}
use Rattle.gp_machine.proofs.LogLemmas.{at_other, began_same, committed_same, created_same, ended_same, ran_same, seen_agree, versions_le}
use Rattle.gp_machine.proofs.ReachedLemmas.{event_reached, start_reached, value_cases}
use Rattle.gp_machine.specs.ActionForms as a
use Rattle.gp_machine.specs.ActionForms.{Action, Begin, Commit, Create, Rollback, Run, action_of}
use Rattle.gp_machine.specs.Bases.{Based}
use Rattle.gp_machine.specs.Committed.{is_written}
use Rattle.gp_machine.specs.ConflictForms.{IsBased, IsLeastConflict}
use Rattle.gp_machine.specs.Conflicts.{Conflict, least_conflict}
use Rattle.gp_machine.specs.Entries.{Began, Committed, Created, End, Ended, Entry, Lost, Ran, RolledBack, fate_of, log_of, statement_count, statement_version, statements_in, transactions_in, versions_in}
use Rattle.gp_machine.specs.Event as e
use Rattle.gp_machine.specs.Event.{Line, after, conflict_of, count_refusal, creation_refusal, event, is_full, refusal_of, start_now}
use Rattle.gp_machine.specs.Histories.{IsFirst}
use Rattle.gp_machine.specs.Parameters.{Parameters}
use Rattle.gp_machine.specs.Reached.{IsReached}
use Rattle.gp_machine.specs.Reading.{Seen}
use Rattle.gp_machine.specs.ReadBy.{seen_by}
use Rattle.gp_machine.specs.State.{Active, State, start}

-- ---- the fate of a transaction behind one more entry

behind-commit : (line session u t : ℕ) (entries : List Entry) → fate_of t (Committed line session u ∷ entries) ≡ fate.Lost → fate_of t entries ≡ fate.Lost
behind-commit line session u t entries is =
    elim (u == t) as (λ b. cond b (fate.Committed (suc (versions_in entries))) (fate_of t entries) ≡ fate.Lost → fate_of t entries ≡ fate.Lost) [ true ↦ λ own. absurd cc | false ↦ λ own. own ] is

behind-rollback : (line session u t : ℕ) (entries : List Entry) → fate_of t (Ended line session RolledBack u ∷ entries) ≡ fate.Lost → fate_of t entries ≡ fate.Lost
behind-rollback line session u t entries is =
    elim (u == t) as (λ b. cond b fate.RolledBack (fate_of t entries) ≡ fate.Lost → fate_of t entries ≡ fate.Lost) [ true ↦ λ own. absurd cc | false ↦ λ own. own ] is

of-based : (P : Based → Type 0) (based : Based) (all : List Based) → IsBased based all → AllByRecursion P all → P based
of-based P based [] is each = absurd is
of-based P based (other ∷ others) (inl own) each = subst P (sym own) each.0
of-based P based (other ∷ others) (inr is) each = of-based P based others is each.1

module _ {M : Type 0} (domain : Annotations M) where
  abbrev AllFirst : State M → ℕ → Type 0
  AllFirst state t = AllByRecursion (IsFirst state.written (versions_in state.entries)) (seen_by domain (log_of state.entries) t (statement_count t state.entries) state.committed).written

  pub record LosesRightly (state : State M) : Type 0 where
    pub known : (t : ℕ) → fate_of t state.entries ≡ fate.Lost → t ≤ transactions_in state.entries
    pub running : (session : ℕ) (active : Active M) → state.active session ≡ Some active → fate_of active.transaction state.entries ≡ fate.Lost → ⊥
    pub lost : (t : ℕ) → fate_of t state.entries ≡ fate.Lost → AllFirst state t → ⊥

  -- what was not read since
  same-first : (written : ℕ → List Written) (n : ℕ) (one other : Seen M) → other ≡ one → AllByRecursion (IsFirst written n) other.written → AllByRecursion (IsFirst written n) one.written
  same-first written n one other same all = subst (λ (seen : Seen M). AllByRecursion (IsFirst written n) seen.written) same all

  module _ (parameters : Parameters) (state : State M) (line session : ℕ) (reached : IsReached domain parameters state) (own : LosesRightly state) where
    abbrev count-of : ℕ → ℕ
    count-of t = statement_count t state.entries

    abbrev seen-of : ℕ → Seen M
    seen-of t = seen_by domain (log_of state.entries) t (count-of t) state.committed

    created : (table : Table) → LosesRightly (e.created state line session table)
    created table = record {
      known = own.known;
      running = own.running;
      lost = λ t is all.
          own.lost t is
          (same-first state.written (versions_in state.entries) (seen-of t) _
          (seen_agree domain (log_of state.entries) (log_of (Created line session table ∷ state.entries)) t (count-of t) (count-of t) state.committed state.committed (created_same line session table state.entries t (count-of t))
          (omega arith) (λ k l. refl)) all);
    }

    began : (level : Bool) → LosesRightly (e.began state line session level)
    began level = record {
      known = λ t is. let most = own.known t is in omega (arith, most);
      running = λ other active found is.
          ⊎_elim
          (λ here. let same : suc (transactions_in state.entries) ≡ active.transaction = ap (λ (b : Active M). b.transaction) (same_Some _ active here.1) in let most = own.known active.transaction is in omega (arith, same, most))
          (λ there. own.running other active there.1 is) (value_cases session _ state.active other (Some active) found);
      lost = λ t is all.
          let most = own.known t is in
          own.lost t is
          (same-first state.written (versions_in state.entries) (seen-of t) _
          (seen_agree domain (log_of state.entries) (log_of (Began line session (suc (transactions_in state.entries)) level ∷ state.entries)) t (count-of t) (count-of t) state.committed state.committed
          (began_same line session (suc (transactions_in state.entries)) level state.entries t (count-of t) (λ same. omega (arith, same, most))) (omega arith) (λ k l. refl)) all);
    }

    module _ (active : Active M) (found : state.active session ≡ Some active) where
      accepted : (command : Command) (statement : Statement) → LosesRightly (e.accepted domain state line session active command statement)
      accepted command statement = record {
        known = own.known;
        running = λ other some is-there is.
            ⊎_elim
            (λ here. let same : active.transaction ≡ some.transaction = ap (λ (b : Active M). b.transaction) (same_Some _ some here.1) in own.running session active found (subst (λ t. fate_of t state.entries ≡ fate.Lost) (sym same) is))
            (λ there. own.running other some there.1 is) (value_cases session _ state.active other (Some some) is-there);
        lost = λ t is all.
            let apart : active.transaction ≢ t = λ same. own.running session active found (subst (λ u. fate_of u state.entries ≡ fate.Lost) (sym same) is) in
            let entries : List Entry = Ran line session command active.transaction statement ∷ state.entries in
            let count : statement_count t entries ≡ count-of t = ap (λ b. cond b (suc (count-of t)) (count-of t)) (eq_not active.transaction t apart) in
            own.lost t is
            (same-first state.written (versions_in state.entries) (seen-of t) (seen_by domain (log_of entries) t (statement_count t entries) state.committed)
            (ap (λ n. seen_by domain (log_of entries) t n state.committed) count
            ∙ seen_agree domain (log_of state.entries) (log_of entries) t (count-of t) (count-of t) state.committed state.committed
            (ran_same line session command active.transaction statement state.entries t (count-of t) (omega arith)) (omega arith) (λ k l. refl)) all);
      }

      published : LosesRightly (e.published state line session active)
      published = record {
        known = λ t is. own.known t (behind-commit line session active.transaction t state.entries is);
        running = λ other some is-there is.
            ⊎_elim (λ here. none-some some here.1) (λ there. own.running other some there.1 (behind-commit line session active.transaction some.transaction state.entries is))
            (value_cases session None state.active other (Some some) is-there);
        lost = λ t is all.
            let n = versions_in state.entries in
            let later : State M = e.published state line session active in
            own.lost t (behind-commit line session active.transaction t state.entries is)
            (each_weaker (IsFirst state.written n) (IsFirst later.written (suc n))
            (λ based first v above within.
            ap (is_written based.pair.table based.pair.identity) (sym (at_other (suc n) _ state.written v (λ same. omega (arith, same, within)))) ∙ first v above (omega (arith, within)))
            (seen-of t).written
            (same-first later.written (suc n) (seen-of t) _
            (seen_agree domain (log_of state.entries) (log_of later.entries) t (count-of t) (count-of t) state.committed later.committed (committed_same line session active.transaction state.entries t (count-of t)) (omega arith)
            (λ k l. at_other (suc n) _ state.committed (statement_version t k state.entries) (λ same. omega (arith, same, versions_le t k state.entries)))) all));
      }

      still-first : (end : End) (t : ℕ) → AllFirst (e.ended state line session active end) t → AllFirst state t
      still-first end t all =
          same-first state.written (versions_in state.entries) (seen-of t) _
          (seen_agree domain (log_of state.entries) (log_of (Ended line session end active.transaction ∷ state.entries)) t (count-of t) (count-of t) state.committed state.committed
          (ended_same line session end active.transaction state.entries t (count-of t)) (omega arith) (λ k l. refl)) all

      rolled-back : LosesRightly (e.ended state line session active RolledBack)
      rolled-back = record {
        known = λ t is. own.known t (behind-rollback line session active.transaction t state.entries is);
        running = λ other some is-there is.
            ⊎_elim (λ here. none-some some here.1) (λ there. own.running other some there.1 (behind-rollback line session active.transaction some.transaction state.entries is))
            (value_cases session None state.active other (Some some) is-there);
        lost = λ t is all. own.lost t (behind-rollback line session active.transaction t state.entries is) (still-first RolledBack t all);
      }

      -- a COMMIT that is lost
      module _ (conflict : Conflict) (is-least : IsLeastConflict state.written (versions_in state.entries) active.seen.written conflict) where
        -- it is the transaction that ends, or another one that was lost before
        by-end : (t : ℕ) (X : Type 0) → (active.transaction ≡ t → X) → (fate_of t state.entries ≡ fate.Lost → X) → fate_of t (Ended line session Lost active.transaction ∷ state.entries) ≡ fate.Lost → X
        by-end t X now before is =
            elim (active.transaction == t) as (λ b. (active.transaction == t) ≡ b → cond b fate.Lost (fate_of t state.entries) ≡ fate.Lost → X) [
              | true ↦ λ same own. now (eqb-true active.transaction t same)
              | false ↦ λ other own. before own
            ] refl is

        not-first : AllByRecursion (IsFirst state.written (versions_in state.entries)) active.seen.written → ⊥
        not-first all =
            false≢true
            (sym (of-based (IsFirst state.written (versions_in state.entries)) (record { pair = conflict.pair; base = is-least.base }) active.seen.written is-least.among all conflict.version is-least.later is-least.there)
            ∙ is-least.version)

        loses : LosesRightly (e.ended state line session active Lost)
        loses = record {
          known = λ t is.
              by-end t (t ≤ transactions_in state.entries)
              (λ same. let most = (reached.running session active found).known in omega (arith, same, most)) (own.known t) is;
          running = λ other some is-there is.
              ⊎_elim (λ here. none-some some here.1)
              (λ there. by-end some.transaction ⊥ (λ same. there.0 (reached.apart other session some active there.1 found (sym same))) (own.running other some there.1) is)
              (value_cases session None state.active other (Some some) is-there);
          lost = λ t is all.
              let r = reached.running session active found in
              by-end t ⊥
              (λ same.
              not-first
              (same-first state.written (versions_in state.entries) active.seen (seen-of active.transaction)
              (ap (λ n. seen_by domain (log_of state.entries) active.transaction n state.committed) r.count ∙ sym r.seen)
              (subst (AllFirst state) (sym same) (still-first Lost t all))))
              (λ before. own.lost t before (still-first Lost t all)) is;
        }

  -- ---- an event, and lines

  module _ (parameters : Parameters) (least : (written : ℕ → List Written) (versions : ℕ) (all : List Based) (conflict : Conflict) → least_conflict written versions all ≡ Some conflict → IsLeastConflict written versions all conflict) where
    event-loses : (state : State M) (line session : ℕ) (command : Command) → IsReached domain parameters state → LosesRightly state → LosesRightly (event domain parameters state line session command).0
    event-loses state line session command reached own =
        subst (λ outcome. LosesRightly outcome.0) (sym (event-answered domain parameters state line session command)) (go (state.active session) refl (action_of command))
      where
        create-it : (table : Table) (refusal : Option Refusal) → LosesRightly (e.creating state line session table refusal).0
        create-it table (Some refusal) = own
        create-it table None = created parameters state line session reached own table

        begin-it : (level full : Bool) → LosesRightly (e.beginning state line session level full).0
        begin-it level true = own
        begin-it level false = began parameters state line session reached own level

        run-it : (active : Active M) → state.active session ≡ Some active → (command : Command) (statement : Statement) (refusal : Option Refusal) → LosesRightly (e.ran domain state line session active command statement refusal).0
        run-it active found command statement (Some refusal) = own
        run-it active found command statement None = accepted parameters state line session reached own active found command statement

        check-it : (active : Active M) → state.active session ≡ Some active → (command : Command) (refusal : Option Refusal) (checked : Result Statement Refusal)
            → LosesRightly (e.running domain state line session active command parameters refusal checked).0
        check-it active found command (Some refusal) checked = own
        check-it active found command None (Err refusal) = own
        check-it active found command None (Ok statement) =
            run-it active found command statement (refusal_of domain parameters state.catalogue active.transaction (suc active.statements) statement (start_now state active))

        end-it : (active : Active M) → state.active session ≡ Some active → (lost : Option Conflict) → conflict_of state active ≡ lost → (full : Bool) → LosesRightly (e.committing state line session active lost full).0
        end-it active found (Some conflict) is full =
            loses parameters state line session reached own active found conflict (least state.written (versions_in state.entries) active.seen.written conflict is)
        end-it active found None is true = own
        end-it active found None is false = published parameters state line session reached own active found

        go : (active : Option (Active M)) → state.active session ≡ active → (action : Action) → LosesRightly (a.answered domain parameters state line session active action).0
        go None found (Create table) = create-it table (creation_refusal parameters state.catalogue table)
        go None found (Begin level) = begin-it level (nat_le parameters.transactions (transactions_in state.entries))
        go None found (Run command) = own
        go None found Commit = own
        go None found Rollback = own
        go (Some active) found (Create table) = own
        go (Some active) found (Begin level) = own
        go (Some active) found (Run command) = check-it active found command (count_refusal parameters active.statements (statements_in state.entries)) (parameters.checked state.catalogue command)
        go (Some active) found Commit = end-it active found (conflict_of state active) refl (is_full parameters state active)
        go (Some active) found Rollback = rolled-back parameters state line session reached own active found

    loses-from : (state : State M) (lines : List Line) → IsReached domain parameters state → LosesRightly state → LosesRightly (after domain parameters state lines)
    loses-from state [] reached own = own
    loses-from state (line ∷ lines) reached own =
        loses-from (event domain parameters state line.number line.session line.command).0 lines (event_reached domain parameters state line.number line.session line.command reached)
        (event-loses state line.number line.session line.command reached own)

    pub all-lose-rightly : (lines : List Line) → LosesRightly (after domain parameters start lines)
    all-lose-rightly lines =
        loses-from start lines (start_reached domain parameters) (record { known = λ t is. absurd cc; running = λ session active found is. none-some active found; lost = λ t is all. absurd cc })
