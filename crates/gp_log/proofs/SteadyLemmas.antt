-- A transaction that is not read committed has read its begin version, where no statement of it comes before its BEGIN.
use Rattle.std.proofs.Common.{◌≡◌, ◌≢◌, ℕ, zero, suc, ◌≤◌, ◌==◌, Bool, true, false, cond, List, [], ◌∷◌, refl, ap, arith, ⊎_elim}
use Rattle.std.specs.Prelude.{◌&&◌}
use Rattle.std.proofs.lemmas.Bool.{cases_lt, eqb-true}
use Rattle.std.proofs.lemmas.Bool.Decides.{nat_tests}
use Rattle.gp_algebra.specs.Statements.{Statement}
use Rattle.gp_base.specs.declared.table.Table.{Table}
use Rattle.gp_grammar.specs.Syntax.{Command}
use Rattle.gp_machine.specs.Entries.{Began, Committed, Created, End, Ended, Entry, Ran, begin_version, is_read_committed, statement_count, statement_version, versions_in}
use Rattle.gp_log.specs.Indexing.{AreSteady}

pub unequal_from : (a b : ℕ) → (a == b) ≡ false → a ≢ b
unequal_from a b e f = grind (arith, nat_tests)

pub steady_none : AreSteady []
steady_none t zero e l = refl
steady_none t (suc k) e l = absurd (omega arith)

pub steady_created : (line session : ℕ) (table : Table) (log : List Entry) → AreSteady log → AreSteady (Created line session table ∷ log)
steady_created line session table log steady t zero e l = refl
steady_created line session table log steady t (suc k) e l = steady t (suc k) e l

pub steady_began : (line session u : ℕ) (level : Bool) (log : List Entry) → statement_count u log ≡ 0 → AreSteady log → AreSteady (Began line session u level ∷ log)
steady_began line session u level log none steady t zero e l = refl
steady_began line session u level log none steady t (suc k) e l = go (u == t) refl e (steady t (suc k))
  where
    go : (b : Bool) → (u == t) ≡ b → cond b level (is_read_committed t log) ≡ false → (is_read_committed t log ≡ false → suc k ≤ statement_count t log → statement_version t (suc k) log ≡ begin_version t log)
        → statement_version t (suc k) log ≡ cond b (versions_in log) (begin_version t log)
    go true own e before = let same = ap (λ n. statement_count n log) (eqb-true u t own) in absurd (omega arith)
    go false own e before = before e l

pub steady_ran : (line session : ℕ) (command : Command) (u : ℕ) (statement : Statement) (log : List Entry) → AreSteady log → AreSteady (Ran line session command u statement ∷ log)
steady_ran line session command u statement log steady t zero e l = refl
steady_ran line session command u statement log steady t (suc k) e l = go (u == t) (suc (statement_count t log) == suc k) refl l (steady t (suc k) e)
  where
    less : (c k : ℕ) → suc c ≢ suc k → suc k ≤ suc c → suc k ≤ c
    less c k n l = ⊎_elim (λ below. omega arith) (λ above. absurd (n (omega arith))) (cases_lt k c)

    go : (own last : Bool) → (suc (statement_count t log) == suc k) ≡ last → suc k ≤ cond own (suc (statement_count t log)) (statement_count t log)
        → (suc k ≤ statement_count t log → statement_version t (suc k) log ≡ begin_version t log)
        → cond (own && last) (cond (is_read_committed t log) (versions_in log) (begin_version t log)) (statement_version t (suc k) log) ≡ begin_version t log
    go true true same l before = ap (λ b. cond b (versions_in log) (begin_version t log)) e
    go true false same l before = before (less (statement_count t log) k (unequal_from (suc (statement_count t log)) (suc k) same) l)
    go false last same l before = before l

pub steady_committed : (line session u : ℕ) (log : List Entry) → AreSteady log → AreSteady (Committed line session u ∷ log)
steady_committed line session u log steady t zero e l = refl
steady_committed line session u log steady t (suc k) e l = steady t (suc k) e l

pub steady_ended : (line session : ℕ) (how : End) (u : ℕ) (log : List Entry) → AreSteady log → AreSteady (Ended line session how u ∷ log)
steady_ended line session how u log steady t zero e l = refl
steady_ended line session how u log steady t (suc k) e l = steady t (suc k) e l
