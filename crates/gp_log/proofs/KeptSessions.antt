-- In a log that keeps its sessions, a transaction reads versions before the one that it makes, and commits once.
use Rattle.std.proofs.Common.{◌≡◌, ◌≢◌, ◌⊎◌, ℕ, zero, suc, ◌<◌, ◌≤◌, Bool, true, false, cond, List, [], ◌∷◌, Some, None, refl, sym, ap, ◌∙◌, subst, arith, inl, inr, ⊎_elim}
use Rattle.std.specs.Prelude.{◌==◌, ◌&&◌}
use Rattle.std.proofs.lemmas.Bool.{cases_lt, eq-eqb, false≢true, ne_eqb, eqb-true}
use Rattle.std.proofs.lemmas.Bool.Decides.{nat_tests}
use Rattle.gp_machine.proofs.HeldPoints.{version_is}
use Rattle.gp_machine.proofs.LogLemmas.{began_same, committed_same, created_same, ended_same, ran_same, versions_le}
use Rattle.gp_machine.specs.Entries.{End, Entry, Created, Began, Ran, Committed, Ended, begin_version, committer_of, is_read_committed, log_of, statement_count, statement_version, transactions_in, version_of, versions_in}
use Rattle.gp_machine.specs.ReplayForms.{CommitsInOrder}
use Rattle.gp_log.proofs.SteadyLemmas.{steady_began, steady_committed, steady_created, steady_ended, steady_none, steady_ran, unequal_from}
use Rattle.gp_log.specs.Discipline.{transaction_in}
use Rattle.gp_log.specs.Indexing.{AreSteady}
use Rattle.gp_log.specs.Sessions.{KeepsSessions}
use Rattle.std.proofs.lemmas.Option.{none-some, same_Some}

pub record Orderly (entries : List Entry) : Type 0 where
  -- a transaction that a session has began, and made no version
  pub known : (session t : ℕ) → transaction_in session entries ≡ Some t → (1 ≤ t) × (t ≤ transactions_in entries)
  pub unfinished : (session t u : ℕ) → transaction_in session entries ≡ Some t → u < versions_in entries → committer_of (suc u) entries ≢ t
  pub apart : (session other t : ℕ) → transaction_in session entries ≡ Some t → transaction_in other entries ≡ Some t → session ≡ other
  pub makers : (u : ℕ) → u < versions_in entries → (1 ≤ committer_of (suc u) entries) × (committer_of (suc u) entries ≤ transactions_in entries)
  pub once : (u v : ℕ) → u < v → v < versions_in entries → committer_of (suc u) entries ≢ committer_of (suc v) entries

-- ---- BEGIN

module _ (line session t : ℕ) (level : Bool) (older : List Entry) (is : t ≡ suc (transactions_in older)) (before : Orderly older) where
  abbrev begins : List Entry
  begins = Began line session t level ∷ older

  -- whose transaction it is
  begun_cases : (s u : ℕ) → transaction_in s begins ≡ Some u → (Q : Type 0) → (s ≡ session → u ≡ t → Q) → (transaction_in s older ≡ Some u → Q) → Q
  begun_cases s u e Q here there =
      (elim (s == session) as (λ b. (s == session) ≡ b → cond b (Some t) (transaction_in s older) ≡ Some u → Q) [
        | true ↦ λ same e. here (eqb-true s session same) (sym (same_Some t u e))
        | false ↦ λ differ e. there e
      ]) refl e

  began_orderly : Orderly begins
  began_orderly = record {
    known = λ s u e. begun_cases s u e _ (λ same own. (omega (arith, own, is), omega (arith, own, is))) (λ other. let k = before.known s u other in (k.0, omega (arith, k.1)));
    unfinished = λ s u v e l made. begun_cases s u e ⊥ (λ same own. let m = (before.makers v l).1 in absurd (omega (arith, m, made, own, is))) (λ other. before.unfinished s u v other l made);
    apart = λ s o u e f. begun_cases s u e _
        (λ same own. begun_cases o u f _ (λ same' own'. same ∙ sym same') (λ other. let k = (before.known o u other).1 in absurd (omega (arith, k, own, is))))
        (λ other. begun_cases o u f _ (λ same' own'. let k = (before.known s u other).1 in absurd (omega (arith, k, own', is))) (λ other'. before.apart s o u other other'));
    makers = λ u l. let m = before.makers u l in (m.0, omega (arith, m.1));
    once = before.once;
  }

-- ---- COMMIT

module _ (line session t : ℕ) (older : List Entry) (runs : transaction_in session older ≡ Some t) (before : Orderly older) where
  abbrev committed : List Entry
  committed = Committed line session t ∷ older

  -- a session that still has a transaction is another one
  left_cases : (s u : ℕ) → cond (s == session) None (transaction_in s older) ≡ Some u → (s ≢ session) × (transaction_in s older ≡ Some u)
  left_cases s u e =
      (elim (s == session) as (λ b. (s == session) ≡ b → cond b None (transaction_in s older) ≡ Some u → (s ≢ session) × (transaction_in s older ≡ Some u)) [
        | true ↦ λ same e. absurd (none-some u e)
        | false ↦ λ differ e. ((λ same. false≢true (sym differ ∙ eq-eqb s session same)), e)
      ]) refl e

  maker_new : committer_of (suc (versions_in older)) committed ≡ t
  maker_new = ap (λ b. cond b t (committer_of (suc (versions_in older)) older)) (eq-eqb (suc (versions_in older)) (suc (versions_in older)) refl)

  maker_old : (u : ℕ) → u < versions_in older → committer_of (suc u) committed ≡ committer_of (suc u) older
  maker_old u l = ap (λ b. cond b t (committer_of (suc u) older)) (ne_eqb (suc (versions_in older)) (suc u) (λ same. omega (arith, same)))

  -- a version is the new one, or an older one
  version_cases : (u : ℕ) → u < suc (versions_in older) → (Q : ℕ → Type 0) → Q (versions_in older) → (u < versions_in older → Q u) → Q u
  version_cases u l Q new old = ⊎_elim old (λ above. let is : versions_in older ≡ u = omega arith in subst Q is new) (cases_lt u (versions_in older))

  committed_orderly : Orderly committed
  committed_orderly = record {
    known = λ s u e. before.known s u (left_cases s u e).1;
    unfinished = λ s u v e l. version_cases v l (λ v. committer_of (suc v) committed ≢ u)
        (λ made. (left_cases s u e).0 (before.apart s session u (left_cases s u e).1 (runs ∙ ap Some (sym maker_new ∙ made))))
        (λ below made. before.unfinished s u v (left_cases s u e).1 below (sym (maker_old v below) ∙ made));
    apart = λ s o u e f. before.apart s o u (left_cases s u e).1 (left_cases o u f).1;
    makers = λ u l. version_cases u l (λ u. (1 ≤ committer_of (suc u) committed) × (committer_of (suc u) committed ≤ transactions_in older))
        (subst (λ m. (1 ≤ m) × (m ≤ transactions_in older)) (sym maker_new) (before.known session t runs))
        (λ below. subst (λ m. (1 ≤ m) × (m ≤ transactions_in older)) (sym (maker_old u below)) (before.makers u below));
    once = λ u v l m. version_cases v m (λ v. u < v → committer_of (suc u) committed ≢ committer_of (suc v) committed)
        (λ l same. before.unfinished session t u runs l (sym (maker_old u l) ∙ same ∙ maker_new))
        (λ below l same. before.once u v l below (sym (maker_old u (omega (arith, l, below))) ∙ same ∙ maker_old v below)) l;
  }

  ended_orderly : (end : End) → Orderly (Ended line session end t ∷ older)
  ended_orderly end = record {
    known = λ s u e. before.known s u (left_cases s u e).1;
    unfinished = λ s u v e l made. before.unfinished s u v (left_cases s u e).1 l made;
    apart = λ s o u e f. before.apart s o u (left_cases s u e).1 (left_cases o u f).1;
    makers = before.makers;
    once = before.once;
  }

pub orderly : (entries : List Entry) → KeepsSessions entries → Orderly entries
orderly [] keeps = record {
  known = λ s t e. absurd (none-some t e);
  unfinished = λ s t u e l. absurd (none-some t e);
  apart = λ s o t e f. absurd (none-some t e);
  makers = λ u l. absurd (omega arith);
  once = λ u v l m. absurd (omega arith);
}
orderly (Created line session table ∷ older) keeps =
    let before = orderly older keeps.1 in
    record { known = before.known; unfinished = before.unfinished; apart = before.apart; makers = before.makers; once = before.once }
orderly (Began line session t level ∷ older) keeps = began_orderly line session t level older keeps.0 (orderly older keeps.1.1)
orderly (Ran line session command t statement ∷ older) keeps =
    let before = orderly older keeps.1 in
    record { known = before.known; unfinished = before.unfinished; apart = before.apart; makers = before.makers; once = before.once }
orderly (Committed line session t ∷ older) keeps = committed_orderly line session t older keeps.0 (orderly older keeps.1)
orderly (Ended line session end t ∷ older) keeps = ended_orderly line session t older keeps.0 (orderly older keeps.1) end

-- ---- which versions its statements read

-- only a transaction that began has statements
pub none_ran : (entries : List Entry) → KeepsSessions entries → (t : ℕ) → (t ≡ 0) ⊎ (transactions_in entries < t) → statement_count t entries ≡ 0
none_ran [] keeps t outside = refl
none_ran (Created line session table ∷ older) keeps t outside = none_ran older keeps.1 t outside
none_ran (Began line session u level ∷ older) keeps t outside = none_ran older keeps.1.1 t (elim outside [ inl e ↦ inl e | inr l ↦ inr (omega arith) ])
none_ran (Ran line session command u statement ∷ older) keeps t outside =
    ap (λ b. cond b (suc (statement_count t older)) (statement_count t older)) (ne_eqb u t (apart outside)) ∙ none_ran older keeps.1 t outside
  where
    apart : (t ≡ 0) ⊎ (transactions_in older < t) → u ≢ t
    apart outside same =
        let began = (orderly older keeps.1).known session u keeps.0 in
        elim outside [ inl e ↦ omega (arith, began.0, same, e) | inr l ↦ omega (arith, began.1, same, l) ]
none_ran (Committed line session u ∷ older) keeps t outside = none_ran older keeps.1 t outside
none_ran (Ended line session end u ∷ older) keeps t outside = none_ran older keeps.1 t outside

-- none comes before its BEGIN
none_before : (older : List Entry) (t : ℕ) → KeepsSessions older → t ≡ suc (transactions_in older) → statement_count t older ≡ 0
none_before older t keeps is = none_ran older keeps t (inr (omega arith))

-- a transaction that is not read committed reads its begin version
pub steady : (entries : List Entry) → KeepsSessions entries → AreSteady entries
steady [] keeps = steady_none
steady (Created line session table ∷ older) keeps = steady_created line session table older (steady older keeps.1)
steady (Began line session u level ∷ older) keeps = steady_began line session u level older (none_before older u keeps.1.1 keeps.0) (steady older keeps.1.1)
steady (Ran line session command u statement ∷ older) keeps = steady_ran line session command u statement older (steady older keeps.1)
steady (Committed line session u ∷ older) keeps = steady_committed line session u older (steady older keeps.1)
steady (Ended line session end u ∷ older) keeps = steady_ended line session end u older (steady older keeps.1)

-- the next statement reads no older version
rises : (entries : List Entry) → KeepsSessions entries → (t k : ℕ) → k < statement_count t entries → statement_version t k entries ≤ statement_version t (suc k) entries
rises [] keeps t k l = absurd (omega arith)
rises (Created line session table ∷ older) keeps t k l =
    let same = created_same line session table older t (suc k) in let a = same.version k (omega arith) in let b = same.version (suc k) (omega arith) in let m = rises older keeps.1 t k l in omega arith
rises (Began line session u level ∷ older) keeps t k l = go (u == t) refl (rises older keeps.1.1 t k l)
  where
    go : (b : Bool) → (u == t) ≡ b → statement_version t k older ≤ statement_version t (suc k) older
        → statement_version t k (Began line session u level ∷ older) ≤ statement_version t (suc k) (Began line session u level ∷ older)
    go true own m = let none : statement_count u older ≡ 0 = none_before older u keeps.1.1 keeps.0 in let same = ap (λ n. statement_count n older) (eqb-true u t own) in absurd (omega arith)
    go false own m =
        let same = began_same line session u level older t (suc k) (unequal_from u t own) in
        let a = same.version k (omega arith) in let b = same.version (suc k) (omega arith) in omega arith
rises (Ran line session command u statement ∷ older) keeps t k l =
    ⊎_elim
    (λ below.
    let same = ran_same line session command u statement older t (suc k) (omega arith) in
    let a = same.version k (omega arith) in let b = same.version (suc k) (omega arith) in let m = rises older keeps.1 t k below in omega arith)
    (λ above. last (u == t) refl l above)
    (cases_lt k (statement_count t older))
  where
    now : (b : Bool) → is_read_committed t older ≡ b → k ≤ statement_count t older → statement_version t k older ≤ cond b (versions_in older) (begin_version t older)
    now true e within = versions_le t k older
    now false e within = let m = steady older keeps.1 t k e within in omega arith

    taken : (last : Bool) → last ≡ true → k ≤ statement_count t older
        → statement_version t k older ≤ cond (true && last) (cond (is_read_committed t older) (versions_in older) (begin_version t older)) (statement_version t (suc k) older)
    taken true e within = now (is_read_committed t older) refl within
    taken false e within = absurd (false≢true e)

    equal : (c k : ℕ) → k ≡ c → (suc c == suc k) ≡ true
    equal c k e = grind (arith, nat_tests)

    reads : (own : Bool) → own ≡ true → k ≡ statement_count t older
        → statement_version t k older ≤ cond (own && (suc (statement_count t older) == suc k)) (cond (is_read_committed t older) (versions_in older) (begin_version t older)) (statement_version t (suc k) older)
    reads true own is = taken (suc (statement_count t older) == suc k) (equal (statement_count t older) k is) (omega arith)
    reads false own is = absurd (false≢true own)

    last : (own : Bool) → (u == t) ≡ own → k < cond own (suc (statement_count t older)) (statement_count t older) → statement_count t older ≤ k
        → statement_version t k (Ran line session command u statement ∷ older) ≤ statement_version t (suc k) (Ran line session command u statement ∷ older)
    last true own l above =
        let a = (ran_same line session command u statement older t k (omega arith)).version k (omega arith) in
        let m = reads (u == t) own (omega arith) in omega arith
    last false own l above = absurd (omega arith)
rises (Committed line session u ∷ older) keeps t k l =
    let same = committed_same line session u older t (suc k) in let a = same.version k (omega arith) in let b = same.version (suc k) (omega arith) in let m = rises older keeps.1 t k l in omega arith
rises (Ended line session end u ∷ older) keeps t k l =
    let same = ended_same line session end u older t (suc k) in let a = same.version k (omega arith) in let b = same.version (suc k) (omega arith) in let m = rises older keeps.1 t k l in omega arith

-- a transaction that made a version has read older ones
reads_before : (entries : List Entry) → KeepsSessions entries → (u t k : ℕ) → u < versions_in entries → committer_of (suc u) entries ≡ t → k ≤ statement_count t entries → statement_version t k entries ≤ u
reads_before [] keeps u t k l made m = absurd (omega arith)
reads_before (Created line session table ∷ older) keeps u t k l made m =
    let a = (created_same line session table older t k).version k (omega arith) in let before = reads_before older keeps.1 u t k l made m in omega arith
reads_before (Began line session v level ∷ older) keeps u t k l made m =
    let known = ((orderly older keeps.1.1).makers u l).1 in
    let a = (began_same line session v level older t k (λ same. omega (arith, known, made, same, keeps.0))).version k (omega arith) in
    let before = reads_before older keeps.1.1 u t k l made m in omega arith
reads_before (Ran line session command v statement ∷ older) keeps u t k l made m =
    let n : v ≢ t = λ same. (orderly older keeps.1).unfinished session v u keeps.0 l (made ∙ sym same) in
    let c : statement_count t (Ran line session command v statement ∷ older) ≡ statement_count t older = ap (λ b. cond b (suc (statement_count t older)) (statement_count t older)) (ne_eqb v t n) in
    let a = (ran_same line session command v statement older t k (omega arith)).version k (omega arith) in
    let before = reads_before older keeps.1 u t k l made (omega arith) in omega arith
reads_before (Committed line session v ∷ older) keeps u t k l made m =
    let a = (committed_same line session v older t k).version k (omega arith) in
    ⊎_elim
    (λ below. let before = reads_before older keeps.1 u t k below (sym (maker_old line session v older keeps.0 (orderly older keeps.1) u below) ∙ made) m in omega arith)
    (λ above. let newest = versions_le t k older in omega arith)
    (cases_lt u (versions_in older))
reads_before (Ended line session end v ∷ older) keeps u t k l made m =
    let a = (ended_same line session end v older t k).version k (omega arith) in let before = reads_before older keeps.1 u t k l made m in omega arith

pub commits_in_order : (entries : List Entry) → KeepsSessions entries → CommitsInOrder (log_of entries)
commits_in_order entries keeps = record {
  order = λ u k l m. reads_before entries keeps u (committer_of (suc u) entries) k l refl m;
  later = λ u k l m. rises entries keeps (committer_of (suc u) entries) k m;
  once = λ u v l m same. ⊎_elim
      (λ below. absurd ((orderly entries keeps).once u v below m same))
      (λ above. ⊎_elim (λ below. absurd ((orderly entries keeps).once v u below l (sym same))) (λ above'. omega arith) (cases_lt v u))
      (cases_lt u v);
}

-- ---- any two of its statements, and the version that it made

pub rising : (entries : List Entry) → KeepsSessions entries → (t j k : ℕ) → j ≤ k → k ≤ statement_count t entries → statement_version t j entries ≤ statement_version t k entries
rising entries keeps t j zero below within = let same : j ≡ zero = omega arith in let e = ap (λ n. statement_version t n entries) same in omega arith
rising entries keeps t j (suc k) below within =
    ⊎_elim
    (λ before. let earlier = rising entries keeps t j k (omega arith) (omega arith) in let last = rises entries keeps t k within in omega arith)
    (λ above. let same : j ≡ suc k = omega arith in let e = ap (λ n. statement_version t n entries) same in omega arith)
    (cases_lt j (suc k))

pub read_before : (entries : List Entry) → KeepsSessions entries → (t v k : ℕ) → version_of t entries ≡ Some v → k ≤ statement_count t entries → statement_version t k entries < v
read_before entries keeps t v k e l =
    let i = version_is t v entries e in
    let before = reads_before entries keeps i.earlier t k i.within i.made l in
    omega (arith, before, i.is)

-- the transaction that made a version made no other
pub maker_version : (entries : List Entry) → KeepsSessions entries → (u : ℕ) → u < versions_in entries → version_of (committer_of (suc u) entries) entries ≡ Some (suc u)
maker_version [] keeps u l = absurd (omega arith)
maker_version (Created line session table ∷ older) keeps u l = maker_version older keeps.1 u l
maker_version (Began line session t level ∷ older) keeps u l = maker_version older keeps.1.1 u l
maker_version (Ran line session command t statement ∷ older) keeps u l = maker_version older keeps.1 u l
maker_version (Committed line session t ∷ older) keeps u l = go (suc (versions_in older) == suc u) refl (maker_version older keeps.1 u)
  where
    under : (a b : ℕ) → (suc a == suc b) ≡ false → b < suc a → b < a
    under a b e l = grind (arith, nat_tests)

    go : (b : Bool) → (suc (versions_in older) == suc u) ≡ b → (u < versions_in older → version_of (committer_of (suc u) older) older ≡ Some (suc u))
        → cond (t == cond b t (committer_of (suc u) older)) (Some (suc (versions_in older))) (version_of (cond b t (committer_of (suc u) older)) older) ≡ Some (suc u)
    go true same before = ap (λ b. cond b (Some (suc (versions_in older))) (version_of t older)) (eq-eqb t t refl) ∙ ap (λ n. Some n) (eqb-true (suc (versions_in older)) (suc u) same)
    go false same before =
        let below = under (versions_in older) u same l in
        let c : ℕ = committer_of (suc u) older in
        ap (λ b. cond b (Some (suc (versions_in older))) (version_of c older)) (ne_eqb t c (λ own. (orderly older keeps.1).unfinished session t u keeps.0 below (sym own))) ∙ before below
maker_version (Ended line session end t ∷ older) keeps u l = maker_version older keeps.1 u l
