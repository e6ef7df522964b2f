-- What an entry adds to the versions of a log, and what an index knows with a transaction more.
use Rattle.std.proofs.Common.{◌≡◌, ◌≢◌, ℕ, zero, suc, ◌+◌, ◌≤◌, ◌==◌, Bool, true, cond, List, [], ◌∷◌, ◌++◌, length, get_or, refl, sym, ap, ◌∙◌, arith, ⊎_elim}
use Rattle.std.proofs.Math.Seq.{get_or-append_seam}
use Rattle.std.proofs.lemmas.Bool.{cases_lt}
use Rattle.std.proofs.lemmas.Bool.Decides.{nat_tests}
use Rattle.std.proofs.lemmas.List.{get_or_append_left, length-append}
use Rattle.gp_machine.specs.Entries as m
use Rattle.gp_machine.specs.Entries.{begin_version, fate_of, is_read_committed, statement_count, version_of, versions_in}
use Rattle.gp_log.specs.Indexing.{Knows, begun, known_of, unknown}
use Rattle.gp_log.specs.Kinds.{commits}
use Rattle.gp_log.specs.Logs.{what_view}
use Rattle.gp_log.specs.declared.index.Known.{Known}
use Rattle.gp_log.specs.declared.entry.What.{What}
use Rattle.gp_log.specs.declared.entry.What.TheVariants as w
use Rattle.gp_log.proofs.SteadyLemmas.{steady_began}
use Rattle.gp_base.proofs.SmallLemmas.{eq_not}

-- a commit makes a version
pub commits-counted : (line session t : ℕ) (what : What) (log : List m.Entry) → versions_in (what_view line session t what ∷ log) ≡ versions_in log + cond (commits what) 1 0
commits-counted line session t (w.Create table) log = omega arith
commits-counted line session t (w.Begin read_committed) log = omega arith
commits-counted line session t (w.Statement k command stmt) log = omega arith
commits-counted line session t w.Commit log = omega arith
commits-counted line session t w.Lost log = omega arith
commits-counted line session t w.Rollback log = omega arith

-- ---- the next transaction

none-behind : {X : Type 0} (xs : List X) (d : X) (i : ℕ) → length xs ≤ i → get_or xs i d ≡ d
none-behind [] d i l = refl
none-behind (x ∷ xs) d zero l = absurd (omega arith)
none-behind (x ∷ xs) d (suc i) l = none-behind xs d i (omega arith)

-- a place more, which has nothing yet
pub nothing-more : (makers : List ℕ) (place : ℕ) → get_or (makers ++ 0 ∷ []) place 0 ≡ get_or makers place 0
nothing-more [] zero = refl
nothing-more [] (suc place) = refl
nothing-more (t ∷ makers) zero = refl
nothing-more (t ∷ makers) (suc place) = nothing-more makers place

module _ (known : List Known) (log : List m.Entry) (line session t version : ℕ) (level : Bool)
    (knows : (place : ℕ) → get_or known place unknown ≡ known_of (suc place) log) (next : t ≡ length known + 1) (newest : version ≡ versions_in log) where
  other : (u : ℕ) → t ≢ u → known_of u log ≡ known_of u (m.Began line session t level ∷ log)
  other u apart = λ i. record {
    begin = cond (sym (eq_not t u apart) i) (versions_in log) (begin_version u log);
    read_committed = cond (sym (eq_not t u apart) i) level (is_read_committed u log);
    ran = statement_count u log;
    fate = fate_of u log;
    version = version_of u log;
  }

  -- it has no entry yet
  new : unknown ≡ known_of (suc (length known)) log
  new = sym (none-behind known unknown (length known) (omega arith)) ∙ knows (length known)

  itself : (t == suc (length known)) ≡ true
  itself = same t (suc (length known)) (omega (arith, next))
    where
      same : (a b : ℕ) → a ≡ b → (a == b) ≡ true
      same a b e = grind (arith, nat_tests)

  own : begun version level ≡ known_of (suc (length known)) (m.Began line session t level ∷ log)
  own = λ i. record {
    begin = (newest ∙ sym (ap (λ b. cond b (versions_in log) (begin_version (suc (length known)) log)) itself)) i;
    read_committed = sym (ap (λ b. cond b level (is_read_committed (suc (length known)) log)) itself) i;
    ran = ap (λ (k : Known). k.ran) new i;
    fate = ap (λ (k : Known). k.fate) new i;
    version = ap (λ (k : Known). k.version) new i;
  }

  known-more : (place : ℕ) → get_or (known ++ begun version level ∷ []) place unknown ≡ known_of (suc place) (m.Began line session t level ∷ log)
  known-more place =
      ⊎_elim
      (λ below. get_or_append_left known (begun version level ∷ []) unknown place below ∙ (knows place ∙ other (suc place) (λ e. omega (arith, next))))
      (λ above. ⊎_elim
      (λ behind. none-behind (known ++ begun version level ∷ []) unknown place (omega (arith, length-append known (begun version level ∷ [])))
      ∙ (sym (none-behind known unknown place above) ∙ (knows place ∙ other (suc place) (λ e. omega (arith, next)))))
      (λ upto.
      let here : place ≡ length known = omega arith in
      ap (λ n. get_or (known ++ begun version level ∷ []) n unknown) here ∙ (get_or-append_seam known (begun version level) [] unknown ∙ (own ∙ ap (λ n. known_of (suc n) (m.Began line session t level ∷ log)) (sym here))))
      (cases_lt (length known) place))
      (cases_lt place (length known))

-- an index with a transaction more
pub begun-known : (known : List Known) (makers : List ℕ) (log : List m.Entry) (line session t version : ℕ) (level : Bool) → Knows known makers log → t ≡ length known + 1 → version ≡ versions_in log
    → Knows (known ++ begun version level ∷ []) (makers ++ 0 ∷ []) (m.Began line session t level ∷ log)
begun-known known makers log line session t version level knows next newest = record {
  transactions = known-more known log line session t version level knows.transactions next newest;
  committers = λ place. nothing-more makers place ∙ knows.committers place;
  steady =
      let first : suc (length known) ≡ t = omega arith in
      let count : 0 ≡ statement_count (suc (length known)) log = ap (λ (k : Known). k.ran) (new known log line session t version level knows.transactions next newest) in
      steady_began line session t level log (ap (λ n. statement_count n log) (sym first) ∙ sym count) knows.steady;
}
