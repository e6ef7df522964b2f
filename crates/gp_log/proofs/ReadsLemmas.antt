-- The versions that an index has of statements are those that they read.
use Rattle.std.proofs.Common.{◌≡◌, ℕ, zero, suc, ◌+◌, ◌<◌, ◌⊎◌, Bool, true, false, cond, List, [], ◌∷◌, ◌++◌, length, get_or, refl, sym, ap, subst, ◌∙◌, arith, inl, inr, Option, Some}
use Rattle.std.specs.Prelude.{◌&&◌, ◌==◌, slice_get, slice_set}
use Rattle.std.specs.Option.{option_map}
use Rattle.std.proofs.lemmas.Bool.{and_right}
use Rattle.std.proofs.lemmas.Grind.{get_or-set_at}
use Rattle.std.proofs.lemmas.List.{get_or-set_other}
use Rattle.std.proofs.lemmas.Bool.Decides.{nat_tests}
use Rattle.gp_algebra.specs.Statements.{Statement}
use Rattle.gp_base.proofs.SmallLemmas.{eq_itself, some_none}
use Rattle.gp_grammar.specs.Syntax.{Command}
use Rattle.gp_machine.specs.Entries as m
use Rattle.gp_machine.specs.Entries.{begin_version, is_read_committed, statement_count, statement_version, versions_in}
use Rattle.gp_log.specs.Indexing.{AreNoted, AreRead}
use Rattle.gp_log.specs.LogCounts.{version_read}
use Rattle.gp_log.proofs.NumberingLemmas.{statement-outside}
use Rattle.gp_log.proofs.SteadyLemmas.{unequal_from}
use Rattle.gp_log.proofs.VersionLemmas.{version_read_is}

nothing-more : (reads : List (List ℕ)) (place : ℕ) → get_or (reads ++ [] ∷ []) place [] ≡ get_or reads place []
nothing-more [] zero = refl
nothing-more [] (suc place) = refl
nothing-more (some ∷ reads) zero = refl
nothing-more (some ∷ reads) (suc place) = nothing-more reads place

pub reads_began : (reads : List (List ℕ)) (log : List m.Entry) (line session t : ℕ) (level : Bool) → AreRead reads log → AreRead (reads ++ [] ∷ []) (m.Began line session t level ∷ log)
reads_began reads log line session t level are place j version at = are place j version (ap (λ (some : List ℕ). slice_get some j) (sym (nothing-more reads place)) ∙ at)

-- ---- one statement more

-- a statement that is there is not the next one
not-next : (t k version : ℕ) (log : List m.Entry) → version_read t k log ≡ Some version → (b : Bool) → (suc (statement_count t log) == k) ≡ b → b ≡ false
not-next t k version log there true is =
    let above : statement_count t log < k = grind (arith, nat_tests) in
    absurd (some_none version (sym there ∙ version_read_is t k log ∙ ap (λ (found : Option Statement). option_map (λ (s : Statement). statement_version t k log) found) (statement-outside t k log (inr above))))
not-next t k version log there false is = refl

last-item : (items : List ℕ) (new j version : ℕ) → slice_get (items ++ new ∷ []) j ≡ Some version → (slice_get items j ≡ Some version) ⊎ ((j ≡ length items) × (new ≡ version))
last-item [] new zero version at = let same : new ≡ version = cc in inr (refl, same)
last-item [] new (suc j) version at = absurd cc
last-item (x ∷ items) new zero version at = inl at
last-item (x ∷ items) new (suc j) version at = elim (last-item items new j version at) [ inl there ↦ inl there | inr last ↦ inr (ap suc last.0, last.1) ]

module _ (log : List m.Entry) (line session : ℕ) (command : Command) (t : ℕ) (statement : Statement) where
  abbrev longer : List m.Entry
  longer = m.Ran line session command t statement ∷ log

  abbrev read_in : Bool → ℕ → ℕ → Option ℕ
  read_in here u k = cond here (Some (cond (is_read_committed u log) (versions_in log) (begin_version u log))) (version_read u k log)

  still : (u k version : ℕ) → version_read u k log ≡ Some version → version_read u k longer ≡ Some version
  still u k version there =
      ap (λ b. read_in b u k) (and_right (t == u) _ (not-next u k version log there (suc (statement_count u log) == k) refl)) ∙ there

  pub reads_ran : (reads : List (List ℕ)) → AreRead reads log → AreRead reads longer
  reads_ran reads are place j version at = still (suc place) (suc j) version (are place j version at)

  -- the version that the next statement of a read committed transaction reads
  next-read : (u k : ℕ) → t ≡ u → k ≡ suc (statement_count u log) → is_read_committed u log ≡ true → version_read u k longer ≡ Some (versions_in log)
  next-read u k same next level =
      let here : ((t == u) && (suc (statement_count u log) == k)) ≡ true = (λ i. (same i == u) && (suc (statement_count u log) == next i)) ∙ (λ i. eq_itself u i && eq_itself (suc (statement_count u log)) i) in
      ap (λ b. read_in b u k) here ∙ ap (λ b. Some (cond b (versions_in log) (begin_version u log))) level

  -- one version more of a transaction
  pub reads_more : (reads : List (List ℕ)) (place new : ℕ) → place < length reads → t ≡ suc place → suc (length (get_or reads place [])) ≡ suc (statement_count (suc place) log) → is_read_committed (suc place) log ≡ true
      → new ≡ versions_in log → AreRead reads log → AreRead (slice_set reads place (get_or reads place [] ++ new ∷ [])) longer
  reads_more reads place new within own next level newest are other j version at = by (other == place) refl
    where
      by : (b : Bool) → (other == place) ≡ b → version_read (suc other) (suc j) longer ≡ Some version
      by true is =
          let same : other ≡ place = grind (arith, nat_tests) in
          let here = sym (ap (λ (some : List ℕ). slice_get some j) (get_or-set_at reads place other (get_or reads place [] ++ new ∷ []) [] same within)) ∙ at in
          elim (last-item (get_or reads place []) new j version here) [
            | inl there ↦ still (suc other) (suc j) version (are other j version (ap (λ n. slice_get (get_or reads n []) j) same ∙ there))
            | inr last ↦
                let u : suc place ≡ suc other = ap suc (sym same) in
                next-read (suc other) (suc j) (own ∙ u) (ap suc last.0 ∙ next ∙ ap (λ n. suc (statement_count n log)) u) (ap (λ n. is_read_committed n log) (sym u) ∙ level) ∙ ap (λ n. Some n) (sym newest ∙ last.1)
          ]
      by false is =
          still (suc other) (suc j) version
          (are other j version (sym (ap (λ (some : List ℕ). slice_get some j) (get_or-set_other reads place other (get_or reads place [] ++ new ∷ []) [] (unequal_from other place is))) ∙ at))

  pub reads_noted : (k new : ℕ) (reads noted : List (List ℕ)) → k ≡ suc (statement_count t log) → is_read_committed t log ≡ true → new ≡ versions_in log → AreRead reads log → AreNoted t k new reads noted → AreRead noted longer
  reads_noted k new reads noted next level newest are (inl same) = subst (λ (some : List (List ℕ)). AreRead some longer) (sym same) (reads_ran reads are)
  reads_noted k new reads noted next level newest are (inr one) =
      subst (λ (some : List (List ℕ)). AreRead some longer) (sym one.noted)
      (reads_more reads one.place new one.within (sym one.own) (one.next ∙ next ∙ ap (λ u. suc (statement_count u log)) (sym one.own)) (ap (λ u. is_read_committed u log) one.own ∙ level) newest are)
