-- Annotations that are kept: where nothing stops before a version, nothing stops before an earlier one.
use Rattle.std.proofs.Common.{◌≡◌, inl, inr, ℕ, zero, suc, ◌<◌, ◌≤◌, ◌⊎◌, List, refl, sym, subst, arith, Option, Some, None, Err}
use Rattle.std.specs.Option.{option_or}
use Rattle.std.proofs.Math.Nat.{eq-or-lt_of_le}
use Rattle.gp_base.specs.declared.refusal.Refusal.{Refusal}
use Rattle.gp_base.specs.declared.refusal.Refusal.TheVariants.{E24, E25, E26}
use Rattle.gp_base.specs.declared.table.Table.{Table}
use Rattle.gp_base.specs.Annotated.{Annotations}
use Rattle.gp_base.proofs.SmallLemmas.{some_none}
use Rattle.gp_log.specs.LogFacts.{tables_in}
use Rattle.gp_log.specs.Parameters.{parameters}
use Rattle.gp_machine.specs.Entries.{Entry, Log, log_of, versions_in}
use Rattle.gp_machine.specs.Event.{name_at}
use Rattle.gp_machine.specs.Questions.{annotation_stop}
use Rattle.gp_versions.specs.declared.span.Span.{Span}
use Rattle.gp_history.specs.Agreement.{agree}
use Rattle.gp_history.specs.Annotating.{Annotates}
use Rattle.gp_history.specs.Changes.{commit_stop}
use Rattle.gp_history.specs.Keeping.{GoesOn, IsKept, Reaches}
use Rattle.gp_history.specs.Seeking.{AreFinders}
use Rattle.gp_history.specs.SpanAnnotations.{AreAnnotated}
use Rattle.gp_history.specs.declared.error.HistoryStop.{HistoryStop}
use Rattle.gp_history.specs.declared.error.HistoryStop.TheVariants as stops
use Rattle.gp_history.specs.declared.kept.Kept.{Kept}
use Rattle.gp_history.proofs.CommitLemmas.{stop_none_more}

first_none : {A : Type 0} (o p : Option A) → option_or o p ≡ None → o ≡ None
first_none None p e = refl
first_none (Some a) p e = absurd (some_none a e)

first_some : {A : Type 0} (o p : Option A) (a : A) → o ≡ Some a → option_or o p ≡ Some a
first_some None p a e = absurd (some_none a (sym e))
first_some (Some b) p a e = e

module _ {M : Type 0} (domain : Annotations M) (catalogue : List Table) (log : Log) (spans : ℕ → List Span) where
  abbrev upto : ℕ → Option Refusal
  upto = annotation_stop domain parameters agree catalogue log spans

  pub none_before : (v w : ℕ) → v ≤ w → upto w ≡ None → upto v ≡ None
  none_before v zero less none = let is : zero ≡ v = omega (arith, less) in subst (λ (n : ℕ). upto n ≡ None) is none
  none_before v (suc w) less none = by (eq-or-lt_of_le less) (λ lower. none_before v w (omega (arith, lower)) (first_none (upto w) _ none))
    where
      by : (v ≡ suc w) ⊎ (v < suc w) → (v < suc w → upto v ≡ None) → upto v ≡ None
      by (inl is) earlier = subst (λ (n : ℕ). upto n ≡ None) (sym is) none
      by (inr lower) earlier = earlier lower

  -- a stop stays
  pub some_after : (u w : ℕ) (refusal : Refusal) → u ≤ w → upto u ≡ Some refusal → upto w ≡ Some refusal
  some_after u zero refusal lower found = let same : u ≡ zero = omega (arith, lower) in subst (λ (n : ℕ). upto n ≡ Some refusal) same found
  some_after u (suc w) refusal lower found = by (eq-or-lt_of_le lower) (λ under. some_after u w refusal (omega (arith, under)) found)
    where
      by : (u ≡ suc w) ⊎ (u < suc w) → (u < suc w → upto w ≡ Some refusal) → upto (suc w) ≡ Some refusal
      by (inl same) earlier = subst (λ (n : ℕ). upto n ≡ Some refusal) same found
      by (inr under) earlier = first_some (upto w) _ refusal (earlier under)

module _ {M : Type 0} (domain : Annotations M) (entries : List Entry) (spans : ℕ → List Span) where
  abbrev stop : ℕ → Option Refusal
  stop = annotation_stop domain parameters agree (tables_in entries) (log_of entries) spans

  -- one more version
  pub kept_more : (kept next : Kept M) → IsKept domain entries spans kept → AreFinders spans next.finders.items → kept.version < versions_in entries → next.version ≡ suc kept.version
      → AreAnnotated domain (log_of entries) spans (suc kept.version) next.annotated → commit_stop domain (log_of entries) spans kept.version (tables_in entries) ≡ None
      → (stop (suc kept.version) ≡ None) × GoesOn domain entries spans kept.version next
  kept_more kept next is finders more same are goes =
      let none = stop_none_more domain (tables_in entries) (log_of entries) spans kept.version is.unstopped goes in (
        none,
        (
          record {
            within = omega (arith, more, same);
            annotated = subst (λ (n : ℕ). AreAnnotated domain (log_of entries) spans n next.annotated) (sym same) are;
            unstopped = subst (λ (n : ℕ). stop n ≡ None) (sym same) none;
            finders = finders;
          },
          same,
        ),
      )

  -- the version before which they are is far enough
  pub kept_reaches : (kept : Kept M) (v : ℕ) → IsKept domain entries spans kept → v ≤ kept.version → (stop v ≡ None) × Reaches domain entries spans v kept
  kept_reaches kept v is less = (none_before domain (tables_in entries) (log_of entries) spans v kept.version less is.unstopped, (is, less))

  -- a commit that stops before the version stops the annotation up to it
  pub kept_stops : {X Y : Type 0} (P : X → Type 0) (Q : Y → Type 0) (kept : Kept M) (v : ℕ) (own : HistoryStop) → kept.version < v
      → Annotates {X = X} P (tables_in entries) (Err own) (stop (suc kept.version)) → Annotates {X = Y} Q (tables_in entries) (Err own) (stop v)
  kept_stops P Q kept v (stops.Inconsistent version table) less told =
      (some_after domain (tables_in entries) (log_of entries) spans (suc kept.version) v (E24 version (name_at table (tables_in entries))) (omega (arith, less)) told.0, told.1)
  kept_stops P Q kept v (stops.Rows t k) less told = some_after domain (tables_in entries) (log_of entries) spans (suc kept.version) v (E25 t k) (omega (arith, less)) told
  kept_stops P Q kept v (stops.Ancestry t k) less told = some_after domain (tables_in entries) (log_of entries) spans (suc kept.version) v (E26 t k) (omega (arith, less)) told
  kept_stops P Q kept v stops.NoMemory less told = tt
