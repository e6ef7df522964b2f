-- A transaction made one version at most, where each version is the one of the transaction that made it.
use Rattle.std.proofs.Common.{◌≡◌, ◌≤◌, ◌<◌, ℕ, zero, suc, cond, refl, sym, ap, ◌∙◌, arith, true, false, List, Some}
use Rattle.std.specs.Prelude.{◌==◌}
use Rattle.gp_machine.specs.Entries.{Entry, committer_of, log_of, version_of, versions_in}
use Rattle.gp_history.specs.Room.{made_by}
use Rattle.std.proofs.lemmas.Bool.{eqb-true}
use Rattle.std.proofs.lemmas.Option.{same_Some}

module _ (entries : List Entry) (makes : (u : ℕ) → u < versions_in entries → version_of (committer_of (suc u) entries) entries ≡ Some (suc u)) where
  -- no version before the one of the transaction
  none_before : (t own : ℕ) → version_of t entries ≡ Some own → (version : ℕ) → version < own → version ≤ versions_in entries → made_by (log_of entries) version t ≡ zero
  none_before t own is zero below within = refl
  none_before t own is (suc version) below within =
      let earlier : made_by (log_of entries) version t ≡ zero = none_before t own is version (omega arith) (omega arith) in
      elim (committer_of (suc version) entries == t) as (λ b. (committer_of (suc version) entries == t) ≡ b → cond b (suc (made_by (log_of entries) version t)) (made_by (log_of entries) version t) ≡ zero) [
        | true ↦ λ e. absurd (apart (eqb-true (committer_of (suc version) entries) t e))
        | false ↦ λ e. earlier
      ] refl
    where
      apart : committer_of (suc version) entries ≡ t → ⊥
      apart e =
          let made : version_of (committer_of (suc version) entries) entries ≡ Some (suc version) = makes version (omega arith) in
          let both : suc version ≡ own = same_Some (suc version) own (sym made ∙ ap (λ u. version_of u entries) e ∙ is) in
          absurd (omega arith)

  pub made_once : (t version : ℕ) → version ≤ versions_in entries → made_by (log_of entries) version t ≤ 1
  made_once t zero within = omega arith
  made_once t (suc version) within =
      let earlier : made_by (log_of entries) version t ≤ 1 = made_once t version (omega arith) in
      elim (committer_of (suc version) entries == t) as (λ b. (committer_of (suc version) entries == t) ≡ b → cond b (suc (made_by (log_of entries) version t)) (made_by (log_of entries) version t) ≤ 1) [
        | true ↦ λ e. first (eqb-true (committer_of (suc version) entries) t e)
        | false ↦ λ e. earlier
      ] refl
    where
      first : committer_of (suc version) entries ≡ t → suc (made_by (log_of entries) version t) ≤ 1
      first e =
          let own : version_of t entries ≡ Some (suc version) = ap (λ u. version_of u entries) (sym e) ∙ makes version (omega arith) in
          let none : made_by (log_of entries) version t ≡ zero = none_before t (suc version) own version (omega arith) (omega arith) in
          omega arith
