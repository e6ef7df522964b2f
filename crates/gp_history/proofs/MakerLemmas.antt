-- The transaction that made a version is known, and made this version alone.
use Rattle.std.proofs.Common.{◌≡◌, ℕ, suc, ◌<◌, ◌≤◌, true, cond, List, arith, Some, None, nat_lt}
use Rattle.std.specs.Prelude.{◌&&◌, not}
use Rattle.std.specs.Option.{is_none}
use Rattle.std.proofs.lemmas.Bool.Decides.{nat_tests}
use Rattle.gp_base.specs.declared.refusal.Refusal.TheVariants.{E20, E21}
use Rattle.gp_log.specs.Sessions.{KeepsSessions}
use Rattle.gp_log.proofs.KeptSessions as kept
use Rattle.gp_machine.specs.Entries.{Entry, committer_of, fate_of, transactions_in, version_of, versions_in}
use Rattle.gp_machine.specs.Questions.{is_known, transaction_refusal}
use Rattle.std.proofs.lemmas.Bool.{le-leb}

pub maker_version : (entries : List Entry) → KeepsSessions entries → (u : ℕ) → u < versions_in entries → version_of (committer_of (suc u) entries) entries ≡ Some (suc u)
maker_version entries keeps u l = kept.maker_version entries keeps u l

pub maker_positive : (entries : List Entry) → KeepsSessions entries → (u : ℕ) → u < versions_in entries → 0 < committer_of (suc u) entries
maker_positive entries keeps u l = let began = (kept.orderly entries keeps).makers u l in omega (arith, began.0)

-- the log does not refuse it
pub maker_known : (entries : List Entry) → KeepsSessions entries → (u : ℕ) → u < versions_in entries → transaction_refusal (committer_of (suc u) entries) entries ≡ None
maker_known entries keeps u l =
    let t : ℕ = committer_of (suc u) entries in
    let made : version_of t entries ≡ Some (suc u) = maker_version entries keeps u l in
    let began = (kept.orderly entries keeps).makers u l in
    (λ i. cond (not (known t (maker_positive entries keeps u l) began.1 i)) (Some (E20 t)) (cond (is_none (made i)) (Some (E21 t (fate_of t entries))) None))
  where
    known : (t : ℕ) → 0 < t → t ≤ transactions_in entries → is_known t entries ≡ true
    known t some few = λ i. first t some i && le-leb t (transactions_in entries) few i
      where
        first : (t : ℕ) → 0 < t → nat_lt 0 t ≡ true
        first t some = grind (arith, nat_tests)
