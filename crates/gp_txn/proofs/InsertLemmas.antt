-- The rows of an INSERT are new, and those of a VALUES list have small identities.
use Rattle.std.proofs.Common.{◌≡◌, ℕ, suc, IfOk, Result, Ok, Err, Bool, true, false, not, List, [], ◌∷◌, map, length, refl, ap, sym, subst}
use Rattle.std.specs.List.{AllByRecursion}
use Rattle.gp_base.specs.declared.cell.Cell.{Cell}
use Rattle.gp_base.specs.declared.stored.Stored.{Stored}
use Rattle.gp_base.specs.Annotated.{unannotated}
use Rattle.gp_algebra.specs.Answers.{answer}
use Rattle.gp_algebra.specs.Statements.{Select}
use Rattle.gp_algebra.specs.Effects.{given_from, made}
use Rattle.gp_versions.specs.Spans.{Versions}
use Rattle.gp_txn.specs.Inserting.{AreApart, AreNew, Makes, are_large}
use Rattle.gp_txn.specs.declared.error.StmtStop.{StmtStop}
use Rattle.gp_txn.specs.Overlay.{PlainRow, own_row}
use Rattle.gp_txn.specs.Rebasing.{writes_over}
use Rattle.gp_txn.specs.Transactions.{HoldsOthers, HoldsOwn, Writes, table_at, view_at, writes_at}
use Rattle.gp_txn.proofs.PairLemmas.{Pairwise}
use Rattle.gp_txn.proofs.DistinctLemmas.{RowsDiffer, IsMade, given_rows-differ, given_rows-made, made_rows-differ, made_rows-made}
use Rattle.gp_txn.proofs.OwnLemmas.{new-rows, view-differ}
use Rattle.gp_txn.proofs.RebaseLemmas.{keeps-over, view-over}

pub given-small : (t k n : ℕ) (rows : List (List Cell)) → are_large (given_from unannotated t k n rows) ≡ false
given-small t k n [] = refl
given-small t k n (cells ∷ rows) = given-small t k (suc n) rows

pub given-length : (t k n : ℕ) (rows : List (List Cell)) → length (given_from unannotated t k n rows) ≡ length rows
given-length t k n [] = refl
given-length t k n (cells ∷ rows) = ap suc (given-length t k (suc n) rows)

pub given-new : (t k : ℕ) (rows : List (List Cell)) (new : List Stored) → map own_row new ≡ given_from unannotated t k 1 rows → AreNew t k new
given-new t k rows new are =
    new-rows t k new (subst (Pairwise RowsDiffer) (sym are) (given_rows-differ unannotated t k 1 rows)) (subst (AllByRecursion (IsMade unannotated t k)) (sym are) (given_rows-made unannotated t k 1 rows))

-- no two rows that a transaction sees of a table are of one identity
pub views-differ : (writes : Writes) (versions : List Versions) (version : ℕ) → HoldsOwn writes → HoldsOthers writes.t versions → AreApart versions → (place : ℕ) → Pairwise RowsDiffer (view_at writes.tables versions version place)
views-differ writes versions version own others apart place =
    let table = writes_at place writes.tables in
    let spans = (table_at place versions).spans in
    subst (Pairwise RowsDiffer) (sym (view-over version table spans))
    (view-differ writes.t writes.last (writes_over version spans table) version spans (apart place) (others place) (keeps-over version table spans writes.t writes.last (apart place) (others place) (own place)))

pub made-new : (k version : ℕ) (select : Select) (writes : Writes) (versions : List Versions) (new : List Stored) → HoldsOwn writes → HoldsOthers writes.t versions → AreApart versions
    → map own_row new ≡ map (made unannotated writes.t k) (answer unannotated select (view_at writes.tables versions version)) → AreNew writes.t k new
made-new k version select writes versions new own others apart are =
    new-rows writes.t k new
    (subst (Pairwise RowsDiffer) (sym are) (made_rows-differ unannotated writes.t k select (view_at writes.tables versions version) (views-differ writes versions version own others apart)))
    (subst (AllByRecursion (IsMade unannotated writes.t k)) (sym are) (made_rows-made unannotated writes.t k (answer unannotated select (view_at writes.tables versions version))))

pub not-is : (b c : Bool) → not b ≡ c → b ≡ not c
not-is true c is = ap not is
not-is false c is = ap not is

-- what holds of rows that were made
pub when-made : (P : List Stored → Type 0) (result : Result (List Stored) StmtStop) (rows : List PlainRow) → Makes (map own_row) result rows → ((new : List Stored) → map own_row new ≡ rows → P new) → IfOk result P
when-made P (Ok new) rows made each = each new made.0
when-made P (Err stop) rows made each = tt
