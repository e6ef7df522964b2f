-- What a statement keeps of the identities of a database, with any annotations, and how many rows it writes.
use Rattle.std.proofs.Common.{ℕ, suc, arith}
use Rattle.gp_base.specs.Annotated.{Annotations, Annotated}
use Rattle.gp_txn.proofs.DistinctLemmas.{IsEarlier}

module _ {M : Type 0} (domain : Annotations M) (t k : ℕ) where
  -- ---- the transaction's own rows are of statements up to this one

  later : (row : Annotated M) → IsEarlier domain t k row → IsEarlier domain t (suc k) row
  later row earlier own = omega (arith, earlier own)
