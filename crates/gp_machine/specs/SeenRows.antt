-- Of the law `transactions_keep_their_invariant`: the invariant of a running transaction: what it reads, against the version that it read last and the rows
-- that it wrote.
use Rattle.std.specs.Prelude.{◌≡◌, ℕ, ◌≤◌, Bool, false, not, List, [], ◌∷◌, filter}
use Rattle.std.specs.List.{list_any, AllByRecursion}
use Rattle.gp_base.specs.Identities.{Identity, same_identity}
use Rattle.gp_base.specs.IdentityParts.{identity_transaction, identity_statement}
use Rattle.gp_base.specs.Annotated.{Annotated, Database}
use Rattle.gp_algebra.specs.Effects.{Written}
use Rattle.gp_machine.specs.Committed.{is_written}

-- no two items are alike
abbrev pub AreDistinct : {A : Type 0} → (A → A → Bool) → List A → Type 0
AreDistinct alike [] = Unit {0}
AreDistinct alike (item ∷ items) = (list_any (λ other. alike other item) items ≡ false) × AreDistinct alike items

abbrev pub same_row : {M : Type 0} → Annotated M → Annotated M → Bool
same_row row other = same_identity row.identity other.identity

abbrev pub HaveDifferentIdentities : {M : Type 0} → List (Annotated M) → Type 0
HaveDifferentIdentities rows = AreDistinct same_row rows

-- the rows whose identity was not written
abbrev pub unwritten : {M : Type 0} → (Identity → Bool) → List (Annotated M) → List (Annotated M)
unwritten was_written rows = filter (λ row. not (was_written row.identity)) rows

-- A view of a table: no identity occurs twice, the marked rows are those that were written, and all others are as in the version that the
-- transaction read last.
pub record AreSeenRows {M : Type 0} (was_written : Identity → Bool) (base view : List (Annotated M)) : Type 0 where
  pub different : HaveDifferentIdentities view
  pub marks : AllByRecursion (λ row. row.mark ≡ was_written row.identity) view
  pub others : unwritten was_written view ≡ unwritten was_written base

-- what transaction t reads after k statements: a view of each table, where its own identities are of these statements
pub record IsViewOf {M : Type 0} (t k : ℕ) (base view : Database M) (written : List Written) : Type 0 where
  pub tables : (table : ℕ) → AreSeenRows (λ id. is_written table id written) (base table) (view table)
  pub own : (table : ℕ) → AllByRecursion (λ row. identity_transaction row.identity ≡ t → identity_statement row.identity ≤ k) (view table)
