-- Of the law `publishing_replaces_the_written_rows`: a published table has the rows of a view in place of those that its transaction wrote.
use Rattle.std.specs.Prelude.{◌≡◌, ◌++◌, Bool, true, false, List, filter}
use Rattle.gp_base.specs.Identities.{Identity, same_identity}
use Rattle.gp_base.specs.Annotated.{Annotated}
use Rattle.gp_machine.specs.Publishing.{holds_identity}
use Rattle.gp_machine.specs.SeenRows.{HaveDifferentIdentities, unwritten}

abbrev pub rows_of_identity : {M : Type 0} → Identity → List (Annotated M) → List (Annotated M)
rows_of_identity id rows = filter (λ row. same_identity row.identity id) rows

-- Of the written identities, a later version of a table has only such as the base has: a row that the transaction made is in no other version.
abbrev pub AddsNoneOf : {M : Type 0} → (Identity → Bool) → List (Annotated M) → List (Annotated M) → Type 0
AddsNoneOf among base later = (id : Identity) → among id ≡ true → holds_identity id later ≡ true → holds_identity id base ≡ true

-- the published table has the rows of the view in place of the later rows that were written
pub record Replaces {M : Type 0} (among : Identity → Bool) (later view published : List (Annotated M)) : Type 0 where
  -- the later rows that were not written, and then the marked rows of the view, both in their order
  pub rows : published ≡ unwritten among later ++ filter (λ row. row.mark) view
  -- of an identity that was not written, the later rows
  pub others : (id : Identity) → among id ≡ false → rows_of_identity id published ≡ rows_of_identity id later
  -- of one that was written, the rows of the view
  pub own : (id : Identity) → among id ≡ true → rows_of_identity id published ≡ rows_of_identity id view
  -- no identity occurs twice, if none does in the later table
  pub different : HaveDifferentIdentities later → HaveDifferentIdentities published
