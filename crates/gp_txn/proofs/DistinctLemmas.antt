-- The rows that an INSERT makes have different identities, and other ones than the rows that were there before. The lemmas hold of rows with any
-- annotations.
use Rattle.std.proofs.Common.{◌≡◌, ◌≢◌, ℕ, suc, ◌<◌, ◌≤◌, true, List, [], ◌∷◌, ◌++◌, map, refl, ap, ◌∙◌, arith}
use Rattle.std.specs.List.{filter, flat_map, AllByRecursion}
use Rattle.gp_base.specs.declared.cell.Cell.{Cell}
use Rattle.gp_base.specs.Identities.{identity, no_sources}
use Rattle.gp_base.specs.IdentityParts.{identity_transaction, identity_statement}
use Rattle.gp_base.specs.IdentityForms.{number_of}
use Rattle.gp_base.specs.declared.token.Token.TheVariants.{Inserted}
use Rattle.gp_base.specs.Annotated.{Annotations, Annotated, Database}
use Rattle.gp_algebra.specs.Statements.{Branch, Select}
use Rattle.gp_algebra.specs.Answers.{Element, values, passes_where, joined, choices, chosen, answer_from, answer}
use Rattle.gp_algebra.specs.Effects.{given_from, made}
use Rattle.gp_txn.proofs.PairLemmas.{Pairwise, all-filter, all-map, all-of, all-weaker, pairwise-append, pairwise-filter, pairwise-map}
use Rattle.gp_base.proofs.SmallLemmas.{each_append}

-- of different identities
abbrev pub RowsDiffer : {M : Type 0} → Annotated M → Annotated M → Type 0
RowsDiffer a b = a.identity ≢ b.identity

-- of different rows
abbrev pub SourcesDiffer : {M : Type 0} → Element M → Element M → Type 0
SourcesDiffer a b = a.sources ≢ b.sources

module _ {M : Type 0} (domain : Annotations M) where
  -- ---- choices

  tails-differ : (b : ℕ) (row : Annotated M) (x y : Element M) → SourcesDiffer x y → SourcesDiffer (joined domain b row x) (joined domain b row y)
  tails-differ b row x y differ same = differ cc

  heads-differ : (b : ℕ) (row other : Annotated M) (x y : Element M) → RowsDiffer row other → SourcesDiffer (joined domain b row x) (joined domain b other y)
  heads-differ b row other x y differ same = differ cc

  -- the choices with one row differ from those with each later row
  across-rows : (b : ℕ) (row : Annotated M) (x : Element M) (rest : List (Element M)) (rows : List (Annotated M)) → AllByRecursion (RowsDiffer row) rows
      → AllByRecursion (SourcesDiffer (joined domain b row x)) (flat_map (λ other. map (joined domain b other) rest) rows)
  across-rows b row x rest [] all = tt
  across-rows b row x rest (other ∷ rows) all =
      each_append (SourcesDiffer (joined domain b row x)) (map (joined domain b other) rest) (flat_map (λ r. map (joined domain b r) rest) rows)
      (all-of (joined domain b other) (SourcesDiffer (joined domain b row x)) (λ y. heads-differ b row other x y all.0) rest) (across-rows b row x rest rows all.1)

  choices-by_rows : (b : ℕ) (rest : List (Element M)) (rows : List (Annotated M)) → Pairwise SourcesDiffer rest → Pairwise RowsDiffer rows → Pairwise SourcesDiffer (flat_map (λ row. map (joined domain b row) rest) rows)
  choices-by_rows b rest [] tails differ = tt
  choices-by_rows b rest (row ∷ rows) tails differ =
      pairwise-append SourcesDiffer (map (joined domain b row) rest) (flat_map (λ r. map (joined domain b r) rest) rows)
      (pairwise-map (joined domain b row) SourcesDiffer SourcesDiffer (tails-differ b row) rest tails) (choices-by_rows b rest rows tails differ.1)
      (all-of (joined domain b row) (λ x. AllByRecursion (SourcesDiffer x) (flat_map (λ r. map (joined domain b r) rest) rows)) (λ x. across-rows b row x rest rows differ.0) rest)

  choices-differ : (b : ℕ) (db : Database M) → ((place : ℕ) → Pairwise RowsDiffer (db place)) → (places : List ℕ) → Pairwise SourcesDiffer (choices domain b places db)
  choices-differ b db differ [] = (tt, tt)
  choices-differ b db differ (place ∷ places) = choices-by_rows b (choices domain b places db) (db place) (choices-differ b db differ places) (differ place)

  -- ---- INSERT with a query

  module _ (t k : ℕ) where
    abbrev MadeDiffer : Element M → Element M → Type 0
    MadeDiffer x y = RowsDiffer (made domain t k x) (made domain t k y)

    abbrev IsAtLeast : ℕ → Element M → Type 0
    IsAtLeast b e = b ≤ e.branch

    made-differ : (branch : Branch) (x y : Element M) → SourcesDiffer x y → MadeDiffer (record x { cells = values branch.items x.cells }) (record y { cells = values branch.items y.cells })
    made-differ branch x y differ same = differ cc

    chosen-differ : (b : ℕ) (branch : Branch) (db : Database M) → ((place : ℕ) → Pairwise RowsDiffer (db place)) → Pairwise MadeDiffer (chosen domain b branch db)
    chosen-differ b branch db differ =
        pairwise-map (λ (e : Element M). record e { cells = values branch.items e.cells }) SourcesDiffer MadeDiffer (made-differ branch) (filter (λ (e : Element M). passes_where branch.cond e.cells) (choices domain b branch.from db))
        (pairwise-filter SourcesDiffer (λ (e : Element M). passes_where branch.cond e.cells) (choices domain b branch.from db) (choices-differ b db differ branch.from))

    -- ---- branches

    joined-branch : (b : ℕ) (row : Annotated M) (rest : List (Element M)) → AllByRecursion (λ (e : Element M). e.branch ≡ b) (map (joined domain b row) rest)
    joined-branch b row rest = all-of (joined domain b row) (λ (e : Element M). e.branch ≡ b) (λ e. refl) rest

    rows-branch : (b : ℕ) (rest : List (Element M)) (rows : List (Annotated M)) → AllByRecursion (λ (e : Element M). e.branch ≡ b) (flat_map (λ row. map (joined domain b row) rest) rows)
    rows-branch b rest [] = tt
    rows-branch b rest (row ∷ rows) = each_append (λ (e : Element M). e.branch ≡ b) (map (joined domain b row) rest) (flat_map (λ r. map (joined domain b r) rest) rows) (joined-branch b row rest) (rows-branch b rest rows)

    choices-branch : (b : ℕ) (places : List ℕ) (db : Database M) → AllByRecursion (λ (e : Element M). e.branch ≡ b) (choices domain b places db)
    choices-branch b [] db = (refl, tt)
    choices-branch b (place ∷ places) db = rows-branch b (choices domain b places db) (db place)

    chosen-branch : (b : ℕ) (branch : Branch) (db : Database M) → AllByRecursion (λ (e : Element M). e.branch ≡ b) (chosen domain b branch db)
    chosen-branch b branch db =
        all-map (λ (e : Element M). record e { cells = values branch.items e.cells }) (λ (e : Element M). e.branch ≡ b) (λ (e : Element M). e.branch ≡ b) (λ e same. same) (filter (λ (e : Element M). passes_where branch.cond e.cells) (choices domain b branch.from db))
        (all-filter (λ (e : Element M). e.branch ≡ b) (λ (e : Element M). passes_where branch.cond e.cells) (choices domain b branch.from db) (choices-branch b branch.from db))

    at-least : (b : ℕ) (select : Select) (db : Database M) → AllByRecursion (IsAtLeast b) (answer_from domain b select db)
    at-least b [] db = tt
    at-least b (branch ∷ select) db =
        each_append (IsAtLeast b) (chosen domain b branch db) (answer_from domain (suc b) select db)
        (all-weaker (λ (e : Element M). e.branch ≡ b) (IsAtLeast b) (λ e same. omega (arith, same)) (chosen domain b branch db) (chosen-branch b branch db))
        (all-weaker (IsAtLeast (suc b)) (IsAtLeast b) (λ e least. omega (arith, least)) (answer_from domain (suc b) select db) (at-least (suc b) select db))

    -- a later branch makes rows of a greater number
    later-differ : (b : ℕ) (x : Element M) (ys : List (Element M)) → x.branch ≡ b → AllByRecursion (IsAtLeast (suc b)) ys → AllByRecursion (MadeDiffer x) ys
    later-differ b x [] is all = tt
    later-differ b x (y ∷ ys) is all = (
      λ same. let branches : x.branch ≡ y.branch = ap number_of same in absurd (omega (arith, branches, is, all.0)),
      later-differ b x ys is all.1,
    )

    answer_from-differ : (b : ℕ) (select : Select) (db : Database M) → ((place : ℕ) → Pairwise RowsDiffer (db place)) → Pairwise MadeDiffer (answer_from domain b select db)
    answer_from-differ b [] db differ = tt
    answer_from-differ b (branch ∷ select) db differ =
        pairwise-append MadeDiffer (chosen domain b branch db) (answer_from domain (suc b) select db) (chosen-differ b branch db differ) (answer_from-differ (suc b) select db differ)
        (all-weaker (λ (e : Element M). e.branch ≡ b) (λ e. AllByRecursion (MadeDiffer e) (answer_from domain (suc b) select db)) (λ e is. later-differ b e (answer_from domain (suc b) select db) is (at-least (suc b) select db)) (chosen domain b branch db) (chosen-branch b branch db))

    -- the rows that an INSERT with a query makes
    pub made_rows-differ : (select : Select) (db : Database M) → ((place : ℕ) → Pairwise RowsDiffer (db place)) → Pairwise RowsDiffer (map (made domain t k) (answer domain select db))
    made_rows-differ select db differ = pairwise-map (made domain t k) MadeDiffer RowsDiffer (λ x y d. d) (answer domain select db) (answer_from-differ 1 select db differ)

    -- ---- INSERT with VALUES

    abbrev IsNumberAbove : ℕ → Annotated M → Type 0
    IsNumberAbove n row = n < number_of row.identity

    given-above : (n m : ℕ) (rows : List (List Cell)) → n < m → AllByRecursion (IsNumberAbove n) (given_from domain t k m rows)
    given-above n m [] above = tt
    given-above n m (cells ∷ rows) above = (above, given-above n (suc m) rows (omega arith))

    above-differ : (x : Annotated M) (ys : List (Annotated M)) → AllByRecursion (IsNumberAbove (number_of x.identity)) ys → AllByRecursion (RowsDiffer x) ys
    above-differ x [] all = tt
    above-differ x (y ∷ ys) all = (
      λ same. let numbers : number_of x.identity ≡ number_of y.identity = ap number_of same in absurd (omega (arith, numbers, all.0)),
      above-differ x ys all.1,
    )

    -- the rows of a VALUES list
    pub given_rows-differ : (n : ℕ) (rows : List (List Cell)) → Pairwise RowsDiffer (given_from domain t k n rows)
    given_rows-differ n [] = tt
    given_rows-differ n (cells ∷ rows) = (
      above-differ (record { identity = identity t k n no_sources; cells = cells; mark = true; annotation = domain.token (Inserted t k n) }) (given_from domain t k (suc n) rows) (given-above n (suc n) rows (omega arith)),
      given_rows-differ (suc n) rows,
    )

    -- ---- new identities

    -- made by the statement
    abbrev pub IsMade : Annotated M → Type 0
    IsMade row = (identity_transaction row.identity ≡ t) × (identity_statement row.identity ≡ k)

    -- not made by the statement or a later one of the transaction
    abbrev pub IsEarlier : Annotated M → Type 0
    IsEarlier row = identity_transaction row.identity ≡ t → identity_statement row.identity < k

    pub given_rows-made : (n : ℕ) (rows : List (List Cell)) → AllByRecursion IsMade (given_from domain t k n rows)
    given_rows-made n [] = tt
    given_rows-made n (cells ∷ rows) = ((refl, refl), given_rows-made (suc n) rows)

    pub made_rows-made : (elements : List (Element M)) → AllByRecursion IsMade (map (made domain t k) elements)
    made_rows-made elements = all-of (made domain t k) IsMade (λ e. (refl, refl)) elements

    made-fresh : (row : Annotated M) (new : List (Annotated M)) → IsEarlier row → AllByRecursion IsMade new → AllByRecursion (RowsDiffer row) new
    made-fresh row [] earlier all = tt
    made-fresh row (other ∷ new) earlier all = (
      λ same. let numbers : identity_statement row.identity ≡ identity_statement other.identity = ap identity_statement same in
          let lower : identity_statement row.identity < k = earlier (ap identity_transaction same ∙ all.0.0) in
          absurd (omega (arith, numbers, lower, all.0.1)),
      made-fresh row new earlier all.1,
    )

    -- new rows of different identities, behind rows that the statement did not make
    pub inserted-differ : (rows new : List (Annotated M)) → Pairwise RowsDiffer rows → AllByRecursion IsEarlier rows → Pairwise RowsDiffer new → AllByRecursion IsMade new → Pairwise RowsDiffer (rows ++ new)
    inserted-differ rows new differ earlier apart all =
        pairwise-append RowsDiffer rows new differ apart (all-weaker IsEarlier (λ row. AllByRecursion (RowsDiffer row) new) (λ row early. made-fresh row new early all) rows earlier)
