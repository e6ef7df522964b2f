-- Part of the statement: row identities, their order and their texts. An identity names the transaction and the statement that made a row, the
-- row's number there, and the identities of the rows that it was computed from, so it is the row's whole derivation tree.
use Rattle.std.specs.Prelude.{ℕ, ◌+◌, ◌==◌, Bool, true, false, ◌&&◌, List, [], ◌∷◌, codes}
use Rattle.std.specs.List.{concat}
use Rattle.std.specs.Fmt.{decimal}
use Rattle.std.specs.Ordering.{nat_cmp, ordering_then}
use Rattle.std.specs.declared.cmp.Ordering.{Ordering}
use Rattle.std.specs.declared.cmp.Ordering.TheVariants.{Less, Equal, Greater}

mutual
  -- the transaction, the statement, the number (of the row of a VALUES list, or of the branch of a query), and the sources
  pub data Identity : Type 0 where
    identity : ℕ → ℕ → ℕ → Sources → Identity

  -- the identities of the rows that it was computed from, in the order of FROM
  pub data Sources : Type 0 where
    no_sources : Sources
    source : Identity → Sources → Sources

abbrev mutual
  -- how many identities it consists of, itself included
  pub nodes : Identity → ℕ
  nodes (identity t k n ids) = nodes_in ids + 1

  pub nodes_in : Sources → ℕ
  nodes_in no_sources = 0
  nodes_in (source id ids) = nodes id + nodes_in ids

abbrev mutual
  pub same_identity : Identity → Identity → Bool
  same_identity (identity t k n ids) (identity u l m others) = (t == u) && ((k == l) && ((n == m) && same_sources ids others))

  pub same_sources : Sources → Sources → Bool
  same_sources no_sources no_sources = true
  same_sources (source id ids) (source other others) = same_identity id other && same_sources ids others
  same_sources _ _ = false

abbrev mutual
  -- by transaction, statement and number, then by the sources
  pub identity_cmp : Identity → Identity → Ordering
  identity_cmp (identity t k n ids) (identity u l m others) =
      ordering_then (nat_cmp t u) (ordering_then (nat_cmp k l) (ordering_then (nat_cmp n m) (sources_cmp ids others)))

  -- one after another: a proper prefix is less
  pub sources_cmp : Sources → Sources → Ordering
  sources_cmp no_sources no_sources = Equal
  sources_cmp no_sources (source id ids) = Less
  sources_cmp (source id ids) no_sources = Greater
  sources_cmp (source id ids) (source other others) = ordering_then (identity_cmp id other) (sources_cmp ids others)

abbrev mutual
  -- t.k.n, or t.k.b(id,id)
  pub identity_text : Identity → List ℕ
  identity_text (identity t k n ids) = concat (decimal t ∷ codes "." ∷ decimal k ∷ codes "." ∷ decimal n ∷ sources_text ids ∷ [])

  pub sources_text : Sources → List ℕ
  sources_text no_sources = []
  sources_text (source id ids) = concat (codes "(" ∷ identity_text id ∷ others_text ids ∷ [])

  pub others_text : Sources → List ℕ
  others_text no_sources = codes ")"
  others_text (source id ids) = concat (codes "," ∷ identity_text id ∷ others_text ids ∷ [])
