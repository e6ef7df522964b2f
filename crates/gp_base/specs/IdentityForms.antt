-- Machinery: the other parts of an identity, sources as a list, and the identities that the code can hold.
use Rattle.std.specs.Prelude.{ℕ, ◌≤◌, List, [], ◌∷◌}
use Rattle.gp_base.specs.declared.row_id.TheConstants.{MAX_NODES}
use Rattle.gp_base.specs.Identities.{Identity, Sources, identity, no_sources, source, nodes}

abbrev pub sources_of : List Identity → Sources
sources_of [] = no_sources
sources_of (id ∷ ids) = source id (sources_of ids)

abbrev pub number_of : Identity → ℕ
number_of (identity t k n ids) = n

abbrev pub sources_in : Identity → Sources
sources_in (identity t k n ids) = ids

-- numbers of 32 bits, and not too many nodes
abbrev mutual
  pub IsIdentity : Identity → Type 0
  IsIdentity (identity t k n ids) =
      (t ≤ 0xffff_ffff) × ((k ≤ 0xffff_ffff) × ((n ≤ 0xffff_ffff) × ((nodes (identity t k n ids) ≤ MAX_NODES) × AreIdentities ids)))

  pub AreIdentities : Sources → Type 0
  AreIdentities no_sources = Unit {0}
  AreIdentities (source id ids) = IsIdentity id × AreIdentities ids
