-- Lemmas of identities, for the recursions over their nodes.
use Rattle.std.proofs.Common.{◌≡◌, ◌-◌, ◌<◌, ◌≤◌, List, [], ◌∷◌, length, take, drop, refl, arith}
use Rattle.std.proofs.lemmas.List.{take_rest}
use Rattle.std.specs.declared.cmp.Ordering.TheVariants.{Less}
use Rattle.gp_base.specs.Identities.{Identity, identity, nodes, nodes_in, sources_cmp}
use Rattle.gp_base.specs.IdentityForms.{sources_of}

one_le_nodes : (id : Identity) → 1 ≤ nodes id
one_le_nodes (identity t k n ids) = omega arith

-- the identities after the first one have fewer nodes
pub nodes_in-others : (ids : List Identity) → 1 ≤ length ids → nodes_in (sources_of (take (length ids - 1) (drop 1 ids))) < nodes_in (sources_of ids)
nodes_in-others [] some = absurd (omega arith)
nodes_in-others (id ∷ ids) some = rw take_rest (omega (arith, one_le_nodes id))

-- no identities sort before some
pub none_is_less : (left right : List Identity) → length left < 1 → 1 ≤ length right → Less ≡ sources_cmp (sources_of left) (sources_of right)
none_is_less [] [] none some = absurd (omega arith)
none_is_less [] (id ∷ ids) none some = refl
none_is_less (id ∷ ids) right none some = absurd (omega arith)
