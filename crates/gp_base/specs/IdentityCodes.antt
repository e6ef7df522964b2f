-- Machinery: identities as lists of numbers. Rattle stores the value of a type with a model by such a code, and the order of identities is the
-- lexicographic order of their codes.
use Rattle.std.specs.Prelude.{◌≡◌, ℕ, zero, suc, ◌+◌, ◌≤◌, List, [], ◌∷◌, ◌++◌, length, Option, Some, None, option_and_then, refl}
use Rattle.std.specs.Coded.{Coded, code_by, coded_list, coded_ℕ}
use Rattle.std.proofs.Common.{arith, ap, sym, ◌∙◌, append_assoc, append-nil, length-append}
use denote.Param.Weighed.{most}
use Rattle.gp_base.specs.Identities.{Identity, Sources, identity, no_sources, source, nodes, nodes_in}
use Rattle.gp_base.specs.IdentityForms.{sources_of}

-- a 0 ends a list of sources, and a 1 comes before each of them
abbrev mutual
  pub code : Identity → List ℕ
  code (identity t k n ids) = t ∷ k ∷ n ∷ sources_code ids

  pub sources_code : Sources → List ℕ
  sources_code no_sources = 0 ∷ []
  sources_code (source id ids) = 1 ∷ (code id ++ sources_code ids)

abbrev numbered_identity : ℕ → ℕ → ℕ → Sources × List ℕ → Option (Identity × List ℕ)
numbered_identity t k n read = Some (identity t k n read.0, read.1)

abbrev with_source : Identity → Sources × List ℕ → Option (Sources × List ℕ)
with_source id read = Some (source id read.0, read.1)

-- the identity, or the sources, that a list of numbers begins with, and the rest of the list
abbrev mutual
  decode : ℕ → List ℕ → Option (Identity × List ℕ)
  decode zero xs = None
  decode (suc steps) [] = None
  decode (suc steps) (t ∷ []) = None
  decode (suc steps) (t ∷ k ∷ []) = None
  decode (suc steps) (t ∷ k ∷ n ∷ xs) = option_and_then (numbered_identity t k n) (decode_sources steps xs)

  decode_sources : ℕ → List ℕ → Option (Sources × List ℕ)
  decode_sources zero xs = None
  decode_sources (suc steps) [] = None
  decode_sources (suc steps) (zero ∷ xs) = Some (no_sources, xs)
  decode_sources (suc steps) (suc x ∷ xs) = option_and_then (λ (read : Identity × List ℕ). option_and_then (with_source read.0) (decode_sources steps read.1)) (decode steps xs)

mutual
  decode-code : (id : Identity) (steps : ℕ) (xs : List ℕ) → length (code id) ≤ steps → decode steps (code id ++ xs) ≡ Some (id, xs)
  decode-code (identity t k n ids) zero xs enough = absurd (omega (arith, enough))
  decode-code (identity t k n ids) (suc steps) xs enough = ap (option_and_then (numbered_identity t k n)) (decode_sources-code ids steps xs (omega (arith, enough)))

  decode_sources-code : (ids : Sources) (steps : ℕ) (xs : List ℕ) → length (sources_code ids) ≤ steps → decode_sources steps (sources_code ids ++ xs) ≡ Some (ids, xs)
  decode_sources-code no_sources zero xs enough = absurd (omega (arith, enough))
  decode_sources-code no_sources (suc steps) xs enough = refl
  decode_sources-code (source id ids) zero xs enough = absurd (omega (arith, enough))
  decode_sources-code (source id ids) (suc steps) xs enough =
      ap (λ (ys : List ℕ). decode_sources (suc steps) (1 ∷ ys)) (append_assoc (code id) (sources_code ids) xs)
      ∙ ap (option_and_then (λ (read : Identity × List ℕ). option_and_then (with_source read.0) (decode_sources steps read.1))) (decode-code id steps (sources_code ids ++ xs) (omega (arith, enough, length-append (code id) (sources_code ids))))
      ∙ ap (option_and_then (with_source id)) (decode_sources-code ids steps xs (omega (arith, enough, length-append (code id) (sources_code ids))))

abbrev identity_in : Option (Identity × List ℕ) → Identity
identity_in None = identity 0 0 0 no_sources
identity_in (Some read) = read.0

abbrev from_code : List ℕ → Identity
from_code xs = identity_in (decode (length xs) xs)

pub from_code-code : (id : Identity) → from_code (code id) ≡ id
from_code-code id = ap identity_in (ap (decode (length (code id))) (sym (append-nil (code id))) ∙ decode-code id (length (code id)) [] (omega arith))

abbrev pub coded_identity : Coded Identity
coded_identity = code_by (List ℕ) (coded_list coded_ℕ) code from_code from_code-code

-- each of these has fewer nodes than an identity with these sources
pub most_le-nodes : (ids : List Identity) → most (λ id. nodes id + 1) ids ≤ nodes_in (sources_of ids) + 1
most_le-nodes [] = omega arith
most_le-nodes (id ∷ ids) = omega (arith, most_le-nodes ids)

-- two identities with one code are equal
pub code-injective : (id other : Identity) → code id ≡ code other → id ≡ other
code-injective id other e = sym (from_code-code id) ∙ ap from_code e ∙ from_code-code other
