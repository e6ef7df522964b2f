-- What the log does not refuse may be asked about.
use Rattle.gp_machine.proofs.Prelude.{◌≡◌, ℕ, ◌≤◌, Bool, true, false, cond, List, refl, Option, Some, None, nat_le, ◌&&◌, not, nat_lt, is_none, E20, E21, E22, E23, Entry, statement_count, version_of, versions_in, IsAsked, to_commit, to_statement, to_version, log_refusal, none_parts, some_none, leb-true}
use Rattle.gp_grammar.specs.Syntax as y
use Rattle.gp_machine.specs.Entries.{fate_of}
use Rattle.gp_machine.specs.Questions.{is_known, statement_refusal, transaction_refusal}

-- a transaction that the log does not refuse made a version
made_version : (t : ℕ) (entries : List Entry) → transaction_refusal t entries ≡ None → (version : ℕ) × (version_of t entries ≡ Some version)
made_version t entries e = go (not (is_known t entries)) (version_of t entries) refl e
  where
    go : (a : Bool) (v : Option ℕ) → version_of t entries ≡ v → cond a (Some (E20 t)) (cond (is_none v) (Some (E21 t (fate_of t entries))) None) ≡ None → (version : ℕ) × (version_of t entries ≡ Some version)
    go true v made e = absurd (some_none _ e)
    go false None made e = absurd (some_none _ e)
    go false (Some version) made e = (version, made)

has_statement : (t k : ℕ) (entries : List Entry) → statement_refusal t k entries ≡ None → k ≤ statement_count t entries
has_statement t k entries e = go (nat_lt 0 k) (nat_le k (statement_count t entries)) refl e
  where
    go : (a b : Bool) → nat_le k (statement_count t entries) ≡ b → cond (a && b) None (Some (E22 t (statement_count t entries))) ≡ None → k ≤ statement_count t entries
    go true true is e = leb-true k (statement_count t entries) is
    go true false is e = absurd (some_none _ e)
    go false b is e = absurd (some_none _ e)

-- a point that the log does not refuse is one that may be asked about
pub asked : (entries : List Entry) (point : y.Point) → log_refusal entries point ≡ None → IsAsked entries point
asked entries (y.as_of version) e = go (nat_le version (versions_in entries)) refl e
  where
    go : (b : Bool) → nat_le version (versions_in entries) ≡ b → cond b None (Some (E23 (versions_in entries))) ≡ None → IsAsked entries (y.as_of version)
    go true is e = to_version (leb-true version (versions_in entries) is)
    go false is e = absurd (some_none _ e)
asked entries (y.after t k) e =
    let parts = none_parts (transaction_refusal t entries) (statement_refusal t k entries) e in
    let made = made_version t entries parts.0 in
    to_statement {version = made.0} made.1 (has_statement t k entries parts.1)
asked entries (y.Point.commit t) e = let made = made_version t entries e in to_commit {version = made.0} made.1
