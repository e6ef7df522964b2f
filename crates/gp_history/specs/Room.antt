-- Of the laws `tokens_are_within_nodes` and `values_are_sums_over_the_history`: how often a token can occur in the annotation of a row, and when no count is
-- greater than a monomial can count.
use Rattle.std.specs.Prelude.{ℕ, zero, suc, ◌*◌, ◌≤◌, ◌==◌, List, length, if◌then◌else◌}
use Rattle.std.specs.List.{AllByRecursion}
use Rattle.gp_base.specs.declared.token.Token.{Token}
use Rattle.gp_base.specs.declared.token.Token.TheVariants.{Inserted, Queried, Updated}
use Rattle.gp_base.specs.Annotated.{Annotated}
use Rattle.gp_base.specs.Identities.{nodes}
use Rattle.gp_base.specs.Tokens.{greatest_count}
use Rattle.gp_versions.specs.declared.span.Span.{Span}
use Rattle.gp_algebra.specs.Statements.{Select}
use Rattle.gp_machine.specs.Entries.{Entry, Log, versions_in}
use Rattle.gp_machine.specs.Parameters.{Parameters}
use Rattle.gp_kexec.specs.SemiringForms.{occurs}

-- how many of the versions up to this one a transaction made
abbrev pub made_by : Log → ℕ → ℕ → ℕ
made_by log zero t = 0
made_by log (suc version) t = if log.committer (suc version) == t then suc (made_by log version t) else made_by log version t

-- how often a token can occur for each node of an identity: a token of an INSERT once, and one of an UPDATE once for each run of its transaction
abbrev pub for_each_node : (ℕ → ℕ) → Token → ℕ
for_each_node runs (Inserted t k n) = 1
for_each_node runs (Queried t k) = 1
for_each_node runs (Updated t k) = runs t

-- no token occurs in the annotation more often than this for each node of the row's identity
abbrev pub IsWithinNodes : (Token → ℕ) → Annotated (List Token) → Type 0
IsWithinNodes most row = (token : Token) → occurs token row.annotation ≤ most token * nodes row.identity

-- identities of spans are as small as those that statements make, and there are few enough versions and FROM items that no count is too great
pub record HasRoom (parameters : Parameters) (entries : List Entry) (spans : ℕ → List Span) (query : Select) : Type 0 where
  pub small : (table : ℕ) → AllByRecursion (λ span. nodes span.id ≤ parameters.nodes) (spans table)
  pub few : AllByRecursion (λ branch. suc (versions_in entries) * (parameters.nodes * length branch.from) ≤ greatest_count) query
