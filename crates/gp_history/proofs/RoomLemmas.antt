-- There is room where the versions are at most so many, and the items of each FROM.
use Rattle.std.proofs.Common.{◌≤◌, ℕ, suc, ◌*◌, List, length, arith}
use Rattle.std.specs.List.{AllByRecursion}
use Rattle.std.proofs.lemmas.Nat.{mul-le}
use Rattle.gp_base.specs.Identities.{nodes}
use Rattle.gp_base.specs.Tokens.{greatest_count}
use Rattle.gp_versions.specs.declared.span.Span.{Span}
use Rattle.gp_algebra.specs.Statements.{Select}
use Rattle.gp_machine.specs.Entries.{Entry, versions_in}
use Rattle.gp_machine.specs.Parameters.{Parameters}
use Rattle.gp_machine.proofs.Distinct.{each_weaker}
use Rattle.gp_history.specs.Room.{HasRoom}
use Rattle.gp_history.proofs.Bounds.{at_most}

pub has_room : (parameters : Parameters) (entries : List Entry) (spans : ℕ → List Span) (query : Select) (versions items : ℕ) → ((table : ℕ) → AllByRecursion (λ span. nodes span.id ≤ parameters.nodes) (spans table))
    → versions_in entries ≤ versions → AllByRecursion (λ branch. length branch.from ≤ items) query → suc versions * (parameters.nodes * items) ≤ greatest_count → HasRoom parameters entries spans query
has_room parameters entries spans query versions items small few short room = record {
  small = small;
  few = each_weaker (λ branch. suc (versions_in entries) * (parameters.nodes * length branch.from) ≤ greatest_count) (λ branch. length branch.from ≤ items)
      (λ branch is. at_most (suc (versions_in entries) * (parameters.nodes * length branch.from)) (suc versions * (parameters.nodes * items)) greatest_count
      (mul-le (suc (versions_in entries)) (parameters.nodes * length branch.from) (suc versions) (parameters.nodes * items) (omega arith) (mul-le parameters.nodes (length branch.from) parameters.nodes items (omega arith) is)) room) query short;
}
