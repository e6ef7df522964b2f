use Rattle.std.proofs.Common.{map}
use Rattle.std.specs.Prelude.{filter}
use Rattle.gp_base.proofs.Permutations.{permuted}
use Rattle.gp_machine.specs.Entries.{versions_in}
use Rattle.gp_ask.specs.Intervals.{Interval, has_version, intervals}
use Rattle.gp_ask.proofs.CarriedLemmas.{ascends}
use Rattle.gp_ask.proofs.IntervalBags.{intervals-found}
use Rattle.gp_ask.proofs.WhenLemmas.{unrefused}
use Rattle.gp_ask.proofs.laws.intervals_agree_with_versions.Goals as goal

pub returns-clause-bags : goal.returns-clause-bags
returns-clause-bags c = λ answers sorted last version within.
    permuted (map (λ (own : Interval). own.row) (filter (has_version version) (intervals answers last))) (answers version)
    (intervals-found answers (λ v. ascends (answers v) (sorted v)) version last within)

pub returns-clause-rows : goal.returns-clause-rows
returns-clause-rows c = λ dump query version within none. unrefused dump query (versions_in dump.entries) version within none
