use Rattle.std.proofs.Common.{◌++◌, drop, map}
use Rattle.std.specs.List.Sorted.{IsPermutation}
use Rattle.gp_history.specs.Matching.{keys_from, keys_of}
use Rattle.gp_history.specs.Noted.{held_key}
use Rattle.gp_history.proofs.matching.are_in_order.Given as goal

-- if the rows that are left are those of the other spans, all are those of all
abbrev pub invariant-loop-span : goal.invariant-loop-span
invariant-loop-span g l =
    IsPermutation (keys_from l.kept l.written l.at) (keys_of l.version (map (λ span. span.now) (drop l.span-index l.spans)))
    → IsPermutation (map held_key l.kept ++ map held_key l.written) (keys_of l.version (map (λ span. span.now) l.spans))
