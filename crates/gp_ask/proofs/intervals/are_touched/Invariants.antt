use Rattle.std.proofs.Common.{◌≡◌, drop}
use Rattle.std.specs.List.{list_any}
use Rattle.gp_ask.specs.IntervalForms.{is_touched}
use Rattle.gp_ask.proofs.intervals.are_touched.Given as goal

-- the spans that remain decide
abbrev pub invariant-loop-span : goal.invariant-loop-span
invariant-loop-span l = list_any (is_touched l.version) (drop l.span-index l.spans) ≡ list_any (is_touched l.version) l.spans
