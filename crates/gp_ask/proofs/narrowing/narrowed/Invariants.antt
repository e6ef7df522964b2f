use Rattle.std.proofs.Common.{◌≡◌, [], length, ℕ}
use Rattle.gp_reenact.specs.Reenacting.{spans_of}
use Rattle.gp_ask.proofs.narrowing.narrowed.Given as goal

-- as many tables as turns, none of which has a span
abbrev pub invariant-loop : goal.invariant-loop
invariant-loop l = (length l.tables.items ≡ l.counter) × ((place : ℕ) → spans_of l.tables.items place ≡ [])
