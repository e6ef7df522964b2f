-- Of the laws `spans_hold_the_versions` and `commits_publish_the_spans`: the spans of a state after a version, and how many there are.
use Rattle.std.specs.Prelude.{◌+◌, length, Bool, true, false, ℕ, zero, suc, Option, Some, None}
use Rattle.gp_base.specs.Identities.{Identity}
use Rattle.gp_versions.specs.declared.span.Span.{Span}
use Rattle.gp_machine.specs.State.{State}
use Rattle.gp_machine.specs.HistorySpans.{state_spans}

-- how many spans the first tables have, this many
abbrev pub span_count : {M : Type 0} → State M → ℕ → ℕ
span_count state zero = zero
span_count state (suc table) = span_count state table + length (state_spans state table)

-- the end of a span after a commit that wrote its row, or did not
abbrev pub end_after : ℕ → Bool → Option ℕ → Option ℕ
end_after version was_written (Some to) = Some to
end_after version true None = Some version
end_after version false None = None

-- a span after a commit that wrote these rows
abbrev pub span_after : ℕ → (Identity → Bool) → Span → Span
span_after version was_written span = record span { to = end_after version (was_written span.id) span.to }
