use Rattle.std.proofs.Common.{◌≡◌, ◌++◌, drop}
use Rattle.std.specs.BTreeMap.{get}
use Rattle.std.specs.Option.{is_some}
use Rattle.std.specs.Prelude.{filter}
use Rattle.gp_base.specs.Identities.{identity_cmp}
use Rattle.gp_versions.specs.declared.span.Span.{Span}
use Rattle.gp_ask.proofs.narrowing.asked_spans.Given as goal

-- those so far, and those of what remains
abbrev pub invariant-loop-span : goal.invariant-loop-span
invariant-loop-span l =
    l.found.items ++ filter (λ (span : Span). is_some (get identity_cmp l.asked span.id)) (drop l.span-index l.spans) ≡ filter (λ (span : Span). is_some (get identity_cmp l.asked span.id)) l.spans
