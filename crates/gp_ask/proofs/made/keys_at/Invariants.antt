use Rattle.std.proofs.Common.{◌≡◌, ◌++◌, map}
use Rattle.gp_base.specs.Annotated.{unannotated}
use Rattle.gp_history.specs.Agreement.{key_of}
use Rattle.gp_history.specs.Matching.{keys_of}
use Rattle.gp_versions.specs.Spans.{row_of}
use Rattle.gp_ask.proofs.made.keys_at.Given as goal

-- the spans that remain give the other keys
abbrev pub invariant-loop-span : goal.invariant-loop-span
invariant-loop-span l = l.keys.items ++ map key_of (map (row_of unannotated) l.span-iterator) ≡ keys_of l.version l.table.spans
