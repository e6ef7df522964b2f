use Rattle.gp_ask.specs.ChangeForms.{spans_texts}
use Rattle.std.proofs.Common.{◌≡◌, ◌++◌, None, drop}
use Rattle.std.specs.Option.{option_map}
use Rattle.gp_ask.proofs.changes.push_table.Given as goal

-- the spans that remain give the other lines
abbrev pub invariant-loop-i : goal.invariant-loop-i
invariant-loop-i l =
    l.lines ++ spans_texts l.name l.version (option_map (λ span. span.now) l.last) (drop l.i l.spans) ≡ l.initial.lines ++ spans_texts l.name l.version None l.spans
