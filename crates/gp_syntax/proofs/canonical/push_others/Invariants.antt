use Rattle.std.proofs.Common.{◌≡◌, ◌++◌, take}
use Rattle.std.specs.List.{flat_map}
use Rattle.gp_syntax.specs.Layouts.{separator_lexemes}
use Rattle.gp_lexer.specs.Layout.{written}
use Rattle.gp_syntax.proofs.canonical.push_others.Given as goal

abbrev pub invariant-loop-item : goal.invariant-loop-item
invariant-loop-item g l = l.layout ≡ written l.initial.layout (flat_map (λ item. separator_lexemes l.separator ++ g.F.LexemeFormat.lexemes item) (take l.item-index l.items))
