-- A text that is refused says nothing.
use Rattle.std.proofs.Common.{◌≡◌, ℕ, false, List, Some, None, Result, Ok, Err, refl, sym, subst, codes}
use Rattle.std.specs.Str.{bytes_eq}
use Rattle.gp_base.specs.declared.refusal.Refusal.{Refusal}
use Rattle.gp_grammar.specs.LineReading.{Fault}
use Rattle.gp_grammar.specs.Reading.{command_of}
use Rattle.gp_grammar.specs.Syntax.{Command}
use Rattle.gp_base.specs.declared.stop.Stop.{Stop}
use Rattle.gp_base.specs.declared.stop.Stop.TheVariants.{Refused}
use Rattle.gp_syntax.specs.ReadResults.{Returns, refusal_in}
use Rattle.gp_syntax.specs.Views.{command_view}
use Rattle.gp_dumpline.specs.Forms.{if_canonical, said_of}

canonical-refused : (text : List ℕ) (reading : Result Command Fault) (refusal : Refusal) → refusal_in reading ≡ Some refusal → if_canonical text reading ≡ None
canonical-refused text (Ok x) refusal e = absurd cc
canonical-refused text (Err fault) refusal e = refl

pub said-refused : (text : List ℕ) (stop : Stop) (refusal : Refusal) → bytes_eq text (codes "LOST") ≡ false → stop ≡ Refused refusal
    → Returns command_view (Err stop) (command_of text) → None ≡ said_of text
unfolding said_of
said-refused text stop refusal other is returns =
    let e : refusal_in (command_of text) ≡ Some refusal = subst (λ (s : Stop). Returns command_view (Err s) (command_of text)) is returns in
    rw other (sym (canonical-refused text (command_of text) refusal e))
