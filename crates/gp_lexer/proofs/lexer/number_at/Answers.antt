use Rattle.std.proofs.Common.{◌∙◌, ap, sym, subst, take}
use Rattle.std.specs.Str.Parse.{AllDigits}
use Rattle.gp_lexer.proofs.NumberLemmas.{all-digits}
use Rattle.gp_lexer.proofs.lexer.number_at.Goals as goal

pub value_of-requires : goal.value_of-requires
value_of-requires c =
    subst (AllDigits 10) (sym (c.split_at.ensures.front ∙ ap (λ n. take n c.args.bytes.now) c.digits_len.ensures.value)) (all-digits c.args.bytes.now)
