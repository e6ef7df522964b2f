use Rattle.std.proofs.Common.{sym, ◌∙◌}
use Rattle.std.specs.Str.{str_eq_ignore_ascii_case}
use Rattle.gp_lexer.specs.Lexemes.{symbol_text}
use Rattle.gp_lexer.proofs.WordLemmas.{find-others}
use Rattle.gp_lexer.proofs.symbol.+symbol_among.Goals as goal

pub returns-else-is_spelled : goal.returns-else-is_spelled
returns-else-is_spelled t c =
    c.symbol_among.ensures
    ∙ sym (find-others (λ symbol. str_eq_ignore_ascii_case (symbol_text symbol) c.args.word.now) _ c.args.symbols.now c.in-len1-up.len_at_least
    (sym c.is_spelled.ensures ∙ c.if-is_spelled.false))
