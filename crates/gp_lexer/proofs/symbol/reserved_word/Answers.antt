use Rattle.std.proofs.Common.{◌∙◌, ap}
use Rattle.std.specs.List.{find}
use Rattle.std.specs.Str.{str_eq_ignore_ascii_case}
use Rattle.gp_lexer.specs.Lexemes.{symbol_text}
use Rattle.gp_lexer.proofs.WordLemmas.{reserved-with-length}
use Rattle.gp_lexer.proofs.symbol.reserved_word.Goals as goal

pub returns : goal.returns
returns c =
    c.symbol_among.ensures ∙ ap (find (λ symbol. str_eq_ignore_ascii_case (symbol_text symbol) c.args.word.now)) c.reserved_with_len.ensures
    ∙ reserved-with-length c.args.word.now
