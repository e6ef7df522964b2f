use Rattle.std.proofs.Common.{◌≡◌, ◌∙◌, List, ℕ, ap, sym, subst, arith, take, true, None}
use Rattle.std.specs.Str.{str_to_ascii_lowercase}
use Rattle.gp_base.specs.Names.{is_name}
use Rattle.gp_lexer.specs.Lexing.{reserved_word}
use Rattle.gp_lexer.proofs.WordLemmas.{word-name}
use Rattle.gp_lexer.proofs.lexer.word_at.Goals as goal

pub word_lexeme-requires : goal.word_lexeme-requires
word_lexeme-requires c =
    let P : List ℕ → Type 0 = λ word. reserved_word word ≡ None → is_name (str_to_ascii_lowercase word) ≡ true in
    subst P (sym (c.split_at.ensures.front ∙ ap (λ n. take n c.args.bytes.now) c.word_len-len.ensures.value))
    (word-name c.args.bytes.now c.requires (omega (arith, c.word_len-len.ensures.value)))
