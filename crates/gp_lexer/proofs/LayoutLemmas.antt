-- Proper lexemes in canonical spacing are read as themselves.
use Rattle.std.proofs.Common.{◌≡◌, ℕ, zero, suc, ◌+◌, ◌≤◌, Bool, true, false, List, [], ◌∷◌, ◌++◌, length, Some, Ok, refl, sym, ap, subst, arith, ◌∙◌, append_assoc, length-append}
use Rattle.std.proofs.lemmas.List.{append-nil}
use Rattle.std.specs.Option.{option_map}
use Rattle.std.specs.Result.{result_ok}
use Rattle.gp_lexer.specs.declared.gap.Gap.{Gap}
use Rattle.gp_lexer.specs.declared.gap.Gap.TheVariants.{Start, AfterComma, Spaced}
use Rattle.gp_lexer.specs.declared.lexeme.Symbol.TheVariants as s
use Rattle.gp_lexer.specs.declared.lexeme.Lexeme.{Lexeme}
use Rattle.gp_lexer.specs.declared.lexeme.Lexeme.TheVariants.{Symbol as Sign}
use Rattle.gp_lexer.specs.Layout.{is_separated, has_space, next_gap, Page, empty_page, spaced, put, written, laid_out}
use Rattle.gp_lexer.specs.Lexemes.{symbol_text, spelled}
use Rattle.gp_lexer.specs.ProperLexemes.{IsProper, AreProper}
use Rattle.gp_lexer.specs.Lexing.{Lexed, with_lexeme, lexed_from, lexed}
use Rattle.gp_lexer.specs.LexResults.{lexemes_of}
use Rattle.gp_lexer.proofs.SpellingLemmas.{Lexes, Follows, lexes, open-lexes, dot-lexes, minus-lexes}

-- the text that the lexemes add after this gap
abbrev pub added : Gap → List Lexeme → List ℕ
added gap [] = []
added gap (lexeme ∷ lexemes) = spaced (has_space gap lexeme) (spelled lexeme) ++ added (next_gap gap lexeme) lexemes

pub written-added : (page : Page) (lexemes : List Lexeme) → (written page lexemes).text ≡ page.text ++ added page.gap lexemes
unfolding written
written-added page [] = sym (append-nil page.text)
written-added page (lexeme ∷ lexemes) =
    written-added (put page lexeme) lexemes ∙ append_assoc page.text (spaced (has_space page.gap lexeme) (spelled lexeme)) (added (next_gap page.gap lexeme) lexemes)

-- ---- what is after a lexeme

close-follows : (lexeme : Lexeme) (rest : List ℕ) → is_separated lexeme ≡ false → Follows (spelled lexeme ++ rest)
unfolding symbol_text
close-follows (Sign s.Close) rest h = refl
close-follows (Sign s.Comma) rest h = refl
close-follows (Sign s.Dot) rest h = refl
close-follows _ rest h = absurd cc

spaced-follows : (space : Bool) (lexeme : Lexeme) (rest : List ℕ) → space ≡ is_separated lexeme → Follows (spaced space (spelled lexeme) ++ rest)
spaced-follows true lexeme rest e = refl
spaced-follows false lexeme rest e = close-follows lexeme rest (sym e)

after-spaced : (lexemes : List Lexeme) → Follows (added Spaced lexemes)
after-spaced [] = tt
after-spaced (lexeme ∷ lexemes) = spaced-follows (is_separated lexeme) lexeme (added (next_gap Spaced lexeme) lexemes) refl

after-comma : (lexemes : List Lexeme) → Follows (added AfterComma lexemes)
after-comma [] = tt
after-comma (lexeme ∷ lexemes) = spaced-follows (is_separated lexeme) lexeme (added (next_gap AfterComma lexeme) lexemes) refl

lexes-there : (gap : Gap) (lexeme : Lexeme) (lexemes : List Lexeme) → IsProper lexeme → Lexes lexeme (added (next_gap gap lexeme) lexemes)
lexes-there gap (Sign s.Open) lexemes h = open-lexes _
lexes-there gap (Sign s.Dot) lexemes h = dot-lexes _
lexes-there gap (Sign s.Minus) lexemes h = minus-lexes _
lexes-there gap (Sign s.Comma) lexemes h = lexes (Sign s.Comma) _ h (after-comma lexemes)
lexes-there gap lexeme lexemes h = lexes lexeme _ h (after-spaced lexemes)

-- ---- the line

-- a line that is read as these lexemes
record Reads (line : Lexed) (lexemes : List Lexeme) : Type 0 where
  columns : List ℕ
  is : line ≡ Ok (lexemes, columns)

module _ (line : List ℕ) where
  reads-lexeme : (bound : ℕ) (lexeme : Lexeme) (rest : List ℕ) (lexemes : List Lexeme) → Lexes lexeme rest → length (spelled lexeme ++ rest) ≤ bound
      → ((fewer : ℕ) → length rest ≤ fewer → Reads (lexed_from fewer line rest) lexemes) → Reads (lexed_from bound line (spelled lexeme ++ rest)) (lexeme ∷ lexemes)
  unfolding lexed_from
  reads-lexeme bound lexeme rest lexemes h enough others =
      let P : List ℕ → Type 0 = λ text. length (text ++ rest) ≤ bound → Reads (lexed_from bound line (text ++ rest)) (lexeme ∷ lexemes) in
      subst P (sym h.spelling) (by bound) enough
    where
      longer : length rest ≤ length (h.others ++ rest)
      longer = let e : length (h.others ++ rest) ≡ length h.others + length rest = length-append h.others rest in omega arith

      with-others : (column : ℕ) (read : Lexed) → Reads read lexemes → Reads (with_lexeme lexeme column read) (lexeme ∷ lexemes)
      with-others column read r = record { columns = column ∷ r.columns; is = ap (with_lexeme lexeme column) r.is }

      by : (bound : ℕ) → length (h.first ∷ (h.others ++ rest)) ≤ bound → Reads (lexed_from bound line (h.first ∷ (h.others ++ rest))) (lexeme ∷ lexemes)
      by zero enough = absurd (omega arith)
      by (suc fewer) enough = rw h.seen (rw h.is (with-others _ (lexed_from fewer line rest) (others fewer (omega (arith, longer)))))

  reads-space : (bound : ℕ) (bytes : List ℕ) (lexemes : List Lexeme) → length (32 ∷ bytes) ≤ bound
      → ((fewer : ℕ) → length bytes ≤ fewer → Reads (lexed_from fewer line bytes) lexemes) → Reads (lexed_from bound line (32 ∷ bytes)) lexemes
  unfolding lexed_from
  reads-space zero bytes lexemes enough others = absurd (omega arith)
  reads-space (suc fewer) bytes lexemes enough others = others fewer (omega arith)

  reads-spaced : (space : Bool) (bound : ℕ) (lexeme : Lexeme) (rest : List ℕ) (lexemes : List Lexeme) → Lexes lexeme rest → length (spaced space (spelled lexeme) ++ rest) ≤ bound
      → ((fewer : ℕ) → length rest ≤ fewer → Reads (lexed_from fewer line rest) lexemes) → Reads (lexed_from bound line (spaced space (spelled lexeme) ++ rest)) (lexeme ∷ lexemes)
  reads-spaced true bound lexeme rest lexemes h enough others =
      reads-space bound (spelled lexeme ++ rest) (lexeme ∷ lexemes) enough (λ fewer enough'. reads-lexeme fewer lexeme rest lexemes h enough' others)
  reads-spaced false bound lexeme rest lexemes h enough others = reads-lexeme bound lexeme rest lexemes h enough others

  reads-added : (gap : Gap) (lexemes : List Lexeme) → AreProper lexemes → (bound : ℕ) → length (added gap lexemes) ≤ bound → Reads (lexed_from bound line (added gap lexemes)) lexemes
  unfolding lexed_from
  reads-added gap [] h zero enough = record { columns = []; is = refl }
  reads-added gap [] h (suc fewer) enough = record { columns = []; is = refl }
  reads-added gap (lexeme ∷ lexemes) h bound enough =
      reads-spaced (has_space gap lexeme) bound lexeme (added (next_gap gap lexeme) lexemes) lexemes (lexes-there gap lexeme lexemes h.0) enough
      (λ fewer enough'. reads-added (next_gap gap lexeme) lexemes h.1 fewer enough')

pub lexemes_of-laid_out : (lexemes : List Lexeme) → AreProper lexemes → lexemes_of (laid_out lexemes) ≡ Some lexemes
unfolding lexed
lexemes_of-laid_out lexemes h =
    let text : laid_out lexemes ≡ added Start lexemes = written-added empty_page lexemes in
    let read = reads-added (added Start lexemes) Start lexemes h (length (added Start lexemes)) (omega arith) in
    ap lexemes_of text ∙ ap (λ line. option_map (λ found. found.0) (result_ok line)) read.is
