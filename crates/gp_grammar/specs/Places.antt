-- Part of the statement: the place of a syntax fault. It is the end of the longest prefix with which a sentence begins, as in LL and LR
-- parsers with the viable prefix property (Aho and Ullman, The Theory of Parsing, Translation, and Compiling, 1972).
use Rattle.std.specs.Prelude.{◌≡◌, [], ◌∷◌, ◌++◌}
use Rattle.gp_grammar.specs.Syntax.{Lexemes}

-- no sentence begins with these lexemes and the next one, where the end of the line counts as one
abbrev pub NoneGoesOn : {A : Type 0} → (Lexemes → A → Type 0) → Lexemes → Lexemes → Type 0
NoneGoesOn {A} Is prefix [] = (x : A) → ¬ Is prefix x
NoneGoesOn {A} Is prefix (t ∷ rest) = (more : Lexemes) (x : A) → ¬ Is (prefix ++ (t ∷ more)) x

-- a syntax fault is at the first lexeme of the rest: the lexemes before it begin a sentence, and with it they begin none
pub record Stops {A : Type 0} (Is : Lexemes → A → Type 0) (lexemes rest : Lexemes) : Type 0 where
  pub prefix : Lexemes
  pub split : lexemes ≡ prefix ++ rest
  pub more : Lexemes
  pub tree : A
  pub begins : Is (prefix ++ more) tree
  pub none : NoneGoesOn Is prefix rest
