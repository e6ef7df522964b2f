-- The loop over a line: the lexemes so far, and those of the rest, are the lexemes of the line.
use Rattle.std.proofs.Common.{◌≡◌, ℕ, zero, suc, ◌-◌, ◌<◌, ◌≤◌, true, false, List, [], ◌∷◌, ◌++◌, length, take, drop, get_or, Some, None, Ok, Err, refl, sym, subst, arith, ◌∙◌, append_assoc, length-append}
use Rattle.std.proofs.lemmas.Grind.{common_steps}
use Rattle.std.proofs.lemmas.List.{append-nil}
use Rattle.gp_lexer.specs.declared.lexeme.Lexeme.{Lexeme}
use Rattle.gp_lexer.specs.Lexing.{Lexed, with_lexeme, column_of, lexed_from, lexed, is_blank, lexeme_at}
use Rattle.gp_lexer.proofs.ShorterLemmas.{RestAtMost, lexeme-shorter}

-- these lexemes, and then others
abbrev pub with_lexemes : List Lexeme → List ℕ → Lexed → Lexed
with_lexemes lexemes columns (Ok others) = Ok (lexemes ++ others.0, columns ++ others.1)
with_lexemes lexemes columns (Err fault) = Err fault

with_lexemes-nil : (l : Lexed) → with_lexemes [] [] l ≡ l
with_lexemes-nil (Ok l) = refl
with_lexemes-nil (Err fault) = refl

with_lexemes-with_lexeme : (ls : List Lexeme) (cs : List ℕ) (x : Lexeme) (c : ℕ) (l : Lexed) → with_lexemes ls cs (with_lexeme x c l) ≡ with_lexemes (ls ++ x ∷ []) (cs ++ c ∷ []) l
with_lexemes-with_lexeme ls cs x c (Ok l) =
    let e : ls ++ (x ∷ l.0) ≡ (ls ++ x ∷ []) ++ l.0 = sym (append_assoc ls (x ∷ []) l.0) in
    let f : cs ++ (c ∷ l.1) ≡ (cs ++ c ∷ []) ++ l.1 = sym (append_assoc cs (c ∷ []) l.1) in
    cc
with_lexemes-with_lexeme ls cs x c (Err fault) = refl

pub record Left (lexemes : List Lexeme) (columns line rest : List ℕ) : Type 0 where
  pub bound : ℕ
  pub enough : length rest ≤ bound
  pub within : length rest ≤ length line
  pub one_each : length columns ≡ length lexemes
  pub is : with_lexemes lexemes columns (lexed_from bound line rest) ≡ lexed line

pub left-start : (line : List ℕ) → Left [] [] line line
unfolding lexed
left-start line = record { bound = length line; enough = omega arith; within = omega arith; one_each = refl; is = with_lexemes-nil (lexed_from (length line) line line) }

pub left-end : (lexemes : List Lexeme) (columns line : List ℕ) → Left lexemes columns line [] → lexed line ≡ Ok (lexemes, columns)
unfolding lexed_from
left-end lexemes columns line h = sym h.is ∙ by h.bound
  where
    by : (bound : ℕ) → with_lexemes lexemes columns (lexed_from bound line []) ≡ Ok (lexemes, columns)
    by zero = let e = append-nil lexemes in let f = append-nil columns in cc
    by (suc bound) = let e = append-nil lexemes in let f = append-nil columns in cc

take-others : (b : ℕ) (bytes : List ℕ) → take (length (b ∷ bytes) - 1) (drop 1 (b ∷ bytes)) ≡ bytes
take-others b bytes = grind (arith, common_steps)

pub left-blank : (lexemes : List Lexeme) (columns line rest : List ℕ) → 1 ≤ length rest → is_blank (get_or rest 0 0) ≡ true
    → Left lexemes columns line rest → Left lexemes columns line (take (length rest - 1) (drop 1 rest))
unfolding lexed_from
left-blank lexemes columns line [] some blank h = absurd (omega arith)
left-blank lexemes columns line (b ∷ bytes) some blank h = subst (Left lexemes columns line) (sym (take-others b bytes)) (by h.bound h.enough h.is)
  where
    by : (bound : ℕ) → length (b ∷ bytes) ≤ bound → with_lexemes lexemes columns (lexed_from bound line (b ∷ bytes)) ≡ lexed line → Left lexemes columns line bytes
    by zero enough is = absurd (omega arith)
    by (suc bound) enough is = record { bound = bound; enough = omega arith; within = omega (arith, h.within); one_each = h.one_each; is = rw blank at is }

pub left-fault : (lexemes : List Lexeme) (columns line rest : List ℕ) → 1 ≤ length rest → is_blank (get_or rest 0 0) ≡ false → lexeme_at rest ≡ None
    → Left lexemes columns line rest → lexed line ≡ Err (column_of line rest)
unfolding lexed_from
left-fault lexemes columns line [] some seen none h = absurd (omega arith)
left-fault lexemes columns line (b ∷ bytes) some seen none h = by h.bound h.enough h.is
  where
    by : (bound : ℕ) → length (b ∷ bytes) ≤ bound → with_lexemes lexemes columns (lexed_from bound line (b ∷ bytes)) ≡ lexed line → lexed line ≡ Err (column_of line (b ∷ bytes))
    by zero enough is = absurd (omega arith)
    by (suc bound) enough is = sym (rw none at (rw seen at is))

pub rest-shorter : (rest others : List ℕ) (x : Lexeme) → 1 ≤ length rest → lexeme_at rest ≡ Some (x, others) → length others < length rest
rest-shorter [] others x some found = absurd (omega arith)
rest-shorter (b ∷ bytes) others x some found = let h : length others ≤ length bytes = subst (RestAtMost (length bytes)) found (lexeme-shorter b bytes) in omega arith

pub left-lexeme : (lexemes : List Lexeme) (columns line rest others : List ℕ) (x : Lexeme) → 1 ≤ length rest → is_blank (get_or rest 0 0) ≡ false
    → lexeme_at rest ≡ Some (x, others) → Left lexemes columns line rest → Left (lexemes ++ x ∷ []) (columns ++ column_of line rest ∷ []) line others
unfolding lexed_from
left-lexeme lexemes columns line [] others x some seen found h = absurd (omega arith)
left-lexeme lexemes columns line (b ∷ bytes) others x some seen found h = by h.bound h.enough h.is (rest-shorter (b ∷ bytes) others x some found)
  where
    by : (bound : ℕ) → length (b ∷ bytes) ≤ bound → with_lexemes lexemes columns (lexed_from bound line (b ∷ bytes)) ≡ lexed line → length others < length (b ∷ bytes)
        → Left (lexemes ++ x ∷ []) (columns ++ column_of line (b ∷ bytes) ∷ []) line others
    by zero enough is shorter = absurd (omega arith)
    by (suc bound) enough is shorter = record {
      bound = bound;
      enough = omega arith;
      within = omega (arith, h.within);
      one_each = simp length-append (omega (arith, h.one_each));
      is = sym (with_lexemes-with_lexeme lexemes columns x (column_of line (b ∷ bytes)) (lexed_from bound line others)) ∙ rw found at (rw seen at is);
    }

pub empty : (rest : List ℕ) → length rest < 1 → rest ≡ []
empty [] h = refl
empty (b ∷ bytes) h = absurd (omega arith)
