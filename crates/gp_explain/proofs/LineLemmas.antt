-- A text that ends in a line feed is its lines.
use Rattle.gp_explain.proofs.Prelude.{◌≡◌, ℕ, Bool, true, false, cond, List, [], ◌∷◌, ◌++◌, refl, sym, ap, ◌∙◌, ◌==◌, not, list_all, and_from, list_all-append, Table, PlainProgram, Spells, program_text, lines_from, text_lines}
use Rattle.std.proofs.Common.{append_assoc}
use Rattle.std.specs.Prelude.{codes}
use Rattle.std.specs.List.{flat_map}
use Rattle.std.proofs.lemmas.Bool.{eqb-true}
use Rattle.gp_base.specs.Numbered.{newline}
use Rattle.gp_plantext.specs.Spelling.{last_text, query_text, step_text}
use Rattle.gp_explain.specs.LineTexts.{AreLines, is_line}

-- whether nothing is behind the last line feed, given whether nothing is before the text
abbrev ends : Bool → List ℕ → Bool
ends done [] = done
ends done (byte ∷ bytes) = ends (byte == 10) bytes

true_false : true ≡ false → ⊥
true_false e = cc

-- the beginning of a line
lines_join : (line text : List ℕ) (done : Bool) → (done ≡ true → line ≡ []) → ends done text ≡ true → flat_map (λ line. line ++ 10 ∷ []) (lines_from line text) ≡ line ++ text
lines_join line [] done empty so = sym (ap (λ l. l ++ []) (empty so))
lines_join line (byte ∷ bytes) done empty so =
    go (byte == 10) refl (lines_join [] bytes (byte == 10) (λ e. refl) so) (λ (none : (byte == 10) ≡ false). lines_join (line ++ byte ∷ []) bytes (byte == 10) (λ e. absurd (true_false (sym e ∙ none))) so)
  where
    go : (b : Bool) → (byte == 10) ≡ b → flat_map (λ line. line ++ 10 ∷ []) (lines_from [] bytes) ≡ bytes
        → ((byte == 10) ≡ false → flat_map (λ line. line ++ 10 ∷ []) (lines_from (line ++ byte ∷ []) bytes) ≡ (line ++ byte ∷ []) ++ bytes)
        → flat_map (λ line. line ++ 10 ∷ []) (cond b (line ∷ lines_from [] bytes) (lines_from (line ++ byte ∷ []) bytes)) ≡ line ++ byte ∷ bytes
    go true is next same =
        ap (λ rest. (line ++ 10 ∷ []) ++ rest) next ∙ append_assoc line (10 ∷ []) bytes ∙ ap (λ b. line ++ b ∷ bytes) (sym (eqb-true byte 10 is))
    go false is next same = same is ∙ append_assoc line (byte ∷ []) bytes

lines_alone : (line text : List ℕ) → is_line line ≡ true → list_all is_line (lines_from line text) ≡ true
lines_alone line [] so = refl
lines_alone line (byte ∷ bytes) so =
    go (byte == 10) refl (lines_alone [] bytes refl) (λ (alone : is_line (line ++ byte ∷ []) ≡ true). lines_alone (line ++ byte ∷ []) bytes alone)
  where
    go : (b : Bool) → (byte == 10) ≡ b → list_all is_line (lines_from [] bytes) ≡ true
        → (is_line (line ++ byte ∷ []) ≡ true → list_all is_line (lines_from (line ++ byte ∷ []) bytes) ≡ true)
        → list_all is_line (cond b (line ∷ lines_from [] bytes) (lines_from (line ++ byte ∷ []) bytes)) ≡ true
    go true is next same = and_from (is_line line) _ so next
    go false is next same =
        same (list_all-append (λ byte. not (byte == 10)) line (byte ∷ []) ∙ and_from (is_line line) _ so (and_from (not (byte == 10)) true (ap not is) refl))

-- ---- texts of programs end in a line feed

ends_behind : (xs ys : List ℕ) → ((done : Bool) → ends done ys ≡ true) → (done : Bool) → ends done (xs ++ ys) ≡ true
ends_behind [] ys so done = so done
ends_behind (x ∷ xs) ys so done = ends_behind xs ys so (x == 10)

program_ends : (tables : List Table) (program : PlainProgram) → (done : Bool) → ends done (program_text tables program) ≡ true
program_ends tables program =
    ends_behind (flat_map (step_text tables) program.steps) (last_text tables program.last)
    (ends_behind (codes "QUERY ") (query_text tables program.last ++ (newline ++ []))
    (ends_behind (query_text tables program.last) (newline ++ []) (λ done. refl)))

pub spelled_lines : (tables : List Table) (program : PlainProgram) (text : List ℕ) → Spells tables program text → AreLines (text_lines text) text
spelled_lines tables program text spelled = record {
  whole = lines_join [] text true (λ e. refl) (ap (ends true) (sym spelled.is) ∙ program_ends tables program true);
  single = lines_alone [] text refl;
}
