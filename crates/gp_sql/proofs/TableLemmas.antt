-- The tables of a dump, one behind the others.
use Rattle.gp_sql.proofs.Prelude.{◌≡◌, ℕ, zero, suc, ◌+◌, List, [], ◌∷◌, ◌++◌, drop, Some, None, refl, sym, ap, ◌∙◌, append_assoc, arith, Option, slice_get, Table, Span}
use Rattle.gp_sql.specs.PlacedTables.{place_text, text_of_both}
use Rattle.gp_sql.specs.TableTexts.{tables_text}
use Rattle.gp_sql.proofs.ListLemmas.{one-more}

no-lists : (tables : List Table) → tables_text tables [] ≡ []
no-lists [] = refl
no-lists (table ∷ tables) = refl

no-text : (table : Option Table) → text_of_both table None ≡ []
no-text None = refl
no-text (Some table) = refl

tables-more : (tables : List Table) (lists : List (List Span)) (place : ℕ) → tables_text (drop place tables) (drop place lists) ≡ place_text tables lists place ++ tables_text (drop (suc place) tables) (drop (suc place) lists)
tables-more [] lists zero = refl
tables-more [] lists (suc place) = refl
tables-more (table ∷ tables) [] zero = sym (no-lists tables)
tables-more (table ∷ tables) [] (suc place) = no-lists (drop place tables) ∙ sym (λ i. no-text (slice_get tables place) i ++ no-lists (drop (suc place) tables) i)
tables-more (table ∷ tables) (spans ∷ lists) zero = refl
tables-more (table ∷ tables) (spans ∷ lists) (suc place) = tables-more tables lists place

pub tables-kept : (tables : List Table) (lists : List (List Span)) (place : ℕ) → (out later all : List ℕ) → later ≡ out ++ place_text tables lists place
    → out ++ tables_text (drop place tables) (drop place lists) ≡ all → later ++ tables_text (drop (place + 1) tables) (drop (place + 1) lists) ≡ all
tables-kept tables lists place out later all text same =
    ap (λ (z : List ℕ). z ++ tables_text (drop (place + 1) tables) (drop (place + 1) lists)) text
    ∙ append_assoc out (place_text tables lists place) (tables_text (drop (place + 1) tables) (drop (place + 1) lists))
    ∙ ap (λ (n : ℕ). out ++ (place_text tables lists place ++ tables_text (drop n tables) (drop n lists))) (one-more place)
    ∙ ap (λ (z : List ℕ). out ++ z) (sym (tables-more tables lists place))
    ∙ same
