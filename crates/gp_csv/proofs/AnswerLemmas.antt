-- Fields and records with_heading in turn, and records read back.
use Rattle.std.proofs.Common.{◌≡◌, ℕ, ◌+◌, ◌<◌, ◌≤◌, List, [], ◌∷◌, ◌++◌, length, map, take, drop, get_or, sym, ap, ◌∙◌, append_assoc, append-nil, add-one}
use Rattle.std.specs.Prelude.{codes}
use Rattle.std.specs.Fmt.{decimal}
use Rattle.std.proofs.lemmas.Grind.{flat_map-append}
use Rattle.std.proofs.lemmas.List.{drop_more, drop_all, take_more, map-append}
use Rattle.csv.specs.Writing.{default_writer, row_text}
use Rattle.gp_base.specs.declared.cell.Cell.{Cell}
use Rattle.gp_csv.specs.Answers.{csv_text, field_of, record_of, titles_from}

pub fields-next : (fields : List (List ℕ)) (cells : List Cell) (i : ℕ) (d : Cell) → i < length cells
    → (fields ++ map field_of (take i cells)) ++ field_of (get_or cells i d) ∷ [] ≡ fields ++ map field_of (take (i + 1) cells)
fields-next fields cells i d within =
    append_assoc fields (map field_of (take i cells)) (field_of (get_or cells i d) ∷ [])
    ∙ ap (λ (t : List (List ℕ)). fields ++ t) (sym (ap (map field_of) (take_more cells i d within) ∙ map-append field_of (take i cells) (get_or cells i d ∷ [])))

pub ruleset field_steps = (fields-next)

pub records-next : (number : ℕ) (out : List ℕ) (rows : List (List Cell)) (i : ℕ) (d : List Cell) → i < length rows
    → (out ++ csv_text (map (record_of number) (take i rows))) ++ row_text default_writer (record_of number (get_or rows i d)) ≡ out ++ csv_text (map (record_of number) (take (i + 1) rows))
records-next number out rows i d within =
    append_assoc out (csv_text (map (record_of number) (take i rows))) (row_text default_writer (record_of number (get_or rows i d)))
    ∙ ap (λ (t : List ℕ). out ++ t) (sym (ap (λ (t : List (List Cell)). csv_text (map (record_of number) t)) (take_more rows i d within)
    ∙ ap csv_text (map-append (record_of number) (take i rows) (get_or rows i d ∷ []))
    ∙ flat_map-append (row_text default_writer) (map (record_of number) (take i rows)) (record_of number (get_or rows i d) ∷ [])
    ∙ ap (λ (t : List ℕ). csv_text (map (record_of number) (take i rows)) ++ t) (append-nil (row_text default_writer (record_of number (get_or rows i d))))))

pub ruleset record_steps = (records-next)

pub titles-next : (fields : List (List ℕ)) (cells : List Cell) (place i : ℕ) (d : Cell) → i < length cells
    → (fields ++ (codes "c" ++ decimal place) ∷ []) ++ titles_from (place + 1) (drop (i + 1) cells) ≡ fields ++ titles_from place (drop i cells)
titles-next fields cells place i d within = rw (drop_more cells i d within, add-one) (append_assoc fields ((codes "c" ++ decimal place) ∷ []) _)

pub titles-end : (fields : List (List ℕ)) (cells : List Cell) (place i : ℕ) → length cells ≤ i → fields ++ titles_from place (drop i cells) ≡ fields
titles-end fields cells place i past = rw (drop_all i cells past) (append-nil fields)

pub ruleset title_steps = (titles-next, titles-end)

pub texts-next : (fields texts : List (List ℕ)) (i : ℕ) (d : List ℕ) → i < length texts → (fields ++ take i texts) ++ get_or texts i d ∷ [] ≡ fields ++ take (i + 1) texts
texts-next fields texts i d within = append_assoc fields (take i texts) (get_or texts i d ∷ []) ∙ ap (λ (t : List (List ℕ)). fields ++ t) (sym (take_more texts i d within))

pub ruleset text_steps = (texts-next)
