-- Lemmas of the writer.
use Rattle.gp_dump.proofs.Prelude.{◌≡◌, Bool, ℕ, zero, suc, ◌+◌, ◌<◌, List, [], ◌∷◌, ◌++◌, length, map, reverse, take, drop, get_or, Some, refl, sym, ap, ◌∙◌, arith, add-one, append_assoc, flat_map, range_with_len, IsPermutation, IsSortedByKey, option_cmp, append-nil, length-map, length-reverse, map-append, reverse-append, reverse-reverse, Table, sorted_by, Span, Versions, span_cmp, AreWhole, NoOverlap, tables_in, entry_view, log_view, count_text, end_text, entry_text, header, section_text, span_text, span_cmp_total}
use Rattle.std.specs.List.{slice_get}
use Rattle.std.proofs.lemmas.List.Concat.{flat_map-append}
use Rattle.std.proofs.lemmas.List.Sorted.{length_permutation}
use Rattle.gp_machine.specs.Entries as m
use Rattle.gp_log.specs.declared.entry.Entry.{Entry}
use Rattle.gp_dump.specs.Dumps.{dump_text, with_newline, sections_texts}
use Rattle.gp_dump.specs.WholeDumps.{dump_with}
use Rattle.gp_dump.specs.Views.{tables_view}
use Rattle.gp_dump.specs.Writing.{found_text, log_line_text, ordered, place_text, row_line_text, section_texts}
use Rattle.gp_dump.proofs.SortLemmas.{somes, spans-in-order, permutation-sorted}
use Rattle.gp_log.proofs.CountLemmas.{log_view-length}

-- ---- row lines

places-text : (spans : List Span) (places : List ℕ) → flat_map (place_text spans) places ≡ flat_map found_text (map (slice_get spans) places)
places-text spans [] = refl
places-text spans (place ∷ places) = ap (λ (rest : List ℕ). place_text spans place ++ rest) (places-text spans places)

somes-text : (spans : List Span) → flat_map found_text (somes spans) ≡ flat_map row_line_text spans
somes-text [] = refl
somes-text (span ∷ spans) = ap (λ (rest : List ℕ). row_line_text span ++ rest) (somes-text spans)

-- the row lines at sorted places are those of the sorted spans
pub rows-text : (spans : List Span) (places : List ℕ) → NoOverlap spans → AreWhole spans → IsPermutation (range_with_len 0 (length spans)) places
    → IsSortedByKey (slice_get spans) (option_cmp span_cmp) places → flat_map (place_text spans) places ≡ flat_map row_line_text (sorted_by span_cmp spans)
rows-text spans places apart are-whole moved sorted =
    places-text spans places ∙ ap (flat_map found_text) (spans-in-order spans places apart are-whole moved sorted) ∙ somes-text (sorted_by span_cmp spans)

-- ---- sections

lines-text : (spans : List Span) → flat_map with_newline (map span_text spans) ≡ flat_map row_line_text spans
lines-text [] = refl
lines-text (span ∷ spans) = ap (λ (rest : List ℕ). row_line_text span ++ rest) (lines-text spans)

length-sorted : (spans : List Span) → length (sorted_by span_cmp spans) ≡ length spans
length-sorted spans = length_permutation spans (sorted_by span_cmp spans) (permutation-sorted span_cmp span_cmp_total spans)

-- a section line, a line feed, and the row lines
pub section-text : (front : List ℕ) (table : Table) (spans : List Span) (rows : ℕ) → rows ≡ length spans
    → ((front ++ section_text table.name rows) ++ 10 ∷ []) ++ flat_map row_line_text (sorted_by span_cmp spans) ≡ front ++ flat_map with_newline (section_texts table (sorted_by span_cmp spans))
section-text front table spans rows count =
    let sorted : List Span = sorted_by span_cmp spans in
    let number : rows ≡ length sorted = count ∙ sym (length-sorted spans) in
    ap (λ (text : List ℕ). text ++ flat_map row_line_text sorted) (append_assoc front (section_text table.name rows) (10 ∷ []))
    ∙ append_assoc front (with_newline (section_text table.name rows)) (flat_map row_line_text sorted)
    ∙ ap (λ (rest : List ℕ). front ++ (with_newline (section_text table.name rows) ++ rest)) (sym (lines-text sorted))
    ∙ ap (λ (n : ℕ). front ++ (with_newline (section_text table.name n) ++ flat_map with_newline (map span_text sorted))) number

sections-step : (tables : List Table) (spans : List (List Span)) (place : ℕ) (table : Table) (here : List Span) → slice_get tables place ≡ Some table → slice_get spans place ≡ Some here
    → sections_texts (drop place tables) (drop place spans) ≡ section_texts table here ++ sections_texts (drop (suc place) tables) (drop (suc place) spans)
sections-step [] spans place table here is are = absurd cc
sections-step (first ∷ tables) [] place table here is are = absurd cc
sections-step (first ∷ tables) (found ∷ spans) zero table here is are =
    let a : first ≡ table = cc in
    let b : found ≡ here = cc in
    rw (a, b) refl
sections-step (first ∷ tables) (found ∷ spans) (suc place) table here is are = sections-step tables spans place table here is are

-- the text of the tables from a place on
pub sections-more : (tables : List Table) (spans : List (List Span)) (place : ℕ) (table : Table) (here : List Span) → slice_get tables place ≡ Some table → slice_get spans place ≡ Some here
    → flat_map with_newline (sections_texts (drop place tables) (drop place spans)) ≡ flat_map with_newline (section_texts table here) ++ flat_map with_newline (sections_texts (drop (place + 1) tables) (drop (place + 1) spans))
sections-more tables spans place table here is are =
    let step = sections-step tables spans place table here is are in
    rw add-one (ap (flat_map with_newline) step ∙ flat_map-append with_newline (section_texts table here) (sections_texts (drop (suc place) tables) (drop (suc place) spans)))

-- the spans of the table at a place, in the order of their lines
pub ordered-at : (versions : List Versions) (place : ℕ) (table : Versions) → place < length versions → table ≡ get_or versions place table → slice_get (ordered versions) place ≡ Some (sorted_by span_cmp table.spans)
ordered-at [] place table within is = absurd (omega (arith, within))
ordered-at (first ∷ versions) zero table within is = ap (λ (x : Versions). Some (sorted_by span_cmp x.spans)) (sym is)
ordered-at (first ∷ versions) (suc place) table within is = ordered-at versions place table (omega (arith, within)) is

-- a text behind what is written is the beginning of what is left
pub text-more : (out next due left lines rest : List ℕ) → out ++ left ≡ due → left ≡ lines ++ rest → next ≡ out ++ lines → next ++ rest ≡ due
text-more out next due left lines rest is split here = ap (λ (text : List ℕ). text ++ rest) here ∙ append_assoc out lines rest ∙ ap (λ (text : List ℕ). out ++ text) (sym split) ∙ is

-- ---- log lines

log-step : (entries : List Entry) (place : ℕ) (entry : Entry) → slice_get entries place ≡ Some entry → flat_map log_line_text (take (suc place) entries) ≡ flat_map log_line_text (take place entries) ++ log_line_text entry
log-step [] place entry is = absurd cc
log-step (first ∷ entries) zero entry is =
    let e : first ≡ entry = cc in
    rw e (append-nil (log_line_text entry))
log-step (first ∷ entries) (suc place) entry is =
    ap (λ (rest : List ℕ). log_line_text first ++ rest) (log-step entries place entry is) ∙ sym (append_assoc (log_line_text first) (flat_map log_line_text (take place entries)) (log_line_text entry))

-- one log line more
pub log-more : (out next : List ℕ) (before : List ℕ) (entries : List Entry) (place : ℕ) (entry : Entry) → slice_get entries place ≡ Some entry → out ≡ before ++ flat_map log_line_text (take place entries) → next ≡ out ++ log_line_text entry
    → next ≡ before ++ flat_map log_line_text (take (place + 1) entries)
log-more out next before entries place entry is so-far here =
    let step = log-step entries place entry is in
    rw add-one (here ∙ ap (λ (text : List ℕ). text ++ log_line_text entry) so-far ∙ append_assoc before (flat_map log_line_text (take place entries)) (log_line_text entry) ∙ ap (λ (text : List ℕ). before ++ text) (sym step))

-- ---- the whole

reverse-map : {A B : Type 0} (f : A → B) (xs : List A) → reverse (map f xs) ≡ map f (reverse xs)
reverse-map f [] = refl
reverse-map f (x ∷ xs) =
    reverse-append (f x ∷ []) (map f xs) ∙ ap (λ ys. ys ++ f x ∷ []) (reverse-map f xs) ∙ sym (map-append f (reverse xs) (x ∷ [])) ∙ ap (map f) (sym (reverse-append (x ∷ []) xs))

view-reverse : (entries : List Entry) → reverse (log_view entries) ≡ map entry_view entries
view-reverse entries = reverse-map entry_view (reverse entries) ∙ ap (map entry_view) (reverse-reverse entries)

log-text : (entries : List Entry) → flat_map with_newline (map entry_text (map entry_view entries)) ≡ flat_map log_line_text entries
log-text [] = refl
log-text (entry ∷ entries) = ap (λ (rest : List ℕ). log_line_text entry ++ rest) (log-text entries)

-- all that is written
pub whole-text : (second : Bool) (entries : List Entry) (versions : List Versions)
    → ((([] ++ (with_newline (header second) ++ with_newline (count_text (length entries)))) ++ flat_map log_line_text entries) ++ flat_map with_newline (sections_texts (tables_in (log_view entries)) (ordered versions))) ++ with_newline end_text
    ≡ dump_text second (dump_with (log_view entries) (tables_view versions))
whole-text second entries versions =
    let head : List ℕ = with_newline (header second) in
    let count : List ℕ = with_newline (count_text (length entries)) in
    let log : List ℕ = flat_map log_line_text entries in
    let sections : List (List ℕ) = sections_texts (tables_in (log_view entries)) (ordered versions) in
    let last : List ℕ = with_newline end_text in
    let log-is : flat_map with_newline (map entry_text (reverse (log_view entries))) ≡ log = ap (λ (all : List m.Entry). flat_map with_newline (map entry_text all)) (view-reverse entries) ∙ log-text entries in
    let behind : flat_map with_newline (sections ++ end_text ∷ []) ≡ flat_map with_newline sections ++ last = flat_map-append with_newline sections (end_text ∷ []) ∙ ap (λ (text : List ℕ). flat_map with_newline sections ++ text) (append-nil last) in
    let body : flat_map with_newline (map entry_text (reverse (log_view entries)) ++ (sections ++ end_text ∷ [])) ≡ log ++ (flat_map with_newline sections ++ last) =
    flat_map-append with_newline (map entry_text (reverse (log_view entries))) (sections ++ end_text ∷ []) ∙ (λ i. log-is i ++ behind i) in
    let number : with_newline (count_text (length (log_view entries))) ≡ count = ap (λ (n : ℕ). with_newline (count_text n)) (log_view-length entries) in
    append_assoc ((head ++ count) ++ log) (flat_map with_newline sections) last ∙ append_assoc (head ++ count) log (flat_map with_newline sections ++ last) ∙ append_assoc head count (log ++ (flat_map with_newline sections ++ last))
    ∙ sym (λ i. head ++ (number i ++ body i))
