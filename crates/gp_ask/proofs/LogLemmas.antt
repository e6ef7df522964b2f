-- The lines of a transaction, from the entries of the code.
use Rattle.std.proofs.Common.{◌≡◌, ℕ, ◌+◌, List, [], ◌∷◌, ◌++◌, map, reverse, take, Some, refl, sym, ap, ◌∙◌}
use Rattle.std.specs.List.{filter, slice_get}
use Rattle.std.proofs.lemmas.List.{map-append, reverse-append, reverse-reverse, take_more}
use Rattle.std.proofs.lemmas.List.Elements.{filter-append}
use Rattle.std.proofs.lemmas.Option.{get_or_from_slice_get, slice_get_within}
use Rattle.gp_log.specs.declared.entry.Entry.{Entry}
use Rattle.gp_machine.specs.Entries.{is_of}
use Rattle.gp_log.specs.Logs.{entry_view, log_view}
use Rattle.gp_machine.specs.Entries as m
use Rattle.gp_dumpline.specs.Texts.{entry_text}
use Rattle.gp_ask.specs.Lines.{entries_of, transaction_lines}

map-reversed : {A B : Type 0} (f : A → B) (xs : List A) → map f (reverse xs) ≡ reverse (map f xs)
map-reversed f [] = refl
map-reversed f (x ∷ xs) =
    ap (map f) (reverse-append (x ∷ []) xs) ∙ map-append f (reverse xs) (x ∷ []) ∙ ap (λ ys. ys ++ f x ∷ []) (map-reversed f xs)
    ∙ sym (reverse-append (f x ∷ []) (map f xs))

-- the entries in the order of the lines
pub oldest-first : (entries : List Entry) → reverse (log_view entries) ≡ map entry_view entries
oldest-first entries = ap reverse (map-reversed entry_view entries) ∙ reverse-reverse (map entry_view entries)

module _ (t : ℕ) where
  pub all-lines : (entries : List Entry) → transaction_lines t entries ≡ map entry_text (entries_of t (log_view entries))
  all-lines entries = ap (λ (es : List m.Entry). map entry_text (filter (is_of t) es)) (sym (oldest-first entries))

  more : (entries others : List Entry) → transaction_lines t (entries ++ others) ≡ transaction_lines t entries ++ transaction_lines t others
  more entries others =
      ap (λ (es : List m.Entry). map entry_text (filter (is_of t) es)) (map-append entry_view entries others)
      ∙ ap (map entry_text) (filter-append (is_of t) (map entry_view entries) (map entry_view others))
      ∙ map-append entry_text (filter (is_of t) (map entry_view entries))
      (filter (is_of t) (map entry_view others))

  pub one-more : (entries : List Entry) (place : ℕ) (entry : Entry) → slice_get entries place ≡ Some entry
      → transaction_lines t (take (place + 1) entries) ≡ transaction_lines t (take place entries) ++ transaction_lines t (entry ∷ [])
  one-more entries place entry is =
      ap (transaction_lines t) (take_more entries place entry (slice_get_within entries place entry is))
      ∙ more (take place entries) _
      ∙ ap (λ (e : Entry). transaction_lines t (take place entries) ++ transaction_lines t (e ∷ [])) (get_or_from_slice_get entries place entry entry is)
