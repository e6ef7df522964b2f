-- What comes before all answers is whole lines.
use Rattle.std.proofs.Common.{◌≡◌, ℕ, suc, Bool, cond, arith, List, [], ◌∷◌, ◌++◌, refl, ap, ◌∙◌, append_assoc, append-nil, sym, ◌⊎◌, inl, inr, subst}
use Rattle.std.specs.Prelude.{codes}
use Rattle.std.proofs.lemmas.Bool.{ne_eqb}
use Rattle.std.specs.List.{flat_map, zip}
use Rattle.gp_base.specs.declared.table.Table.{Table}
use Rattle.gp_base.specs.Numbered.{newline}
use Rattle.gp_dump.specs.Dumps.{Dump}
use Rattle.gp_log.specs.LogFacts.{tables_in}
use Rattle.gp_sql.specs.PlacedTables.{table_text}
use Rattle.gp_sql.specs.TableTexts.{create_begin, create_middle, create_text, column_definition, insert_text, row_word, system_columns, version_text}
use Rattle.gp_versions.specs.declared.span.Span.{Span}
use Rattle.gp_ask.specs.declared.format.Format.{Format}
use Rattle.gp_ask.specs.declared.format.Format.TheVariants.{Text, Csv, Named, Sql}
use Rattle.gp_ask.specs.Formats.{heading_in}

-- a line feed at the end
abbrev IsEnded : List ℕ → Type 0
IsEnded text = (front : List ℕ) × (text ≡ front ++ newline)

abbrev IsWhole : List ℕ → Type 0
IsWhole text = (text ≡ []) ⊎ IsEnded text

behind : (text more : List ℕ) → IsEnded more → IsEnded (text ++ more)
behind text more is = (text ++ is.0, ap (λ (t : List ℕ). text ++ t) is.1 ∙ sym (append_assoc text is.0 newline))

-- an ended text, and whole ones
before : (text more : List ℕ) → IsEnded text → IsWhole more → IsEnded (text ++ more)
before text more is whole = elim whole as (λ found. IsEnded (text ++ more)) [
  | inl none ↦ subst IsEnded (sym (ap (λ (t : List ℕ). text ++ t) none ∙ append-nil text)) is
  | inr ended ↦ behind text more ended
]

whole-before : (text more : List ℕ) → IsWhole text → IsWhole more → IsWhole (text ++ more)
whole-before text more whole others = elim whole as (λ found. IsWhole (text ++ more)) [
  | inl none ↦ subst IsWhole (sym (ap (λ (t : List ℕ). t ++ more) none)) others
  | inr ended ↦ inr (before text more ended others)
]

create-ended : (table : Table) → IsEnded (create_text table)
create-ended table =
    behind create_begin _ (behind table.name _ (behind create_middle _ (behind system_columns _ (behind (flat_map column_definition table.cols) _ (codes ");", refl)))))

rows-ended : (table : Table) (n : ℕ) (spans : List Span) → IsEnded (insert_text table (suc n) spans)
rows-ended table n [] =
    subst IsEnded (sym (ap (λ (none : Bool). cond none [] (codes ";" ++ newline)) (ne_eqb (suc n) 0 (λ e. omega (arith, e))))) (codes ";", refl)
rows-ended table n (span ∷ spans) =
    behind (row_word table (suc n)) _ (behind (version_text span) _ (subst IsEnded (sym (append-nil (insert_text table (suc (suc n)) spans))) (rows-ended table (suc n) spans)))

rows-whole : (table : Table) (spans : List Span) → IsWhole (insert_text table 0 spans)
rows-whole table [] = inl refl
rows-whole table (span ∷ spans) =
    inr (behind (row_word table 0) _ (behind (version_text span) _ (subst IsEnded (sym (append-nil (insert_text table 1 spans))) (rows-ended table 0 spans))))

tables-whole : (tables : List (Table × List Span)) → IsWhole (flat_map (λ (own : Table × List Span). table_text own.0 own.1) tables)
tables-whole [] = inl refl
tables-whole (own ∷ tables) = whole-before (table_text own.0 own.1) _ (inr (before (create_text own.0) (insert_text own.0 0 own.1) (create-ended own.0) (rows-whole own.0 own.1))) (tables-whole tables)

pub heading-lines : (format : Format) (dump : Dump) → (heading_in format dump ≡ []) ⊎ ((front : List ℕ) × (heading_in format dump ≡ front ++ newline))
heading-lines Text dump = inl refl
heading-lines Csv dump = inl refl
heading-lines Named dump = inl refl
heading-lines Sql dump = tables-whole (zip (tables_in dump.entries) dump.tables)
