-- The lines of a commit, by one pass over the spans of a table in the order of a dump, are those of the changes of its version.
use Rattle.std.proofs.Common.{◌≡◌, ℕ, Bool, true, false, cond, List, [], ◌∷◌, ◌++◌, map, Option, Some, None, refl, sym, ap, ◌∙◌}
use Rattle.std.specs.Prelude.{◌==◌, ◌&&◌, filter, not, slice_get}
use Rattle.std.specs.List.{flat_map, zip}
use Rattle.std.specs.Option.{option_map_or}
use Rattle.std.proofs.lemmas.Bool.{eqb-true}
use Rattle.std.proofs.lemmas.List.{map-append}
use Rattle.gp_base.proofs.SmallLemmas.{eq_itself, filter-append}
use Rattle.gp_base.specs.declared.table.Table.{Table}
use Rattle.gp_base.specs.Identities.{Identity, same_identity}
use Rattle.gp_versions.proofs.SameLemmas.{same-sym}
use Rattle.gp_machine.specs.RowChanges.{RowChange, cells_before, deleted_changes, goes_on_in, span_changes, spans_changes}
use Rattle.gp_serial.proofs.Anys.{by_both}
use Rattle.gp_versions.specs.declared.span.Span.{Span}
use Rattle.gp_ask.specs.declared.answered.Answered.TheVariants.{Lines}
use Rattle.gp_ask.specs.declared.answered.Heading.TheVariants.{Changes}
use Rattle.gp_ask.specs.ChangeForms.{ends_at, goes_on, row_before, span_texts, spans_texts, tables_texts}
use Rattle.gp_ask.specs.Changes.{change_text, commit_changes, commit_texts}

turned : (a b : ℕ) → (a == b) ≡ (b == a)
turned a b = by_both (a == b) (b == a) (λ e. ap (λ x. b == x) (eqb-true a b e) ∙ eq_itself b) (λ e. ap (λ x. a == x) (eqb-true b a e) ∙ eq_itself a)

same_turned : (id other : Identity) → same_identity id other ≡ same_identity other id
same_turned id other = by_both (same_identity id other) (same_identity other id) (same-sym id other) (same-sym other id)

-- a span that ends with a version goes on in the next one
pub goes_same : (to : ℕ) (span : Span) (next : Option Span) → span.to ≡ Some to → option_map_or (goes_on_in span) next false ≡ goes_on to span next
goes_same to span None ends = refl
goes_same to span (Some next) ends = λ i. option_map_or (λ (to : ℕ). turned to next.from i) (ends i) false && same_turned span.id next.id i

module _ (name : List ℕ) (version table : ℕ) where
  abbrev line : RowChange → List ℕ
  line change = change_text name change.row.identity change.before change.after

  abbrev is-own : RowChange → Bool
  is-own change = change.version == version

  abbrev begun : Option Span → Span → RowChange
  begun last span = record { version = span.from; row = record { table = table; identity = span.id }; before = cells_before last span; after = Some span.row }

  abbrev deleted : Span → ℕ → RowChange
  deleted span to = record { version = to; row = record { table = table; identity = span.id }; before = Some span.row; after = None }

  -- the row before one that begins with the version
  same-before : (last : Option Span) (span : Span) → span.from ≡ version → row_before version last span ≡ cells_before last span
  same-before None span from = refl
  same-before (Some other) span from = λ i. cond (option_map_or (λ (to : ℕ). to == sym from i) other.to false && same_identity other.id span.id) (Some other.row) None

  abbrev deleted-text : Span → List (List ℕ)
  deleted-text span = change_text name span.id (Some span.row) None ∷ []

  -- a row that ends with the version, and goes on in no next span
  deleted-told : (span : Span) (next : Option Span) → cond (ends_at version span && not (goes_on version span next)) (deleted-text span) [] ≡ map line (filter is-own (deleted_changes table span next))
  deleted-told span next = by span.to refl
    where
      ended : (to : ℕ) → span.to ≡ Some to → (b g : Bool) → (to == version) ≡ b → option_map_or (goes_on_in span) next false ≡ g
          → cond (b && not (goes_on version span next)) (deleted-text span) [] ≡ map line (filter is-own (cond g [] (deleted span to ∷ [])))
      ended to is true true own goes =
          let on = sym (goes_same version span next (is ∙ ap Some (eqb-true to version own))) ∙ goes in
          ap (λ b. cond (not b) (deleted-text span) []) on
      ended to is true false own goes =
          let on = sym (goes_same version span next (is ∙ ap Some (eqb-true to version own))) ∙ goes in
          ap (λ b. cond (not b) (deleted-text span) []) on ∙ sym (ap (λ b. map line (cond b (deleted span to ∷ []) [])) own)
      ended to is false true own goes = refl
      ended to is false false own goes = sym (ap (λ b. map line (cond b (deleted span to ∷ []) [])) own)

      none : (g : Bool) → [] ≡ map line (filter is-own (cond g [] []))
      none true = refl
      none false = refl

      by : (to : Option ℕ) → span.to ≡ to → cond (option_map_or (λ n. n == version) to false && not (goes_on version span next)) (deleted-text span) []
          ≡ map line (filter is-own (cond (option_map_or (goes_on_in span) next false) [] (option_map_or (λ (n : ℕ). deleted span n ∷ []) to [])))
      by None is = none (option_map_or (goes_on_in span) next false)
      by (Some to) is = ended to is (to == version) (option_map_or (goes_on_in span) next false) refl refl

  span-told : (last : Option Span) (span : Span) (next : Option Span) → span_texts name version last span next ≡ map line (filter is-own (span_changes table last span next))
  span-told last span next = by (span.from == version) refl
    where
      by : (b : Bool) → (span.from == version) ≡ b
          → cond b (change_text name span.id (row_before version last span) (Some span.row) ∷ []) [] ++ cond (ends_at version span && not (goes_on version span next)) (deleted-text span) []
          ≡ map line (cond b (begun last span ∷ filter is-own (deleted_changes table span next)) (filter is-own (deleted_changes table span next)))
      by true is = λ i. change_text name span.id (same-before last span (eqb-true span.from version is) i) (Some span.row) ∷ deleted-told span next i
      by false is = deleted-told span next

  spans-told : (last : Option Span) (spans : List Span) → spans_texts name version last spans ≡ map line (filter is-own (spans_changes table last spans))
  spans-told last [] = refl
  spans-told last (span ∷ spans) =
      (λ i. span-told last span (slice_get spans 0) i ++ spans-told (Some span) spans i)
      ∙ sym
      (ap (map line) (filter-append is-own (span_changes table last span (slice_get spans 0)) (spans_changes table (Some span) spans))
      ∙ map-append line (filter is-own (span_changes table last span (slice_get spans 0))) (filter is-own (spans_changes table (Some span) spans)))

-- of a table, and of all tables
pub table-told : (name : List ℕ) (version : ℕ) (spans : List Span) → spans_texts name version None spans ≡ commit_texts name version spans
table-told name version spans = spans-told name version 0 None spans

pub commits-told : (tables : List Table) (lists : List (List Span)) (version : ℕ) → Lines Changes (tables_texts version tables lists) ≡ commit_changes tables lists version
commits-told tables lists version = ap (λ texts. Lines Changes (flat_map texts (zip tables lists))) (λ i (pair : Table × List Span). table-told pair.0.name version pair.1 i)
