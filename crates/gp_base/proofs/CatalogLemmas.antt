-- The names of a catalogue are the keys of its map.
use Rattle.std.proofs.Common.{◌≡◌, ◌<◌, ◌≤◌, ℕ, suc, length, length-append, add-one, arith, Bool, true, false, true≢false, List, [], ◌∷◌, ◌++◌, Some, None, is_some, position, bytes_eq, refl, sym, ap, subst, ◌∙◌}
use Rattle.std.proofs.lemmas.List.{map-append}
use Rattle.std.specs.Bool.{if◌then◌else◌}
use Rattle.std.specs.List.{IsDistinct}
use Rattle.std.specs.Map.{keys_of, values_of, lookup}
use Rattle.std.proofs.lemmas.Map.Made.{AllPairs-from_IsDistinct}
use Rattle.std.proofs.lemmas.Slice.Eq.{bytes_eq-Decides}
use Rattle.indexmap.specs.IndexMap.{insert_entry}
use Rattle.indexmap.proofs.MapLemmas.{some_index}
use Rattle.gp_base.specs.declared.table.Table.{Table}
use Rattle.gp_base.specs.declared.catalog.TheConstants.{MAX_TABLES}
use Rattle.gp_base.specs.Catalogs.{table_names}
use Rattle.gp_base.specs.CatalogForms.{HaveDifferentNames}

-- keys that differ, which are the names, differ as lists of bytes
pub different_names : (names : List (List ℕ)) (tables : List Table) → names ≡ table_names tables → IsDistinct bytes_eq names → HaveDifferentNames tables
different_names names tables same distinct = AllPairs-from_IsDistinct bytes_eq-Decides (table_names tables) (subst (IsDistinct bytes_eq) same distinct)

-- a new key goes last
pub insert_entry-absent : {K X : Type 0} (eq : K → K → Bool) (es : List (K × X)) (k : K) (x : X) → is_some (lookup (eq k) es) ≡ false → insert_entry eq es k x ≡ es ++ (k, x) ∷ []
insert_entry-absent eq [] k x absent = refl
insert_entry-absent eq (e ∷ es) k x absent = by (eq k e.0) refl (insert_entry-absent eq es k x)
  where
    by : (b : Bool) → eq k e.0 ≡ b → (is_some (lookup (eq k) es) ≡ false → insert_entry eq es k x ≡ es ++ (k, x) ∷ []) → insert_entry eq (e ∷ es) k x ≡ (e ∷ es) ++ (k, x) ∷ []
    by true is rest = absurd (true≢false (sym (ap (λ b. is_some (if b then Some e.1 else lookup (eq k) es)) is) ∙ absent))
    by false is rest =
        ap (λ b. if b then (e.0, x) ∷ es else e ∷ insert_entry eq es k x) is
        ∙ ap (λ others. e ∷ others) (rest (sym (ap (λ b. is_some (if b then Some e.1 else lookup (eq k) es)) is) ∙ absent))

-- the catalogue with one more table, its names and its length
pub record Added (old new : List (List ℕ × Table)) (tables : List Table) (table : Table) : Type 0 where
  pub values : values_of new ≡ tables ++ table ∷ []
  pub names : keys_of new ≡ table_names (values_of new)
  pub within : length (values_of new) ≤ MAX_TABLES

pub added : (old new : List (List ℕ × Table)) (tables : List Table) (name : List ℕ) (table : Table) → name ≡ table.name → values_of old ≡ tables
    → keys_of old ≡ table_names (values_of old) → position (bytes_eq table.name) (table_names tables) ≡ None
    → length tables < MAX_TABLES → new ≡ insert_entry bytes_eq old name table → Added old new tables table
added old new tables name table same is names absent room inserted = record {
  values = all;
  within = let l : length (values_of new) ≡ suc (length tables) = ap length all ∙ length-append tables _ ∙ add-one _ in grind arith;
  names = ap keys_of entries ∙ map-append _ old _ ∙ (λ i. names i ++ same i ∷ []) ∙ sym (map-append _ (values_of old) _) ∙ sym (ap (λ es. table_names (values_of es)) entries ∙ ap table_names (map-append _ old _));
}
  where
    none : is_some (lookup (bytes_eq name) old) ≡ false
    none = sym (some_index (bytes_eq name) old) ∙ (λ i. is_some (position (bytes_eq (same i)) (names i))) ∙ (λ i. is_some (position (bytes_eq table.name) (table_names (is i)))) ∙ ap is_some absent

    entries : new ≡ old ++ (name, table) ∷ []
    entries = inserted ∙ insert_entry-absent bytes_eq old name table none

    all : values_of new ≡ tables ++ table ∷ []
    all = ap values_of entries ∙ map-append _ old _ ∙ ap (λ ts. ts ++ table ∷ []) is
