-- Plain rows that encode annotated ones: those of a table, and those of joined tables.
use Rattle.std.proofs.Common.{◌≡◌, ℕ, Bool, true, List, [], ◌∷◌, ◌++◌, length, refl, sym, ap, ◌∙◌, map, Some}
use Rattle.std.specs.List.{flat_map}
use Rattle.std.proofs.lemmas.List.{map-append, append-nil}
use Rattle.std.proofs.lemmas.Grind.{flat_map-append}
use Rattle.gp_base.specs.declared.cell.Cell.{Cell}
use Rattle.gp_base.specs.declared.cell.Cell.TheVariants as cell
use Rattle.gp_base.specs.Identities.{no_sources, source}
use Rattle.gp_base.specs.Annotated.{Annotated, monomials}
use Rattle.gp_base.specs.Tokens.{Monomial, times as product}
use Rattle.gp_base.proofs.ProductLaws.{times-associative}
use Rattle.gp_expr.specs.Expressions.{Expr, Cond, constant}
use Rattle.gp_expr.specs.Substitution.{substituted_each, substituted_cond}
use Rattle.gp_expr.specs.Values.{value, truth, identities, holds, passes}
use Rattle.gp_algebra.specs.Answers.{values}
use Rattle.gp_algebra.specs.AnnotatedMeaning.{Derived, joined_sources, scanned, crossed}
use Rattle.gp_prov.specs.Encoding.{encoded_row}
use Rattle.gp_prov.specs.ToPlain.{users_from, identities_from, times_from, product_of}
use Rattle.gp_expr.proofs.SubstitutionLemmas.{truth_substituted, values_substituted}
use Rattle.gp_prov.proofs.ColumnLemmas.{users_are, identities_are, times_are, product_is, width, cells_of, sources_of, product_onto}

abbrev pub Row : Type 0
Row = Derived Monomial

-- a plain row that encodes a row of a table with so many user columns
pub record Coded (prov : Bool) (n : ℕ) (p : List Cell) (r : Row) : Type 0 where
  pub row : Annotated Monomial
  pub plain : p ≡ encoded_row prov row
  pub annotated : r ≡ scanned monomials row
  pub wide : length row.cells ≡ n

-- a plain row that encodes a joined row, whose parts have so many user columns each
pub record Joined (prov : Bool) (ns : List ℕ) (p : List Cell) (r : Row) : Type 0 where
  pub first : Annotated Monomial
  pub others : List (Annotated Monomial)
  pub plain : p ≡ flat_map (encoded_row prov) (first ∷ others)
  pub widths : map width (first ∷ others) ≡ ns
  pub sources : r.sources ≡ sources_of (first ∷ others)
  pub cells : r.cells ≡ flat_map cells_of (first ∷ others)
  pub annotation : r.annotation ≡ product_onto first.annotation others

pub as_joined : (prov : Bool) (n : ℕ) (p : List Cell) (r : Row) → Coded prov n p r → Joined prov (n ∷ []) p r
as_joined prov n p r code = record {
  first = code.row;
  others = [];
  plain = code.plain ∙ sym (append-nil (encoded_row prov code.row));
  widths = ap (λ n. n ∷ []) code.wide;
  sources = ap (λ (r : Row). r.sources) code.annotated;
  cells = ap (λ (r : Row). r.cells) code.annotated ∙ sym (append-nil code.row.cells);
  annotation = ap (λ (r : Row). r.annotation) code.annotated;
}

-- ---- a joined row with one more part

sources_joined : (rows : List (Annotated Monomial)) (row : Annotated Monomial) →
    joined_sources (sources_of rows) (source row.identity no_sources) ≡ sources_of (rows ++ (row ∷ []))
sources_joined [] row = refl
sources_joined (other ∷ rows) row = ap (source other.identity) (sources_joined rows row)

products_joined : (m : Monomial) (rows : List (Annotated Monomial)) (row : Annotated Monomial) →
    product (product_onto m rows) row.annotation ≡ product_onto m (rows ++ (row ∷ []))
products_joined m [] row = refl
products_joined m (other ∷ rows) row = products_joined (product m other.annotation) rows row

pub one_more : (prov : Bool) (widths : List ℕ) (n : ℕ) (p q : List Cell) (r s : Row) → Joined prov widths p r → Coded prov n q s →
    Joined prov (widths ++ (n ∷ [])) (p ++ q) (crossed monomials r s)
one_more prov widths n p q r s join code = record {
  first = join.first;
  others = join.others ++ (code.row ∷ []);
  plain =
      (λ i. join.plain i ++ (code.plain ∙ sym (append-nil (encoded_row prov code.row))) i)
      ∙ sym (flat_map-append (encoded_row prov) (join.first ∷ join.others) (code.row ∷ []));
  widths = map-append width (join.first ∷ join.others) (code.row ∷ []) ∙ (λ i. join.widths i ++ (code.wide i ∷ []));
  sources = (λ i. joined_sources (join.sources i) (ap (λ (r : Row). r.sources) code.annotated i)) ∙ sources_joined (join.first ∷ join.others) code.row;
  cells =
      (λ i. join.cells i ++ (ap (λ (r : Row). r.cells) code.annotated ∙ sym (append-nil code.row.cells)) i)
      ∙ sym (flat_map-append cells_of (join.first ∷ join.others) (code.row ∷ []));
  annotation = (λ i. product (join.annotation i) (ap (λ (r : Row). r.annotation) code.annotated i)) ∙ products_joined join.first.annotation join.others code.row;
}

-- ---- what is in the columns of a joined row

module _ (prov : Bool) (widths : List ℕ) (p : List Cell) (r : Row) (join : Joined prov widths p r) where
  users_joined : values (users_from prov 0 widths) p ≡ r.cells
  users_joined = (λ i. values (users_from prov 0 (sym join.widths i)) (join.plain i)) ∙ users_are prov (join.first ∷ join.others) [] 0 refl ∙ sym join.cells

  pub identities_joined : identities (identities_from prov 0 widths) p ≡ Some r.sources
  identities_joined =
      (λ i. identities (identities_from prov 0 (sym join.widths i)) (join.plain i)) ∙ identities_are prov (join.first ∷ join.others) [] 0 refl
      ∙ ap Some (sym join.sources)

  pub passes_joined : (c : Cond) → passes (substituted_cond c (users_from prov 0 widths)) p ≡ passes c r.cells
  passes_joined c = ap holds (truth_substituted c (users_from prov 0 widths) p ∙ ap (truth c) users_joined)

  pub values_joined : (exprs : List Expr) → values (substituted_each exprs (users_from prov 0 widths)) p ≡ values exprs r.cells
  values_joined exprs = values_substituted exprs (users_from prov 0 widths) p ∙ ap (values exprs) users_joined

product_onto-times : (a m : Monomial) (rows : List (Annotated Monomial)) → product_onto (product a m) rows ≡ product a (product_onto m rows)
product_onto-times a m [] = refl
product_onto-times a m (row ∷ rows) = ap (λ m. product_onto m rows) (times-associative a m row.annotation) ∙ product_onto-times a (product m row.annotation) rows

module _ (widths : List ℕ) (p : List Cell) (r : Row) (join : Joined true widths p r) where
  pub product_joined : value (product_of true widths) p ≡ cell.Mono r.annotation
  product_joined = (λ i. value (product_of true (sym join.widths i)) (join.plain i)) ∙ product_is join.first join.others ∙ ap cell.Mono (sym join.annotation)

  pub times_joined : (a : Monomial) → value (times_from true 0 widths (constant (cell.Mono a))) p ≡ cell.Mono (product a r.annotation)
  times_joined a =
      (λ i. value (times_from true 0 (sym join.widths i) (constant (cell.Mono a))) (join.plain i))
      ∙ times_are (join.first ∷ join.others) [] 0 (constant (cell.Mono a)) a refl refl
      ∙ ap cell.Mono (product_onto-times a join.first.annotation join.others ∙ ap (product a) (sym join.annotation))
