-- What the projections and the PUBLISH of plain queries do to rows that encode annotated ones.
use Rattle.std.proofs.Common.{◌≡◌, ℕ, suc, ◌+◌, Bool, true, false, cond, List, [], ◌∷◌, ◌++◌, length, refl, sym, ap, ◌∙◌, subst, arith, map}
use Rattle.std.specs.Prelude.{◌||◌, ◌&&◌, not, sum, Some, None}
use Rattle.std.specs.List.{list_any}
use Rattle.std.proofs.lemmas.List.{append_assoc, length-append, map-append, length-map}
use Rattle.gp_base.specs.declared.cell.Cell.{Cell}
use Rattle.gp_base.specs.declared.cell.Cell.TheVariants as cell
use Rattle.gp_base.specs.declared.token.Token.TheVariants.{Queried}
use Rattle.gp_base.specs.Identities.{Identity, identity, Sources, no_sources, source, same_identity, same_sources}
use Rattle.gp_base.specs.Annotated.{Annotated, monomials}
use Rattle.gp_base.specs.Tokens.{Monomial, once, times as product}
use Rattle.gp_expr.specs.Expressions.{Expr, Cond, col, constant, case, new_id, times}
use Rattle.gp_expr.specs.Substitution.{substituted_each, substituted_cond}
use Rattle.gp_expr.specs.Values.{value, column, passes, multiplied, made_identity}
use Rattle.gp_algebra.specs.Answers.{values}
use Rattle.gp_algebra.specs.Plain.{is_same_id, is_marked, has_id, is_written, published_onto}
use Rattle.gp_algebra.specs.AnnotatedQueries.{Change}
use Rattle.gp_algebra.specs.AnnotatedMeaning.{scanned, projected, renewed, stands, was_replaced, published_onto as rows_published}
use Rattle.gp_prov.specs.Encoding.{noted, encoded_row}
use Rattle.gp_prov.specs.ToPlain.{users_from, identities_from, times_from, product_of, changed_columns, new_columns, answer_columns}
use Rattle.gp_prov.proofs.Pairs.{Pairwise, pair_append, pair_filter, pair_any}
use Rattle.gp_prov.proofs.ColumnLemmas.{cell_at}
use Rattle.gp_prov.proofs.Codes.{Row, Coded, Joined, as_joined, identities_joined, passes_joined, values_joined, product_joined, times_joined}
use Rattle.gp_base.proofs.SmallLemmas.{and_nothing}

map-noted : {X Y : Type 0} (prov : Bool) (f : X → Y) (x : X) → map f (noted prov x) ≡ noted prov (f x)
map-noted true f x = refl
map-noted false f x = refl

noted_agree : {X : Type 0} (prov : Bool) (x y : X) → (prov ≡ true → x ≡ y) → noted prov x ≡ noted prov y
noted_agree true x y agree = ap (λ x. x ∷ []) (agree refl)
noted_agree false x y agree = refl

-- ---- the system cells of a row

own_cell : (cells before after : List Cell) (c : Cell) (n : ℕ) → length cells + length before ≡ n → column (suc n) (cells ++ (before ++ (c ∷ after))) ≡ c
own_cell cells before after c n e =
    subst (λ row. column (suc n) row ≡ c) (append_assoc cells before (c ∷ after)) (cell_at (cells ++ before) after c n (length-append cells before ∙ e))

-- the identities of a row of a table
abbrev only : Identity → Sources
only id = source id no_sources

module _ (prov : Bool) (width at : ℕ) (same : width ≡ at) (p : List Cell) (r : Row) (code : Coded prov width p r) where
  long : length code.row.cells ≡ at
  long = code.wide ∙ same

  id_there : column (suc at) p ≡ cell.Id code.row.identity
  id_there =
      ap (column (suc at)) code.plain
      ∙ own_cell code.row.cells [] (cell.Mark code.row.mark ∷ noted prov (cell.Mono code.row.annotation)) (cell.Id code.row.identity) at (omega (arith, long))

  mark_there : column (suc (suc at)) p ≡ cell.Mark code.row.mark
  mark_there =
      ap (column (suc (suc at))) code.plain
      ∙ own_cell code.row.cells (cell.Id code.row.identity ∷ []) (noted prov (cell.Mono code.row.annotation)) (cell.Mark code.row.mark) (suc at) (omega (arith, long))

  annotation_there : prov ≡ true → column (suc (suc (suc at))) p ≡ cell.Mono code.row.annotation
  annotation_there is =
      ap (column (suc (suc (suc at)))) (code.plain ∙ ap (λ prov. encoded_row prov code.row) is)
      ∙ own_cell code.row.cells (cell.Id code.row.identity ∷ cell.Mark code.row.mark ∷ []) [] (cell.Mono code.row.annotation) (suc (suc at)) (omega (arith, long))

  same_there : (id : Identity) → is_same_id (column (suc at) p) (cell.Id id) ≡ same_sources r.sources (only id)
  same_there id =
      ap (λ c. is_same_id c (cell.Id id)) id_there
      ∙ sym (ap (λ (r : Row). same_sources r.sources (only id)) code.annotated ∙ and_nothing (same_identity code.row.identity id))

  marked_there : is_marked (column (suc (suc at)) p) ≡ r.mark
  marked_there = ap is_marked mark_there ∙ sym (ap (λ (r : Row). r.mark) code.annotated)

-- ---- PUBLISH

module _ (prov : Bool) (width at : ℕ) (same : width ≡ at) where
  abbrev Codes : List (List Cell) → List Row → Type 0
  Codes ps rs = Pairwise (Coded prov width) ps rs

  has_there : (id : Identity) {ps : List (List Cell)} {rs : List Row} → Codes ps rs → has_id (suc at) (cell.Id id) ps ≡ stands monomials (only id) rs
  has_there id codes =
      pair_any (Coded prov width) (λ row. is_same_id (column (suc at) row) (cell.Id id)) (λ (row : Row). same_sources row.sources (only id))
      (λ p r code. same_there prov width at same p r code id) codes

  has_marked : (id : Identity) {ps : List (List Cell)} {rs : List Row} → Codes ps rs →
      list_any (λ row. is_marked (column (suc (suc at)) row) && is_same_id (column (suc at) row) (cell.Id id)) ps ≡ list_any (λ (row : Row). row.mark && same_sources row.sources (only id)) rs
  has_marked id codes =
      pair_any (Coded prov width) (λ row. is_marked (column (suc (suc at)) row) && is_same_id (column (suc at) row) (cell.Id id))
      (λ (row : Row). row.mark && same_sources row.sources (only id))
      (λ p r code. λ i. marked_there prov width at same p r code i && same_there prov width at same p r code id i) codes

  module _ (plain_base plain_mine plain_later : List (List Cell)) (base mine later : List Row)
      (bases : Codes plain_base base) (mines : Codes plain_mine mine) (laters : Codes plain_later later) where
    written_there : (p : List Cell) (r : Row) → Coded prov width p r → is_written (suc at) plain_base plain_mine (column (suc at) p) ≡ was_replaced monomials base mine r.sources
    written_there p r code =
        let id : Identity = code.row.identity in
        ap (is_written (suc at) plain_base plain_mine) (id_there prov width at same p r code)
        ∙ (λ i. has_marked id mines i || (has_there id bases i && not (has_there id mines i)))
        ∙ ap (λ (r : Row). was_replaced monomials base mine r.sources) (sym code.annotated)

    pub published_there : Codes (published_onto (suc at) plain_base plain_mine plain_later) (rows_published monomials base mine later)
    published_there =
        pair_append
        (pair_filter (Coded prov width) _ _ (λ p r code. ap not (written_there p r code)) laters)
        (pair_filter (Coded prov width) _ _ (λ p r code. marked_there prov width at same p r code) mines)

-- ---- a change

module _ (prov : Bool) (width next : ℕ) (widths : List ℕ) (exprs : List Expr) (change : Change) (wide : length exprs ≡ next) (one : widths ≡ width ∷ [])
    (p : List Cell) (r : Row) (code : Coded prov width p r) where
  abbrev users : List Expr
  users = users_from prov 0 widths

  abbrev test : Cond
  test = substituted_cond change.cond users

  abbrev mark : Expr
  mark = col (suc (suc (sum widths)))

  abbrev monomial : Expr
  monomial = col (suc (suc (suc (sum widths))))

  abbrev changed_monomial : Expr
  changed_monomial = times monomial (constant (cell.Mono (once change.token)))

  abbrev changes : Bool
  changes = passes change.cond code.row.cells

  abbrev annotation_if : Bool → Monomial
  annotation_if b = cond b (product code.row.annotation (once change.token)) code.row.annotation

  abbrev row_if : Bool → Annotated Monomial
  row_if b = record { identity = code.row.identity; cells = values exprs code.row.cells; mark = cond b true code.row.mark; annotation = annotation_if b }

  total : width ≡ sum widths
  total = let s : sum widths ≡ 0 + width = ap sum one in omega arith

  joined : Joined prov widths p r
  joined = subst (λ ns. Joined prov ns p r) (sym one) (as_joined prov width p r code)

  cells_there : values (substituted_each exprs users) p ≡ values exprs code.row.cells
  cells_there = values_joined prov widths p r joined exprs ∙ ap (λ (r : Row). values exprs r.cells) code.annotated

  tested : passes test p ≡ changes
  tested = passes_joined prov widths p r joined change.cond ∙ ap (λ (r : Row). passes change.cond r.cells) code.annotated

  one_mark : (b : Bool) → cond b (cell.Mark true) (cell.Mark code.row.mark) ≡ cell.Mark (cond b true code.row.mark)
  one_mark true = refl
  one_mark false = refl

  marks : value (case test (constant (cell.Mark true)) mark) p ≡ cell.Mark (cond changes true code.row.mark)
  marks = (λ i. cond (tested i) (cell.Mark true) (mark_there prov width (sum widths) total p r code i)) ∙ one_mark changes

  one_annotation : (b : Bool) → cond b (cell.Mono (product code.row.annotation (once change.token))) (cell.Mono code.row.annotation) ≡ cell.Mono (annotation_if b)
  one_annotation true = refl
  one_annotation false = refl

  annotation_changed : prov ≡ true → value (case test changed_monomial monomial) p ≡ cell.Mono (annotation_if changes)
  annotation_changed is =
      let here = annotation_there prov width (sum widths) total p r code is in
      (λ i. cond (tested i) (multiplied (here i) (cell.Mono (once change.token))) (here i)) ∙ one_annotation changes

  annotations : map (λ x. value x p) (noted prov (case test changed_monomial monomial)) ≡ noted prov (cell.Mono (annotation_if changes))
  annotations = map-noted prov (λ x. value x p) (case test changed_monomial monomial) ∙ noted_agree prov _ _ annotation_changed

  row_is : (b : Bool) → cond b
      (record { sources = only code.row.identity; cells = values exprs code.row.cells; mark = true; annotation = product code.row.annotation (once change.token) })
      (record { sources = only code.row.identity; cells = values exprs code.row.cells; mark = code.row.mark; annotation = code.row.annotation })
      ≡ scanned monomials (row_if b)
  row_is true = refl
  row_is false = refl

  pub change_there : Coded prov next (values (changed_columns prov widths exprs (Some change)) p) (projected monomials exprs (Some change) r)
  change_there = record {
    row = row_if changes;
    plain =
        map-append (λ x. value x p) (substituted_each exprs users)
        (col (suc (sum widths)) ∷ case test (constant (cell.Mark true)) mark ∷ noted prov (case test changed_monomial monomial))
        ∙ (λ i. cells_there i ++ (id_there prov width (sum widths) total p r code i ∷ marks i ∷ annotations i));
    annotated = ap (projected monomials exprs (Some change)) code.annotated ∙ row_is changes;
    wide = length-map exprs (λ x. value x code.row.cells) ∙ wide;
  }

-- ---- the rows that a branch makes, and those that it answers

abbrev pub Answered : Bool → List Cell → Row → Type 0
Answered prov p r = p ≡ r.cells ++ noted prov (cell.Mono r.annotation)

module _ (prov : Bool) (widths : List ℕ) (exprs : List Expr) (p : List Cell) (r : Row) (join : Joined prov widths p r) where
  -- the join with provenance
  with_provenance : prov ≡ true → Joined true widths p r
  with_provenance is = subst (λ prov. Joined prov widths p r) is join

  queried : (t k : ℕ) → map (λ x. value x p) (noted prov (times_from prov 0 widths (constant (cell.Mono (once (Queried t k)))))) ≡ noted prov (cell.Mono (product (once (Queried t k)) r.annotation))
  queried t k =
      let first : Expr = constant (cell.Mono (once (Queried t k))) in
      map-noted prov (λ x. value x p) (times_from prov 0 widths first)
      ∙ noted_agree prov _ _ (λ is. ap (λ prov. value (times_from prov 0 widths first) p) is ∙ times_joined widths p r (with_provenance is) (once (Queried t k)))

  pub new_there : (next t k b : ℕ) → length exprs ≡ next → Coded prov next (values (new_columns prov t k b widths exprs) p) (renewed monomials t k b (projected monomials exprs None r))
  new_there next t k b wide = record {
    row = record { identity = identity t k b r.sources; cells = values exprs r.cells; mark = true; annotation = product (once (Queried t k)) r.annotation };
    plain =
        map-append (λ x. value x p) (substituted_each exprs (users_from prov 0 widths))
        (new_id t k b (identities_from prov 0 widths) ∷ constant (cell.Mark true) ∷ noted prov (times_from prov 0 widths (constant (cell.Mono (once (Queried t k))))))
        ∙ (λ i. values_joined prov widths p r join exprs i ++ (made_identity t k b (identities_joined prov widths p r join i) ∷ cell.Mark true ∷ queried t k i));
    annotated = refl;
    wide = length-map exprs (λ x. value x r.cells) ∙ wide;
  }

  pub answered_there : Answered prov (values (answer_columns prov widths exprs) p) (projected monomials exprs None r)
  answered_there =
      map-append (λ x. value x p) (substituted_each exprs (users_from prov 0 widths)) (noted prov (product_of prov widths))
      ∙ (λ i. values_joined prov widths p r join exprs i ++ annotations_answered i)
    where
      annotations_answered : map (λ x. value x p) (noted prov (product_of prov widths)) ≡ noted prov (cell.Mono r.annotation)
      annotations_answered =
          map-noted prov (λ x. value x p) (product_of prov widths)
          ∙ noted_agree prov _ _ (λ is. ap (λ prov. value (product_of prov widths) p) is ∙ product_joined widths p r (with_provenance is))
