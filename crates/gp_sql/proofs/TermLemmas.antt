-- Terms and tests of SQL have the values of the expressions and conditions that they are made of.
use Rattle.gp_sql.proofs.Prelude.{◌≡◌, ℕ, zero, suc, Bool, true, false, cond, List, [], ◌∷◌, ◌++◌, map, Some, None, ℤ, refl, sym, ap, ◌∙◌, append_assoc, append-nil, length, Option, is_some, ◌&&◌, ◌+ℤ◌, ◌-ℤ◌, ◌*ℤ◌, decimal, and_parts, length-map, Cell, Sources, identity_text, others_text, Expr, Cond, Parts, column, on_numbers, negated, compared, with_source, made_identity, holds, both, either, negation, tested, truth, value, identities}
use Rattle.std.specs.Option.{unwrap_or}
use Rattle.std.proofs.Common.{codes}
use Rattle.std.specs.Prelude.{get_or}
use Rattle.gp_base.specs.declared.cell.Cell.TheVariants as cell
use Rattle.gp_expr.specs.Expressions as e
use Rattle.gp_expr.specs.Values as v
use Rattle.gp_sql.specs.declared.cell_type.CellType.{CellType}
use Rattle.gp_sql.specs.declared.cell_type.CellType.TheVariants.{Null, Int, Text, Id, Mark}
use Rattle.gp_sql.specs.Sql as s
use Rattle.gp_sql.specs.Sql.{Source, Term, Test}
use Rattle.gp_sql.specs.SqlCells.{sql_cell}
use Rattle.gp_sql.specs.Meaning.{Relation, Scope, joined_cells, cell_named, term_value, joined_value, test_truth}
use Rattle.gp_sql.specs.Translation.{type_or_null, unless_null, cell_term, literal, bare, in_chain, id_prefix, expr_term, other_parts, cond_test}
use Rattle.gp_sql.specs.CellTypes.{IsOf, AreOf}
use Rattle.gp_sql.specs.Types.{are_u32, cell_type, common, is_numeric, type_at, negation_type, arithmetic_type, case_type, is_comparable, are_comparable, is_id, expr_type, cond_is_typed, parts_are_ids}
use Rattle.gp_sql.proofs.ColumnLemmas.{alone, are-long, named-cell, numbered_names}
use Rattle.gp_sql.proofs.IdentityTexts.{concat-onto}
use Rattle.gp_sql.proofs.TypeLemmas.{HasType, expr-has, numbers-of, negated-of, of-null, column-has}

-- ---- cells

abbrev pub sql_row : List Cell → List Cell
sql_row row = map sql_cell row

sql-get : (row : List Cell) (n : ℕ) → get_or (map sql_cell row) n cell.Null ≡ sql_cell (get_or row n cell.Null)
sql-get [] n = refl
sql-get (c ∷ row) zero = refl
sql-get (c ∷ row) (suc n) = sql-get row n

pub sql-column : (n : ℕ) (row : List Cell) → column n (sql_row row) ≡ sql_cell (column n row)
sql-column zero row = refl
sql-column (suc n) row = sql-get row n

pub same-int : (c : Cell) → IsOf c Int → sql_cell c ≡ c
same-int cell.Null h = refl
same-int (cell.Int n) h = refl
same-int (cell.Text t) h = absurd h
same-int (cell.Id id) h = absurd h
same-int (cell.Mark mark) h = absurd h
same-int (cell.Mono m) h = absurd h

pub same-text : (c : Cell) → IsOf c Text → sql_cell c ≡ c
same-text cell.Null h = refl
same-text (cell.Int n) h = absurd h
same-text (cell.Text t) h = refl
same-text (cell.Id id) h = absurd h
same-text (cell.Mark mark) h = absurd h
same-text (cell.Mono m) h = absurd h

null-is : (c : Cell) → IsOf c Null → cell.Null ≡ sql_cell c
null-is cell.Null h = refl
null-is (cell.Int n) h = absurd h
null-is (cell.Text t) h = absurd h
null-is (cell.Id id) h = absurd h
null-is (cell.Mark mark) h = absurd h
null-is (cell.Mono m) h = absurd h

is_null-same : (c : Cell) → v.is_null (sql_cell c) ≡ v.is_null c
is_null-same cell.Null = refl
is_null-same (cell.Int n) = refl
is_null-same (cell.Text t) = refl
is_null-same (cell.Id id) = refl
is_null-same (cell.Mark true) = refl
is_null-same (cell.Mark false) = refl
is_null-same (cell.Mono m) = refl

-- ---- what the types of operands say

numeric-int : (a : CellType) → is_numeric a ≡ true → (c : Cell) → IsOf c a → IsOf c Int
numeric-int Null e c h = of-null c h Int
numeric-int Int e c h = h
numeric-int Text e c h = absurd cc
numeric-int Id e c h = absurd cc
numeric-int Mark e c h = absurd cc

pub if-some : {A : Type 0} (t : Bool) (x : A) → is_some (cond t (Some x) None) ≡ true → t ≡ true
if-some true x e = refl
if-some false x e = e

-- both operands have a type, and values of theirs are numbers or NULL
pub record BothNumeric (x y : Option CellType) : Type 0 where
  pub left : is_some x ≡ true
  pub right : is_some y ≡ true
  pub number : (c : Cell) → HasType x c → IsOf c Int
  pub other : (c : Cell) → HasType y c → IsOf c Int

pub arithmetic-parts : (x y : Option CellType) → is_some (arithmetic_type x y) ≡ true → BothNumeric x y
arithmetic-parts (Some a) (Some b) e =
    let both = and_parts (is_numeric a) (is_numeric b) (if-some (is_numeric a && is_numeric b) Int e) in
    record { left = refl; right = refl; number = numeric-int a both.0; other = numeric-int b both.1 }
arithmetic-parts (Some a) None e = absurd cc
arithmetic-parts None y e = absurd cc

pub negation-parts : (x : Option CellType) → is_some (negation_type x) ≡ true → (is_some x ≡ true) × ((c : Cell) → HasType x c → IsOf c Int)
negation-parts (Some a) e = (refl, numeric-int a (if-some (is_numeric a) Int e))
negation-parts None e = absurd cc

-- each side of a comparison is a cell that SQL has
pub record BothPlain (x y : Option CellType) : Type 0 where
  pub left : is_some x ≡ true
  pub right : is_some y ≡ true
  pub same : (c : Cell) → HasType x c → sql_cell c ≡ c
  pub other : (c : Cell) → HasType y c → sql_cell c ≡ c

abbrev is_plain : CellType → Bool
is_plain Null = true
is_plain Int = true
is_plain Text = true
is_plain Id = false
is_plain Mark = false

plain-same : (a : CellType) → is_plain a ≡ true → (c : Cell) → IsOf c a → sql_cell c ≡ c
plain-same Null e c h = same-int c (of-null c h Int)
plain-same Int e c h = same-int c h
plain-same Text e c h = same-text c h
plain-same Id e c h = absurd cc
plain-same Mark e c h = absurd cc

comparable-plain : (a b : CellType) → is_comparable (common a b) ≡ true → (is_plain a ≡ true) × (is_plain b ≡ true)
comparable-plain Null Null e = (refl, refl)
comparable-plain Null Int e = (refl, refl)
comparable-plain Null Text e = (refl, refl)
comparable-plain Null Id e = absurd cc
comparable-plain Null Mark e = absurd cc
comparable-plain Int Null e = (refl, refl)
comparable-plain Int Int e = (refl, refl)
comparable-plain Int Text e = absurd cc
comparable-plain Int Id e = absurd cc
comparable-plain Int Mark e = absurd cc
comparable-plain Text Null e = (refl, refl)
comparable-plain Text Int e = absurd cc
comparable-plain Text Text e = (refl, refl)
comparable-plain Text Id e = absurd cc
comparable-plain Text Mark e = absurd cc
comparable-plain Id Null e = absurd cc
comparable-plain Id Int e = absurd cc
comparable-plain Id Text e = absurd cc
comparable-plain Id Id e = absurd cc
comparable-plain Id Mark e = absurd cc
comparable-plain Mark Null e = absurd cc
comparable-plain Mark Int e = absurd cc
comparable-plain Mark Text e = absurd cc
comparable-plain Mark Id e = absurd cc
comparable-plain Mark Mark e = absurd cc

pub comparable-parts : (x y : Option CellType) → are_comparable x y ≡ true → BothPlain x y
comparable-parts (Some a) (Some b) e =
    let both = comparable-plain a b e in
    record { left = refl; right = refl; same = plain-same a both.0; other = plain-same b both.1 }
comparable-parts (Some a) None e = absurd cc
comparable-parts None y e = absurd cc

pub case-parts : (t : Bool) (x y : Option CellType) → is_some (case_type t x y) ≡ true → (t ≡ true) × (is_some x ≡ true) × (is_some y ≡ true)
case-parts true (Some a) (Some b) e = (refl, refl, refl)
case-parts true (Some a) None e = absurd cc
case-parts true None y e = absurd cc
case-parts false x y e = absurd cc

pub id-parts : (x : Option CellType) → is_id x ≡ true → (is_some x ≡ true) × ((c : Cell) → HasType x c → IsOf c Id)
id-parts (Some Id) e = (refl, λ c h. h)
id-parts (Some Null) e = absurd cc
id-parts (Some Int) e = absurd cc
id-parts (Some Text) e = absurd cc
id-parts (Some Mark) e = absurd cc
id-parts None e = absurd cc

-- ---- operators

arithmetic-sql : (f : ℤ → ℤ → ℤ) (c d x y : Cell) → IsOf c Int → IsOf d Int → x ≡ sql_cell c → y ≡ sql_cell d → on_numbers f x y ≡ sql_cell (on_numbers f c d)
arithmetic-sql f c d x y h k a b = (λ i. on_numbers f ((a ∙ same-int c h) i) ((b ∙ same-int d k) i)) ∙ sym (same-int (on_numbers f c d) (numbers-of f c d))

negation-sql : (c x : Cell) → IsOf c Int → x ≡ sql_cell c → negated x ≡ sql_cell (negated c)
negation-sql c x h a = ap negated (a ∙ same-int c h) ∙ sym (same-int (negated c) (negated-of c))

-- ---- identities

-- the text of the sources behind the first one, or NULL
abbrev texts_of : Option Sources → Cell
texts_of None = cell.Null
texts_of (Some ids) = cell.Text (others_text ids)

source-text : (c : Cell) (ids : Option Sources) → IsOf c Id → joined_cells (cell.Text (codes ",")) (joined_cells (sql_cell c) (texts_of ids)) ≡ texts_of (with_source c ids)
source-text cell.Null None h = refl
source-text cell.Null (Some ids) h = refl
source-text (cell.Id id) None h = refl
source-text (cell.Id id) (Some ids) h = ap (λ (z : List ℕ). cell.Text (codes "," ++ (identity_text id ++ z))) (sym (append-nil (others_text ids)))
source-text (cell.Int n) ids h = absurd h
source-text (cell.Text t) ids h = absurd h
source-text (cell.Mark mark) ids h = absurd h
source-text (cell.Mono m) ids h = absurd h

identity-sql : (t k b : ℕ) (c : Cell) (ids : Option Sources) → IsOf c Id
    → joined_cells (cell.Text (id_prefix t k b ++ codes "(")) (joined_cells (sql_cell c) (texts_of ids)) ≡ sql_cell (made_identity t k b (with_source c ids))
identity-sql t k b cell.Null None h = refl
identity-sql t k b cell.Null (Some ids) h = refl
identity-sql t k b (cell.Id id) None h = refl
identity-sql t k b (cell.Id id) (Some ids) h =
    let own : List ℕ = codes "(" ++ (identity_text id ++ (others_text ids ++ [])) in
    ap cell.Text
    (append_assoc (id_prefix t k b) (codes "(") (identity_text id ++ others_text ids)
    ∙ ap (λ (z : List ℕ). id_prefix t k b ++ (codes "(" ++ (identity_text id ++ z))) (sym (append-nil (others_text ids)))
    ∙ concat-onto (decimal t ∷ codes "." ∷ decimal k ∷ codes "." ∷ decimal b ∷ []) own
    ∙ ap (λ (z : List ℕ). decimal t ++ (codes "." ++ (decimal k ++ (codes "." ++ (decimal b ++ z))))) (sym (append-nil own)))
identity-sql t k b (cell.Int n) ids h = absurd h
identity-sql t k b (cell.Text t') ids h = absurd h
identity-sql t k b (cell.Mark mark) ids h = absurd h
identity-sql t k b (cell.Mono m) ids h = absurd h

-- ---- terms

module _ (relations : Source → Relation) (scope : Scope) where
  bare-value : (x : Expr) (row : List Cell) (a : Term) → term_value relations scope a ≡ sql_cell (value x row) → term_value relations scope (bare (literal x) a) ≡ sql_cell (value x row)
  bare-value (e.constant (cell.Int z)) row a same = refl
  bare-value (e.constant cell.Null) row a same = same
  bare-value (e.constant (cell.Text t)) row a same = same
  bare-value (e.constant (cell.Id id)) row a same = same
  bare-value (e.constant (cell.Mark m)) row a same = same
  bare-value (e.constant (cell.Mono m)) row a same = same
  bare-value (e.col n) row a same = same
  bare-value (e.add x y) row a same = same
  bare-value (e.sub x y) row a same = same
  bare-value (e.mul x y) row a same = same
  bare-value (e.neg x) row a same = same
  bare-value (e.case c x y) row a same = same
  bare-value (e.new_id t k b parts) row a same = same
  bare-value (e.times x y) row a same = same

  unless-value : (x : Option CellType) (due : CellType) (a : Term) (c : Cell) → HasType x c → term_value relations scope a ≡ sql_cell c → term_value relations scope (unless_null x due a) ≡ sql_cell c
  unless-value (Some Null) due a c h e = null-is c h
  unless-value (Some Int) due a c h e = e
  unless-value (Some Text) due a c h e = e
  unless-value (Some Id) due a c h e = e
  unless-value (Some Mark) due a c h e = e
  unless-value None due a c h e = e

  pub cell-value : (due : CellType) (c : Cell) → is_some (cell_type c) ≡ true → term_value relations scope (cell_term due c) ≡ sql_cell c
  cell-value due cell.Null e = refl
  cell-value due (cell.Int n) e = refl
  cell-value due (cell.Text t) e = refl
  cell-value due (cell.Id id) e = refl
  cell-value due (cell.Mark true) e = refl
  cell-value due (cell.Mark false) e = refl
  cell-value due (cell.Mono m) e = absurd cc

  -- an AND without its bracket is as true as with it
  chain-truth : (c : Test) → test_truth relations scope (in_chain c) ≡ test_truth relations scope c
  chain-truth (s.compare cmp a b) = refl
  chain-truth (s.is_null a wanted) = refl
  chain-truth (s.is_true c wanted) = refl
  chain-truth (s.and c d) = refl
  chain-truth (s.or c d) = refl
  chain-truth (s.not c) = refl
  chain-truth (s.exists query) = refl
  chain-truth (s.bracket (s.compare cmp a b)) = refl
  chain-truth (s.bracket (s.is_null a wanted)) = refl
  chain-truth (s.bracket (s.is_true c wanted)) = refl
  chain-truth (s.bracket (s.and c d)) = refl
  chain-truth (s.bracket (s.or c d)) = refl
  chain-truth (s.bracket (s.not c)) = refl
  chain-truth (s.bracket (s.exists query)) = refl
  chain-truth (s.bracket (s.bracket c)) = refl

pub are-wide : (row : List Cell) (types : List CellType) → AreOf row types → length types ≡ length (sql_row row)
are-wide row types is = are-long row types is ∙ sym (length-map sql_cell row)

-- a column of a row of the source of these types
pub column-value : (types : List CellType) (row : List Cell) → AreOf row types → (n : ℕ)
    → unwrap_or (cell_named (s.numbered n) (numbered_names 1 (length types)) (sql_row row)) cell.Null ≡ sql_cell (column n row)
column-value types row are n =
    ap (λ (count : ℕ). unwrap_or (cell_named (s.numbered n) (numbered_names 1 count) (sql_row row)) cell.Null) (are-wide row types are)
    ∙ named-cell n (sql_row row)
    ∙ sql-column n row

module _ (relations : Source → Relation) (types : List CellType) (row : List Cell) (are : AreOf row types) where
  abbrev scope : Scope
  scope = alone s.no_alias (numbered_names 1 (length types)) (sql_row row)

  mutual
    pub expr-value : (x : Expr) (due : CellType) → is_some (expr_type types x) ≡ true → term_value relations scope (expr_term types due x) ≡ sql_cell (value x row)
    expr-value (e.col n) due typed = unless-value relations scope (type_at n types) due (s.column s.no_alias (s.numbered n)) (column n row) (column-has row types n are) (column-value types row are n)
    expr-value (e.constant c) due typed = cell-value relations scope due c typed
    expr-value (e.add a b) due typed =
        let parts = arithmetic-parts (expr_type types a) (expr_type types b) typed in
        arithmetic-sql ◌+ℤ◌ (value a row) (value b row) _ _ (parts.number (value a row) (expr-has types row are a)) (parts.other (value b row) (expr-has types row are b))
        (expr-value a Int parts.left) (bare-value relations scope b row (expr_term types Int b) (expr-value b Int parts.right))
    expr-value (e.sub a b) due typed =
        let parts = arithmetic-parts (expr_type types a) (expr_type types b) typed in
        arithmetic-sql ◌-ℤ◌ (value a row) (value b row) _ _ (parts.number (value a row) (expr-has types row are a)) (parts.other (value b row) (expr-has types row are b))
        (expr-value a Int parts.left) (bare-value relations scope b row (expr_term types Int b) (expr-value b Int parts.right))
    expr-value (e.mul a b) due typed =
        let parts = arithmetic-parts (expr_type types a) (expr_type types b) typed in
        arithmetic-sql ◌*ℤ◌ (value a row) (value b row) _ _ (parts.number (value a row) (expr-has types row are a)) (parts.other (value b row) (expr-has types row are b))
        (expr-value a Int parts.left) (bare-value relations scope b row (expr_term types Int b) (expr-value b Int parts.right))
    expr-value (e.neg a) due typed =
        let parts = negation-parts (expr_type types a) typed in
        negation-sql (value a row) _ (parts.1 (value a row) (expr-has types row are a)) (expr-value a Int parts.0)
    expr-value (e.case c a b) due typed =
        let parts = case-parts (cond_is_typed types c) (expr_type types a) (expr_type types b) typed in
        let own : CellType = type_or_null (expr_type types (e.case c a b)) in
        let first = expr-value a own parts.1 in
        let other = expr-value b own parts.2 in
        unless-value relations scope (expr_type types (e.case c a b)) due (s.case (cond_test types c) (expr_term types own a) (expr_term types own b)) (value (e.case c a b) row) (expr-has types row are (e.case c a b))
        (ap (λ t. cond (holds t) (term_value relations scope (expr_term types own a)) (term_value relations scope (expr_term types own b))) (cond-value c parts.0)
        ∙ (elim (holds (truth c row)) as (λ q. cond q (term_value relations scope (expr_term types own a)) (term_value relations scope (expr_term types own b)) ≡ sql_cell (cond q (value a row) (value b row))) [
          | true ↦ first
          | false ↦ other
        ]))
    expr-value (e.new_id t k b e.no_parts) due typed = refl
    expr-value (e.new_id t k b (e.part a others)) due typed =
        let ids = and_parts (are_u32 t k b) (parts_are_ids types (e.part a others)) (if-some (are_u32 t k b && parts_are_ids types (e.part a others)) Id typed) in
        let parts = and_parts (is_id (expr_type types a)) (parts_are_ids types others) ids.1 in
        let own = id-parts (expr_type types a) parts.0 in
        (λ i. joined_cells (cell.Text (id_prefix t k b ++ codes "(")) (joined_cells (expr-value a Id own.0 i) (others-value others parts.1 i)))
        ∙ identity-sql t k b (value a row) (identities others row) (own.1 (value a row) (expr-has types row are a))
    expr-value (e.times a b) due typed = absurd cc

    pub cond-value : (c : Cond) → cond_is_typed types c ≡ true → test_truth relations scope (cond_test types c) ≡ truth c row
    cond-value e.always typed = refl
    cond-value (e.compare cmp a b) typed =
        let parts = comparable-parts (expr_type types a) (expr_type types b) typed in
        let left = bare-value relations scope a row (expr_term types (type_or_null (expr_type types b)) a) (expr-value a (type_or_null (expr_type types b)) parts.left) ∙ parts.same (value a row) (expr-has types row are a) in
        let right = bare-value relations scope b row (expr_term types (type_or_null (expr_type types a)) b) (expr-value b (type_or_null (expr_type types a)) parts.right) ∙ parts.other (value b row) (expr-has types row are b) in
        λ i. compared cmp (left i) (right i)
    cond-value (e.is_null a wanted) typed = ap (λ c. tested wanted (v.is_null c)) (expr-value a Null typed) ∙ ap (tested wanted) (is_null-same (value a row))
    cond-value (e.is_true c wanted) typed = ap (λ t. tested wanted (holds t)) (cond-value c typed)
    cond-value (e.and c d) typed =
        let parts = and_parts (cond_is_typed types c) (cond_is_typed types d) typed in
        λ i. both ((chain-truth relations scope (cond_test types c) ∙ cond-value c parts.0) i) (cond-value d parts.1 i)
    cond-value (e.or c d) typed =
        let parts = and_parts (cond_is_typed types c) (cond_is_typed types d) typed in
        λ i. either (cond-value c parts.0 i) (cond-value d parts.1 i)
    cond-value (e.not c) typed = ap negation (cond-value c typed)

    others-value : (parts : Parts) → parts_are_ids types parts ≡ true → joined_value relations scope (other_parts types parts) ≡ texts_of (identities parts row)
    others-value e.no_parts typed = refl
    others-value (e.part a others) typed =
        let parts = and_parts (is_id (expr_type types a)) (parts_are_ids types others) typed in
        let own = id-parts (expr_type types a) parts.0 in
        (λ i. joined_cells (cell.Text (codes ",")) (joined_cells (expr-value a Id own.0 i) (others-value others parts.1 i)))
        ∙ source-text (value a row) (identities others row) (own.1 (value a row) (expr-has types row are a))
