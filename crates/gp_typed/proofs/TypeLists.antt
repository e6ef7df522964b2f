-- Lists of types: what can stand in columns, the types of unions, and of expressions and cells side by side.
use Rattle.gp_typed.proofs.Prelude.{◌≡◌, ℕ, suc, true, List, [], ◌∷◌, ◌++◌, length, Some, None, refl, sym, ap, ◌∙◌, append_assoc, length-append, arith, Option, slice_get, and_parts, and_from, Cell, Expr, columns_behind, CellType, Null, Int, Text, Id, Mark, cell_type, common, common_types, expr_type, exprs_types, product_types, row_types, with_first, is_into, are_into}

-- ---- what can stand in a column

-- two types that can stand in a column have a type in common, which can stand there too
pub record Common (column a b : CellType) : Type 0 where
  pub type : CellType
  pub is : common a b ≡ Some type
  pub fits : is_into column type ≡ true

common_into : (column a b : CellType) → is_into column a ≡ true → is_into column b ≡ true → Common column a b
common_into column Null b first second = record { type = b; is = refl; fits = second }
common_into Int Int Null first second = record { type = Int; is = refl; fits = refl }
common_into Int Int Int first second = record { type = Int; is = refl; fits = refl }
common_into Text Text Null first second = record { type = Text; is = refl; fits = refl }
common_into Text Text Text first second = record { type = Text; is = refl; fits = refl }
common_into Id Id Null first second = record { type = Id; is = refl; fits = refl }
common_into Id Id Id first second = record { type = Id; is = refl; fits = refl }
common_into Mark Mark Null first second = record { type = Mark; is = refl; fits = refl }
common_into Mark Mark Mark first second = record { type = Mark; is = refl; fits = refl }
common_into column a b first second = absurd cc

-- in common with its column, it is the column's type
common_column : (column type : CellType) → is_into column type ≡ true → common column type ≡ Some column
common_column Null Null into = refl
common_column Int Null into = refl
common_column Int Int into = refl
common_column Text Null into = refl
common_column Text Text into = refl
common_column Id Null into = refl
common_column Id Id into = refl
common_column Mark Null into = refl
common_column Mark Mark into = refl
common_column column type into = absurd cc

pub into_itself : (type : CellType) → is_into type type ≡ true
into_itself Null = refl
into_itself Int = refl
into_itself Text = refl
into_itself Id = refl
into_itself Mark = refl

-- and so it is of lists
pub record CommonTypes (columns xs ys : List CellType) : Type 0 where
  pub types : List CellType
  pub are : common_types xs ys ≡ Some types
  pub fit : are_into columns types ≡ true

pub union_into : (columns xs ys : List CellType) → are_into columns xs ≡ true → are_into columns ys ≡ true → CommonTypes columns xs ys
union_into [] [] [] first second = record { types = []; are = refl; fit = refl }
union_into (column ∷ columns) (x ∷ xs) (y ∷ ys) first second =
    let p = and_parts (is_into column x) (are_into columns xs) first in
    let q = and_parts (is_into column y) (are_into columns ys) second in
    let own = common_into column x y p.0 q.0 in
    let rest = union_into columns xs ys p.1 q.1 in
    record { types = own.type ∷ rest.types; are = λ i. with_first (own.is i) (rest.are i); fit = and_from (is_into column own.type) (are_into columns rest.types) own.fits rest.fit }
union_into columns xs ys first second = absurd cc

pub union_column : (columns xs : List CellType) → are_into columns xs ≡ true → common_types columns xs ≡ Some columns
union_column [] [] into = refl
union_column (column ∷ columns) (x ∷ xs) into =
    let p = and_parts (is_into column x) (are_into columns xs) into in
    λ i. with_first (common_column column x p.0 i) (union_column columns xs p.1 i)
union_column columns xs into = absurd cc

pub all_into_itself : (xs : List CellType) → are_into xs xs ≡ true
all_into_itself [] = refl
all_into_itself (x ∷ xs) = and_from (is_into x x) (are_into xs xs) (into_itself x) (all_into_itself xs)

pub into_append : (columns xs others ys : List CellType) → are_into columns xs ≡ true → are_into others ys ≡ true → are_into (columns ++ others) (xs ++ ys) ≡ true
into_append [] [] others ys first second = second
into_append (column ∷ columns) (x ∷ xs) others ys first second =
    let p = and_parts (is_into column x) (are_into columns xs) first in
    and_from (is_into column x) (are_into (columns ++ others) (xs ++ ys)) p.0 (into_append columns xs others ys p.1 second)
into_append columns xs others ys first second = absurd cc

-- ---- side by side

behind_none : (types : Option (List CellType)) → types ≡ product_types (Some []) types
behind_none None = refl
behind_none (Some types) = refl

behind_first : (type : Option CellType) (types others : Option (List CellType))
    → with_first type (product_types types others) ≡ product_types (with_first type types) others
behind_first None types others = refl
behind_first (Some type) None others = refl
behind_first (Some type) (Some types) None = refl
behind_first (Some type) (Some types) (Some others) = refl

pub exprs-append : (types : List CellType) (xs ys : List Expr) → exprs_types types (xs ++ ys) ≡ product_types (exprs_types types xs) (exprs_types types ys)
exprs-append types [] ys = behind_none (exprs_types types ys)
exprs-append types (x ∷ xs) ys =
    ap (with_first (expr_type types x)) (exprs-append types xs ys) ∙ behind_first (expr_type types x) (exprs_types types xs) (exprs_types types ys)

pub row-append : (xs ys : List Cell) → row_types (xs ++ ys) ≡ product_types (row_types xs) (row_types ys)
row-append [] ys = behind_none (row_types ys)
row-append (x ∷ xs) ys = ap (with_first (cell_type x)) (row-append xs ys) ∙ behind_first (cell_type x) (row_types xs) (row_types ys)

-- ---- columns where they stand

pub type_behind : (before : List CellType) (type : CellType) (others : List CellType) → slice_get (before ++ type ∷ others) (length before) ≡ Some type
type_behind [] type others = refl
type_behind (first ∷ before) type others = type_behind before type others

-- columns behind this many others
pub columns_types : (types before own others : List CellType) (n : ℕ) → types ≡ before ++ (own ++ others) → n ≡ length before
    → exprs_types types (columns_behind n (length own)) ≡ Some own
columns_types types before [] others n are at = refl
columns_types types before (type ∷ own) others n are at =
    let more = length-append before (type ∷ []) in
    let first : slice_get types n ≡ Some type = (λ i. slice_get (are i) (at i)) ∙ type_behind before type (own ++ others) in
    let rest = columns_types types (before ++ type ∷ []) own others (suc n) (are ∙ sym (append_assoc before (type ∷ []) (own ++ others))) (omega (arith, more, at)) in
    λ i. with_first (first i) (rest i)
