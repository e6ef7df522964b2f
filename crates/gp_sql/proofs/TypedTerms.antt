-- The terms of SQL that expressions are have types, over columns that have those of the expressions.
use Rattle.gp_sql.proofs.Prelude.{◌≡◌, ℕ, Bool, true, false, cond, List, Some, None, refl, sym, ap, subst, ◌∙◌, Option, ◌&&◌, and_parts, and_from, Cell, Expr, Cond, Parts}
use Rattle.std.proofs.lemmas.Option.{none-some, same_Some}
use Rattle.std.specs.Prelude.{is_some}
use Rattle.gp_base.specs.declared.cell.Cell.TheVariants as cell
use Rattle.gp_expr.specs.Expressions as e
use Rattle.gp_sql.specs.declared.cell_type.CellType.{CellType}
use Rattle.gp_sql.specs.declared.cell_type.CellType.TheVariants.{Null, Int, Text, Id, Mark}
use Rattle.gp_sql.specs.CellTypes.{numbers_fit}
use Rattle.gp_sql.specs.Sql as s
use Rattle.gp_sql.specs.Sql.{Term, Test}
use Rattle.gp_sql.specs.Translation.{bare, cast_type, cell_term, cond_test, expr_term, id_prefix, id_term, in_chain, literal, other_parts, type_or_null, unless_null}
use Rattle.gp_sql.specs.TypedQueries as q
use Rattle.gp_sql.specs.TypedQueries.{Scope, Sources, ValueType, arithmetic, bigint, integer, is_text, of_both, term_type, test_is_typed, are_texts, varchar}
use Rattle.gp_sql.specs.Types.{are_u32, are_comparable, arithmetic_type, case_type, cell_type, common, cond_is_typed, expr_type, is_comparable, is_id, is_numeric, negation_type, parts_are_ids, type_at}

-- ---- values of a type

-- a value of SQL can stand where this type is due
abbrev pub suits : CellType → Option ValueType → Bool
suits Null (Some bigint) = true
suits Int (Some bigint) = true
suits Text (Some varchar) = true
suits Id (Some varchar) = true
suits Mark (Some integer) = true
suits Mark (Some bigint) = true
suits _ _ = false

-- a number without a cast is as good where values are compared
abbrev pub is_near : CellType → Option ValueType → Bool
is_near Text (Some varchar) = true
is_near Id (Some varchar) = true
is_near Null (Some integer) = true
is_near Null (Some bigint) = true
is_near Int (Some integer) = true
is_near Int (Some bigint) = true
is_near Mark (Some integer) = true
is_near Mark (Some bigint) = true
is_near _ _ = false

-- what is due where the type is that of NULL, and the type elsewhere
abbrev pub resolved : CellType → CellType → CellType
resolved Null due = due
resolved Int due = Int
resolved Text due = Text
resolved Id due = Id
resolved Mark due = Mark

-- a column whose type is that of NULL may have any value: it is not read
abbrev pub covers : CellType → Option ValueType → Bool
covers Null x = true
covers Int x = suits Int x
covers Text x = suits Text x
covers Id x = suits Id x
covers Mark x = suits Mark x

suits-near : (type : CellType) (x : Option ValueType) → suits type x ≡ true → is_near type x ≡ true
suits-near Null (Some bigint) e = refl
suits-near Int (Some bigint) e = refl
suits-near Text (Some varchar) e = refl
suits-near Id (Some varchar) e = refl
suits-near Mark (Some integer) e = refl
suits-near Mark (Some bigint) e = refl
suits-near type x e = absurd cc

pub null-suits : (due : CellType) → suits due (Some (q.cast_type (cast_type due))) ≡ true
null-suits Null = refl
null-suits Int = refl
null-suits Text = refl
null-suits Id = refl
null-suits Mark = refl

pub covers-suits : (type : CellType) (x : Option ValueType) → suits type x ≡ true → covers type x ≡ true
covers-suits Null x e = refl
covers-suits Int x e = e
covers-suits Text x e = e
covers-suits Id x e = e
covers-suits Mark x e = e

pub suits-common : (type : CellType) (x y : Option ValueType) → suits type x ≡ true → suits type y ≡ true → suits type (of_both q.common x y) ≡ true
suits-common Null (Some bigint) (Some bigint) first second = refl
suits-common Int (Some bigint) (Some bigint) first second = refl
suits-common Text (Some varchar) (Some varchar) first second = refl
suits-common Id (Some varchar) (Some varchar) first second = refl
suits-common Mark (Some integer) (Some integer) first second = refl
suits-common Mark (Some integer) (Some bigint) first second = refl
suits-common Mark (Some bigint) (Some integer) first second = refl
suits-common Mark (Some bigint) (Some bigint) first second = refl
suits-common type x y first second = absurd cc

pub near-common : (type : CellType) (x y : Option ValueType) → is_near type x ≡ true → is_near type y ≡ true → is_some (of_both q.common x y) ≡ true
near-common Text (Some varchar) (Some varchar) first second = refl
near-common Id (Some varchar) (Some varchar) first second = refl
near-common Null (Some integer) (Some integer) first second = refl
near-common Null (Some integer) (Some bigint) first second = refl
near-common Null (Some bigint) (Some integer) first second = refl
near-common Null (Some bigint) (Some bigint) first second = refl
near-common Int (Some integer) (Some integer) first second = refl
near-common Int (Some integer) (Some bigint) first second = refl
near-common Int (Some bigint) (Some integer) first second = refl
near-common Int (Some bigint) (Some bigint) first second = refl
near-common Mark (Some integer) (Some integer) first second = refl
near-common Mark (Some integer) (Some bigint) first second = refl
near-common Mark (Some bigint) (Some integer) first second = refl
near-common Mark (Some bigint) (Some bigint) first second = refl
near-common type x y first second = absurd cc

suits-arithmetic : (x y : Option ValueType) → suits Int x ≡ true → is_near Int y ≡ true → suits Int (of_both arithmetic x y) ≡ true
suits-arithmetic (Some bigint) (Some bigint) first second = refl
suits-arithmetic (Some bigint) (Some integer) first second = refl
suits-arithmetic x y first second = absurd cc

pub suits-text : (x : Option ValueType) → suits Id x ≡ true → is_text x ≡ true
suits-text (Some varchar) e = refl
suits-text x e = absurd cc

pub near-some : (type : CellType) (x : Option ValueType) → is_near type x ≡ true → is_some x ≡ true
near-some type (Some t) e = refl
near-some Null None e = absurd cc
near-some Int None e = absurd cc
near-some Text None e = absurd cc
near-some Id None e = absurd cc
near-some Mark None e = absurd cc

-- ---- what the types of expressions say of their parts

if-is : (b : Bool) (type own : CellType) → cond b (Some type) None ≡ Some own → (b ≡ true) × (type ≡ own)
if-is true type own is = (refl, same_Some type own is)
if-is false type own is = absurd (none-some own is)

record Operands (x y : Option CellType) (own : CellType) : Type 0 where
  left : CellType
  right : CellType
  is-left : x ≡ Some left
  is-right : y ≡ Some right
  first : resolved left Int ≡ Int
  second : resolved right Int ≡ Int
  number : Int ≡ own

numeric-resolved : (type : CellType) → is_numeric type ≡ true → resolved type Int ≡ Int
numeric-resolved Null e = refl
numeric-resolved Int e = refl
numeric-resolved type e = absurd cc

operands : (x y : Option CellType) (own : CellType) → arithmetic_type x y ≡ Some own → Operands x y own
operands (Some a) (Some b) own is =
    let found = if-is (is_numeric a && is_numeric b) Int own is in
    let both = and_parts (is_numeric a) (is_numeric b) found.0 in
    record { left = a; right = b; is-left = refl; is-right = refl; first = numeric-resolved a both.0; second = numeric-resolved b both.1; number = found.1 }
operands (Some a) None own is = absurd (none-some own is)
operands None y own is = absurd (none-some own is)

record Operand (x : Option CellType) (own : CellType) : Type 0 where
  type : CellType
  is : x ≡ Some type
  first : resolved type Int ≡ Int
  number : Int ≡ own

operand : (x : Option CellType) (own : CellType) → negation_type x ≡ Some own → Operand x own
operand (Some a) own is =
    let found = if-is (is_numeric a) Int own is in
    record { type = a; is = refl; first = numeric-resolved a found.0; number = found.1 }
operand None own is = absurd (none-some own is)

-- both are of the type in common, or NULL
pub common-resolved : (a b own : CellType) → common a b ≡ Some own → (resolved a own ≡ own) × (resolved b own ≡ own)
common-resolved Null Null own is = (refl, refl)
common-resolved Null Int own is = (refl, same_Some Int own is)
common-resolved Null Text own is = (refl, same_Some Text own is)
common-resolved Null Id own is = (refl, same_Some Id own is)
common-resolved Null Mark own is = (refl, same_Some Mark own is)
common-resolved Int Null own is = (same_Some Int own is, refl)
common-resolved Int Int own is = (same_Some Int own is, same_Some Int own is)
common-resolved Text Null own is = (same_Some Text own is, refl)
common-resolved Text Text own is = (same_Some Text own is, same_Some Text own is)
common-resolved Id Null own is = (same_Some Id own is, refl)
common-resolved Id Id own is = (same_Some Id own is, same_Some Id own is)
common-resolved Mark Null own is = (same_Some Mark own is, refl)
common-resolved Mark Mark own is = (same_Some Mark own is, same_Some Mark own is)
common-resolved a b own is = absurd (none-some own is)

record Branches (typed : Bool) (x y : Option CellType) (own : CellType) : Type 0 where
  left : CellType
  right : CellType
  when : typed ≡ true
  is-left : x ≡ Some left
  is-right : y ≡ Some right
  common : common left right ≡ Some own

branches : (typed : Bool) (x y : Option CellType) (own : CellType) → case_type typed x y ≡ Some own → Branches typed x y own
branches true (Some a) (Some b) own is = record { left = a; right = b; when = refl; is-left = refl; is-right = refl; common = is }
branches true (Some a) None own is = absurd (none-some own is)
branches true None y own is = absurd (none-some own is)
branches false x y own is = absurd (none-some own is)

record Compared (x y : Option CellType) : Type 0 where
  left : CellType
  right : CellType
  is-left : x ≡ Some left
  is-right : y ≡ Some right
  same : resolved right left ≡ resolved left right

comparable-same : (a b : CellType) → is_comparable (common a b) ≡ true → resolved b a ≡ resolved a b
comparable-same Null Null e = refl
comparable-same Null Int e = refl
comparable-same Null Text e = refl
comparable-same Int Null e = refl
comparable-same Int Int e = refl
comparable-same Text Null e = refl
comparable-same Text Text e = refl
comparable-same Null Id e = absurd cc
comparable-same Null Mark e = absurd cc
comparable-same Int Text e = absurd cc
comparable-same Int Id e = absurd cc
comparable-same Int Mark e = absurd cc
comparable-same Text Int e = absurd cc
comparable-same Text Id e = absurd cc
comparable-same Text Mark e = absurd cc
comparable-same Id Null e = absurd cc
comparable-same Id Int e = absurd cc
comparable-same Id Text e = absurd cc
comparable-same Id Id e = absurd cc
comparable-same Id Mark e = absurd cc
comparable-same Mark Null e = absurd cc
comparable-same Mark Int e = absurd cc
comparable-same Mark Text e = absurd cc
comparable-same Mark Id e = absurd cc
comparable-same Mark Mark e = absurd cc

compared : (x y : Option CellType) → are_comparable x y ≡ true → Compared x y
compared (Some a) (Some b) e = record { left = a; right = b; is-left = refl; is-right = refl; same = comparable-same a b e }
compared (Some a) None e = absurd cc
compared None y e = absurd cc

record IsKnown (x : Option CellType) : Type 0 where
  type : CellType
  is : x ≡ Some type

known-type : (x : Option CellType) → is_some x ≡ true → IsKnown x
known-type (Some type) e = record { type = type; is = refl }
known-type None e = absurd cc

id-is : (x : Option CellType) → is_id x ≡ true → x ≡ Some Id
id-is (Some Id) e = refl
id-is x e = absurd cc

-- ---- terms

module _ (sources : Sources) (scope : Scope) where
  chain-typed : (c : Test) → test_is_typed sources scope (in_chain c) ≡ test_is_typed sources scope c
  chain-typed (s.compare cmp a b) = refl
  chain-typed (s.is_null a wanted) = refl
  chain-typed (s.is_true c wanted) = refl
  chain-typed (s.and c d) = refl
  chain-typed (s.or c d) = refl
  chain-typed (s.not c) = refl
  chain-typed (s.exists query) = refl
  chain-typed (s.bracket (s.compare cmp a b)) = refl
  chain-typed (s.bracket (s.is_null a wanted)) = refl
  chain-typed (s.bracket (s.is_true c wanted)) = refl
  chain-typed (s.bracket (s.and c d)) = refl
  chain-typed (s.bracket (s.or c d)) = refl
  chain-typed (s.bracket (s.not c)) = refl
  chain-typed (s.bracket (s.exists query)) = refl
  chain-typed (s.bracket (s.bracket c)) = refl

  -- a term of the type of its expression, a NULL where that is NULL's
  abbrev IsFor : CellType → CellType → Term → Type 0
  IsFor own due a = suits (resolved own due) (term_type sources scope a) ≡ true

  unless-typed : (own due : CellType) (a : Term) → covers own (term_type sources scope a) ≡ true → IsFor own due (unless_null (Some own) due a)
  unless-typed Null due a e = null-suits due
  unless-typed Int due a e = e
  unless-typed Text due a e = e
  unless-typed Id due a e = e
  unless-typed Mark due a e = e

  pub cell-typed : (c : Cell) (due own : CellType) → cell_type c ≡ Some own → IsFor own due (cell_term due c)
  cell-typed cell.Null due own is = ap (λ type. suits (resolved type due) (Some (q.cast_type (cast_type due)))) (sym (same_Some Null own is)) ∙ null-suits due
  cell-typed (cell.Int z) due own is = ap (λ type. suits (resolved type due) (Some bigint)) (sym (same_Some Int own is))
  cell-typed (cell.Text text) due own is = ap (λ type. suits (resolved type due) (Some varchar)) (sym (same_Some Text own is))
  cell-typed (cell.Id id) due own is = ap (λ type. suits (resolved type due) (Some varchar)) (sym (if-is (numbers_fit id) Id own is).1)
  cell-typed (cell.Mark true) due own is = ap (λ type. suits (resolved type due) (Some integer)) (sym (same_Some Mark own is))
  cell-typed (cell.Mark false) due own is = ap (λ type. suits (resolved type due) (Some integer)) (sym (same_Some Mark own is))
  cell-typed (cell.Mono monomial) due own is = absurd (none-some own is)

  -- a number may stand without its cast
  bare-near : (types : List CellType) (x : Expr) (own due : CellType) (a : Term) → expr_type types x ≡ Some own → IsFor own due a
      → is_near (resolved own due) (term_type sources scope (bare (literal x) a)) ≡ true
  bare-near types (e.constant (cell.Int z)) own due a is typed = ap (λ type. is_near (resolved type due) (Some integer)) (sym (same_Some Int own is))
  bare-near types (e.constant cell.Null) own due a is typed = suits-near (resolved own due) (term_type sources scope a) typed
  bare-near types (e.constant (cell.Text text)) own due a is typed = suits-near (resolved own due) (term_type sources scope a) typed
  bare-near types (e.constant (cell.Id id)) own due a is typed = suits-near (resolved own due) (term_type sources scope a) typed
  bare-near types (e.constant (cell.Mark mark)) own due a is typed = suits-near (resolved own due) (term_type sources scope a) typed
  bare-near types (e.constant (cell.Mono monomial)) own due a is typed = suits-near (resolved own due) (term_type sources scope a) typed
  bare-near types (e.col n) own due a is typed = suits-near (resolved own due) (term_type sources scope a) typed
  bare-near types (e.add b c) own due a is typed = suits-near (resolved own due) (term_type sources scope a) typed
  bare-near types (e.sub b c) own due a is typed = suits-near (resolved own due) (term_type sources scope a) typed
  bare-near types (e.mul b c) own due a is typed = suits-near (resolved own due) (term_type sources scope a) typed
  bare-near types (e.neg b) own due a is typed = suits-near (resolved own due) (term_type sources scope a) typed
  bare-near types (e.case c b d) own due a is typed = suits-near (resolved own due) (term_type sources scope a) typed
  bare-near types (e.new_id t k b parts) own due a is typed = suits-near (resolved own due) (term_type sources scope a) typed
  bare-near types (e.times b c) own due a is typed = suits-near (resolved own due) (term_type sources scope a) typed

  -- the columns of these types, as the scope has them
  abbrev pub HasColumns : List CellType → Type 0
  HasColumns types = (n : ℕ) (own : CellType) → type_at n types ≡ Some own → covers own (term_type sources scope (s.column s.no_alias (s.numbered n))) ≡ true

  module _ (types : List CellType) (has : HasColumns types) where
    -- what an expression gives where this type is due
    abbrev Gives : Expr → CellType → Type 0
    Gives a due = (own : CellType) → expr_type types a ≡ Some own → IsFor own due (expr_term types due a)

    as-number : (a : Expr) → Gives a Int → (type : CellType) → expr_type types a ≡ Some type → resolved type Int ≡ Int → suits Int (term_type sources scope (expr_term types Int a)) ≡ true
    as-number a gives type is same = subst (λ t. suits t (term_type sources scope (expr_term types Int a)) ≡ true) same (gives type is)

    as-text : (a : Expr) → Gives a Id → is_id (expr_type types a) ≡ true → is_text (term_type sources scope (expr_term types Id a)) ≡ true
    as-text a gives is = suits-text (term_type sources scope (expr_term types Id a)) (gives Id (id-is (expr_type types a) is))

    arithmetic-typed : (a b : Expr) (due own : CellType) → Gives a Int → Gives b Int → arithmetic_type (expr_type types a) (expr_type types b) ≡ Some own
        → suits (resolved own due) (of_both arithmetic (term_type sources scope (expr_term types Int a)) (term_type sources scope (bare (literal b) (expr_term types Int b)))) ≡ true
    arithmetic-typed a b due own first second is =
        let found = operands (expr_type types a) (expr_type types b) own is in
        let x = term_type sources scope (expr_term types Int a) in
        let y = term_type sources scope (bare (literal b) (expr_term types Int b)) in
        let near = subst (λ t. is_near t y ≡ true) found.second (bare-near types b found.right Int (expr_term types Int b) found.is-right (second found.right found.is-right)) in
        ap (λ type. suits (resolved type due) (of_both arithmetic x y)) (sym found.number)
        ∙ suits-arithmetic x y (as-number a first found.left found.is-left found.first) near

    mutual
      pub expr-typed : (x : Expr) (due own : CellType) → expr_type types x ≡ Some own → IsFor own due (expr_term types due x)
      expr-typed (e.col n) due own is =
          subst (λ o. IsFor own due (unless_null o due (s.column s.no_alias (s.numbered n)))) (sym is) (unless-typed own due (s.column s.no_alias (s.numbered n)) (has n own is))
      expr-typed (e.constant c) due own is = cell-typed c due own is
      expr-typed (e.add a b) due own is = arithmetic-typed a b due own (expr-typed a Int) (expr-typed b Int) is
      expr-typed (e.sub a b) due own is = arithmetic-typed a b due own (expr-typed a Int) (expr-typed b Int) is
      expr-typed (e.mul a b) due own is = arithmetic-typed a b due own (expr-typed a Int) (expr-typed b Int) is
      expr-typed (e.neg a) due own is =
          let found = operand (expr_type types a) own is in
          let term = as-number a (expr-typed a Int) found.type found.is found.first in
          ap (λ type. suits (resolved type due) (term_type sources scope (s.negative (expr_term types Int a)))) (sym found.number)
          ∙ suits-arithmetic (term_type sources scope (expr_term types Int a)) (term_type sources scope (expr_term types Int a)) term (suits-near Int (term_type sources scope (expr_term types Int a)) term)
      expr-typed (e.case c a b) due own is =
          let found = branches (cond_is_typed types c) (expr_type types a) (expr_type types b) own is in
          let same = common-resolved found.left found.right own found.common in
          let first = subst (λ t. suits t (term_type sources scope (expr_term types own a)) ≡ true) same.0 (expr-typed a own found.left found.is-left) in
          let second = subst (λ t. suits t (term_type sources scope (expr_term types own b)) ≡ true) same.1 (expr-typed b own found.right found.is-right) in
          let whole : suits own (term_type sources scope (s.case (cond_test types c) (expr_term types own a) (expr_term types own b))) ≡ true =
          ap (λ t. suits own (cond t (of_both q.common (term_type sources scope (expr_term types own a)) (term_type sources scope (expr_term types own b))) None)) (cond-typed c found.when)
          ∙ suits-common own (term_type sources scope (expr_term types own a)) (term_type sources scope (expr_term types own b)) first second in
          subst (λ o. IsFor own due (unless_null o due (s.case (cond_test types c) (expr_term types (type_or_null o) a) (expr_term types (type_or_null o) b)))) (sym is)
          (unless-typed own due (s.case (cond_test types c) (expr_term types own a) (expr_term types own b))
          (covers-suits own (term_type sources scope (s.case (cond_test types c) (expr_term types own a) (expr_term types own b))) whole))
      expr-typed (e.new_id t k b e.no_parts) due own is =
          ap (λ type. suits (resolved type due) (Some varchar)) (sym (if-is (are_u32 t k b && true) Id own is).1)
      expr-typed (e.new_id t k b (e.part a others)) due own is =
          let found = if-is (are_u32 t k b && parts_are_ids types (e.part a others)) Id own is in
          let ids = and_parts (are_u32 t k b) (parts_are_ids types (e.part a others)) found.0 in
          let parts = and_parts (is_id (expr_type types a)) (parts_are_ids types others) ids.1 in
          ap (λ type. suits (resolved type due) (term_type sources scope (id_term types (id_prefix t k b) (e.part a others)))) (sym found.1)
          ∙ ap (λ b. suits Id (cond b (Some varchar) None))
          (and_from (is_text (term_type sources scope (expr_term types Id a))) (are_texts sources scope (other_parts types others)) (as-text a (expr-typed a Id) parts.0) (others-typed others parts.1))
      expr-typed (e.times a b) due own is = absurd (none-some own is)

      others-typed : (parts : Parts) → parts_are_ids types parts ≡ true → are_texts sources scope (other_parts types parts) ≡ true
      others-typed e.no_parts typed = refl
      others-typed (e.part a others) typed =
          let parts = and_parts (is_id (expr_type types a)) (parts_are_ids types others) typed in
          and_from (is_text (term_type sources scope (expr_term types Id a))) (are_texts sources scope (other_parts types others)) (as-text a (expr-typed a Id) parts.0) (others-typed others parts.1)

      pub cond-typed : (c : Cond) → cond_is_typed types c ≡ true → test_is_typed sources scope (cond_test types c) ≡ true
      cond-typed e.always typed = refl
      cond-typed (e.compare cmp a b) typed =
          let found = compared (expr_type types a) (expr_type types b) typed in
          let left : CellType → Term = λ type. bare (literal a) (expr_term types type a) in
          let right : CellType → Term = λ type. bare (literal b) (expr_term types type b) in
          let first = bare-near types a found.left found.right (expr_term types found.right a) found.is-left (expr-typed a found.right found.left found.is-left) in
          let second = bare-near types b found.right found.left (expr_term types found.left b) found.is-right (expr-typed b found.left found.right found.is-right) in
          (λ i. is_some (of_both q.common (term_type sources scope (left (type_or_null (found.is-right i)))) (term_type sources scope (right (type_or_null (found.is-left i))))))
          ∙ near-common (resolved found.left found.right) (term_type sources scope (left found.right)) (term_type sources scope (right found.left)) first
          (subst (λ t. is_near t (term_type sources scope (right found.left)) ≡ true) found.same second)
      cond-typed (e.is_null a wanted) typed =
          let found = known-type (expr_type types a) typed in
          near-some (resolved found.type Null) (term_type sources scope (expr_term types Null a))
          (suits-near (resolved found.type Null) (term_type sources scope (expr_term types Null a)) (expr-typed a Null found.type found.is))
      cond-typed (e.is_true c wanted) typed = cond-typed c typed
      cond-typed (e.and c d) typed =
          let parts = and_parts (cond_is_typed types c) (cond_is_typed types d) typed in
          ap (λ t. t && test_is_typed sources scope (cond_test types d)) (chain-typed (cond_test types c))
          ∙ and_from (test_is_typed sources scope (cond_test types c)) (test_is_typed sources scope (cond_test types d)) (cond-typed c parts.0) (cond-typed d parts.1)
      cond-typed (e.or c d) typed =
          let parts = and_parts (cond_is_typed types c) (cond_is_typed types d) typed in
          and_from (test_is_typed sources scope (cond_test types c)) (test_is_typed sources scope (cond_test types d)) (cond-typed c parts.0) (cond-typed d parts.1)
      cond-typed (e.not c) typed = cond-typed c typed
