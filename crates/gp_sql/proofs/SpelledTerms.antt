-- Expressions and conditions that have texts have terms and conditions of SQL that are spelled.
use Rattle.gp_sql.proofs.Prelude.{◌≡◌, ℕ, pos, suc, ◌^◌, ◌<◌, ◌≤◌, Bool, true, false, List, [], ◌∷◌, drop, None, refl, arith, ◌&&◌, if◌then◌else◌, list_all, and_parts, and_from, leb-true, lt-ltb, Cell, Table, fits_number, is_u32, Expr, Cond, Parts, cell_is_spellable, expr_is_spellable, cond_is_spellable}
use Rattle.std.proofs.Common.{Option}
use Rattle.gp_base.specs.declared.cell.Cell.TheVariants as cell
use Rattle.gp_expr.specs.Expressions as e
use Rattle.gp_plantext.specs.SpellableForms.{parts_are_spellable}
use Rattle.gp_sql.specs.declared.cell_type.CellType.{CellType}
use Rattle.gp_sql.specs.declared.cell_type.CellType.TheVariants.{Null, Int, Id}
use Rattle.gp_sql.specs.Spelled.{is_unit, is_chain, term_is_spelled, terms_are_spelled, test_is_spelled}
use Rattle.gp_sql.specs.Sql as s
use Rattle.gp_sql.specs.Sql.{Term, Terms, Test}
use Rattle.gp_sql.specs.Translation.{cast_type, cell_term, type_or_null, is_null_type, unless_null, literal, bare, in_chain, expr_term, other_parts, cond_test, first_due, exprs_terms, cells_terms}
use Rattle.gp_sql.specs.Types.{expr_type}

pub fits : (n : ℕ) → n < 2 ^ 63 → fits_number (pos n) ≡ true
fits n less = lt-ltb n (2 ^ 63) less

pub fits-u32 : (n : ℕ) → is_u32 n ≡ true → fits_number (pos n) ≡ true
fits-u32 n is = let few : n ≤ 0xffff_ffff = leb-true n 0xffff_ffff is in fits n (omega (arith, few))

pub fits-next : (n : ℕ) → is_u32 n ≡ true → fits_number (pos (suc n)) ≡ true
fits-next n is = let few : n ≤ 0xffff_ffff = leb-true n 0xffff_ffff is in fits (suc n) (omega (arith, few))

pub three : (a b c : Bool) → (a && (b && c)) ≡ true → (a ≡ true) × (b ≡ true) × (c ≡ true)
three a b c is =
    let p = and_parts a (b && c) is in
    let q = and_parts b c p.1 in
    (p.0, q.0, q.1)

module _ (tables : List Table) where
  abbrev good : Term → Bool
  good = term_is_spelled tables None

  cell-spelled : (due : CellType) (c : Cell) → cell_is_spellable c ≡ true → good (cell_term due c) ≡ true
  cell-spelled due cell.Null is = refl
  cell-spelled due (cell.Int z) is = is
  cell-spelled due (cell.Text text) is = refl
  cell-spelled due (cell.Id id) is = refl
  cell-spelled due (cell.Mark true) is = refl
  cell-spelled due (cell.Mark false) is = refl
  cell-spelled due (cell.Mono monomial) is = refl

  unless-spelled : (type : Option CellType) (due : CellType) (a : Term) → good a ≡ true → good (unless_null type due a) ≡ true
  unless-spelled type due a is = elim (is_null_type type) as (λ b. good (if b then s.null (cast_type due) else a) ≡ true) [ true ↦ refl | false ↦ is ]

  bare-spelled : (x : Expr) (a : Term) → expr_is_spellable x ≡ true → good a ≡ true → good (bare (literal x) a) ≡ true
  bare-spelled (e.constant (cell.Int z)) a is whole = is
  bare-spelled (e.constant cell.Null) a is whole = whole
  bare-spelled (e.constant (cell.Text text)) a is whole = whole
  bare-spelled (e.constant (cell.Id id)) a is whole = whole
  bare-spelled (e.constant (cell.Mark mark)) a is whole = whole
  bare-spelled (e.constant (cell.Mono monomial)) a is whole = whole
  bare-spelled (e.col n) a is whole = whole
  bare-spelled (e.add x y) a is whole = whole
  bare-spelled (e.sub x y) a is whole = whole
  bare-spelled (e.mul x y) a is whole = whole
  bare-spelled (e.neg x) a is whole = whole
  bare-spelled (e.case c x y) a is whole = whole
  bare-spelled (e.new_id t k b parts) a is whole = whole
  bare-spelled (e.times x y) a is whole = whole

  -- a condition in a bracket, which a chain does without
  pub record IsBracket (c : Test) : Type 0 where
    pub unit : is_unit c ≡ true
    pub whole : test_is_spelled tables c ≡ true
    pub chain : is_chain (in_chain c) ≡ true
    pub inner : test_is_spelled tables (in_chain c) ≡ true

  bracketed : (c : Test) → test_is_spelled tables c ≡ true → IsBracket (s.bracket c)
  bracketed (s.compare cmp a b) is = record { unit = refl; whole = is; chain = refl; inner = is }
  bracketed (s.is_null a wanted) is = record { unit = refl; whole = is; chain = refl; inner = is }
  bracketed (s.is_true c wanted) is = record { unit = refl; whole = is; chain = refl; inner = is }
  bracketed (s.and c d) is = record { unit = refl; whole = is; chain = refl; inner = is }
  bracketed (s.or c d) is = record { unit = refl; whole = is; chain = refl; inner = is }
  bracketed (s.not c) is = record { unit = refl; whole = is; chain = refl; inner = is }
  bracketed (s.exists query) is = record { unit = refl; whole = is; chain = refl; inner = is }
  bracketed (s.bracket c) is = record { unit = refl; whole = is; chain = refl; inner = is }

  operands : (a b : Term) → good a ≡ true → good b ≡ true → (good a && good b) ≡ true
  operands a b left right = and_from (good a) (good b) left right

  mutual
    pub expr-spelled : (types : List CellType) (due : CellType) (x : Expr) → expr_is_spellable x ≡ true → good (expr_term types due x) ≡ true
    expr-spelled types due (e.col n) is = unless-spelled (expr_type types (e.col n)) due (s.column s.no_alias (s.numbered n)) (fits-u32 n is)
    expr-spelled types due (e.constant c) is = cell-spelled due c is
    expr-spelled types due (e.add a b) is =
        let p = and_parts (expr_is_spellable a) (expr_is_spellable b) is in
        operands (expr_term types Int a) (bare (literal b) (expr_term types Int b)) (expr-spelled types Int a p.0) (bare-spelled b (expr_term types Int b) p.1 (expr-spelled types Int b p.1))
    expr-spelled types due (e.sub a b) is =
        let p = and_parts (expr_is_spellable a) (expr_is_spellable b) is in
        operands (expr_term types Int a) (bare (literal b) (expr_term types Int b)) (expr-spelled types Int a p.0) (bare-spelled b (expr_term types Int b) p.1 (expr-spelled types Int b p.1))
    expr-spelled types due (e.mul a b) is =
        let p = and_parts (expr_is_spellable a) (expr_is_spellable b) is in
        operands (expr_term types Int a) (bare (literal b) (expr_term types Int b)) (expr-spelled types Int a p.0) (bare-spelled b (expr_term types Int b) p.1 (expr-spelled types Int b p.1))
    expr-spelled types due (e.neg a) is = expr-spelled types Int a is
    expr-spelled types due (e.case c a b) is =
        let p = three (cond_is_spellable c) (expr_is_spellable a) (expr_is_spellable b) is in
        let type = expr_type types (e.case c a b) in
        let inner = type_or_null type in
        unless-spelled type due (s.case (cond_test types c) (expr_term types inner a) (expr_term types inner b))
        (and_from (test_is_spelled tables (cond_test types c)) _ (cond-spelled types c p.0).whole
        (operands (expr_term types inner a) (expr_term types inner b) (expr-spelled types inner a p.1) (expr-spelled types inner b p.2)))
    expr-spelled types due (e.new_id t k b e.no_parts) is = refl
    expr-spelled types due (e.new_id t k b (e.part a others)) is =
        let p = and_parts ((is_u32 t && (is_u32 k && is_u32 b)) && true) (expr_is_spellable a && parts_are_spellable others) is in
        let q = and_parts (expr_is_spellable a) (parts_are_spellable others) p.1 in
        and_from (good (expr_term types Id a)) (terms_are_spelled tables None (other_parts types others)) (expr-spelled types Id a q.0) (parts-spelled types others q.1)
    expr-spelled types due (e.times a b) is = refl

    parts-spelled : (types : List CellType) (parts : Parts) → parts_are_spellable parts ≡ true → terms_are_spelled tables None (other_parts types parts) ≡ true
    parts-spelled types e.no_parts is = refl
    parts-spelled types (e.part a others) is =
        let q = and_parts (expr_is_spellable a) (parts_are_spellable others) is in
        and_from (good (expr_term types Id a)) (terms_are_spelled tables None (other_parts types others)) (expr-spelled types Id a q.0) (parts-spelled types others q.1)

    pub cond-spelled : (types : List CellType) (c : Cond) → cond_is_spellable c ≡ true → IsBracket (cond_test types c)
    cond-spelled types e.always is = record { unit = refl; whole = refl; chain = refl; inner = refl }
    cond-spelled types (e.compare cmp a b) is =
        let p = and_parts (expr_is_spellable a) (expr_is_spellable b) is in
        let left = type_or_null (expr_type types b) in
        let right = type_or_null (expr_type types a) in
        bracketed (s.compare cmp (bare (literal a) (expr_term types left a)) (bare (literal b) (expr_term types right b)))
        (operands (bare (literal a) (expr_term types left a)) (bare (literal b) (expr_term types right b))
        (bare-spelled a (expr_term types left a) p.0 (expr-spelled types left a p.0)) (bare-spelled b (expr_term types right b) p.1 (expr-spelled types right b p.1)))
    cond-spelled types (e.is_null a wanted) is = bracketed (s.is_null (expr_term types Null a) wanted) (expr-spelled types Null a is)
    cond-spelled types (e.is_true c wanted) is =
        let own = cond-spelled types c is in
        bracketed (s.is_true (cond_test types c) wanted) (and_from (is_unit (cond_test types c)) (test_is_spelled tables (cond_test types c)) own.unit own.whole)
    cond-spelled types (e.and c d) is =
        let p = and_parts (cond_is_spellable c) (cond_is_spellable d) is in
        let own = cond-spelled types c p.0 in
        let other = cond-spelled types d p.1 in
        let first = in_chain (cond_test types c) in
        let second = cond_test types d in
        bracketed (s.and first second)
        (and_from (is_chain first && is_unit second) (test_is_spelled tables first && test_is_spelled tables second) (and_from (is_chain first) (is_unit second) own.chain other.unit)
        (and_from (test_is_spelled tables first) (test_is_spelled tables second) own.inner other.whole))
    cond-spelled types (e.or c d) is =
        let p = and_parts (cond_is_spellable c) (cond_is_spellable d) is in
        let own = cond-spelled types c p.0 in
        let other = cond-spelled types d p.1 in
        let first = cond_test types c in
        let second = cond_test types d in
        bracketed (s.or first second)
        (and_from (is_unit first && is_unit second) (test_is_spelled tables first && test_is_spelled tables second) (and_from (is_unit first) (is_unit second) own.unit other.unit)
        (and_from (test_is_spelled tables first) (test_is_spelled tables second) own.whole other.whole))
    cond-spelled types (e.not c) is =
        let own = cond-spelled types c is in
        bracketed (s.not (cond_test types c)) (and_from (is_unit (cond_test types c)) (test_is_spelled tables (cond_test types c)) own.unit own.whole)

  pub exprs-spelled : (types due : List CellType) (exprs : List Expr) → list_all expr_is_spellable exprs ≡ true → terms_are_spelled tables None (exprs_terms types due exprs) ≡ true
  exprs-spelled types due [] is = refl
  exprs-spelled types due (a ∷ exprs) is =
      let p = and_parts (expr_is_spellable a) (list_all expr_is_spellable exprs) is in
      and_from (good (expr_term types (first_due due) a)) (terms_are_spelled tables None (exprs_terms types (drop 1 due) exprs)) (expr-spelled types (first_due due) a p.0) (exprs-spelled types (drop 1 due) exprs p.1)

  pub cells-spelled : (due : List CellType) (cells : List Cell) → list_all cell_is_spellable cells ≡ true → terms_are_spelled tables None (cells_terms due cells) ≡ true
  cells-spelled due [] is = refl
  cells-spelled due (c ∷ cells) is =
      let p = and_parts (cell_is_spellable c) (list_all cell_is_spellable cells) is in
      and_from (good (cell_term (first_due due) c)) (terms_are_spelled tables None (cells_terms (drop 1 due) cells)) (cell-spelled (first_due due) c p.0) (cells-spelled (drop 1 due) cells p.1)
