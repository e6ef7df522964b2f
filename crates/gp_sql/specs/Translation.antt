-- Of the contract of `write_query`: the terms and tests of SQL of the expressions and conditions of a plain program that has types.
use Rattle.std.specs.Prelude.{ℕ, Bool, true, false, List, [], ◌∷◌, ◌++◌, drop, pos, codes, Option, Some, None, ℤ, if◌then◌else◌}
use Rattle.std.specs.Fmt.{decimal}
use Rattle.std.specs.List.{concat}
use Rattle.gp_base.specs.declared.cell.Cell.{Cell}
use Rattle.gp_base.specs.declared.cell.Cell.TheVariants as cell
use Rattle.gp_base.specs.Identities.{identity_text}
use Rattle.gp_expr.specs.declared.expr.Cmp.TheVariants.{Eq}
use Rattle.gp_expr.specs.Expressions as e
use Rattle.gp_expr.specs.Expressions.{Expr, Cond, Parts}
use Rattle.gp_sql.specs.declared.cell_type.CellType.{CellType}
use Rattle.gp_sql.specs.declared.cell_type.CellType.TheVariants.{Null, Int, Text, Id}
use Rattle.gp_sql.specs.Sql as s
use Rattle.gp_sql.specs.Sql.{SqlType, Term, Terms, Test}
use Rattle.gp_sql.specs.Types.{expr_type}

-- ---- cells

-- what NULL is cast to where this type is due
abbrev pub cast_type : CellType → SqlType
cast_type Text = s.varchar
cast_type Id = s.varchar
cast_type _ = s.bigint

abbrev pub cell_term : CellType → Cell → Term
cell_term due cell.Null = s.null (cast_type due)
cell_term due (cell.Int number) = s.cast_number number
cell_term due (cell.Text text) = s.text text
cell_term due (cell.Id id) = s.text (identity_text id)
cell_term due (cell.Mark true) = s.number (pos 1)
cell_term due (cell.Mark false) = s.number (pos 0)
cell_term due (cell.Mono monomial) = s.null (cast_type due)

-- ---- expressions and conditions

abbrev pub type_or_null : Option CellType → CellType
type_or_null None = Null
type_or_null (Some type) = type

abbrev pub is_null_type : Option CellType → Bool
is_null_type (Some Null) = true
is_null_type _ = false

-- the term, unless its type is NULL's
abbrev pub unless_null : Option CellType → CellType → Term → Term
unless_null type due a = if is_null_type type then s.null (cast_type due) else a

-- the number that an expression is
abbrev pub literal : Expr → Option ℤ
literal (e.constant (cell.Int number)) = Some number
literal _ = None

-- a number needs no cast as an operand of a comparison and on the right of an operator
abbrev pub bare : Option ℤ → Term → Term
bare (Some number) a = s.number number
bare None a = a

-- an AND in front of another one needs no bracket
abbrev pub in_chain : Test → Test
in_chain (s.bracket (s.and c d)) = s.and c d
in_chain c = c

-- the numbers of a new identity
abbrev pub id_prefix : ℕ → ℕ → ℕ → List ℕ
id_prefix t k b = concat (decimal t ∷ codes "." ∷ decimal k ∷ codes "." ∷ decimal b ∷ [])

-- over columns of these types; what has the type of NULL is a NULL of the type that is due
abbrev mutual
  pub expr_term : List CellType → CellType → Expr → Term
  expr_term types due (e.col n) = unless_null (expr_type types (e.col n)) due (s.column s.no_alias (s.numbered n))
  expr_term types due (e.constant x) = cell_term due x
  expr_term types due (e.add a b) = s.plus (expr_term types Int a) (bare (literal b) (expr_term types Int b))
  expr_term types due (e.sub a b) = s.minus (expr_term types Int a) (bare (literal b) (expr_term types Int b))
  expr_term types due (e.mul a b) = s.times (expr_term types Int a) (bare (literal b) (expr_term types Int b))
  expr_term types due (e.neg a) = s.negative (expr_term types Int a)
  expr_term types due (e.case c a b) =
      unless_null (expr_type types (e.case c a b)) due
      (s.case (cond_test types c) (expr_term types (type_or_null (expr_type types (e.case c a b))) a) (expr_term types (type_or_null (expr_type types (e.case c a b))) b))
  expr_term types due (e.new_id t k b parts) = id_term types (id_prefix t k b) parts
  expr_term types due (e.times a b) = s.null (cast_type due)

  -- the text of a new identity: its numbers, and the identities that it is made of in brackets
  pub id_term : List CellType → List ℕ → Parts → Term
  id_term types prefix e.no_parts = s.text prefix
  id_term types prefix (e.part a others) = s.joined (s.term (s.text (prefix ++ codes "(")) (s.term (expr_term types Id a) (other_parts types others)))

  pub other_parts : List CellType → Parts → Terms
  other_parts types e.no_parts = s.term (s.text (codes ")")) s.no_terms
  other_parts types (e.part a others) = s.term (s.text (codes ",")) (s.term (expr_term types Id a) (other_parts types others))

  -- where a NULL is compared, the type of the other operand is due
  pub cond_test : List CellType → Cond → Test
  cond_test types e.always = s.bracket (s.compare Eq (s.number (pos 1)) (s.number (pos 1)))
  cond_test types (e.compare cmp a b) =
      s.bracket (s.compare cmp (bare (literal a) (expr_term types (type_or_null (expr_type types b)) a))
      (bare (literal b) (expr_term types (type_or_null (expr_type types a)) b)))
  cond_test types (e.is_null a wanted) = s.bracket (s.is_null (expr_term types Null a) wanted)
  cond_test types (e.is_true c wanted) = s.bracket (s.is_true (cond_test types c) wanted)
  cond_test types (e.and c d) = s.bracket (s.and (in_chain (cond_test types c)) (cond_test types d))
  cond_test types (e.or c d) = s.bracket (s.or (cond_test types c) (cond_test types d))
  cond_test types (e.not c) = s.bracket (s.not (cond_test types c))

-- ---- lists of them

-- the type that is due first, and the types behind it
abbrev pub first_due : List CellType → CellType
first_due [] = Null
first_due (type ∷ due) = type

abbrev pub exprs_terms : List CellType → List CellType → List Expr → Terms
exprs_terms types due [] = s.no_terms
exprs_terms types due (a ∷ exprs) = s.term (expr_term types (first_due due) a) (exprs_terms types (drop 1 due) exprs)

abbrev pub cells_terms : List CellType → List Cell → Terms
cells_terms due [] = s.no_terms
cells_terms due (x ∷ cells) = s.term (cell_term (first_due due) x) (cells_terms (drop 1 due) cells)
