-- Part of the statement: the value of an expression and the truth of a condition on a row. Numbers are exact here, and a result that does not
-- fit 64 bits with sign is NULL; truth is three-valued, with the tables of SQL (ISO/IEC 9075-2), which are Kleene's.
use Rattle.std.specs.Prelude.{ℕ, zero, suc, Bool, true, false, not, List, get_or, ℤ, neg_ℤ, if◌then◌else◌, Option, Some, None, ◌+ℤ◌, ◌-ℤ◌, ◌*ℤ◌}
use Rattle.std.specs.Ordering.{nat_cmp, int_cmp, is_eq, is_ne, is_lt, is_le, is_gt, is_ge}
use Rattle.std.specs.Cmp.Lexicographic.{slice_cmp}
use Rattle.std.specs.declared.cmp.Ordering.{Ordering}
use Rattle.gp_base.specs.declared.cell.Cell.{Cell}
use Rattle.gp_base.specs.declared.cell.Cell.TheVariants as cell
use Rattle.gp_base.specs.Cells.{fits_number}
use Rattle.gp_base.specs.Identities.{Sources, identity, no_sources, source}
use Rattle.gp_base.specs.Tokens as m
use Rattle.gp_expr.specs.declared.expr.Cmp.{Cmp}
use Rattle.gp_expr.specs.declared.expr.Cmp.TheVariants.{Eq, Ne, Lt, Le, Gt, Ge}
use Rattle.gp_expr.specs.declared.ternary.Ternary.{Ternary}
use Rattle.gp_expr.specs.declared.ternary.Ternary.TheVariants.{True, False, Unknown}
use Rattle.gp_expr.specs.Expressions as e
use Rattle.gp_expr.specs.Expressions.{Expr, Cond, Parts}

-- ---- cells

-- the cell of a column, which count from 1; NULL where there is none
abbrev pub column : ℕ → List Cell → Cell
column zero row = cell.Null
column (suc n) row = get_or row n cell.Null

-- the number, or NULL where it does not fit
abbrev pub number : ℤ → Cell
number z = if fits_number z then cell.Int z else cell.Null

-- NULL unless both are numbers
abbrev pub on_numbers : (ℤ → ℤ → ℤ) → Cell → Cell → Cell
on_numbers f (cell.Int x) (cell.Int y) = number (f x y)
on_numbers f _ _ = cell.Null

abbrev pub negated : Cell → Cell
negated (cell.Int x) = number (neg_ℤ x)
negated _ = cell.Null

-- NULL unless both are monomials
abbrev pub multiplied : Cell → Cell → Cell
multiplied (cell.Mono x) (cell.Mono y) = cell.Mono (m.times x y)
multiplied _ _ = cell.Null

-- an identity before other sources; none where a cell is no identity
abbrev pub with_source : Cell → Option Sources → Option Sources
with_source (cell.Id id) (Some ids) = Some (source id ids)
with_source _ _ = None

abbrev pub made_identity : ℕ → ℕ → ℕ → Option Sources → Cell
made_identity t k b None = cell.Null
made_identity t k b (Some ids) = cell.Id (identity t k b ids)

-- ---- truth

abbrev pub known : Bool → Ternary
known true = True
known false = False

-- WHERE, CASE and IS TRUE ask for this
abbrev pub holds : Ternary → Bool
holds True = true
holds _ = false

abbrev pub both : Ternary → Ternary → Ternary
both True b = b
both False b = False
both Unknown False = False
both Unknown _ = Unknown

abbrev pub either : Ternary → Ternary → Ternary
either True b = True
either False b = b
either Unknown True = True
either Unknown _ = Unknown

abbrev pub negation : Ternary → Ternary
negation True = False
negation False = True
negation Unknown = Unknown

-- whether the operator accepts this result of a comparison
abbrev pub accepts : Cmp → Ordering → Bool
accepts Eq o = is_eq o
accepts Ne o = is_ne o
accepts Lt o = is_lt o
accepts Le o = is_le o
accepts Gt o = is_gt o
accepts Ge o = is_ge o

-- unknown unless both are numbers or both are texts
abbrev pub compared : Cmp → Cell → Cell → Ternary
compared cmp (cell.Int x) (cell.Int y) = known (accepts cmp (int_cmp x y))
compared cmp (cell.Text x) (cell.Text y) = known (accepts cmp (slice_cmp nat_cmp x y))
compared cmp _ _ = Unknown

abbrev pub is_null : Cell → Bool
is_null cell.Null = true
is_null _ = false

-- an IS test, or its negation
abbrev pub tested : Bool → Bool → Ternary
tested true result = known result
tested false result = known (not result)

-- ---- values

abbrev mutual
  pub value : Expr → List Cell → Cell
  value (e.col n) row = column n row
  value (e.constant x) row = x
  value (e.add a b) row = on_numbers ◌+ℤ◌ (value a row) (value b row)
  value (e.sub a b) row = on_numbers ◌-ℤ◌ (value a row) (value b row)
  value (e.mul a b) row = on_numbers ◌*ℤ◌ (value a row) (value b row)
  value (e.neg a) row = negated (value a row)
  value (e.case c a b) row = if holds (truth c row) then value a row else value b row
  value (e.new_id t k b parts) row = made_identity t k b (identities parts row)
  value (e.times a b) row = multiplied (value a row) (value b row)

  pub truth : Cond → List Cell → Ternary
  truth e.always row = True
  truth (e.compare cmp a b) row = compared cmp (value a row) (value b row)
  truth (e.is_null a wanted) row = tested wanted (is_null (value a row))
  truth (e.is_true c wanted) row = tested wanted (holds (truth c row))
  truth (e.and c d) row = both (truth c row) (truth d row)
  truth (e.or c d) row = either (truth c row) (truth d row)
  truth (e.not c) row = negation (truth c row)

  -- the identities that the parts give, or none where one of them gives another cell
  pub identities : Parts → List Cell → Option Sources
  identities e.no_parts row = Some no_sources
  identities (e.part a others) row = with_source (value a row) (identities others row)

-- whether a row passes a condition
abbrev pub passes : Cond → List Cell → Bool
passes c row = holds (truth c row)
