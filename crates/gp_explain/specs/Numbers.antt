-- Machinery: programs whose numbers are in the ranges of their types, as they are in every program of the code.
use Rattle.std.specs.Prelude.{ℕ, ◌≤◌}
use Rattle.std.specs.List.{AllByRecursion}
use Rattle.gp_base.specs.CellForms.{IsInRange, AreInRange}
use Rattle.gp_expr.specs.Expressions as e
use Rattle.gp_expr.specs.Expressions.{Expr, Cond, Parts}
use Rattle.gp_algebra.specs.Plain as p
use Rattle.gp_algebra.specs.Plain.{Plain, PlainStep, PlainProgram}

abbrev pub IsU32 : ℕ → Type 0
IsU32 n = n ≤ 0xffff_ffff

abbrev mutual
  pub ExprInRange : Expr → Type 0
  ExprInRange (e.col n) = IsU32 n
  ExprInRange (e.constant cell) = IsInRange cell
  ExprInRange (e.add a b) = ExprInRange a × ExprInRange b
  ExprInRange (e.sub a b) = ExprInRange a × ExprInRange b
  ExprInRange (e.mul a b) = ExprInRange a × ExprInRange b
  ExprInRange (e.neg a) = ExprInRange a
  ExprInRange (e.case c a b) = CondInRange c × (ExprInRange a × ExprInRange b)
  ExprInRange (e.new_id t k b parts) = (IsU32 t × (IsU32 k × IsU32 b)) × PartsInRange parts
  ExprInRange (e.times a b) = ExprInRange a × ExprInRange b

  pub CondInRange : Cond → Type 0
  CondInRange e.always = Unit {0}
  CondInRange (e.compare cmp a b) = ExprInRange a × ExprInRange b
  CondInRange (e.is_null a holds) = ExprInRange a
  CondInRange (e.is_true c holds) = CondInRange c
  CondInRange (e.and c d) = CondInRange c × CondInRange d
  CondInRange (e.or c d) = CondInRange c × CondInRange d
  CondInRange (e.not c) = CondInRange c

  pub PartsInRange : Parts → Type 0
  PartsInRange e.no_parts = Unit {0}
  PartsInRange (e.part a others) = ExprInRange a × PartsInRange others

abbrev pub QueryInRange : Plain → Type 0
QueryInRange (p.scan table version) = IsU32 version
QueryInRange (p.step j) = IsU32 j
QueryInRange (p.select query c) = QueryInRange query × CondInRange c
QueryInRange (p.project query exprs) = QueryInRange query × AllByRecursion ExprInRange exprs
QueryInRange (p.product left right) = QueryInRange left × QueryInRange right
QueryInRange (p.union left right) = QueryInRange left × QueryInRange right
QueryInRange (p.given rows) = AllByRecursion AreInRange rows
QueryInRange (p.publish at base mine later) = IsU32 at × (QueryInRange base × (QueryInRange mine × QueryInRange later))

abbrev pub StepInRange : PlainStep → Type 0
StepInRange step = IsU32 step.j × QueryInRange step.query

pub record ProgramInRange (program : PlainProgram) : Type 0 where
  pub steps : AllByRecursion StepInRange program.steps
  pub last : QueryInRange program.last
