-- Part of the statement: the types of terms. SQL (ISO/IEC 9075-2) has the same types; that NULL has a type of its own, which agrees with both others, is
-- this dialect's way to type it. `TypingRules` has the rules as a relation.
use Rattle.std.specs.Prelude.{Bool, true, false, ◌&&◌, Option, Some, None, if◌then◌else◌}
use Rattle.std.specs.Option.{option_map_or}
use Rattle.gp_base.specs.declared.cell.Cell.{Cell}
use Rattle.gp_base.specs.declared.cell.Cell.TheVariants as cell
use Rattle.gp_base.specs.declared.table.Kind.{Kind}
use Rattle.gp_base.specs.declared.table.Kind.TheVariants as kind
use Rattle.gp_grammar.specs.declared.op.Op.{Op}
use Rattle.gp_grammar.specs.declared.op.Op.TheVariants as op
use Rattle.gp_grammar.specs.Syntax as y
use Rattle.gp_grammar.specs.Syntax.{Term}
use Rattle.gp_check.specs.declared.types.TermType.{TermType}
use Rattle.gp_check.specs.declared.types.TermType.TheVariants.{Null, Int, Text, Condition}
use Rattle.gp_check.specs.declared.place.Resolution.{Resolution}
use Rattle.gp_check.specs.declared.place.Resolution.TheVariants.{Found}
use Rattle.gp_check.specs.Scopes.{Scope, resolution}

abbrev pub kind_type : Kind → TermType
kind_type kind.Int = Int
kind_type kind.Text = Text

-- a cell of a system column has no type of the language, and gets that of NULL
abbrev pub cell_type : Cell → TermType
cell_type cell.Null = Null
cell_type (cell.Int n) = Int
cell_type (cell.Text bytes) = Text
cell_type _ = Null

-- a value is no condition
abbrev pub is_value : TermType → Bool
is_value Condition = false
is_value _ = true

-- types of values agree where they are equal or one is that of NULL
abbrev pub agrees : TermType → TermType → Bool
agrees Null b = is_value b
agrees a Null = is_value a
agrees Int Int = true
agrees Text Text = true
agrees _ _ = false

-- an operand of an arithmetic operator
abbrev pub is_number : TermType → Bool
is_number = agrees Int

-- what two agreeing values have in common: NULL's type only where both are NULL's
abbrev pub common_type : TermType → TermType → TermType
common_type Null b = b
common_type a b = a

-- the operators by their operands
pub data Operation : Type 0 where
  arithmetic comparison connective : Operation

abbrev pub operation : Op → Operation
operation op.Add = arithmetic
operation op.Sub = arithmetic
operation op.Mul = arithmetic
operation op.And = connective
operation op.Or = connective
operation other = comparison

-- a type where the operands are right
abbrev pub typed_if : Bool → TermType → Option TermType
typed_if right type = if right then Some type else None

abbrev pub is_condition : Option TermType → Bool
is_condition (Some Condition) = true
is_condition _ = false

-- a well typed operand that passes the test
abbrev pub operand_passes : (TermType → Bool) → Option TermType → Bool
operand_passes test operand = option_map_or test operand false

abbrev pub operands_agree : Option TermType → Option TermType → Bool
operands_agree None b = false
operands_agree (Some a) b = operand_passes (agrees a) b

abbrev pub operation_type : Operation → Option TermType → Option TermType → Option TermType
operation_type arithmetic a b = typed_if (operand_passes is_number a && operand_passes is_number b) Int
operation_type comparison a b = typed_if (operands_agree a b) Condition
operation_type connective a b = typed_if (is_condition a && is_condition b) Condition

abbrev pub choice_type : Option TermType → Option TermType → Option TermType
choice_type (Some a) (Some b) = typed_if (agrees a b) (common_type a b)
choice_type _ _ = None

abbrev pub column_type : Resolution → Option TermType
column_type (Found place) = Some (kind_type place.kind)
column_type _ = None

-- the type of a well typed term
abbrev pub type_of : Scope → Term → Option TermType
type_of scope y.null = Some Null
type_of scope (y.int n) = Some Int
type_of scope (y.text bytes) = Some Text
type_of scope (y.col item name) = column_type (resolution scope (record { item = item; col = name }))
type_of scope (y.binary o x z) = operation_type (operation o) (type_of scope x) (type_of scope z)
type_of scope (y.neg x) = typed_if (operand_passes is_number (type_of scope x)) Int
type_of scope (y.not x) = typed_if (is_condition (type_of scope x)) Condition
type_of scope (y.is_null x holds) = typed_if (operand_passes is_value (type_of scope x)) Condition
type_of scope (y.is_true x holds) = typed_if (is_condition (type_of scope x)) Condition
type_of scope (y.case x z u) = if is_condition (type_of scope x) then choice_type (type_of scope z) (type_of scope u) else None
