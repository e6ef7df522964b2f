-- Of the law `typing_follows_the_rules`: the types of terms as a relation with one constructor for each rule, and that the function `type_of` is this relation.
use Rattle.std.specs.Prelude.{◌≡◌, ℤ, Bool, true, Option, Some}
use Rattle.gp_grammar.specs.declared.op.Op.{Op}
use Rattle.gp_grammar.specs.Syntax as y
use Rattle.gp_grammar.specs.Syntax.{Bytes, Term}
use Rattle.gp_check.specs.declared.types.TermType.{TermType}
use Rattle.gp_check.specs.declared.types.TermType.TheVariants.{Null, Int, Text, Condition}
use Rattle.gp_check.specs.declared.place.Place.{Place}
use Rattle.gp_check.specs.declared.place.Resolution.TheVariants.{Found}
use Rattle.gp_check.specs.Scopes.{Scope, resolution}
use Rattle.gp_check.specs.Typing.{agrees, arithmetic, common_type, comparison, connective, is_number, is_value, kind_type, operation, type_of}

-- the term is well typed, with this type
pub data HasType (scope : Scope) : Term → TermType → Type 0 where
  null : HasType scope y.null Null
  int : (n : ℤ) → HasType scope (y.int n) Int
  text : (bytes : Bytes) → HasType scope (y.text bytes) Text
  column : (item : Option Bytes) (name : Bytes) (place : Place) → resolution scope (record { item = item; col = name }) ≡ Found place
      → HasType scope (y.col item name) (kind_type place.kind)
  number : (o : Op) (x z : Term) (a b : TermType) → operation o ≡ arithmetic → HasType scope x a → HasType scope z b
      → is_number a ≡ true → is_number b ≡ true → HasType scope (y.binary o x z) Int
  compared : (o : Op) (x z : Term) (a b : TermType) → operation o ≡ comparison → HasType scope x a → HasType scope z b
      → agrees a b ≡ true → HasType scope (y.binary o x z) Condition
  connected : (o : Op) (x z : Term) → operation o ≡ connective → HasType scope x Condition → HasType scope z Condition
      → HasType scope (y.binary o x z) Condition
  signed : (x : Term) (a : TermType) → HasType scope x a → is_number a ≡ true → HasType scope (y.neg x) Int
  negated : (x : Term) → HasType scope x Condition → HasType scope (y.not x) Condition
  null_test : (x : Term) (holds : Bool) (a : TermType) → HasType scope x a → is_value a ≡ true → HasType scope (y.is_null x holds) Condition
  true_test : (x : Term) (holds : Bool) → HasType scope x Condition → HasType scope (y.is_true x holds) Condition
  choice : (x z u : Term) (a b : TermType) → HasType scope x Condition → HasType scope z a → HasType scope u b
      → agrees a b ≡ true → HasType scope (y.case x z u) (common_type a b)

-- the function is the relation
pub record TypesAre : Type 0 where
  pub sound : (scope : Scope) (x : Term) (a : TermType) → type_of scope x ≡ Some a → HasType scope x a
  pub complete : (scope : Scope) (x : Term) (a : TermType) → HasType scope x a → type_of scope x ≡ Some a
