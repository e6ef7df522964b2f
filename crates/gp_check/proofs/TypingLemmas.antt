-- The function that types terms is the relation.
use Rattle.std.proofs.Common.{◌≡◌, ℕ, List, Bool, true, false, true≢false, Option, Some, None, if◌then◌else◌, refl, sym, ap, subst}
use Rattle.gp_grammar.specs.declared.op.Op.{Op}
use Rattle.gp_grammar.specs.Syntax as y
use Rattle.gp_grammar.specs.Syntax.{Term}
use Rattle.gp_check.specs.declared.types.TermType.{TermType}
use Rattle.gp_check.specs.declared.types.TermType.TheVariants.{Null, Int, Text, Condition}
use Rattle.gp_check.specs.declared.place.Resolution.{Resolution}
use Rattle.gp_check.specs.declared.place.Resolution.TheVariants.{Absent, Found, Ambiguous}
use Rattle.gp_check.specs.Scopes.{Scope, resolution}
use Rattle.gp_check.specs.Typing.{kind_type, is_value, is_number, agrees, Operation, arithmetic, comparison, connective, operation, typed_if, is_condition, operand_passes, operands_agree, operation_type, choice_type, column_type, type_of}
use Rattle.gp_check.specs.TypingRules as t
use Rattle.gp_check.specs.TypingRules.{HasType, TypesAre}
use Rattle.std.proofs.lemmas.Option.{same_Some}
use Rattle.std.proofs.lemmas.Bool.{and_parts}

-- ---- what the tests say of operands

typed : (right : Bool) (type a : TermType) → typed_if right type ≡ Some a → (right ≡ true) × (type ≡ a)
typed true type a e = (refl, same_Some type a e)
typed false type a e = cc

passes : (test : TermType → Bool) (o : Option TermType) → operand_passes test o ≡ true → (a : TermType) × (o ≡ Some a) × (test a ≡ true)
passes test None e = absurd (true≢false (sym e))
passes test (Some a) e = (a, refl, e)

conditional : (o : Option TermType) → is_condition o ≡ true → o ≡ Some Condition
conditional None e = absurd (true≢false (sym e))
conditional (Some Null) e = absurd (true≢false (sym e))
conditional (Some Int) e = absurd (true≢false (sym e))
conditional (Some Text) e = absurd (true≢false (sym e))
conditional (Some Condition) e = refl

agreeing : (o p : Option TermType) → operands_agree o p ≡ true → (a b : TermType) × (o ≡ Some a) × (p ≡ Some b) × (agrees a b ≡ true)
agreeing None p e = absurd (true≢false (sym e))
agreeing (Some a) p e = let h = passes (agrees a) p e in (a, h.0, refl, h.1, h.2)

module _ (scope : Scope) where
  -- ---- complete: each rule gives the function's value

  pub complete : (x : Term) (a : TermType) → HasType scope x a → type_of scope x ≡ Some a
  complete x a t.null = refl
  complete x a (t.int n) = refl
  complete x a (t.text bytes) = refl
  complete x a (t.column item name place found) = ap column_type found
  complete x a (t.number o u v b d is hu hv nu nv) = rw (is, complete u b hu, complete v d hv, nu, nv) refl
  complete x a (t.compared o u v b d is hu hv same) = rw (is, complete u b hu, complete v d hv, same) refl
  complete x a (t.connected o u v is hu hv) = rw (is, complete u Condition hu, complete v Condition hv) refl
  complete x a (t.signed u b hu nu) = rw (complete u b hu, nu) refl
  complete x a (t.negated u hu) = rw (complete u Condition hu) refl
  complete x a (t.null_test u holds b hu vu) = rw (complete u b hu, vu) refl
  complete x a (t.true_test u holds hu) = rw (complete u Condition hu) refl
  complete x a (t.choice u v w b d hu hv hw same) = rw (complete u Condition hu, complete v b hv, complete w d hw, same) refl

  -- ---- sound: where the function gives a type, a rule gives it

  column : (item : Option (List ℕ)) (name : List ℕ) (r : Resolution) → resolution scope (record { item = item; col = name }) ≡ r
      → (a : TermType) → column_type r ≡ Some a → HasType scope (y.col item name) a
  column item name Absent is a e = cc
  column item name (Found place) is a e = subst (HasType scope (y.col item name)) (same_Some (kind_type place.kind) a e) (t.column item name place is)
  column item name Ambiguous is a e = cc

  operated : (op : Operation) (o : Op) (u v : Term) → operation o ≡ op
      → ((b : TermType) → type_of scope u ≡ Some b → HasType scope u b) → ((b : TermType) → type_of scope v ≡ Some b → HasType scope v b)
      → (a : TermType) → operation_type op (type_of scope u) (type_of scope v) ≡ Some a → HasType scope (y.binary o u v) a
  operated arithmetic o u v is su sv a e =
      let h = typed _ _ _ e in let n = and_parts _ _ h.0 in let l = passes is_number _ n.0 in let r = passes is_number _ n.1 in
      subst (HasType scope (y.binary o u v)) h.1 (t.number o u v l.0 r.0 is (su l.0 l.1) (sv r.0 r.1) l.2 r.2)
  operated comparison o u v is su sv a e =
      let h = typed _ _ _ e in let n = agreeing _ _ h.0 in
      subst (HasType scope (y.binary o u v)) h.1 (t.compared o u v n.0 n.1 is (su n.0 n.2) (sv n.1 n.3) n.4)
  operated connective o u v is su sv a e =
      let h = typed _ _ _ e in let n = and_parts _ _ h.0 in
      subst (HasType scope (y.binary o u v)) h.1 (t.connected o u v is (su Condition (conditional _ n.0)) (sv Condition (conditional _ n.1)))

  chosen : (u v w : Term) (o p : Option TermType) (a : TermType) → HasType scope u Condition
      → ((b : TermType) → o ≡ Some b → HasType scope v b) → ((b : TermType) → p ≡ Some b → HasType scope w b)
      → choice_type o p ≡ Some a → HasType scope (y.case u v w) a
  chosen u v w None p a hu sv sw e = cc
  chosen u v w (Some b) None a hu sv sw e = cc
  chosen u v w (Some b) (Some d) a hu sv sw e =
      let h = typed _ _ _ e in subst (HasType scope (y.case u v w)) h.1 (t.choice u v w b d hu (sv b refl) (sw d refl) h.0)

  case_by : (u v w : Term) (tested : Bool) (a : TermType) → is_condition (type_of scope u) ≡ tested
      → (HasType scope u Condition → choice_type (type_of scope v) (type_of scope w) ≡ Some a → HasType scope (y.case u v w) a)
      → ((type_of scope u ≡ Some Condition) → HasType scope u Condition)
      → (if tested then choice_type (type_of scope v) (type_of scope w) else None) ≡ Some a → HasType scope (y.case u v w) a
  case_by u v w true a is rest su e = rest (su (conditional _ is)) e
  case_by u v w false a is rest su e = cc

  pub sound : (x : Term) (a : TermType) → type_of scope x ≡ Some a → HasType scope x a
  sound y.null a e = subst (HasType scope y.null) (same_Some _ _ e) t.null
  sound (y.int n) a e = subst (HasType scope (y.int n)) (same_Some _ _ e) (t.int n)
  sound (y.text bytes) a e = subst (HasType scope (y.text bytes)) (same_Some _ _ e) (t.text bytes)
  sound (y.col item name) a e = column item name (resolution scope (record { item = item; col = name })) refl a e
  sound (y.binary o u v) a e = operated (operation o) o u v refl (sound u) (sound v) a e
  sound (y.neg u) a e =
      let h = typed _ _ _ e in let n = passes is_number _ h.0 in subst (HasType scope (y.neg u)) h.1 (t.signed u n.0 (sound u n.0 n.1) n.2)
  sound (y.not u) a e = let h = typed _ _ _ e in subst (HasType scope (y.not u)) h.1 (t.negated u (sound u Condition (conditional _ h.0)))
  sound (y.is_null u holds) a e =
      let h = typed _ _ _ e in let n = passes is_value _ h.0 in
      subst (HasType scope (y.is_null u holds)) h.1 (t.null_test u holds n.0 (sound u n.0 n.1) n.2)
  sound (y.is_true u holds) a e =
      let h = typed _ _ _ e in subst (HasType scope (y.is_true u holds)) h.1 (t.true_test u holds (sound u Condition (conditional _ h.0)))
  sound (y.case u v w) a e =
      case_by u v w (is_condition (type_of scope u)) a refl (λ hu f. chosen u v w (type_of scope v) (type_of scope w) a hu (sound v) (sound w) f) (sound u Condition) e

pub types_are : TypesAre
types_are = record { sound = sound; complete = complete }
