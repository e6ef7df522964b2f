-- Lemmas of the tests of programs.
use Rattle.gp_plantext.proofs.Prelude.{◌≡◌, ℕ, Bool, true, false, leb, eqb, List, [], ◌∷◌, length, map, refl, ap, sym, ◌∙◌, ◌&&◌, list_all, is_sorted, and_from, le-leb, Token, Inserted, Queried, Updated, Monomial, token_cmp, greatest_count, is_token, is_u32, expr_view, parts_of}
use Rattle.gp_base.specs.MonomialForms.{IsMonomial, IsToken, ArePowers}
use Rattle.gp_expr.specs.Expressions as e
use Rattle.gp_expr.specs.declared.expr.Expr.{Expr}
use Rattle.gp_plantext.specs.Spellable.{power_is_spellable, monomial_is_spellable, expr_is_spellable, has_part, has_item}
use Rattle.gp_plantext.specs.SpellableForms.{parts_are_spellable}

token-spellable : (token : Token) → IsToken token → is_token token ≡ true
token-spellable (Inserted t k n) is = and_from (is_u32 t) (is_u32 k && is_u32 n) (le-leb t 0xffff_ffff is.0) (and_from (is_u32 k) (is_u32 n) (le-leb k 0xffff_ffff is.1.0) (le-leb n 0xffff_ffff is.1.1))
token-spellable (Queried t k) is = and_from (is_u32 t) (is_u32 k) (le-leb t 0xffff_ffff is.0) (le-leb k 0xffff_ffff is.1)
token-spellable (Updated t k) is = and_from (is_u32 t) (is_u32 k) (le-leb t 0xffff_ffff is.0) (le-leb k 0xffff_ffff is.1)

powers-spellable : (powers : Monomial) → ArePowers powers → list_all power_is_spellable powers ≡ true
powers-spellable [] are = refl
powers-spellable (power ∷ powers) are =
    and_from (power_is_spellable power) (list_all power_is_spellable powers)
    (and_from (is_token power.0) (leb 1 power.1 && leb power.1 greatest_count) (token-spellable power.0 are.0.0)
    (and_from (leb 1 power.1) (leb power.1 greatest_count) (le-leb 1 power.1 are.0.1.0) (le-leb power.1 greatest_count are.0.1.1)))
    (powers-spellable powers are.1)

pub monomial-spellable : (monomial : Monomial) → IsMonomial monomial → monomial_is_spellable monomial ≡ true
monomial-spellable monomial is = and_from (is_sorted token_cmp monomial) (list_all power_is_spellable monomial) is.sorted (powers-spellable monomial is.powers)

pub ruleset monomial_spellable = (monomial-spellable)

-- the parts of an identity as a list
pub parts-spellable : (parts : List Expr) → list_all (λ part. expr_is_spellable (expr_view part)) parts ≡ parts_are_spellable (parts_of parts)
parts-spellable [] = refl
parts-spellable (a ∷ parts) = ap (λ (b : Bool). expr_is_spellable (expr_view a) && b) (parts-spellable parts)

pub exprs-spellable : (exprs : List Expr) → list_all (λ expr. expr_is_spellable (expr_view expr)) exprs ≡ list_all expr_is_spellable (map expr_view exprs)
exprs-spellable [] = refl
exprs-spellable (a ∷ exprs) = ap (λ (b : Bool). expr_is_spellable (expr_view a) && b) (exprs-spellable exprs)

pub has_item-map : (exprs : List Expr) → has_item exprs ≡ has_item (map expr_view exprs)
has_item-map [] = refl
has_item-map (a ∷ exprs) = refl

pub ruleset projections = (exprs-spellable, has_item-map)

-- the bytes of a text are UTF-8

both-spellable : (parts : List Expr) → (has_item (map expr_view parts) && list_all expr_is_spellable (map expr_view parts)) ≡ (has_part (parts_of parts) && parts_are_spellable (parts_of parts))
both-spellable [] = refl
both-spellable (a ∷ parts) = ap (λ (b : Bool). expr_is_spellable (expr_view a) && b) (sym (exprs-spellable parts) ∙ parts-spellable parts)

pub parts-both : (t k b : ℕ) (parts : List Expr) → (is_u32 t && (is_u32 k && is_u32 b)) ≡ true → expr_is_spellable (e.new_id t k b (parts_of parts)) ≡ (has_item (map expr_view parts) && list_all expr_is_spellable (map expr_view parts))
parts-both t k b parts are =
    ap (λ (own : Bool). (own && has_part (parts_of parts)) && parts_are_spellable (parts_of parts)) are ∙ sym (both-spellable parts)

pub parts-none : (t k b : ℕ) (parts : List Expr) → (is_u32 t && (is_u32 k && is_u32 b)) ≡ false → expr_is_spellable (e.new_id t k b (parts_of parts)) ≡ false
parts-none t k b parts are = ap (λ (own : Bool). (own && has_part (parts_of parts)) && parts_are_spellable (parts_of parts)) are

pub ruleset part_lists = (parts-both, parts-none)

pub some-spellable : (exprs : List Expr) → eqb (length exprs) 0 ≡ false → list_all (λ expr. expr_is_spellable (expr_view expr)) exprs ≡ (has_item (map expr_view exprs) && list_all expr_is_spellable (map expr_view exprs))
some-spellable [] some = some
some-spellable (a ∷ exprs) some = exprs-spellable (a ∷ exprs)
