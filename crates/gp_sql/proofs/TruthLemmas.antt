-- Truth of connectives, as WHERE asks for it, and the comparisons of versions, identities and marks.
use Rattle.gp_sql.proofs.Prelude.{◌≡◌, ℕ, Bool, true, false, cond, ltb, Some, None, pos, refl, sym, ap, ◌∙◌, arith, ◌&&◌, not, Option, leb-true, ltb-true, Cell, both, either, negation, known, holds, tested, compared, is_same_id, is_marked, same-exact}
use Rattle.std.proofs.Common.{leb}
use Rattle.std.specs.Prelude.{nat_le, nat_lt}
use Rattle.std.specs.Ordering.{is_le, is_lt, int_cmp}
use Rattle.std.specs.declared.cmp.Ordering.TheVariants.{Less, Equal, Greater}
use Rattle.std.proofs.lemmas.Bool.{false_from_ne_true, ltb-false, le-leb}
use Rattle.gp_base.specs.declared.cell.Cell.TheVariants as cell
use Rattle.gp_expr.specs.declared.expr.Cmp.TheVariants as cmp
use Rattle.gp_expr.specs.declared.ternary.Ternary.{Ternary}
use Rattle.gp_expr.specs.declared.ternary.Ternary.TheVariants.{True, False, Unknown}
use Rattle.gp_expr.specs.Values as v
use Rattle.gp_versions.specs.Spans.{is_before_end}
use Rattle.gp_sql.specs.declared.cell_type.CellType.TheVariants.{Id, Mark}
use Rattle.gp_sql.specs.SqlCells.{sql_cell}
use Rattle.gp_sql.specs.CellTypes.{IsOf}
use Rattle.gp_sql.specs.VersionTables.{end_cell}
use Rattle.gp_sql.proofs.IdentityTexts.{texts-same}

pub holds-known : (b : Bool) → holds (known b) ≡ b
holds-known true = refl
holds-known false = refl

pub holds-not : (b : Bool) → holds (negation (known b)) ≡ not b
holds-not true = refl
holds-not false = refl

pub holds-both : (a b : Ternary) → holds (both a b) ≡ (holds a && holds b)
holds-both True b = refl
holds-both False b = refl
holds-both Unknown True = refl
holds-both Unknown False = refl
holds-both Unknown Unknown = refl

-- ---- versions

order : (t u l : Bool) → (t ≡ true → l ≡ true) → (u ≡ true → l ≡ false) → (u ≡ false → l ≡ true) → is_le (cond t Less (cond u Greater Equal)) ≡ l
order true u l f g h = sym (f refl)
order false true l f g h = sym (g refl)
order false false l f g h = sym (h refl)

le-same : (a b : ℕ) → is_le (int_cmp (pos a) (pos b)) ≡ nat_le a b
le-same a b =
    order (ltb a b) (ltb b a) (leb a b)
    (λ e. le-leb a b (omega (arith, ltb-true a b e)))
    (λ e. false_from_ne_true (leb a b) (λ f. omega (arith, ltb-true b a e, leb-true a b f)))
    (λ e. le-leb a b (ltb-false b a e))

lt-same : (a b : ℕ) → is_lt (int_cmp (pos a) (pos b)) ≡ nat_lt a b
lt-same a b =
    elim (ltb a b) as (λ t. is_lt (cond t Less (cond (ltb b a) Greater Equal)) ≡ t) [
      | true ↦ refl
      | false ↦ elim (ltb b a) as (λ u. is_lt (cond u Greater Equal) ≡ false) [ true ↦ refl | false ↦ refl ]
    ]

end-holds : (n : ℕ) (to : Option ℕ) → holds (either (tested true (v.is_null (end_cell to))) (compared cmp.Lt (cell.Int (pos n)) (end_cell to))) ≡ is_before_end n to
end-holds n None = refl
end-holds n (Some to) = holds-known (is_lt (int_cmp (pos n) (pos to))) ∙ lt-same n to

pub version-holds : (from n : ℕ) (to : Option ℕ)
    → holds (both (compared cmp.Le (cell.Int (pos from)) (cell.Int (pos n))) (either (tested true (v.is_null (end_cell to))) (compared cmp.Lt (cell.Int (pos n)) (end_cell to))))
    ≡ (nat_le from n && is_before_end n to)
version-holds from n to =
    holds-both (compared cmp.Le (cell.Int (pos from)) (cell.Int (pos n))) (either (tested true (v.is_null (end_cell to))) (compared cmp.Lt (cell.Int (pos n)) (end_cell to)))
    ∙ (λ i. (holds-known (is_le (int_cmp (pos from) (pos n))) ∙ le-same from n) i && end-holds n to i)

-- ---- identities and marks

pub same-id : (c d : Cell) → IsOf c Id → IsOf d Id → holds (compared cmp.Eq (sql_cell c) (sql_cell d)) ≡ is_same_id c d
same-id cell.Null cell.Null h k = refl
same-id cell.Null (cell.Id y) h k = refl
same-id (cell.Id x) cell.Null h k = refl
same-id (cell.Id x) (cell.Id y) h k = holds-known _ ∙ texts-same x y h k
same-id cell.Null (cell.Int n) h k = absurd k
same-id cell.Null (cell.Text t) h k = absurd k
same-id cell.Null (cell.Mark m) h k = absurd k
same-id cell.Null (cell.Mono m) h k = absurd k
same-id (cell.Id x) (cell.Int n) h k = absurd k
same-id (cell.Id x) (cell.Text t) h k = absurd k
same-id (cell.Id x) (cell.Mark m) h k = absurd k
same-id (cell.Id x) (cell.Mono m) h k = absurd k
same-id (cell.Int n) d h k = absurd h
same-id (cell.Text t) d h k = absurd h
same-id (cell.Mark m) d h k = absurd h
same-id (cell.Mono m) d h k = absurd h

pub marked : (c : Cell) → IsOf c Mark → holds (compared cmp.Eq (sql_cell c) (cell.Int (pos 1))) ≡ is_marked c
marked cell.Null h = refl
marked (cell.Mark true) h = refl
marked (cell.Mark false) h = refl
marked (cell.Int n) h = absurd h
marked (cell.Text t) h = absurd h
marked (cell.Id id) h = absurd h
marked (cell.Mono m) h = absurd h

pub turned : (a b : Bool) → (a && b) ≡ (b && a)
turned true true = refl
turned true false = refl
turned false true = refl
turned false false = refl

-- cells with one identity are equal
pub exact-id : (c d : Cell) → is_same_id c d ≡ true → c ≡ d
exact-id (cell.Id x) (cell.Id y) e = ap cell.Id (same-exact x y e)
exact-id (cell.Id x) cell.Null e = absurd cc
exact-id (cell.Id x) (cell.Int n) e = absurd cc
exact-id (cell.Id x) (cell.Text t) e = absurd cc
exact-id (cell.Id x) (cell.Mark m) e = absurd cc
exact-id (cell.Id x) (cell.Mono m) e = absurd cc
exact-id cell.Null d e = absurd cc
exact-id (cell.Int n) d e = absurd cc
exact-id (cell.Text t) d e = absurd cc
exact-id (cell.Mark m) d e = absurd cc
exact-id (cell.Mono m) d e = absurd cc
