-- The columns of joined rows, as the code lists them.
use Rattle.std.proofs.Common.{◌≡◌, ℕ, suc, ◌+◌, ◌-◌, ◌<◌, Bool, true, List, [], ◌∷◌, ◌++◌, length, map, get_or, drop, refl, ap, sym, ◌∙◌, add-one, drop-cons, arith}
use Rattle.gp_base.specs.declared.cell.Cell.{Cell}
use Rattle.gp_base.specs.declared.token.Token.TheVariants.{Inserted}
use Rattle.gp_base.specs.Annotated.{monomials}
use Rattle.gp_base.specs.Identities.{identity, no_sources}
use Rattle.gp_base.specs.Tokens.{once}
use Rattle.gp_expr.specs.Expressions as e
use Rattle.gp_expr.specs.Expressions.{Parts}
use Rattle.gp_expr.specs.declared.expr.Expr.{Expr}
use Rattle.gp_expr.specs.Views.{expr_view, parts_of}
use Rattle.gp_algebra.specs.Effects.{given_from}
use Rattle.gp_prov.specs.Encoding.{encoded_row}
use Rattle.gp_algebra.specs.Statements.{columns_behind}

-- the next of the columns up to an end
pub columns_next : (n end : ℕ) → n < end → columns_behind n (end - n) ≡ e.col (n + 1) ∷ columns_behind (n + 1) (end - (n + 1))
columns_next n end below =
    let more : end - n ≡ suc (end - suc n) = omega arith in
    rw add-one (ap (columns_behind n) more)

-- a list of expressions before other parts of a new identity
abbrev pub parts_before : List e.Expr → Parts → Parts
parts_before [] others = others
parts_before (part ∷ parts) others = e.part part (parts_before parts others)

-- one more of them
pub parts_before_one : (parts : List e.Expr) (part : e.Expr) (others : Parts) → parts_before (parts ++ part ∷ []) others ≡ parts_before parts (e.part part others)
parts_before_one [] part others = refl
parts_before_one (first ∷ parts) part others = ap (e.part first) (parts_before_one parts part others)

-- before no others they are all
pub parts_before_none : (parts : List Expr) → parts_before (map expr_view parts) e.no_parts ≡ parts_of parts
parts_before_none [] = refl
parts_before_none (part ∷ parts) = ap (e.part (expr_view part)) (parts_before_none parts)

-- the next row of a VALUES list
pub given_next : (prov : Bool) (t k n m i : ℕ) (rows : List (List Cell)) (row : List Cell) → i < length rows → row ≡ get_or rows i row → m ≡ n + 1 →
    map (encoded_row prov) (given_from monomials t k (suc n) (drop i rows))
    ≡ encoded_row prov record { identity = identity t k m no_sources; cells = row; mark = true; annotation = once (Inserted t k m) }
    ∷ map (encoded_row prov) (given_from monomials t k (suc m) (drop (i + 1) rows))
given_next prov t k n m i rows row below is next =
    let here : drop i rows ≡ row ∷ drop (suc i) rows = drop-cons rows i row below ∙ ap (λ first. first ∷ drop (suc i) rows) (sym is) in
    let number : m ≡ suc n = next ∙ add-one n in
    rw (add-one, here, number) refl
