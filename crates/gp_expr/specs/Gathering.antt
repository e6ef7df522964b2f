-- Part of the statement: what is gathered over an expression or a condition: what each expression gives by itself, with what its parts give. A condition gives
-- the same whatever it is, and so do the parts of an identity where there are none.
use Rattle.gp_expr.specs.Expressions as e
use Rattle.gp_expr.specs.Expressions.{Expr, Cond, Parts}

module _ {A : Type 0} (own : Expr → A) (test none : A) (plus : A → A → A) where
  abbrev mutual
    pub gathered : Expr → A
    gathered (e.col n) = own (e.col n)
    gathered (e.constant x) = own (e.constant x)
    gathered (e.add a b) = plus (own (e.add a b)) (plus (gathered a) (gathered b))
    gathered (e.sub a b) = plus (own (e.sub a b)) (plus (gathered a) (gathered b))
    gathered (e.mul a b) = plus (own (e.mul a b)) (plus (gathered a) (gathered b))
    gathered (e.neg a) = plus (own (e.neg a)) (gathered a)
    gathered (e.case c a b) = plus (own (e.case c a b)) (plus (cond_gathered c) (plus (gathered a) (gathered b)))
    gathered (e.new_id t k b parts) = plus (own (e.new_id t k b parts)) (parts_gathered parts)
    gathered (e.times a b) = plus (own (e.times a b)) (plus (gathered a) (gathered b))

    pub cond_gathered : Cond → A
    cond_gathered e.always = test
    cond_gathered (e.compare cmp a b) = plus test (plus (gathered a) (gathered b))
    cond_gathered (e.is_null a wanted) = plus test (gathered a)
    cond_gathered (e.is_true c wanted) = plus test (cond_gathered c)
    cond_gathered (e.and c d) = plus test (plus (cond_gathered c) (cond_gathered d))
    cond_gathered (e.or c d) = plus test (plus (cond_gathered c) (cond_gathered d))
    cond_gathered (e.not c) = plus test (cond_gathered c)

    pub parts_gathered : Parts → A
    parts_gathered e.no_parts = none
    parts_gathered (e.part a others) = plus (gathered a) (parts_gathered others)
