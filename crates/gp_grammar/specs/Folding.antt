-- Part of the statement: what is folded over a term: what a literal or a column gives, and what any other term makes of what its parts give together.
use Rattle.gp_grammar.specs.Syntax as y
use Rattle.gp_grammar.specs.Syntax.{Term}

module _ {A : Type 0} (leaf : Term → A) (above : A → A) (plus : A → A → A) where
  abbrev pub folded : Term → A
  folded (y.binary o a b) = above (plus (folded a) (folded b))
  folded (y.neg a) = above (folded a)
  folded (y.not a) = above (folded a)
  folded (y.is_null a holds) = above (folded a)
  folded (y.is_true a holds) = above (folded a)
  folded (y.case a b c) = above (plus (plus (folded a) (folded b)) (folded c))
  folded term = leaf term
