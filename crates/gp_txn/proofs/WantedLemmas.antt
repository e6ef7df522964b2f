-- The answer of a query depends only on the rows that it wants.
use Rattle.std.proofs.Common.{◌≡◌, ℕ, Bool, true, false, cond, List, [], ◌∷◌, ◌++◌, map, refl, ap, sym, ◌∙◌, Option, None}
use Rattle.std.specs.List.{filter, flat_map}
use Rattle.std.proofs.lemmas.List.{append-nil}
use Rattle.gp_base.specs.Annotated.{unannotated, Database}
use Rattle.gp_expr.specs.Expressions.{Cond}
use Rattle.gp_algebra.specs.Statements.{Branch, Select}
use Rattle.gp_algebra.specs.Answers.{Element, values, passes_where, joined, no_choice, answer}
use Rattle.gp_txn.specs.Overlay.{PlainRow}
use Rattle.gp_txn.specs.Wanted.{table_where, row_where, wanted}
use Rattle.gp_txn.proofs.ViewLemmas.{wanted-all}

-- ---- rows that are tested twice

module _ {X Y : Type 0} (p : X → Bool) (q : Y → Bool) (f : X → Y) (same : (x : X) → q (f x) ≡ p x) where
  tested : (b : Bool) (x : X) (xs ys : List X) → q (f x) ≡ b → filter q (flat_map (λ y. f y ∷ []) ys) ≡ filter q (flat_map (λ y. f y ∷ []) xs) → filter q (flat_map (λ y. f y ∷ []) (cond b (x ∷ ys) ys)) ≡ filter q (flat_map (λ y. f y ∷ []) (x ∷ xs))
  tested true x xs ys is others = ap (λ zs. cond (q (f x)) (f x ∷ zs) zs) others
  tested false x xs ys is others = others ∙ sym (ap (λ b. cond b (f x ∷ filter q (flat_map (λ y. f y ∷ []) xs)) (filter q (flat_map (λ y. f y ∷ []) xs))) is)

  tested-again : (xs : List X) → filter q (flat_map (λ x. f x ∷ []) (filter p xs)) ≡ filter q (flat_map (λ x. f x ∷ []) xs)
  tested-again [] = refl
  tested-again (x ∷ xs) = tested (p x) x xs (filter p xs) (same x) (tested-again xs)

-- ---- the answer

-- the rows that are wanted of each table
abbrev pub wanted_of : Option Cond → Database (Unit {0}) → Database (Unit {0})
wanted_of c db place = wanted c (db place)

all-wanted : (db : Database (Unit {0})) → wanted_of None db ≡ db
all-wanted db = λ i place. wanted-all (db place) i

branch-wanted : (branch : Branch) (from : List ℕ) (db : Database (Unit {0})) → branch.from ≡ from → answer unannotated (branch ∷ []) (wanted_of (table_where from branch.cond) db) ≡ answer unannotated (branch ∷ []) db
branch-wanted branch [] db is = ap (answer unannotated (branch ∷ [])) (all-wanted db)
branch-wanted branch (table ∷ []) db is =
    rw is (ap (λ (elements : List (Element (Unit {0}))). map (λ (e : Element (Unit {0})). record e { cells = values branch.items e.cells }) elements ++ [])
    (tested-again (λ (row : PlainRow). passes_where branch.cond row.cells) (λ (e : Element (Unit {0})). passes_where branch.cond e.cells) (λ row. joined unannotated 1 row (no_choice unannotated 1))
    (λ row. ap (passes_where branch.cond) (append-nil row.cells)) (db table)))
branch-wanted branch (table ∷ other ∷ from) db is = ap (answer unannotated (branch ∷ [])) (all-wanted db)

pub answer-wanted : (select : Select) (db : Database (Unit {0})) → answer unannotated select (wanted_of (row_where select) db) ≡ answer unannotated select db
answer-wanted [] db = ap (answer unannotated []) (all-wanted db)
answer-wanted (branch ∷ []) db = branch-wanted branch branch.from db refl
answer-wanted (branch ∷ other ∷ select) db = ap (answer unannotated (branch ∷ other ∷ select)) (all-wanted db)
