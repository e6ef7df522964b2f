-- Machinery: the order of rows is total, and rows that compare as equal are equal.
use Rattle.std.proofs.Common.{◌≡◌, ℕ, Bool, ℤ, pos, true, false, List, [], refl, sym, ap, subst}
use Rattle.std.specs.declared.cmp.Ordering.{Ordering}
use Rattle.std.specs.declared.cmp.Ordering.TheVariants.{Less, Equal, Greater}
use Rattle.std.specs.Ordering.{ordering_then, nat_cmp, int_cmp, bool_cmp, on, then_cmp}
use Rattle.std.specs.Cmp.{IsTotalOrder, bool_cmp_total}
use Rattle.std.specs.Cmp.Lexicographic.{slice_cmp}
use Rattle.std.specs.FinMap.{slice_cmp-IsAntisymmetric}
use Rattle.std.proofs.lemmas.Cmp.{on_total, then_total, lists_total, nat_cmp_total, int_cmp_total, nat_list_cmp_total}
use Rattle.std.proofs.lemmas.Map.Lookups.{CmpEqualImpliesEq, exact_signed, exact_bytes}
use Rattle.gp_base.specs.declared.cell.Cell.{Cell}
use Rattle.gp_base.specs.declared.cell.Cell.TheVariants.{Null, Int, Text, Id, Mark, Mono}
use Rattle.gp_base.specs.Identities.{Identity, identity, no_sources, identity_cmp}
use Rattle.gp_base.specs.IdentityOrder.{identity_cmp_total, identity_cmp-exact}
use Rattle.gp_base.specs.Tokens.{Monomial, monomial_cmp}
use Rattle.gp_base.specs.TokenOrder.{monomial_cmp_total, monomial_cmp-exact}
use Rattle.gp_base.specs.Order.{cell_cmp, row_cmp}

-- a second comparison with result Equal changes nothing
then_equal : (o : Ordering) → o ≡ ordering_then o Equal
then_equal Less = refl
then_equal Equal = refl
then_equal Greater = refl

-- the rank of the kind of a cell
abbrev kind_rank : Cell → ℕ
kind_rank Null = 0
kind_rank (Int n) = 1
kind_rank (Text s) = 2
kind_rank (Id a) = 3
kind_rank (Mark x) = 4
kind_rank (Mono p) = 5

-- the number in a cell, or 0
abbrev number_in : Cell → ℤ
number_in Null = pos 0
number_in (Int n) = n
number_in (Text s) = pos 0
number_in (Id a) = pos 0
number_in (Mark x) = pos 0
number_in (Mono p) = pos 0

-- the bytes in a cell, or none
abbrev bytes_in : Cell → List ℕ
bytes_in Null = []
bytes_in (Int n) = []
bytes_in (Text s) = s
bytes_in (Id a) = []
bytes_in (Mark x) = []
bytes_in (Mono p) = []

-- the identity in a cell, or the least one
abbrev identity_in : Cell → Identity
identity_in Null = identity 0 0 0 no_sources
identity_in (Int n) = identity 0 0 0 no_sources
identity_in (Text s) = identity 0 0 0 no_sources
identity_in (Id a) = a
identity_in (Mark x) = identity 0 0 0 no_sources
identity_in (Mono p) = identity 0 0 0 no_sources

-- the mark in a cell, or no
abbrev mark_in : Cell → Bool
mark_in Null = false
mark_in (Int n) = false
mark_in (Text s) = false
mark_in (Id a) = false
mark_in (Mark x) = x
mark_in (Mono p) = false

-- the monomial in a cell, or one
abbrev monomial_in : Cell → Monomial
monomial_in Null = []
monomial_in (Int n) = []
monomial_in (Text s) = []
monomial_in (Id a) = []
monomial_in (Mark x) = []
monomial_in (Mono p) = p

-- the order by rank, then by each part
abbrev parts_cmp : Cell → Cell → Ordering
parts_cmp =
    then_cmp (on kind_rank nat_cmp) (then_cmp (on number_in int_cmp) (then_cmp (on bytes_in (slice_cmp nat_cmp))
    (then_cmp (on identity_in identity_cmp) (then_cmp (on mark_in bool_cmp) (on monomial_in monomial_cmp)))))

-- it is the order of cells, so the laws of its parts carry over
parts_cmp-is : (x y : Cell) → cell_cmp x y ≡ parts_cmp x y
parts_cmp-is Null Null = refl
parts_cmp-is Null (Int m) = refl
parts_cmp-is Null (Text t) = refl
parts_cmp-is Null (Id b) = refl
parts_cmp-is Null (Mark y) = refl
parts_cmp-is Null (Mono q) = refl
parts_cmp-is (Int n) Null = refl
parts_cmp-is (Int n) (Int m) = then_equal (int_cmp n m)
parts_cmp-is (Int n) (Text t) = refl
parts_cmp-is (Int n) (Id b) = refl
parts_cmp-is (Int n) (Mark y) = refl
parts_cmp-is (Int n) (Mono q) = refl
parts_cmp-is (Text s) Null = refl
parts_cmp-is (Text s) (Int m) = refl
parts_cmp-is (Text s) (Text t) = then_equal (slice_cmp nat_cmp s t)
parts_cmp-is (Text s) (Id b) = refl
parts_cmp-is (Text s) (Mark y) = refl
parts_cmp-is (Text s) (Mono q) = refl
parts_cmp-is (Id a) Null = refl
parts_cmp-is (Id a) (Int m) = refl
parts_cmp-is (Id a) (Text t) = refl
parts_cmp-is (Id a) (Id b) = then_equal (identity_cmp a b)
parts_cmp-is (Id a) (Mark y) = refl
parts_cmp-is (Id a) (Mono q) = refl
parts_cmp-is (Mark x) Null = refl
parts_cmp-is (Mark x) (Int m) = refl
parts_cmp-is (Mark x) (Text t) = refl
parts_cmp-is (Mark x) (Id b) = refl
parts_cmp-is (Mark x) (Mark y) = then_equal (bool_cmp x y)
parts_cmp-is (Mark x) (Mono q) = refl
parts_cmp-is (Mono p) Null = refl
parts_cmp-is (Mono p) (Int m) = refl
parts_cmp-is (Mono p) (Text t) = refl
parts_cmp-is (Mono p) (Id b) = refl
parts_cmp-is (Mono p) (Mark y) = refl
parts_cmp-is (Mono p) (Mono q) = refl

cell_cmp_total : IsTotalOrder cell_cmp
cell_cmp_total =
    subst IsTotalOrder (λ i x y. sym (parts_cmp-is x y) i)
    (then_total (on_total kind_rank nat_cmp_total) (then_total (on_total number_in int_cmp_total) (then_total (on_total bytes_in nat_list_cmp_total)
    (then_total (on_total identity_in identity_cmp_total) (then_total (on_total mark_in bool_cmp_total) (on_total monomial_in monomial_cmp_total))))))

exact_marks : CmpEqualImpliesEq bool_cmp
exact_marks true true e = refl
exact_marks true false e = cc
exact_marks false true e = cc
exact_marks false false e = refl

-- cells that compare as Equal are equal
exact_cells : CmpEqualImpliesEq cell_cmp
exact_cells Null Null e = refl
exact_cells Null (Int m) e = cc
exact_cells Null (Text t) e = cc
exact_cells Null (Id b) e = cc
exact_cells Null (Mark y) e = cc
exact_cells Null (Mono q) e = cc
exact_cells (Int n) Null e = cc
exact_cells (Int n) (Int m) e = ap Int (exact_signed n m e)
exact_cells (Int n) (Text t) e = cc
exact_cells (Int n) (Id b) e = cc
exact_cells (Int n) (Mark y) e = cc
exact_cells (Int n) (Mono q) e = cc
exact_cells (Text s) Null e = cc
exact_cells (Text s) (Int m) e = cc
exact_cells (Text s) (Text t) e = ap Text (exact_bytes s t e)
exact_cells (Text s) (Id b) e = cc
exact_cells (Text s) (Mark y) e = cc
exact_cells (Text s) (Mono q) e = cc
exact_cells (Id a) Null e = cc
exact_cells (Id a) (Int m) e = cc
exact_cells (Id a) (Text t) e = cc
exact_cells (Id a) (Id b) e = ap Id (identity_cmp-exact a b e)
exact_cells (Id a) (Mark y) e = cc
exact_cells (Id a) (Mono q) e = cc
exact_cells (Mark x) Null e = cc
exact_cells (Mark x) (Int m) e = cc
exact_cells (Mark x) (Text t) e = cc
exact_cells (Mark x) (Id b) e = cc
exact_cells (Mark x) (Mark y) e = ap Mark (exact_marks x y e)
exact_cells (Mark x) (Mono q) e = cc
exact_cells (Mono p) Null e = cc
exact_cells (Mono p) (Int m) e = cc
exact_cells (Mono p) (Text t) e = cc
exact_cells (Mono p) (Id b) e = cc
exact_cells (Mono p) (Mark y) e = cc
exact_cells (Mono p) (Mono q) e = ap Mono (monomial_cmp-exact p q e)

pub row_cmp_total : IsTotalOrder row_cmp
row_cmp_total = lists_total cell_cmp_total

-- rows that compare as Equal are equal
pub exact_rows : CmpEqualImpliesEq row_cmp
exact_rows = slice_cmp-IsAntisymmetric exact_cells
