-- Lists of rows of different lengths differ.
use Rattle.gp_serial.proofs.Prelude.{◌≡◌, ◌≢◌, suc, false, length, List, [], ◌∷◌, refl, ap, slice_cmp, ordering_then, Less, Equal, Greater, Cell, row_cmp}
use Rattle.std.specs.Ordering.{is_eq}
use Rattle.std.specs.declared.cmp.Ordering.{Ordering}

pub lengths_differ : (xs ys : List (List Cell)) → length xs ≢ length ys → is_eq (slice_cmp row_cmp xs ys) ≡ false
lengths_differ [] [] other = absurd (other refl)
lengths_differ [] (y ∷ ys) other = refl
lengths_differ (x ∷ xs) [] other = refl
lengths_differ (x ∷ xs) (y ∷ ys) other = by (row_cmp x y) (lengths_differ xs ys (λ same. other (ap suc same)))
  where
    by : (o : Ordering) → is_eq (slice_cmp row_cmp xs ys) ≡ false → is_eq (ordering_then o (slice_cmp row_cmp xs ys)) ≡ false
    by Less rest = refl
    by Equal rest = rest
    by Greater rest = refl
