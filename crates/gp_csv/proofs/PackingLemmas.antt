-- Rows put in turn.
use Rattle.std.proofs.Common.{◌≡◌, ℕ, ◌+◌, ◌<◌, ◌≤◌, List, length, drop, get_or, Ok, refl, add-one}
use Rattle.std.proofs.lemmas.List.{drop_more, drop_all}
use Rattle.gp_base.specs.declared.cell.Cell.{Cell}
use Rattle.gp_csv.specs.Faults.{refuse}
use Rattle.gp_csv.specs.Packing.{Output, put_row, put_rows, tuple_text}

pub put-next : (prefix : List ℕ) (number : ℕ) (written next : Output) (rows : List (List Cell)) (i : ℕ) (d : List Cell) → i < length rows
    → put_row prefix number written (tuple_text (get_or rows i d)) ≡ Ok next
    → put_rows prefix (number + 1) next (drop (i + 1) rows) ≡ put_rows prefix number written (drop i rows)
put-next prefix number written next rows i d within e = rw (drop_more rows i d within, e, add-one) refl

pub put-stop : (prefix : List ℕ) (number c n : ℕ) (written : Output) (rows : List (List Cell)) (i : ℕ) (d : List Cell) → i < length rows
    → put_row prefix number written (tuple_text (get_or rows i d)) ≡ refuse c n → put_rows prefix number written (drop i rows) ≡ refuse c n
put-stop prefix number c n written rows i d within e = rw (drop_more rows i d within, e) refl

pub put-end : (prefix : List ℕ) (number : ℕ) (written : Output) (rows : List (List Cell)) (i : ℕ) → length rows ≤ i → put_rows prefix number written (drop i rows) ≡ Ok written
put-end prefix number written rows i past = rw (drop_all i rows past) refl

pub ruleset put_steps = (put-next, put-stop, put-end)
