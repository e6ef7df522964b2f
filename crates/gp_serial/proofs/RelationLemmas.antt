-- What a relation gains, one after another.
use Rattle.gp_serial.proofs.Prelude.{◌≡◌, ◌<◌, ◌+◌, ℕ, Bool, true, false, List, length, drop, get_or, refl, sym, ap, ◌∙◌, arith, ◌||◌, list_any, drop_more}
use Rattle.gp_serial.specs.Preceding.{Gains}
use Rattle.gp_serial.specs.Relations.{is_edge}

-- ---- what remains to be gained

pub record Remains (rest all : ℕ → ℕ → Bool) (start now : List (List Bool)) : Type 0 where
  pub count : length now ≡ length start
  pub edges : (a b : ℕ) → a < length start → b < length start → (is_edge now a b || rest a b) ≡ (is_edge start a b || all a b)

or_assoc : (x y z : Bool) → ((x || y) || z) ≡ (x || (y || z))
or_assoc true y z = refl
or_assoc false y z = refl

pub remains_next : (rest more all pairs : ℕ → ℕ → Bool) (start now new : List (List Bool)) → Remains rest all start now → Gains pairs now new → ((a b : ℕ) → rest a b ≡ (pairs a b || more a b)) → Remains more all start new
remains_next rest more all pairs start now new before gain is = record {
  count = gain.count ∙ before.count;
  edges = λ a b in_a in_b.
      ap (λ e. e || more a b) (gain.edges a b (omega (arith, in_a, before.count)) (omega (arith, in_b, before.count)))
      ∙ or_assoc (is_edge now a b) (pairs a b) (more a b)
      ∙ ap (λ e. is_edge now a b || e) (sym (is a b))
      ∙ before.edges a b in_a in_b;
}

-- ---- lists of tests

-- the first of those that remain
pub any_drop : {A : Type 0} (p : A → Bool) (xs : List A) (i : ℕ) (x : A) → i < length xs → list_any p (drop i xs) ≡ (p (get_or xs i x) || list_any p (drop (i + 1) xs))
any_drop p xs i x within = ap (list_any p) (drop_more xs i x within)
