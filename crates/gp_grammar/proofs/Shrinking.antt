-- Parsers leave fewer lexemes than they take, so that the bound of a repetition does not matter.
use Rattle.gp_grammar.proofs.Prelude.{◌≡◌, ℕ, zero, suc, ◌<◌, ◌≤◌, ◌+◌, [], ◌∷◌, length, Option, Some, None, Ok, Err, IfOk, IfSome, refl, ap, subst, arith, ◌∙◌, Symbol, Lexemes, Outcome, Parser, ◌>>=◌, by_option, strip, expected, identifier, term, where_next, accept, push, in_brackets}
use Rattle.std.proofs.Common.{length-append}
use Rattle.gp_lexer.specs.declared.lexeme.Symbol.TheVariants as s
use Rattle.gp_grammar.specs.Parsing.{expect}
use Rattle.gp_grammar.specs.CommandParsing.{repeat, many, separated}
use Rattle.gp_grammar.proofs.Soundness.{Sound}
use Rattle.gp_grammar.proofs.Agreement.{Agree, agree-refl, agree-bind, agree-weaken, strip-less, identifier-agree, term-agree}

abbrev pub Below : {A : Type 0} → ℕ → Outcome (A × Lexemes) → Type 0
Below n o = IfOk o (λ r. length r.1 < n)

pub record Shrinks {A : Type 0} (p : Parser A) : Type 0 where
  pub below : (ts : Lexemes) → Below (length ts) (p ts)

pub record Keeps {A : Type 0} (p : Parser A) : Type 0 where
  pub below : (ts : Lexemes) → Below (suc (length ts)) (p ts)

below-weaken : {A : Type 0} (n m : ℕ) (o : Outcome (A × Lexemes)) → n ≤ m → Below n o → Below m o
below-weaken n m (Ok r) h k = omega arith
below-weaken n m (Err e) h k = tt

pub shrinks-keeps : {A : Type 0} (p : Parser A) → Shrinks p → Keeps p
shrinks-keeps p w = record { below = λ ts. below-weaken (length ts) (suc (length ts)) (p ts) (omega arith) (w.below ts) }

pub keeps-accept : {A : Type 0} (x : A) → Keeps (λ ts. Ok (x, ts))
keeps-accept x = record { below = λ ts. omega arith }

bind-below : {A B : Type 0} (n m : ℕ) (o : Outcome (A × Lexemes)) (f : A × Lexemes → Outcome (B × Lexemes)) → Below n o
    → ((r : A × Lexemes) → length r.1 < n → Below m (f r)) → Below m (o >>= f)
bind-below n m (Ok r) f h k = k r h
bind-below n m (Err e) f h k = tt

pub shrinks-bind : {A B : Type 0} (p : Parser A) (f : A × Lexemes → Outcome (B × Lexemes)) → Shrinks p → ((x : A) → Keeps (λ ts. f (x, ts))) → Shrinks (λ ts. p ts >>= f)
shrinks-bind p f w k = record {
  below = λ ts. bind-below (length ts) (length ts) (p ts) f (w.below ts)
      (λ r lt. below-weaken (suc (length r.1)) (length ts) (f r) (omega arith) ((k r.0).below r.1));
}

pub keeps-bind : {A B : Type 0} (p : Parser A) (f : A × Lexemes → Outcome (B × Lexemes)) → Keeps p → ((x : A) → Keeps (λ ts. f (x, ts))) → Keeps (λ ts. p ts >>= f)
keeps-bind p f w k = record {
  below = λ ts. bind-below (suc (length ts)) (suc (length ts)) (p ts) f (w.below ts)
      (λ r lt. below-weaken (suc (length r.1)) (suc (length ts)) (f r) (omega arith) ((k r.0).below r.1));
}

option-below : {B : Type 0} (n m : ℕ) (o : Option Lexemes) (none : Outcome (B × Lexemes)) (some : Parser B) → IfSome o (λ rest. length rest < n)
    → Below m none → ((rest : Lexemes) → length rest < n → Below m (some rest)) → Below m (by_option o none some)
option-below n m None none some h w k = w
option-below n m (Some rest) none some h w k = k rest h

pub keeps-next : {A : Type 0} (symbol : Symbol) (some none : Parser A) → Keeps some → Keeps none → Keeps (where_next symbol some none)
keeps-next symbol some none w k = record {
  below = λ ts. option-below (length ts) (suc (length ts)) (strip symbol ts) (none ts) some (strip-less symbol ts) (k.below ts)
      (λ rest lt. below-weaken (suc (length rest)) (suc (length ts)) (some rest) (omega arith) (w.below rest));
}

expected-below : {B : Type 0} (n m : ℕ) (ts : Lexemes) (o : Option Lexemes) (f : Parser B) → IfSome o (λ rest. length rest < n)
    → ((rest : Lexemes) → length rest < n → Below m (f rest)) → Below m (expected ts o >>= f)
expected-below n m ts None f h k = tt
expected-below n m ts (Some rest) f h k = k rest h

pub shrinks-then : {A : Type 0} (symbol : Symbol) (f : Parser A) → Keeps f → Shrinks (λ ts. expect symbol ts >>= f)
unfolding expect
shrinks-then symbol f w = record {
  below = λ ts. expected-below (length ts) (length ts) ts (strip symbol ts) f (strip-less symbol ts)
      (λ rest lt. below-weaken (suc (length rest)) (length ts) (f rest) (omega arith) (w.below rest));
}

pub shrinks-identifier : Shrinks identifier
shrinks-identifier = record { below = λ ts. (identifier-agree ts).below }

pub shrinks-term : Shrinks term
shrinks-term = record { below = λ ts. (term-agree (suc (length ts)) ts (omega arith)).below }

-- a sound parser of phrases that have a lexeme
pub shrinks-sound : {A : Type 0} (Is : Lexemes → A → Type 0) (p : Parser A) → ((ts : Lexemes) → Sound Is ts (p ts)) → ((a : Lexemes) (x : A) → Is a x → 0 < length a) → Shrinks p
shrinks-sound {A = A} Is p sound some = record { below = λ ts. by ts (p ts) (sound ts) }
  where
    by : (ts : Lexemes) (o : Outcome (A × Lexemes)) → Sound Is ts o → Below (length ts) o
    by ts (Ok r) h =
        let split : length ts ≡ length h.used + length r.1 = ap length h.split ∙ length-append h.used r.1 in
        let taken : 0 < length h.used = some h.used r.0 h.is in
        omega arith
    by ts (Err rest) h = tt

-- ---- repetitions

module _ {S A : Type 0} (symbol : Symbol) (item : Parser A) (step : S → A → S) (shrinks : Shrinks item) where
  item-agree : (ts : Lexemes) → Agree (length ts) (item ts) (item ts)
  item-agree ts = record { same = refl; below = shrinks.below ts }

  repeat_step : (ts : Lexemes) (found : S) (f g : S → Parser S) → ((x : S) (us : Lexemes) → length us < length ts → Agree (suc (length us)) (f x us) (g x us))
      → (o : Option Lexemes) → IfSome o (λ rest. length rest < length ts)
      → Agree (suc (length ts)) (by_option o (Ok (found, ts)) (λ rest. item rest >>= (λ r. f (step found r.0) r.1)))
      (by_option o (Ok (found, ts)) (λ rest. item rest >>= (λ r. g (step found r.0) r.1)))
  repeat_step ts found f g agrees None h = agree-refl _ (Ok (found, ts)) (omega arith)
  repeat_step ts found f g agrees (Some rest) h =
      agree-bind (length rest) (suc (length ts)) (item rest) (item rest) (λ r. f (step found r.0) r.1) (λ r. g (step found r.0) r.1) (item-agree rest)
      (λ r lt. agree-weaken (suc (length r.1)) (suc (length ts)) (f (step found r.0) r.1) (g (step found r.0) r.1) (omega arith) (agrees (step found r.0) r.1 (omega arith)))

  repeat-agree : (j k : ℕ) (found : S) (ts : Lexemes) → length ts ≤ j → length ts ≤ k
      → Agree (suc (length ts)) (repeat (strip symbol) item step j found ts) (repeat (strip symbol) item step k found ts)
  unfolding repeat
  repeat-agree zero zero found ts a b = agree-refl _ (Ok (found, ts)) (omega arith)
  repeat-agree zero (suc k) found [] a b = agree-refl _ (Ok (found, [])) (omega arith)
  repeat-agree zero (suc k) found (t ∷ ts) a b = absurd (omega arith)
  repeat-agree (suc j) zero found [] a b = agree-refl _ (Ok (found, [])) (omega arith)
  repeat-agree (suc j) zero found (t ∷ ts) a b = absurd (omega arith)
  repeat-agree (suc j) (suc k) found ts a b =
      repeat_step ts found (repeat (strip symbol) item step j) (repeat (strip symbol) item step k)
      (λ x us lt. repeat-agree j k x us (omega arith) (omega arith)) (strip symbol ts) (strip-less symbol ts)

  pub keeps-many : (found : S) → Keeps (many (strip symbol) item step found)
  unfolding many
  keeps-many found = record { below = λ ts. (repeat-agree (length ts) (length ts) found ts (omega arith) (omega arith)).below }

  pub many-none : (found : S) (ts : Lexemes) → strip symbol ts ≡ None → many (strip symbol) item step found ts ≡ Ok (found, ts)
  unfolding many repeat
  many-none found [] h = refl
  many-none found (t ∷ ts) h = rw h refl

  pub many-some : (found : S) (ts rest : Lexemes) → strip symbol ts ≡ Some rest
      → many (strip symbol) item step found ts ≡ item rest >>= (λ r. many (strip symbol) item step (step found r.0) r.1)
  unfolding many repeat
  many-some found [] rest h = cc
  many-some found (t ∷ ts) rest h =
      let P : Option Lexemes → Type 0 = λ x. IfSome x (λ rest. length rest < length (t ∷ ts)) in
      let lt : length rest < length (t ∷ ts) = subst P h (strip-less symbol (t ∷ ts)) in
      rw h
      (agree-bind (length rest) (suc (length rest)) (item rest) (item rest) (λ r. repeat (strip symbol) item step (length ts) (step found r.0) r.1)
      (λ r. repeat (strip symbol) item step (length r.1) (step found r.0) r.1) (item-agree rest)
      (λ r a. agree-weaken (suc (length r.1)) (suc (length rest)) _ _ (omega arith)
      (repeat-agree (length ts) (length r.1) (step found r.0) r.1 (omega arith) (omega arith)))).same

  abbrev pub many_step : S → Parser S
  many_step found ts = by_option (strip symbol ts) (Ok (found, ts)) (λ rest. item rest >>= (λ r. many (strip symbol) item step (step found r.0) r.1))

  pub many-unfolds : (found : S) (ts : Lexemes) → many (strip symbol) item step found ts ≡ many_step found ts
  many-unfolds found ts = go (strip symbol ts) refl
    where
      go : (o : Option Lexemes) → strip symbol ts ≡ o
          → many (strip symbol) item step found ts ≡ by_option o (Ok (found, ts)) (λ rest. item rest >>= (λ r. many (strip symbol) item step (step found r.0) r.1))
      go None e = many-none found ts e
      go (Some rest) e = many-some found ts rest e

pub shrinks-separated : {A : Type 0} (item : Parser A) → Shrinks item → Shrinks (separated item)
unfolding separated
shrinks-separated item w = shrinks-bind item (λ r. many (strip s.Comma) item push (r.0 ∷ []) r.1) w (λ x. keeps-many s.Comma item push w (x ∷ []))

pub shrinks-in_brackets : {A : Type 0} (p : Parser A) → Keeps p → Shrinks (in_brackets p)
shrinks-in_brackets p w = shrinks-then s.Open _ (keeps-bind p _ w (λ x. shrinks-keeps _ (shrinks-then s.Close (accept x) (keeps-accept x))))
