-- Locality of options, repetitions and the parsers that look at the first lexeme.
use Rattle.gp_grammar.proofs.Prelude.{Outcome, by_option, cond, Symbol, Bool, ◌≡◌, ℕ, zero, suc, ◌≤◌, [], ◌∷◌, Some, None, true, false, refl, arith, Lexeme, Sign, Word, Number, Big, Text, Lexemes, Bytes, Parser, ◌>>=◌, strip, where_next, fail, accept, is_word, where_word, many, push, in_brackets, closed, number_if}
use Rattle.gp_lexer.specs.declared.lexeme.Symbol.TheVariants as s
use Rattle.gp_grammar.specs.CommandParsing.{separated}
use Rattle.gp_grammar.proofs.Shrinking.{Shrinks, many_step, many-unfolds}
use Rattle.gp_grammar.proofs.Locality.{Local, Step, goes, stays, local-weaken, local-ok, local-bind, local-err, local-expect, local-zero, local-first-all, local-strip-less, local-same}

option-cond : {A : Type 0} (b : Bool) (ts : Lexemes) (none : Outcome (A × Lexemes)) (some : Parser A) → by_option (cond b (Some ts) None) none some ≡ cond b (some ts) none
option-cond true ts none some = refl
option-cond false ts none some = refl

module _ (t : Lexeme) (m m' : Lexemes) where
  tested : {A : Type 0} (n : ℕ) (p other q : Parser A) (x : Lexeme) (b : Bool) → ((ts : Lexemes) → p (x ∷ ts) ≡ cond b (q ts) (other (x ∷ ts))) → Local t m m' n q → Step t m m' n p other x
  tested n p other q x true e w = goes q e w
  tested n p other q x false e w = stays e

  pub local-next : {A : Type 0} (n : ℕ) (symbol : Symbol) (some none : Parser A) → Local t m m' n some → Local t m m' (suc n) none → Local t m m' (suc n) (where_next symbol some none)
  local-next n symbol some none w k = local-strip-less t m m' n symbol (λ ts o. by_option o (none ts) some) some k w (λ ts rest. refl)

  pub local-next-all : {A : Type 0} (symbol : Symbol) (some none : Parser A) → ((n : ℕ) → Local t m m' n some) → ((n : ℕ) → Local t m m' n none) → (n : ℕ) → Local t m m' n (where_next symbol some none)
  local-next-all symbol some none w k zero = local-zero t m m' (where_next symbol some none)
  local-next-all symbol some none w k (suc n) = local-next n symbol some none (w n) (k (suc n))

  pub local-word-all : {A : Type 0} (text : Bytes) (some none : Parser A) → ((n : ℕ) → Local t m m' n some) → ((n : ℕ) → Local t m m' n none) → (n : ℕ) → Local t m m' n (where_word text some none)
  local-word-all text some none w k = local-first-all t m m' (where_word text some none) none refl
      (λ n x. tested n (where_word text some none) none some x (is_word text x) (λ ts. option-cond (is_word text x) ts (none (x ∷ ts)) some) (w n)) k

  number-step : (fits : ℕ → Bool) (n : ℕ) (x : Lexeme) → Step t m m' n (number_if fits) fail x
  number-step fits n (Number k) = tested n (number_if fits) fail (accept k) (Number k) (fits k) (λ ts. refl) (local-ok t m m' n k)
  number-step fits n (Sign symbol) = stays (λ ts. refl)
  number-step fits n (Word word) = stays (λ ts. refl)
  number-step fits n Big = stays (λ ts. refl)
  number-step fits n (Text bytes) = stays (λ ts. refl)

  pub local-number : (n : ℕ) (fits : ℕ → Bool) → Local t m m' n (number_if fits)
  local-number n fits = local-first-all t m m' (number_if fits) fail refl (number-step fits) (λ n. local-err t m m' n) n

  -- ---- repetitions

  module _ {S A : Type 0} (symbol : Symbol) (item : Parser A) (step : S → A → S) (shrinks : Shrinks item) (n : ℕ) (w : Local t m m' n item) where
    local-many-below : (k : ℕ) → k ≤ n → (found : S) → Local t m m' k (many (strip symbol) item step found)
    local-many-below zero h found = local-zero t m m' (many (strip symbol) item step found)
    local-many-below (suc k) h found =
        local-same t m m' (suc k) (many_step symbol item step shrinks found) (many (strip symbol) item step found) (many-unfolds symbol item step shrinks found)
        (local-next k symbol (λ rest. item rest >>= (λ r. many (strip symbol) item step (step found r.0) r.1)) (accept found)
        (local-bind t m m' k item (λ r. many (strip symbol) item step (step found r.0) r.1) (local-weaken t m m' n k item (omega arith) w)
        (λ x. local-many-below k (omega arith) (step found x)))
        (local-ok t m m' (suc k) found))

    pub local-many : (found : S) → Local t m m' n (many (strip symbol) item step found)
    local-many found = local-many-below n (omega arith) found

  pub local-separated : {A : Type 0} (item : Parser A) → Shrinks item → (n : ℕ) → Local t m m' n item → Local t m m' n (separated item)
  unfolding separated
  local-separated item shrinks n w = local-bind t m m' n item (λ r. many (strip s.Comma) item push (r.0 ∷ []) r.1) w (λ x. local-many s.Comma item push shrinks n w (x ∷ []))

  pub local-in_brackets : {A : Type 0} (p : Parser A) (n : ℕ) → Local t m m' n p → Local t m m' n (in_brackets p)
  local-in_brackets p n w = local-expect t m m' n s.Open _ (local-bind t m m' n p _ w (λ x. local-expect t m m' n s.Close (accept x) (local-ok t m m' n x)))

  pub local-closed : {A : Type 0} (p : Parser A) (n : ℕ) → Local t m m' n p → Local t m m' n (closed p)
  local-closed p n w = local-bind t m m' n p _ w (λ x. local-next-all s.Semicolon (accept x) (accept x) (λ n. local-ok t m m' n x) (λ n. local-ok t m m' n x) n)
