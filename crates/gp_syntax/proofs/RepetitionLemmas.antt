-- One step of a loop over the items of a list, and its exits.
use Rattle.std.proofs.Common.{◌≡◌, ℕ, ◌<◌, List, [], ◌∷◌, length, Some, None, Ok, Err, IfOk, refl, ap, subst, ◌∙◌}
use Rattle.gp_lexer.specs.declared.lexeme.Symbol.{Symbol}
use Rattle.gp_lexer.specs.declared.lexeme.Symbol.TheVariants as s
use Rattle.gp_grammar.specs.Syntax.{Lexemes}
use Rattle.gp_grammar.specs.Parsing.{Outcome, Parser, ◌>>=◌, strip}
use Rattle.gp_grammar.specs.CommandParsing.{many, push, repeat, separated}
use Rattle.gp_grammar.proofs.Shrinking.{Shrinks, many-some}
use Rattle.gp_syntax.specs.declared.error.ParseStop.{ParseStop}
use Rattle.gp_syntax.specs.declared.error.ParseStop.TheVariants.{At, NoMemory}
use Rattle.gp_syntax.specs.Parses.{Parses, Extends, pushed}

many-ends : {S A : Type 0} (symbol : Symbol) (item : Parser A) (step : S → A → S) (found : S) (ts : Lexemes) → strip symbol ts ≡ None
    → many (strip symbol) item step found ts ≡ Ok (found, ts)
unfolding many repeat
many-ends symbol item step found [] h = refl
many-ends symbol item step found (t ∷ ts) h = rw h refl

module _ {A : Type 0} where
  -- what follows an item that was added to a list
  pub after-pushed : {B : Type 0} (found more : List A) (rest : Lexemes) (next : List A → Parser B) (o : Outcome (A × Lexemes)) → pushed found o ≡ Ok (more, rest)
      → (o >>= (λ r. next (push found r.0) r.1)) ≡ next more rest
  after-pushed found more rest next (Ok r) e = let p : ◌≡◌ {A = List A × Lexemes} (push found r.0, r.1) (more, rest) = cc in ap (λ q. next q.0 q.1) p
  after-pushed found more rest next (Err x) e = absurd cc

  pub after-fault : {B : Type 0} (found : List A) (rest : Lexemes) (next : A × Lexemes → Outcome B) (o : Outcome (A × Lexemes)) → pushed found o ≡ Err rest
      → (o >>= next) ≡ Err rest
  after-fault found rest next (Ok r) e = absurd cc
  after-fault found rest next (Err x) e = let p : x ≡ rest = cc in ap Err p

  below-pushed : (n : ℕ) (found more : List A) (rest : Lexemes) (o : Outcome (A × Lexemes)) → pushed found o ≡ Ok (more, rest)
      → IfOk o (λ r. length r.1 < n) → length rest < n
  below-pushed n found more rest (Ok r) e h =
      let p : ◌≡◌ {A = List A × Lexemes} (push found r.0, r.1) (more, rest) = cc in
      let P : List A × Lexemes → Type 0 = λ q. length q.1 < n in
      subst P p h
  below-pushed n found more rest (Err x) e h = absurd cc

  -- an item leaves fewer lexemes
  pub pushed-shorter : (item : Parser A) → Shrinks item → (found more : List A) (ts rest : Lexemes) → pushed found (item ts) ≡ Ok (more, rest) → length rest < length ts
  pushed-shorter item shrinks found more ts rest e = below-pushed (length ts) found more rest (item ts) e (shrinks.below ts)

  module _ (symbol : Symbol) (item : Parser A) (shrinks : Shrinks item) where
    -- the loop goes on behind one more item
    pub many-step : (found more : List A) (ts after rest : Lexemes) (whole : Outcome (List A × Lexemes)) → whole ≡ many (strip symbol) item push found ts
        → strip symbol ts ≡ Some after → pushed found (item after) ≡ Ok (more, rest) → whole ≡ many (strip symbol) item push more rest
    many-step found more ts after rest whole a b c =
        a ∙ many-some symbol item push shrinks found ts after b ∙ after-pushed found more rest (many (strip symbol) item push) (item after) c

    pub many-done : (found : List A) (ts : Lexemes) (whole : Outcome (List A × Lexemes)) → whole ≡ many (strip symbol) item push found ts → strip symbol ts ≡ None
        → whole ≡ Ok (found, ts)
    many-done found ts whole a b = a ∙ many-ends symbol item push found ts b

    -- the fault of an item is the fault of the list
    pub many-fault : (found more last : List A) (ts after : Lexemes) (whole : Outcome (List A × Lexemes)) (stop : ParseStop)
        → whole ≡ many (strip symbol) item push found ts → strip symbol ts ≡ Some after → Extends more (Err stop) (pushed found (item after)) → Extends last (Err stop) whole
    many-fault found more last ts after whole (At rest) a b c =
        a ∙ many-some symbol item push shrinks found ts after b ∙ after-fault found rest.now (λ r. many (strip symbol) item push (push found r.0) r.1) (item after) c
    many-fault found more last ts after whole NoMemory a b c = tt

  -- a list begins with an item
  pub separated-some : (item : Parser A) (found more : List A) (ts rest : Lexemes) → found ≡ [] → pushed found (item ts) ≡ Ok (more, rest)
      → separated item ts ≡ many (strip s.Comma) item push more rest
  unfolding separated
  separated-some item found more ts rest a b =
      after-pushed [] more rest (many (strip s.Comma) item push) (item ts) (subst (λ z. pushed z (item ts) ≡ Ok (more, rest)) a b)

  -- the fault of an item, the first or another one, is the fault of the list
  pub first-fault : {X : Type 0} (view : X → List A) (item : Parser A) (found more : List A) (ts : Lexemes) (stop : ParseStop) → Extends more (Err stop) (pushed found (item ts))
      → Parses view (Err stop) (separated item ts)
  unfolding separated
  first-fault view item found more ts (At rest) b = after-fault found rest.now (λ r. many (strip s.Comma) item push (r.0 ∷ []) r.1) (item ts) b
  first-fault view item found more ts NoMemory b = tt

  pub others-fault : {X : Type 0} (view : X → List A) (item : Parser A) (found more last : List A) (ts rest : Lexemes) (stop : ParseStop) → found ≡ []
      → pushed found (item ts) ≡ Ok (more, rest) → Extends last (Err stop) (many (strip s.Comma) item push more rest) → Parses view (Err stop) (separated item ts)
  others-fault view item found more last ts rest (At end) a b c = separated-some item found more ts rest a b ∙ c
  others-fault view item found more last ts rest NoMemory a b c = tt
