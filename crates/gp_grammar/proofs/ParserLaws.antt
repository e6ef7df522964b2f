-- The laws of each parser: it takes what the grammar derives, and stops at the place of the fault.
use Rattle.gp_grammar.proofs.Prelude.{◌≡◌, ℕ, [], ◌∷◌, Ok, Err, ◌↔◌, refl, sym, ap, ◌∙◌, arith, append-nil, Lexeme, Lexemes, capped, capped_command, capped_line, capped_question, IsTerm, IsCommand, IsScriptLine, Closed, IsQuestion, NoneGoesOn, Stops, Outcome, Parser, whole, term, command, script_line, question, Built}
use Rattle.gp_grammar.proofs.CommandBuilding.{closed-built}
use Rattle.gp_grammar.proofs.Soundness.{Sound, sound-phrase, term-sound}
use Rattle.gp_grammar.proofs.Completeness.{term-complete}
use Rattle.gp_grammar.proofs.Locality.{Local, local-term}
use Rattle.gp_grammar.proofs.CommandSoundness.{command-sound, script_line-sound}
use Rattle.gp_grammar.proofs.CommandCompleteness.{whole-command, whole-line}
use Rattle.gp_grammar.proofs.CommandLocality.{local-command, local-script_line}
use Rattle.gp_grammar.proofs.QuestionSoundness.{question-sound}
use Rattle.gp_grammar.proofs.QuestionCompleteness.{whole-question}
use Rattle.gp_grammar.proofs.QuestionLocality.{local-question}
use Rattle.gp_grammar.proofs.WholeLaws as w
use Rattle.gp_grammar.proofs.PlaceLemmas.{stops-unique, stops-not}

pub record Lawful {A : Type 0} (p : Parser A) (Is : Lexemes → A → Type 0) (cap : A → A) : Type 0 where
  pub parses : (ts : Lexemes) (built : A) → (whole p ts ≡ Ok built) ↔ Built Is cap ts built
  pub stops : (ts rest : Lexemes) → (whole p ts ≡ Err rest) ↔ Stops Is ts rest

module _ {A : Type 0} (p : Parser A) (Is : Lexemes → A → Type 0) (cap : A → A) (sound : (ts : Lexemes) → Sound (Built Is cap) ts (p ts))
    (complete : (ts : Lexemes) (x : A) → Is ts x → p ts ≡ Ok (cap x, [])) (local : (t : Lexeme) (m m' : Lexemes) (n : ℕ) → Local t m m' n p) where
  built-complete : (ts : Lexemes) (b : A) → Built Is cap ts b → p ts ≡ Ok (b, [])
  built-complete ts b h = complete ts h.tree h.is ∙ ap (λ z. Ok (z, [])) (sym h.same)

  parses : (ts : Lexemes) (b : A) → (whole p ts ≡ Ok b) ↔ Built Is cap ts b
  parses = w.reads (Built Is cap) p sound built-complete local

  none-built : (prefix rest : Lexemes) → NoneGoesOn (Built Is cap) prefix rest → NoneGoesOn Is prefix rest
  none-built prefix [] n = λ x i. n (cap x) (record { tree = x; is = i; same = refl })
  none-built prefix (t ∷ rest) n = λ more x i. n more (cap x) (record { tree = x; is = i; same = refl })

  stops-built : (ts rest : Lexemes) → Stops (Built Is cap) ts rest → Stops Is ts rest
  stops-built ts rest h = record { prefix = h.prefix; split = h.split; more = h.more; tree = h.begins.tree; begins = h.begins.is; none = none-built h.prefix rest h.none }

  stops : (ts rest : Lexemes) → whole p ts ≡ Err rest → Stops Is ts rest
  stops ts rest e = stops-built ts rest (w.stops (Built Is cap) p sound built-complete local ts rest e)

  stopped : (ts rest : Lexemes) → Stops Is ts rest → (o : Outcome A) → whole p ts ≡ o → o ≡ Err rest
  stopped ts rest h (Ok b) e = let v : Built Is cap ts b = (parses ts b).0 e in absurd (stops-not Is ts rest v.tree h v.is)
  stopped ts rest h (Err other) e = ap (λ z. Err z) (stops-unique Is ts other rest (stops ts other e) h)

  pub lawful : Lawful p Is cap
  lawful = record { parses = parses; stops = λ ts rest. (stops ts rest, λ h. stopped ts rest h (whole p ts) refl) }

pub lawful-term : Lawful term IsTerm capped
lawful-term = lawful term IsTerm capped term-sound (λ ts x i. ap term (sym (append-nil ts)) ∙ term-complete ts x i [] (omega arith)) local-term

pub lawful-command : Lawful command IsCommand capped_command
lawful-command = lawful command IsCommand capped_command command-sound whole-command local-command

pub lawful-line : Lawful script_line IsScriptLine capped_line
lawful-line = lawful script_line IsScriptLine capped_line
    (λ ts. sound-phrase (Closed (Built _ capped_line)) (Built IsScriptLine capped_line) ts (script_line ts) (λ a y i. closed-built i) (script_line-sound ts)) whole-line local-script_line

pub lawful-question : Lawful question IsQuestion capped_question
lawful-question = lawful question IsQuestion capped_question
    (λ ts. sound-phrase (Closed (Built _ capped_question)) (Built IsQuestion capped_question) ts (question ts) (λ a y i. closed-built i) (question-sound ts)) whole-question local-question
