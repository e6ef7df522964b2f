-- One step of the loop over rules, and its exits.
use Rattle.std.proofs.Common.{◌≡◌, List, Some, None, Ok, Err, refl, ◌∙◌}
use Rattle.gp_lexer.specs.declared.lexeme.Symbol.TheVariants as s
use Rattle.gp_grammar.specs.Syntax as y
use Rattle.gp_grammar.specs.Syntax.{Lexemes}
use Rattle.gp_grammar.specs.Parsing.{Outcome, strip}
use Rattle.gp_grammar.specs.CommandParsing.{push}
use Rattle.gp_grammar.specs.QuestionParsing as q
use Rattle.gp_grammar.proofs.QuestionCompleteness.{rules_from-unfolds, after_rule}
use Rattle.gp_syntax.specs.declared.error.ParseStop.{ParseStop}
use Rattle.gp_syntax.specs.declared.error.ParseStop.TheVariants.{At, NoMemory}
use Rattle.gp_syntax.specs.Parses.{Parses, Extends, pushed}
use Rattle.gp_syntax.specs.QuestionParts.{ends_rules}
use Rattle.gp_syntax.proofs.RepetitionLemmas.{after-pushed, after-fault}

rules-next : (found more : List y.Rule) (ts after : Lexemes) (whole : Outcome (y.Rules × Lexemes)) → whole ≡ q.rules_from found ts
    → pushed found (q.rule ts) ≡ Ok (more, after) → whole ≡ after_rule more after
rules-next found more ts after whole a b = a ∙ rules_from-unfolds found ts ∙ after-pushed found more after after_rule (q.rule ts) b

pub rules-step : (found more : List y.Rule) (ts after others : Lexemes) (whole : Outcome (y.Rules × Lexemes)) → whole ≡ q.rules_from found ts
    → pushed found (q.rule ts) ≡ Ok (more, after) → strip s.Comma after ≡ Some others → strip s.Else others ≡ None → whole ≡ q.rules_from more others
rules-step found more ts after others whole a b c d = rules-next found more ts after whole a b ∙ rw (c, d) refl

pub rules-end : (found more : List y.Rule) (ts after : Lexemes) (whole : Outcome (y.Rules × Lexemes)) → whole ≡ q.rules_from found ts
    → pushed found (q.rule ts) ≡ Ok (more, after) → strip s.Comma after ≡ None → whole ≡ ends_rules more after
rules-end found more ts after whole a b c = rules-next found more ts after whole a b ∙ rw c refl

pub rules-else : (found more : List y.Rule) (ts after others rest : Lexemes) (whole : Outcome (y.Rules × Lexemes)) → whole ≡ q.rules_from found ts
    → pushed found (q.rule ts) ≡ Ok (more, after) → strip s.Comma after ≡ Some others → strip s.Else others ≡ Some rest → whole ≡ q.else_number more rest
rules-else found more ts after others rest whole a b c d = rules-next found more ts after whole a b ∙ rw (c, d) refl

pub rules-fault : {X : Type 0} (view : X → y.Rules) (found more : List y.Rule) (ts : Lexemes) (whole : Outcome (y.Rules × Lexemes)) (stop : ParseStop)
    → whole ≡ q.rules_from found ts → Extends more (Err stop) (pushed found (q.rule ts)) → Parses view (Err stop) whole
rules-fault view found more ts whole (At rest) a b =
    a ∙ rules_from-unfolds found ts ∙ after-fault found rest.now (λ r. after_rule (push found r.0) r.1) (q.rule ts) b
rules-fault view found more ts whole NoMemory a b = tt
