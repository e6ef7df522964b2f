-- What the grammar of questions derives is parsed.
use Rattle.gp_grammar.proofs.Prelude.{◌≡◌, ℕ, zero, suc, ◌<◌, ◌≤◌, Bool, true, false, cond, List, [], ◌∷◌, ◌++◌, map, length, Option, Some, None, Ok, Err, IfSome, refl, sym, ap, subst, arith, ◌∙◌, append_assoc, codes, nat_le, option_map, Sign, Word, Number, Big, Text, TokenKind, MAX_PATTERN_NUMBER, Lexemes, Bytes, Term, Command, Point, Pattern, Rule, rule_of, Rules, How, Query, LogChange, Subject, Side, Question, capped, capped_block, capped_command, capped_change, capped_side, capped_question, IsList, comma, IsQuery, IsStatement, Closed, IsPoint, IsSemiring, IsPattern, IsRule, IsRules, IsLeftOut, IsHow, IsSubject, IsChange, IsChanges, IsKept, IsKeptHow, IsSideSubject, IsSide, IsOpenQuestion, pattern_name, Outcome, Parser, ◌>>=◌, by_option, strip, ◌then◌, where_next, accept, strip_word, expect_word, push, condition, query, statement, number_if, number, pattern_of}
use Rattle.std.proofs.lemmas.Bool.{le-leb}
use Rattle.gp_lexer.specs.declared.lexeme.Symbol.TheVariants as s
use Rattle.gp_grammar.specs.declared.semiring_name.SemiringName.{SemiringName}
use Rattle.gp_grammar.specs.declared.token_kind.TokenKind.TheVariants as token
use Rattle.gp_grammar.specs.Syntax as syntax
use Rattle.gp_grammar.specs.Syntax.{BareQuestion}
use Rattle.gp_grammar.specs.CommandGrammar as l
use Rattle.gp_grammar.specs.QuestionGrammar as g
use Rattle.gp_grammar.specs.QuestionGrammar.{IsBareQuestion}
use Rattle.gp_grammar.specs.Parsing.{expect}
use Rattle.gp_grammar.specs.QuestionParsing as q
use Rattle.gp_grammar.proofs.Agreement.{Agree, agree-refl, agree-bind, agree-weaken, strip-less}
use Rattle.gp_grammar.proofs.Shrinking.{Below, Shrinks, Keeps, shrinks-keeps, keeps-accept, shrinks-bind, keeps-bind, keeps-next, shrinks-then, shrinks-sound}
use Rattle.gp_grammar.proofs.CommandCompleteness.{EndsQuery, close-ends, separated-complete, separated-exact, in_brackets-complete, condition-complete, query-complete, statement-complete, closed-complete}
use Rattle.gp_grammar.proofs.QuestionSoundness.{BuildsChange, change-sound}

-- ---- the parser of rules shrinks, and its bound does not matter

pub shrinks-number_if : (fits : ℕ → Bool) → Shrinks (number_if fits)
shrinks-number_if fits = record { below = below }
  where
    by : (n : ℕ) (ts : Lexemes) (b : Bool) → Below (length (Number n ∷ ts)) (cond b (Ok (n, ts)) (Err (Number n ∷ ts)))
    by n ts true = omega arith
    by n ts false = tt

    below : (ts : Lexemes) → Below (length ts) (number_if fits ts)
    below [] = tt
    below (Number n ∷ ts) = by n ts (fits n)
    below (Sign symbol ∷ ts) = tt
    below (Word word ∷ ts) = tt
    below (Big ∷ ts) = tt
    below (Text bytes ∷ ts) = tt

keeps-row : (kind : TokenKind) (t k : ℕ) → Keeps (q.pattern_row kind t k)
keeps-row token.I t k = keeps-next s.Dot (λ ts. q.pattern_number ts >>= (λ n. Ok (pattern_of token.I (Some t) (Some k) (Some n.0), n.1))) (accept (pattern_of token.I (Some t) (Some k) None))
    (shrinks-keeps _ (shrinks-bind q.pattern_number _ (shrinks-number_if (λ n. nat_le n MAX_PATTERN_NUMBER)) (λ n. keeps-accept (pattern_of token.I (Some t) (Some k) (Some n)))))
    (keeps-accept (pattern_of token.I (Some t) (Some k) None))
keeps-row token.Q t k = keeps-accept (pattern_of token.Q (Some t) (Some k) None)
keeps-row token.U t k = keeps-accept (pattern_of token.U (Some t) (Some k) None)

keeps-parts : (p : TokenKind × Option ℕ) → Keeps (q.pattern_parts p)
keeps-parts (kind, None) = keeps-accept (pattern_of kind None None None)
keeps-parts (kind, Some t) = keeps-next s.Dot (λ ts. q.pattern_number ts >>= (λ k. q.pattern_row kind t k.0 k.1)) (accept (pattern_of kind (Some t) None None))
    (shrinks-keeps _ (shrinks-bind q.pattern_number _ (shrinks-number_if (λ n. nat_le n MAX_PATTERN_NUMBER)) (λ k. keeps-row kind t k)))
    (keeps-accept (pattern_of kind (Some t) None None))

shrinks-pattern : Shrinks q.pattern
shrinks-pattern = record { below = below }
  where
    weaker : (n m : ℕ) (o : Outcome (Pattern × Lexemes)) → n ≤ m → Below n o → Below m o
    weaker n m (Ok r) h k = omega arith
    weaker n m (Err e) h k = tt

    by : (name : Bytes) (ts : Lexemes) (o : Option (TokenKind × Option ℕ)) → Below (length (Word name ∷ ts)) (by_option o (Err (Word name ∷ ts)) (λ kind. q.pattern_parts kind ts))
    by name ts None = tt
    by name ts (Some p) = weaker (suc (length ts)) (length (Word name ∷ ts)) (q.pattern_parts p ts) (omega arith) ((keeps-parts p).below ts)

    below : (ts : Lexemes) → Below (length ts) (q.pattern ts)
    below [] = tt
    below (Word name ∷ ts) = by name ts (pattern_name name)
    below (Sign symbol ∷ ts) = tt
    below (Number n ∷ ts) = tt
    below (Big ∷ ts) = tt
    below (Text bytes ∷ ts) = tt

pub shrinks-rule : Shrinks q.rule
unfolding q.rule
shrinks-rule = shrinks-bind q.pattern _ shrinks-pattern (λ p. shrinks-keeps _ (shrinks-then s.Eq _
    (keeps-bind number _ (shrinks-keeps _ (shrinks-number_if (λ n. true))) (λ n. keeps-accept (rule_of p n)))))

pub shrinks-left_out : Shrinks q.left_out
unfolding q.left_out
shrinks-left_out = shrinks-bind q.pattern _ shrinks-pattern (λ p. keeps-accept (rule_of p 0))

-- a change begins with a word
built_change-some : (a : Lexemes) (x : LogChange) → BuildsChange a x → 0 < length a
built_change-some a x i = some a i.tree i.is
  where
    some : (a : Lexemes) (x : LogChange) → IsChange a x → 0 < length a
    some _ _ (g.drop t k) = omega arith
    some _ _ (g.drop_all t) = omega arith
    some _ _ (g.replace t k a x i) = omega arith
    some _ _ (g.add t a x i) = omega arith

pub shrinks-change : Shrinks q.change
shrinks-change = shrinks-sound BuildsChange q.change change-sound built_change-some

abbrev end_of_rules : List Rule → Parser Rules
end_of_rules found = s.Close then accept (record { rules = found; other = None })

shrinks-end : (found : List Rule) → Shrinks (end_of_rules found)
shrinks-end found = shrinks-then s.Close (accept (record { rules = found; other = None })) (keeps-accept (record { rules = found; other = None }))

shrinks-else : (found : List Rule) → Shrinks (q.else_number found)
shrinks-else found = shrinks-bind number _ (shrinks-number_if (λ n. true))
    (λ n. shrinks-keeps _ (shrinks-then s.Close (accept (record { rules = found; other = Some n })) (keeps-accept (record { rules = found; other = Some n }))))

option-agree : {A : Type 0} (ts : Lexemes) (o : Option Lexemes) (none : Outcome (A × Lexemes)) (f g : Parser A) → IfSome o (λ rest. length rest < length ts)
    → Agree (length ts) none none → ((rest : Lexemes) → length rest < length ts → Agree (length ts) (f rest) (g rest)) → Agree (length ts) (by_option o none f) (by_option o none g)
option-agree ts None none f g h w k = w
option-agree ts (Some rest) none f g h w k = k rest h

else-agree : (found : List Rule) (f g : Parser Rules) (ts : Lexemes) → Agree (length ts) (f ts) (g ts) → Agree (length ts) (where_next s.Else (q.else_number found) f ts) (where_next s.Else (q.else_number found) g ts)
else-agree found f g ts h = by (strip s.Else ts) (strip-less s.Else ts)
  where
    by : (o : Option Lexemes) → IfSome o (λ rest. length rest < length ts) → Agree (length ts) (by_option o (f ts) (q.else_number found)) (by_option o (g ts) (q.else_number found))
    by None lt = h
    by (Some rest) lt = agree-weaken (length rest) (length ts) (q.else_number found rest) (q.else_number found rest) (omega arith)
        (agree-refl (length rest) (q.else_number found rest) ((shrinks-else found).below rest))

rules-agree : (j k : ℕ) (found : List Rule) (ts : Lexemes) → length ts < j → length ts < k → Agree (length ts) (q.rules_within j found ts) (q.rules_within k found ts)
unfolding q.rules_within
rules-agree zero k found ts a b = absurd (omega arith)
rules-agree (suc j) zero found ts a b = absurd (omega arith)
rules-agree (suc j) (suc k) found ts a b =
    agree-bind (length ts) (length ts) (q.rule ts) (q.rule ts) _ _ (agree-refl (length ts) (q.rule ts) (shrinks-rule.below ts))
    (λ r lt. agree-weaken (length r.1) (length ts) _ _ (omega arith)
    (option-agree r.1 (strip s.Comma r.1) (end_of_rules (push found r.0) r.1) (where_next s.Else (q.else_number (push found r.0)) (q.rules_within j (push found r.0)))
    (where_next s.Else (q.else_number (push found r.0)) (q.rules_within k (push found r.0))) (strip-less s.Comma r.1)
    (agree-refl (length r.1) (end_of_rules (push found r.0) r.1) ((shrinks-end (push found r.0)).below r.1))
    (λ rest lt2. agree-weaken (length rest) (length r.1) _ _ (omega arith)
    (else-agree (push found r.0) (q.rules_within j (push found r.0)) (q.rules_within k (push found r.0)) rest (rules-agree j k (push found r.0) rest (omega arith) (omega arith))))))

-- after a rule: a comma and more, or the end
abbrev pub after_rule : List Rule → Parser Rules
after_rule found = where_next s.Comma (where_next s.Else (q.else_number found) (q.rules_from found)) (s.Close then accept (record { rules = found; other = None }))

pub rules_from-unfolds : (found : List Rule) (ts : Lexemes) → q.rules_from found ts ≡ q.rule ts >>= (λ r. after_rule (push found r.0) r.1)
unfolding q.rules_from q.rules_within
rules_from-unfolds found ts =
    (agree-bind (length ts) (length ts) (q.rule ts) (q.rule ts) _ _ (agree-refl (length ts) (q.rule ts) (shrinks-rule.below ts))
    (λ r lt. agree-weaken (length r.1) (length ts) _ _ (omega arith)
    (option-agree r.1 (strip s.Comma r.1) (end_of_rules (push found r.0) r.1) (where_next s.Else (q.else_number (push found r.0)) (q.rules_within (length ts) (push found r.0)))
    (where_next s.Else (q.else_number (push found r.0)) (q.rules_from (push found r.0))) (strip-less s.Comma r.1)
    (agree-refl (length r.1) (end_of_rules (push found r.0) r.1) ((shrinks-end (push found r.0)).below r.1))
    (λ rest lt2. agree-weaken (length rest) (length r.1) _ _ (omega arith)
    (else-agree (push found r.0) (q.rules_within (length ts) (push found r.0)) (q.rules_from (push found r.0)) rest
    (rules-agree (length ts) (suc (length rest)) (push found r.0) rest (omega arith) (omega arith))))))).same

-- ---- what is derived is parsed

semiring-complete : (a : Lexemes) (x : SemiringName) → IsSemiring a x → (rest : Lexemes) → q.semiring_name (a ++ rest) ≡ Ok (x, rest)
unfolding q.semiring_name
semiring-complete _ _ g.count rest = refl
semiring-complete _ _ g.bool rest = refl
semiring-complete _ _ g.cost rest = refl
semiring-complete _ _ g.level rest = refl
semiring-complete _ _ g.poly rest = refl
semiring-complete _ _ g.witness rest = refl

state-complete : (a : Lexemes) (x : Point) → IsPoint a x → (rest : Lexemes) → q.state (a ++ rest) ≡ Ok (x, rest)
unfolding q.state
state-complete _ _ (g.as_of v) rest = refl
state-complete _ _ (g.after t k) rest = refl
state-complete _ _ (g.commit t) rest = refl

pattern_number-of : (k : ℕ) (ts : Lexemes) → k ≤ MAX_PATTERN_NUMBER → q.pattern_number (Number k ∷ ts) ≡ Ok (k, ts)
pattern_number-of k ts h = ap (λ b. cond b (Ok (k, ts)) (Err (Number k ∷ ts))) (le-leb k MAX_PATTERN_NUMBER h)

name-of : (name : Bytes) (p : TokenKind × Option ℕ) (ts : Lexemes) → pattern_name name ≡ Some p → q.pattern (Word name ∷ ts) ≡ q.pattern_parts p ts
name-of name p ts e = ap (λ o. by_option o (Err (Word name ∷ ts)) (λ kind. q.pattern_parts kind ts)) e

row-of : (kind : TokenKind) (t k : ℕ) (rest : Lexemes) → strip s.Dot rest ≡ None → q.pattern_row kind t k rest ≡ Ok (pattern_of kind (Some t) (Some k) None, rest)
row-of token.I t k rest n = ap (λ o. by_option o (Ok (pattern_of token.I (Some t) (Some k) None, rest)) (λ ts. q.pattern_number ts >>= (λ n. Ok (pattern_of token.I (Some t) (Some k) (Some n.0), n.1)))) n
row-of token.Q t k rest n = refl
row-of token.U t k rest n = refl

pattern-complete : (a : Lexemes) (x : Pattern) → IsPattern a x → (rest : Lexemes) → strip s.Dot rest ≡ None → q.pattern (a ++ rest) ≡ Ok (x, rest)
pattern-complete _ _ (g.kind name kind e) rest n = name-of name (kind, None) rest e
pattern-complete _ _ (g.transaction name kind t e) rest n =
    name-of name (kind, Some t) rest e
    ∙ ap (λ o. by_option o (Ok (pattern_of kind (Some t) None None, rest)) (λ ts. q.pattern_number ts >>= (λ k. q.pattern_row kind t k.0 k.1))) n
pattern-complete _ _ (g.statement name kind t k e h) rest n =
    name-of name (kind, Some t) (Sign s.Dot ∷ Number k ∷ rest) e
    ∙ ap (λ p. p >>= (λ k. q.pattern_row kind t k.0 k.1)) (pattern_number-of k rest h)
    ∙ row-of kind t k rest n
pattern-complete _ _ (g.row name t k m e h i) rest n =
    name-of name (token.I, Some t) (Sign s.Dot ∷ Number k ∷ Sign s.Dot ∷ Number m ∷ rest) e
    ∙ ap (λ p. p >>= (λ k. q.pattern_row token.I t k.0 k.1)) (pattern_number-of k (Sign s.Dot ∷ Number m ∷ rest) h)
    ∙ ap (λ p. p >>= (λ n. Ok (pattern_of token.I (Some t) (Some k) (Some n.0), n.1))) (pattern_number-of m rest i)

rule-of : (p : Pattern) (n : ℕ) (ts rest : Lexemes) → q.pattern ts ≡ Ok (p, Sign s.Eq ∷ Number n ∷ rest) → q.rule ts ≡ Ok (rule_of p n, rest)
unfolding q.rule expect
rule-of p n ts rest e = ap (λ o. o >>= (λ pattern. expect s.Eq pattern.1 >>= (λ rest. number rest >>= (λ value. Ok (rule_of pattern.0 value.0, value.1))))) e

rule-complete : (a : Lexemes) (x : Rule) → IsRule a x → (rest : Lexemes) → q.rule (a ++ rest) ≡ Ok (x, rest)
rule-complete _ _ (g.rule a p n i) rest =
    rule-of p n ((a ++ (Sign s.Eq ∷ Number n ∷ [])) ++ rest) rest
    (ap q.pattern (append_assoc a (Sign s.Eq ∷ Number n ∷ []) rest) ∙ pattern-complete a p i (Sign s.Eq ∷ Number n ∷ rest) refl)

no-else-pattern : {a : Lexemes} {x : Pattern} → IsPattern a x → (rest : Lexemes) → strip s.Else (a ++ rest) ≡ None
no-else-pattern (g.kind name kind e) rest = refl
no-else-pattern (g.transaction name kind t e) rest = refl
no-else-pattern (g.statement name kind t k e h) rest = refl
no-else-pattern (g.row name t k m e h i) rest = refl

no-else : {a : Lexemes} {x : Rule} → IsRule a x → (rest : Lexemes) → strip s.Else (a ++ rest) ≡ None
no-else (g.rule a p n i) rest = ap (strip s.Else) (append_assoc a (Sign s.Eq ∷ Number n ∷ []) rest) ∙ no-else-pattern i (Sign s.Eq ∷ Number n ∷ rest)

no-else-list : {a : Lexemes} {xs : List Rule} → IsList comma IsRule a xs → (rest : Lexemes) → strip s.Else (a ++ rest) ≡ None
no-else-list (l.one a x i) rest = no-else i rest
no-else-list (l.more a b xs x i j) rest = ap (strip s.Else) (append_assoc a (Sign s.Comma ∷ b) rest) ∙ no-else-list i (Sign s.Comma ∷ (b ++ rest))

rules_from-complete : {a : Lexemes} {xs : List Rule} → IsList comma IsRule a xs → (rest : Lexemes) → q.rules_from [] (a ++ rest) ≡ after_rule xs rest
rules_from-complete (l.one a x i) rest = rules_from-unfolds [] (a ++ rest) ∙ ap (λ o. o >>= (λ r. after_rule (push [] r.0) r.1)) (rule-complete a x i rest)
rules_from-complete (l.more a b xs x i j) rest =
    ap (q.rules_from []) (append_assoc a (Sign s.Comma ∷ b) rest)
    ∙ rules_from-complete i (Sign s.Comma ∷ (b ++ rest))
    ∙ ap (λ o. by_option o (q.rules_from xs (b ++ rest)) (q.else_number xs)) (no-else j rest)
    ∙ rules_from-unfolds xs (b ++ rest)
    ∙ ap (λ o. o >>= (λ r. after_rule (push xs r.0) r.1)) (rule-complete b x j rest)

-- nothing but OF follows the rules, so that an opening bracket is theirs
rules-of : (ts : Lexemes) (rest : Lexemes) (x : Rules) → strip s.Else ts ≡ None → q.rules_from [] ts ≡ Ok (x, rest) → q.rules (Sign s.Open ∷ ts) ≡ Ok (x, rest)
unfolding q.rules
rules-of ts rest x n e = ap (λ o. by_option o (q.rules_from [] ts) (q.else_number [])) n ∙ e

rules-complete : (a : Lexemes) (x : Rules) → IsRules a x → (rest : Lexemes) → strip s.Open rest ≡ None → q.rules (a ++ rest) ≡ Ok (x, rest)
unfolding q.rules expect
rules-complete _ _ g.no_rules rest n =
    ap (λ o. by_option o (Ok (record { rules = []; other = None }, rest)) (where_next s.Else (q.else_number []) (q.rules_from []))) n
rules-complete _ _ (g.only_else k) rest n = refl
rules-complete _ _ (g.only_rules a xs i) rest n =
    ap (λ z. q.rules (Sign s.Open ∷ z)) (append_assoc a (Sign s.Close ∷ []) rest)
    ∙ rules-of (a ++ (Sign s.Close ∷ rest)) rest (record { rules = xs; other = None }) (no-else-list i (Sign s.Close ∷ rest)) (rules_from-complete i (Sign s.Close ∷ rest))
rules-complete _ _ (g.rules_and_else a xs k i) rest n =
    ap (λ z. q.rules (Sign s.Open ∷ z)) (append_assoc a (Sign s.Comma ∷ Sign s.Else ∷ Number k ∷ Sign s.Close ∷ []) rest)
    ∙ rules-of (a ++ (Sign s.Comma ∷ Sign s.Else ∷ Number k ∷ Sign s.Close ∷ rest)) rest (record { rules = xs; other = Some k })
    (no-else-list i (Sign s.Comma ∷ Sign s.Else ∷ Number k ∷ Sign s.Close ∷ rest)) (rules_from-complete i (Sign s.Comma ∷ Sign s.Else ∷ Number k ∷ Sign s.Close ∷ rest))

-- a pattern goes on with a dot
NoDot : Lexemes → Type 0
NoDot rest = strip s.Dot rest ≡ None

left_out-complete : (a : Lexemes) (x : Rule) → IsLeftOut a x → (rest : Lexemes) → NoDot rest → q.left_out (a ++ rest) ≡ Ok (x, rest)
unfolding q.left_out NoDot
left_out-complete _ _ (g.left_out a p i) rest n = ap (λ o. o >>= (λ p. Ok (rule_of p.0 0, p.1))) (pattern-complete a p i rest n)

without-complete : (a : Lexemes) (xs : List Rule) → IsList comma IsLeftOut a xs → (rest : Lexemes) → q.without (a ++ (Word (codes "of") ∷ rest)) ≡ Ok (syntax.without xs, rest)
unfolding q.without NoDot
without-complete a xs i rest = ap (λ o. o >>= (λ rules. expect_word (codes "of") (accept (syntax.without rules.0)) rules.1))
    (separated-exact IsLeftOut q.left_out shrinks-left_out NoDot (λ ts. refl) left_out-complete a xs i (Word (codes "of") ∷ rest) refl refl)

-- what begins a state is no word that something else begins with
record BeginsState (ts : Lexemes) : Type 0 where
  no_provenance : strip_word (codes "provenance") ts ≡ None
  no_saw : strip_word (codes "saw") ts ≡ None
  rows : q.how ts ≡ Ok (syntax.rows, ts)
  all : q.kept_how ts ≡ Ok (syntax.rows, ts)
  states : q.subject ts ≡ q.of_state q.how ts
  kept_states : q.side_subject ts ≡ q.kept ts
  sides : q.side ts ≡ q.as_is_side ts
  asks : q.open_question ts ≡ q.asked_of syntax.ask q.subject ts

begins-state : (b : Lexemes) (x : Point) → IsPoint b x → (rest : Lexemes) → BeginsState (b ++ rest)
unfolding q.how q.kept_how q.subject q.side_subject q.side q.open_question
begins-state _ _ (g.as_of v) rest = record { no_provenance = refl; no_saw = refl; rows = refl; all = refl; states = refl; kept_states = refl; sides = refl; asks = refl }
begins-state _ _ (g.after t k) rest = record { no_provenance = refl; no_saw = refl; rows = refl; all = refl; states = refl; kept_states = refl; sides = refl; asks = refl }
begins-state _ _ (g.commit t) rest = record { no_provenance = refl; no_saw = refl; rows = refl; all = refl; states = refl; kept_states = refl; sides = refl; asks = refl }

value-of : (ts us rest : Lexemes) (k : SemiringName) (r : Rules) → q.semiring_name ts ≡ Ok (k, us) → q.rules us ≡ Ok (r, Word (codes "of") ∷ rest)
    → q.value (Word (codes "in") ∷ ts) ≡ Ok (syntax.value k r.rules r.other, rest)
unfolding q.value
value-of ts us rest k r e f =
    ap (λ o. o >>= (λ semiring. q.rules semiring.1 >>= (λ rules. expect_word (codes "of") (accept (syntax.value semiring.0 rules.0.rules rules.0.other)) rules.1))) e
    ∙ ap (λ o. o >>= (λ rules. expect_word (codes "of") (accept (syntax.value k rules.0.rules rules.0.other)) rules.1)) f

value-split : (a b rest : Lexemes) → (a ++ (b ++ (Word (codes "of") ∷ []))) ++ rest ≡ a ++ (b ++ (Word (codes "of") ∷ rest))
value-split a b rest = simp append_assoc

how-complete : (a : Lexemes) (x : How) → IsHow a x → (rest : Lexemes) → BeginsState rest → q.how (a ++ rest) ≡ Ok (x, rest)
unfolding q.how
how-complete _ _ g.rows rest h = h.rows
how-complete _ _ g.provenance rest h = refl
how-complete _ _ g.explain rest h = ap (λ o. by_option o (Ok (syntax.explain false, rest)) (expect_word (codes "of") (accept (syntax.explain true)))) h.no_provenance
how-complete _ _ g.explain_provenance rest h = refl
how-complete _ _ (g.value a b k r i j) rest h =
    ap (λ z. q.value (Word (codes "in") ∷ z)) (value-split a b rest)
    ∙ value-of (a ++ (b ++ (Word (codes "of") ∷ rest))) (b ++ (Word (codes "of") ∷ rest)) rest k r (semiring-complete a k i (b ++ (Word (codes "of") ∷ rest)))
    (rules-complete b r j (Word (codes "of") ∷ rest) refl)
how-complete _ _ (g.without a xs i) rest h = ap q.without (append_assoc a (Word (codes "of") ∷ []) rest) ∙ without-complete a xs i rest

-- ---- subjects

of_state-of : (how : Parser How) (ts us rest : Lexemes) (x : How) (state : Point) → how ts ≡ Ok (x, us) → q.state us ≡ Ok (state, rest)
    → q.of_state how ts ≡ Ok (syntax.of_state x state, rest)
unfolding q.of_state
of_state-of how ts us rest x state e f =
    ap (λ o. o >>= (λ how. q.state how.1 >>= (λ state. Ok (syntax.of_state how.0 state.0, state.1)))) e
    ∙ ap (λ o. o >>= (λ state. Ok (syntax.of_state x state.0, state.1))) f

-- a subject that asks of a state is not what a transaction saw
begins-how : (a : Lexemes) (x : How) → IsHow a x → (rest : Lexemes) → BeginsState rest → q.subject (a ++ rest) ≡ q.of_state q.how (a ++ rest)
unfolding q.subject
begins-how _ _ g.rows rest h = h.states
begins-how _ _ g.provenance rest h = refl
begins-how _ _ g.explain rest h = refl
begins-how _ _ g.explain_provenance rest h = refl
begins-how _ _ (g.value a b k r i j) rest h = refl
begins-how _ _ (g.without a xs i) rest h = refl

subject-complete : (a : Lexemes) (x : Subject) → IsSubject a x → (rest : Lexemes) → q.subject (a ++ rest) ≡ Ok (x, rest)
unfolding q.subject q.saw q.saw_numbers
subject-complete _ _ (g.of_state a b how state i j) rest =
    let begins : BeginsState (b ++ rest) = begins-state b state j rest in
    ap q.subject (append_assoc a b rest)
    ∙ begins-how a how i (b ++ rest) begins
    ∙ of_state-of q.how (a ++ (b ++ rest)) (b ++ rest) rest how state (how-complete a how i (b ++ rest) begins) (state-complete b state j rest)
subject-complete _ _ (g.of_saw _ _ (g.saw t k)) rest = refl

kept_how-complete : (a : Lexemes) (x : How) → IsKeptHow a x → (rest : Lexemes) → BeginsState rest → q.kept_how (a ++ rest) ≡ Ok (x, rest)
unfolding q.kept_how
kept_how-complete _ _ g.all rest h = h.all
kept_how-complete _ _ (g.remaining a xs i) rest h = ap q.without (append_assoc a (Word (codes "of") ∷ []) rest) ∙ without-complete a xs i rest

kept-complete : (a : Lexemes) (x : Subject) → IsKept a x → (rest : Lexemes) → q.kept (a ++ rest) ≡ Ok (x, rest)
kept-complete _ _ (g.kept a b how state i j) rest =
    ap q.kept (append_assoc a b rest)
    ∙ of_state-of q.kept_how (a ++ (b ++ rest)) (b ++ rest) rest how state (kept_how-complete a how i (b ++ rest) (begins-state b state j rest)) (state-complete b state j rest)

-- a state that begins with no SAW, in a side that begins with no WHATIF
record BeginsKept (ts : Lexemes) : Type 0 where
  subject : q.side_subject ts ≡ q.kept ts
  side : q.side ts ≡ q.as_is_side ts

begins-kept_how : (a : Lexemes) (x : How) → IsKeptHow a x → (rest : Lexemes) → BeginsState rest → BeginsKept (a ++ rest)
unfolding q.side_subject q.side
begins-kept_how _ _ g.all rest h = record { subject = h.kept_states; side = h.sides }
begins-kept_how _ _ (g.remaining a xs i) rest h = record { subject = refl; side = refl }

begins-kept : (a : Lexemes) (x : Subject) → IsKept a x → (rest : Lexemes) → BeginsKept (a ++ rest)
begins-kept _ _ (g.kept a b how state i j) rest = subst BeginsKept (sym (append_assoc a b rest)) (begins-kept_how a how i (b ++ rest) (begins-state b state j rest))

side_subject-complete : (a : Lexemes) (x : Subject) → IsSideSubject a x → (rest : Lexemes) → q.side_subject (a ++ rest) ≡ Ok (x, rest)
unfolding q.side_subject q.saw q.saw_numbers
side_subject-complete _ _ (g.kept_side a x i) rest = (begins-kept a x i rest).subject ∙ kept-complete a x i rest
side_subject-complete _ _ (g.saw_side _ _ (g.saw t k)) rest = refl

asked-of : (question : Subject → Query → Question) (subject : Parser Subject) (ts us rest : Lexemes) (x : Subject) (xs : Query) → subject ts ≡ Ok (x, us) → query us ≡ Ok (xs, rest)
    → q.asked_of question subject ts ≡ Ok (question x xs, rest)
unfolding q.asked_of
asked-of question subject ts us rest x xs e f =
    ap (λ o. o >>= (λ subject. query subject.1 >>= (λ query. Ok (question subject.0 query.0, query.1)))) e
    ∙ ap (λ o. o >>= (λ query. Ok (question x query.0, query.1))) f

-- ---- changes

by_statement-complete : (a : Lexemes) (x : Command) → IsStatement a x → (rest : Lexemes)
    → q.by_statement (Word (codes "by") ∷ ((Sign s.Open ∷ (a ++ (Sign s.Close ∷ []))) ++ rest)) ≡ Ok (capped_command x, rest)
by_statement-complete a x i rest = in_brackets-complete statement a rest (capped_command x) (statement-complete a x i (Sign s.Close ∷ rest) (close-ends rest))

replaced-of : (t k : ℕ) (ts rest : Lexemes) (x : Command) → q.by_statement ts ≡ Ok (x, rest) → q.replaced (Number t ∷ Number k ∷ ts) ≡ Ok (syntax.replace t k x, rest)
unfolding q.replaced
replaced-of t k ts rest x e = ap (λ o. o >>= (λ x. Ok (syntax.replace t k x.0, x.1))) e

added-of : (t : ℕ) (ts rest : Lexemes) (x : Command) → q.by_statement ts ≡ Ok (x, rest) → q.added (Number t ∷ ts) ≡ Ok (syntax.add t x, rest)
unfolding q.added
added-of t ts rest x e = ap (λ o. o >>= (λ x. Ok (syntax.add t x.0, x.1))) e

-- no number of a statement follows
abbrev NoNumber : Lexemes → Type 0
NoNumber rest = (t : ℕ) → q.dropped_from t rest ≡ Ok (syntax.drop_all t, rest)

change-complete : (a : Lexemes) (x : LogChange) → IsChange a x → (rest : Lexemes) → NoNumber rest → q.change (a ++ rest) ≡ Ok (capped_change x, rest)
unfolding q.change q.dropped
change-complete _ _ (g.drop t k) rest n = refl
change-complete _ _ (g.drop_all t) rest n = n t
change-complete _ _ (g.replace t k a x i) rest n = replaced-of t k _ rest (capped_command x) (by_statement-complete a x i rest)
change-complete _ _ (g.add t a x i) rest n = added-of t _ rest (capped_command x) (by_statement-complete a x i rest)

-- behind the changes stands OF
changes-complete : (a : Lexemes) (xs : List LogChange) → IsChanges a xs → (rest : Lexemes)
    → q.changes_of (a ++ (Word (codes "of") ∷ rest)) ≡ Ok (map capped_change xs, Word (codes "of") ∷ rest)
changes-complete a xs i rest =
    separated-complete IsChange capped_change q.change shrinks-change NoNumber (λ ts t. refl) change-complete a xs i (Word (codes "of") ∷ rest) (λ t. refl) refl

what_if-of : (ts us rest : Lexemes) (changes : List LogChange) (x : Question) → q.changes_of ts ≡ Ok (changes, Word (codes "of") ∷ us)
    → q.asked_of (syntax.what_if changes) q.subject us ≡ Ok (x, rest) → q.what_if ts ≡ Ok (x, rest)
unfolding q.what_if
what_if-of ts us rest changes x e f = ap (λ o. o >>= (λ changes. expect_word (codes "of") (q.asked_of (syntax.what_if changes.0) q.subject) changes.1)) e ∙ f

-- ---- sides

as_is-of : (ts rest : Lexemes) (x : Subject) → q.side_subject ts ≡ Ok (x, rest) → q.as_is_side ts ≡ Ok (syntax.as_is x, rest)
unfolding q.as_is_side
as_is-of ts rest x e = ap (λ o. o >>= (λ subject. Ok (syntax.as_is subject.0, subject.1))) e

changed-of : (ts us rest : Lexemes) (changes : List LogChange) (x : Subject) → q.changes_of ts ≡ Ok (changes, Word (codes "of") ∷ us) → q.side_subject us ≡ Ok (x, rest)
    → q.changed_side ts ≡ Ok (syntax.changed changes x, rest)
unfolding q.changed_side
changed-of ts us rest changes x e f =
    ap (λ o. o >>= (λ changes. expect_word (codes "of") (λ rest. q.side_subject rest >>= (λ subject. Ok (syntax.changed changes.0 subject.0, subject.1))) changes.1)) e
    ∙ ap (λ o. o >>= (λ subject. Ok (syntax.changed changes subject.0, subject.1))) f

behind_of-split : (a b rest : Lexemes) → (a ++ (Word (codes "of") ∷ b)) ++ rest ≡ a ++ (Word (codes "of") ∷ (b ++ rest))
behind_of-split a b rest = append_assoc a (Word (codes "of") ∷ b) rest

-- a side that begins with no WHATIF
begins-side : (a : Lexemes) (x : Subject) → IsSideSubject a x → (rest : Lexemes) → q.side (a ++ rest) ≡ q.as_is_side (a ++ rest)
unfolding q.side
begins-side _ _ (g.kept_side a x i) rest = (begins-kept a x i rest).side
begins-side _ _ (g.saw_side _ _ (g.saw t k)) rest = refl

side-complete : (a : Lexemes) (x : Side) → IsSide a x → (rest : Lexemes) → q.side (a ++ rest) ≡ Ok (capped_side x, rest)
unfolding q.side
side-complete _ _ (g.as_is a x i) rest = begins-side a x i rest ∙ as_is-of (a ++ rest) rest x (side_subject-complete a x i rest)
side-complete _ _ (g.changed a b changes x i j) rest =
    ap q.changed_side (behind_of-split a b rest)
    ∙ changed-of (a ++ (Word (codes "of") ∷ (b ++ rest))) (b ++ rest) rest (map capped_change changes) x (changes-complete a changes i (b ++ rest)) (side_subject-complete b x j rest)

second_side-of : (x z : Side) (ts us rest : Lexemes) (xs : Query) → q.side ts ≡ Ok (z, us) → query us ≡ Ok (xs, rest) → q.second_side x ts ≡ Ok (syntax.diff x z xs, rest)
unfolding q.second_side
second_side-of x z ts us rest xs e f =
    ap (λ o. o >>= (λ second. query second.1 >>= (λ query. Ok (syntax.diff x second.0 query.0, query.1)))) e
    ∙ ap (λ o. o >>= (λ query. Ok (syntax.diff x z query.0, query.1))) f

diff-of : (x : Side) (ts us rest : Lexemes) (made : Question) → q.side ts ≡ Ok (x, Word (codes "to") ∷ us) → q.second_side x us ≡ Ok (made, rest) → q.diff ts ≡ Ok (made, rest)
unfolding q.diff
diff-of x ts us rest made e f = ap (λ o. o >>= (λ first. expect_word (codes "to") (q.second_side first.0) first.1)) e ∙ f

diff-split : (a b c rest : Lexemes) → (a ++ (Word (codes "to") ∷ (b ++ c))) ++ rest ≡ a ++ (Word (codes "to") ∷ (b ++ (c ++ rest)))
diff-split a b c rest = simp append_assoc

-- ---- questions

history-of : (table : Bytes) (ts rest : Lexemes) (cond : Option Term) → condition ts ≡ Ok (cond, rest) → q.history (Word table ∷ ts) ≡ Ok (syntax.history table cond, rest)
unfolding q.history
history-of table ts rest cond e = ap (λ o. o >>= (λ cond. Ok (syntax.history table cond.0, cond.1))) e

when-of : (ts rest : Lexemes) (xs : Query) → query ts ≡ Ok (xs, rest) → q.when ts ≡ Ok (syntax.when xs, rest)
unfolding q.when
when-of ts rest xs e = ap (λ o. o >>= (λ xs. Ok (syntax.when xs.0, xs.1))) e

explained_saw-of : (t k : ℕ) (ts rest : Lexemes) (xs : Query) → query ts ≡ Ok (xs, rest)
    → q.explained_saw (Number t ∷ Word (codes "after") ∷ Number k ∷ ts) ≡ Ok (syntax.explain_saw t k xs, rest)
unfolding q.explained_saw q.saw_numbers
explained_saw-of t k ts rest xs e = ap (λ o. o >>= (λ xs. Ok (syntax.explain_saw t k xs.0, xs.1))) e

-- a question that asks is none of the others
how-asks : (a : Lexemes) (x : How) → IsHow a x → (rest : Lexemes) → BeginsState rest → q.open_question (a ++ rest) ≡ q.asked_of syntax.ask q.subject (a ++ rest)
unfolding q.open_question q.asked_of q.subject q.of_state q.how
how-asks _ _ g.rows rest h = h.asks
how-asks _ _ g.provenance rest h = refl
how-asks _ _ g.explain rest h = ap (λ o. by_option o (q.asked_of syntax.ask (q.of_state q.explained) rest) q.explained_saw) h.no_saw
how-asks _ _ g.explain_provenance rest h = refl
how-asks _ _ (g.value a b k r i j) rest h = refl
how-asks _ _ (g.without a xs i) rest h = refl

subject-asks : (a : Lexemes) (x : Subject) → IsSubject a x → (rest : Lexemes) → q.open_question (a ++ rest) ≡ q.asked_of syntax.ask q.subject (a ++ rest)
unfolding q.open_question
subject-asks _ _ (g.of_state a b how state i j) rest =
    let P : Lexemes → Type 0 = λ z. q.open_question z ≡ q.asked_of syntax.ask q.subject z in
    subst P (sym (append_assoc a b rest)) (how-asks a how i (b ++ rest) (begins-state b state j rest))
subject-asks _ _ (g.of_saw _ _ (g.saw t k)) rest = refl

ask-complete : (a b : Lexemes) (x : Subject) (xs : Query) → IsSubject a x → IsQuery b xs → (rest : Lexemes) → EndsQuery rest
    → q.open_question (a ++ (b ++ rest)) ≡ Ok (syntax.ask x (map capped_block xs), rest)
ask-complete a b x xs i j rest h =
    subject-asks a x i (b ++ rest)
    ∙ asked-of syntax.ask q.subject (a ++ (b ++ rest)) (b ++ rest) rest x (map capped_block xs) (subject-complete a x i (b ++ rest)) (query-complete b xs j rest h)

what_if-split : (a b c rest : Lexemes) → (a ++ (Word (codes "of") ∷ (b ++ c))) ++ rest ≡ a ++ (Word (codes "of") ∷ (b ++ (c ++ rest)))
what_if-split a b c rest = simp append_assoc

bare-complete : (a : Lexemes) (x : BareQuestion) → IsBareQuestion a x → (rest : Lexemes) → q.open_question (a ++ rest) ≡ Ok (syntax.bare x, rest)
unfolding q.open_question q.changes
bare-complete _ _ g.transactions rest = refl
bare-complete _ _ (g.log t) rest = refl
bare-complete _ _ (g.versions table) rest = refl
bare-complete _ _ (g.changes t k) rest = refl
bare-complete _ _ (g.commit_changes t) rest = refl
bare-complete _ _ (g.conflicts t) rest = refl
bare-complete _ _ g.serial rest = refl
bare-complete _ _ g.anomalies rest = refl
bare-complete _ _ g.check rest = refl

open_question-complete : (a : Lexemes) (x : Question) → IsOpenQuestion a x → (rest : Lexemes) → EndsQuery rest → q.open_question (a ++ rest) ≡ Ok (capped_question x, rest)
unfolding q.open_question
open_question-complete _ _ (g.bare a x i) rest h = bare-complete a x i rest
open_question-complete _ _ (g.history table w cond i) rest h = history-of table (w ++ rest) rest (option_map capped cond) (condition-complete w cond i rest h.block.loose h.block.no_where)
open_question-complete _ _ (g.when a xs i) rest h = when-of (a ++ rest) rest (map capped_block xs) (query-complete a xs i rest h)
open_question-complete _ _ (g.diff a b c first second xs i j k) rest h =
    ap q.diff (diff-split a b c rest)
    ∙ diff-of (capped_side first) (a ++ (Word (codes "to") ∷ (b ++ (c ++ rest)))) (b ++ (c ++ rest)) rest (syntax.diff (capped_side first) (capped_side second) (map capped_block xs))
    (side-complete a first i (Word (codes "to") ∷ (b ++ (c ++ rest))))
    (second_side-of (capped_side first) (capped_side second) (b ++ (c ++ rest)) (c ++ rest) rest (map capped_block xs) (side-complete b second j (c ++ rest)) (query-complete c xs k rest h))
open_question-complete _ _ (g.causes a b x xs i j) rest h =
    ap (q.asked_of syntax.causes q.kept) (append_assoc a b rest)
    ∙ asked-of syntax.causes q.kept (a ++ (b ++ rest)) (b ++ rest) rest x (map capped_block xs) (kept-complete a x i (b ++ rest)) (query-complete b xs j rest h)
open_question-complete _ _ (g.ask a b x xs i j) rest h = ap q.open_question (append_assoc a b rest) ∙ ask-complete a b x xs i j rest h
open_question-complete _ _ (g.what_if a b c changes x xs i j k) rest h =
    ap q.what_if (what_if-split a b c rest)
    ∙ what_if-of (a ++ (Word (codes "of") ∷ (b ++ (c ++ rest)))) (b ++ (c ++ rest)) rest (map capped_change changes) (syntax.what_if (map capped_change changes) x (map capped_block xs))
    (changes-complete a changes i (b ++ (c ++ rest)))
    (asked-of (syntax.what_if (map capped_change changes)) q.subject (b ++ (c ++ rest)) (c ++ rest) rest x (map capped_block xs) (subject-complete b x j (c ++ rest)) (query-complete c xs k rest h))
open_question-complete _ _ (g.explain_saw t k a xs i) rest h = explained_saw-of t k (a ++ rest) rest (map capped_block xs) (query-complete a xs i rest h)

pub whole-question : (a : Lexemes) (x : Question) → Closed IsOpenQuestion a x → q.question a ≡ Ok (capped_question x, [])
whole-question = closed-complete IsOpenQuestion capped_question q.open_question open_question-complete
