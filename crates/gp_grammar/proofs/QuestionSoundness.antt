-- The parser of questions is sound, and what it leaves before a fault begins a question.
use Rattle.gp_grammar.proofs.Prelude.{◌≡◌, ℕ, zero, suc, ◌≤◌, Bool, true, false, cond, List, [], ◌∷◌, ◌++◌, length, map, Option, Some, None, Ok, Err, refl, sym, ap, subst, ◌∙◌, append_assoc, codes, nat_le, append-nil, Sign, Word, Number, Big, Text, TokenKind, MAX_PATTERN_NUMBER, Lexemes, Bytes, Term, Command, Point, Pattern, Rule, rule_of, Rules, How, Query, LogChange, Subject, Side, Question, capped_change, capped_side, capped_question, IsList, comma, Closed, IsPoint, IsSemiring, IsPattern, IsRule, IsRules, IsLeftOut, IsHow, IsSubject, IsChange, IsChanges, IsKept, IsKeptHow, IsSideSubject, IsSide, IsOpenQuestion, pattern_name, Outcome, Parser, ◌>>=◌, by_option, identifier, ◌then◌, where_next, fail, accept, where_word, expect_word, push, separated, in_brackets, condition, query, statement, number_if, number, pattern_of, Built}
use Rattle.std.proofs.lemmas.Bool.{leb-true}
use Rattle.gp_lexer.specs.declared.lexeme.Symbol.TheVariants as s
use Rattle.gp_grammar.specs.declared.semiring_name.SemiringName.TheVariants as semiring
use Rattle.gp_grammar.specs.declared.token_kind.TokenKind.TheVariants as token
use Rattle.gp_grammar.specs.Syntax as syntax
use Rattle.gp_grammar.specs.Syntax.{BareQuestion}
use Rattle.gp_grammar.specs.CommandGrammar as l
use Rattle.gp_grammar.specs.QuestionGrammar as g
use Rattle.gp_grammar.specs.QuestionGrammar.{IsSaw, IsBareQuestion}
use Rattle.gp_grammar.specs.QuestionParsing as q
use Rattle.gp_grammar.proofs.CommandBuilding.{BuildsWhere, BuildsQuery, BuildsStatement, list-built}
use Rattle.gp_grammar.proofs.Soundness.{Sentence, Sound, sound-ok, sound-err, sound-shift, sound-bind, sound-phrase, expect-sound, identifier-sound}
use Rattle.gp_grammar.proofs.SoundCombinators.{next-sound, word-sound, expect_word-sound, separated-sound, in_brackets-sound, closed-sound}
use Rattle.gp_grammar.proofs.CommandSoundness.{condition-sound, query-sound, statement-sound}

abbrev pub BuildsQuestion : Lexemes → Question → Type 0
BuildsQuestion = Built IsOpenQuestion capped_question

-- ---- numbers

record IsNumber (fits : ℕ → Bool) (ts : Lexemes) (n : ℕ) : Type 0 where
  is : ts ≡ Number n ∷ []
  small : fits n ≡ true

number_if-one : (fits : ℕ → Bool) → fits 0 ≡ true → (ts : Lexemes) → Sound (IsNumber fits) ts (number_if fits ts)
number_if-one fits z ts = go ts
  where
    zero_number : Sentence (IsNumber fits)
    zero_number = record { lexemes = Number 0 ∷ []; tree = 0; is = record { is = refl; small = z } }

    by : (n : ℕ) (ts : Lexemes) (b : Bool) → fits n ≡ b → Sound (IsNumber fits) (Number n ∷ ts) (cond b (Ok (n, ts)) (Err (Number n ∷ ts)))
    by n ts true e = record { used = Number n ∷ []; split = refl; is = record { is = refl; small = e } }
    by n ts false e = sound-err (IsNumber fits) _ zero_number

    go : (ts : Lexemes) → Sound (IsNumber fits) ts (number_if fits ts)
    go [] = sound-err (IsNumber fits) _ zero_number
    go (Number n ∷ ts) = by n ts (fits n) refl
    go (Sign symbol ∷ ts) = sound-err (IsNumber fits) _ zero_number
    go (Word word ∷ ts) = sound-err (IsNumber fits) _ zero_number
    go (Big ∷ ts) = sound-err (IsNumber fits) _ zero_number
    go (Text bytes ∷ ts) = sound-err (IsNumber fits) _ zero_number

number_if-sound : {B : Type 0} (fits : ℕ → Bool) → fits 0 ≡ true → (Q : Lexemes → B → Type 0) (ts : Lexemes) (f : ℕ × Lexemes → Outcome (B × Lexemes))
    → ((n : ℕ) (rest : Lexemes) → fits n ≡ true → Sound (λ b y. Q (Number n ∷ b) y) rest (f (n, rest))) → Sound Q ts (number_if fits ts >>= f)
number_if-sound fits z Q ts f k = sound-bind (IsNumber fits) Q ts (number_if fits ts) f (number_if-one fits z ts)
    (λ used rest n h. let F : Lexemes → Type 0 = λ u. Sound (λ b y. Q (u ++ b) y) rest (f (n, rest)) in subst F (sym h.is) (k n rest h.small))

number-sound : {B : Type 0} (Q : Lexemes → B → Type 0) (ts : Lexemes) (f : ℕ × Lexemes → Outcome (B × Lexemes))
    → ((n : ℕ) (rest : Lexemes) → Sound (λ b y. Q (Number n ∷ b) y) rest (f (n, rest))) → Sound Q ts (number ts >>= f)
number-sound Q ts f k = number_if-sound (λ n. true) refl Q ts f (λ n rest h. k n rest)

-- ---- states and semirings

state-sound : (ts : Lexemes) → Sound IsPoint ts (q.state ts)
unfolding q.state
state-sound ts = next-sound s.As IsPoint (expect_word (codes "of") (λ ts. number ts >>= (λ v. Ok (syntax.as_of v.0, v.1))))
    (expect_word (codes "reenact") (λ ts. number ts >>= (λ t. where_next s.Commit (accept (syntax.Point.commit t.0))
    (expect_word (codes "after") (λ rest. number rest >>= (λ k. Ok (syntax.after t.0 k.0, k.1)))) t.1))) ts
    (λ ts1. expect_word-sound (codes "of") (λ b y. IsPoint (Sign s.As ∷ b) y) _ ts1 (λ ts2.
    number-sound (λ b y. IsPoint (Sign s.As ∷ Word (codes "of") ∷ b) y) ts2 _ (λ v ts3. sound-ok _ ts3 (syntax.as_of v) (g.as_of v))))
    (expect_word-sound (codes "reenact") IsPoint _ ts (λ ts1.
    number-sound (λ b y. IsPoint (Word (codes "reenact") ∷ b) y) ts1 _ (λ t ts2.
    next-sound s.Commit (λ b y. IsPoint (Word (codes "reenact") ∷ Number t ∷ b) y) (accept (syntax.Point.commit t))
    (expect_word (codes "after") (λ rest. number rest >>= (λ k. Ok (syntax.after t k.0, k.1)))) ts2
    (λ ts3. sound-ok _ ts3 (syntax.Point.commit t) (g.commit t))
    (expect_word-sound (codes "after") (λ b y. IsPoint (Word (codes "reenact") ∷ Number t ∷ b) y) _ ts2 (λ ts3.
    number-sound (λ b y. IsPoint (Word (codes "reenact") ∷ Number t ∷ Word (codes "after") ∷ b) y) ts3 _
    (λ k ts4. sound-ok _ ts4 (syntax.after t k) (g.after t k)))))))

a_semiring : Sentence IsSemiring
a_semiring = record { lexemes = Word (codes "count") ∷ []; tree = semiring.Count; is = g.count }

semiring-sound : (ts : Lexemes) → Sound IsSemiring ts (q.semiring_name ts)
unfolding q.semiring_name
semiring-sound ts =
    word-sound (codes "count") IsSemiring (accept semiring.Count) (where_word (codes "bool") (accept semiring.Bool) (where_word (codes "cost") (accept semiring.Cost) (where_word (codes "level") (accept semiring.Level) (where_word (codes "poly") (accept semiring.Poly) (where_word (codes "witness") (accept semiring.Witness) fail))))) ts (λ ts1. sound-ok _ ts1 semiring.Count g.count)
    (word-sound (codes "bool") IsSemiring (accept semiring.Bool) (where_word (codes "cost") (accept semiring.Cost) (where_word (codes "level") (accept semiring.Level) (where_word (codes "poly") (accept semiring.Poly) (where_word (codes "witness") (accept semiring.Witness) fail)))) ts (λ ts1. sound-ok _ ts1 semiring.Bool g.bool)
    (word-sound (codes "cost") IsSemiring (accept semiring.Cost) (where_word (codes "level") (accept semiring.Level) (where_word (codes "poly") (accept semiring.Poly) (where_word (codes "witness") (accept semiring.Witness) fail))) ts (λ ts1. sound-ok _ ts1 semiring.Cost g.cost)
    (word-sound (codes "level") IsSemiring (accept semiring.Level) (where_word (codes "poly") (accept semiring.Poly) (where_word (codes "witness") (accept semiring.Witness) fail)) ts (λ ts1. sound-ok _ ts1 semiring.Level g.level)
    (word-sound (codes "poly") IsSemiring (accept semiring.Poly) (where_word (codes "witness") (accept semiring.Witness) fail) ts (λ ts1. sound-ok _ ts1 semiring.Poly g.poly)
    (word-sound (codes "witness") IsSemiring (accept semiring.Witness) fail ts (λ ts1. sound-ok _ ts1 semiring.Witness g.witness)
    (sound-err IsSemiring ts a_semiring))))))

-- ---- patterns and rules

row-sound : (name : Bytes) (kind : TokenKind) (t k : ℕ) → pattern_name name ≡ Some (kind, Some t) → k ≤ MAX_PATTERN_NUMBER → (ts : Lexemes)
    → Sound (λ b y. IsPattern (Word name ∷ Sign s.Dot ∷ Number k ∷ b) y) ts (q.pattern_row kind t k ts)
row-sound name token.I t k e h ts = next-sound s.Dot (λ b y. IsPattern (Word name ∷ Sign s.Dot ∷ Number k ∷ b) y)
    (λ ts. q.pattern_number ts >>= (λ n. Ok (pattern_of token.I (Some t) (Some k) (Some n.0), n.1))) (accept (pattern_of token.I (Some t) (Some k) None)) ts
    (λ ts1. number_if-sound (λ n. nat_le n MAX_PATTERN_NUMBER) refl (λ b y. IsPattern (Word name ∷ Sign s.Dot ∷ Number k ∷ Sign s.Dot ∷ b) y) ts1 _
    (λ n ts2 f. sound-ok _ ts2 (pattern_of token.I (Some t) (Some k) (Some n)) (g.row name t k n e h (leb-true n MAX_PATTERN_NUMBER f))))
    (sound-ok _ ts (pattern_of token.I (Some t) (Some k) None) (g.statement name token.I t k e h))
row-sound name token.Q t k e h ts = sound-ok _ ts (pattern_of token.Q (Some t) (Some k) None) (g.statement name token.Q t k e h)
row-sound name token.U t k e h ts = sound-ok _ ts (pattern_of token.U (Some t) (Some k) None) (g.statement name token.U t k e h)

parts-sound : (name : Bytes) (p : TokenKind × Option ℕ) → pattern_name name ≡ Some p → (ts : Lexemes) → Sound (λ b y. IsPattern (Word name ∷ b) y) ts (q.pattern_parts p ts)
parts-sound name (kind, None) e ts = sound-ok _ ts (pattern_of kind None None None) (g.kind name kind e)
parts-sound name (kind, Some t) e ts = next-sound s.Dot (λ b y. IsPattern (Word name ∷ b) y) (λ ts. q.pattern_number ts >>= (λ k. q.pattern_row kind t k.0 k.1))
    (accept (pattern_of kind (Some t) None None)) ts
    (λ ts1. number_if-sound (λ n. nat_le n MAX_PATTERN_NUMBER) refl (λ b y. IsPattern (Word name ∷ Sign s.Dot ∷ b) y) ts1 _
    (λ k ts2 f. row-sound name kind t k e (leb-true k MAX_PATTERN_NUMBER f) ts2))
    (sound-ok _ ts (pattern_of kind (Some t) None None) (g.transaction name kind t e))

a_pattern : Sentence IsPattern
a_pattern = record { lexemes = Word (codes "i") ∷ []; tree = pattern_of token.I None None None; is = g.kind (codes "i") token.I refl }

named-sound : (name : Bytes) (ts : Lexemes) (o : Option (TokenKind × Option ℕ)) → pattern_name name ≡ o
    → Sound IsPattern (Word name ∷ ts) (by_option o (Err (Word name ∷ ts)) (λ kind. q.pattern_parts kind ts))
named-sound name ts None e = sound-err IsPattern _ a_pattern
named-sound name ts (Some p) e = sound-shift IsPattern (Word name ∷ []) ts (q.pattern_parts p ts) (parts-sound name p e ts)

pattern-sound : (ts : Lexemes) → Sound IsPattern ts (q.pattern ts)
pattern-sound [] = sound-err IsPattern _ a_pattern
pattern-sound (Word name ∷ ts) = named-sound name ts (pattern_name name) refl
pattern-sound (Sign symbol ∷ ts) = sound-err IsPattern _ a_pattern
pattern-sound (Number n ∷ ts) = sound-err IsPattern _ a_pattern
pattern-sound (Big ∷ ts) = sound-err IsPattern _ a_pattern
pattern-sound (Text bytes ∷ ts) = sound-err IsPattern _ a_pattern

rule-sound : (ts : Lexemes) → Sound IsRule ts (q.rule ts)
unfolding q.rule
rule-sound ts = sound-bind IsPattern IsRule ts (q.pattern ts) _ (pattern-sound ts) (λ a ts1 p i.
    expect-sound s.Eq (λ b y. IsRule (a ++ b) y) ts1 _ (λ ts2. number-sound (λ b y. IsRule (a ++ (Sign s.Eq ∷ b)) y) ts2 _
    (λ n ts3. sound-ok _ ts3 (rule_of p n) (g.rule a p n i))))

-- one more rule may follow
Extends : Lexemes → List Rule → Type 0
Extends prefix found = (b : Lexemes) (x : Rule) → IsRule b x → IsList comma IsRule (prefix ++ b) (push found x)

abbrev InRules : Lexemes → Lexemes → Rules → Type 0
InRules prefix b y = IsRules (Sign s.Open ∷ (prefix ++ b)) y

along-rules : (a b : Lexemes) (y : Rules) → a ≡ b → IsRules (Sign s.Open ∷ a) y → IsRules (Sign s.Open ∷ b) y
along-rules a b y e i = let F : Lexemes → Type 0 = λ z. IsRules (Sign s.Open ∷ z) y in subst F e i

extends-more : (prefix a : Lexemes) (found : List Rule) (x : Rule) → IsList comma IsRule (prefix ++ a) (push found x) → Extends (prefix ++ (a ++ (Sign s.Comma ∷ []))) (push found x)
unfolding Extends
extends-more prefix a found x i b z j =
    let F : Lexemes → Type 0 = λ u. IsList comma IsRule u (push (push found x) z) in
    subst F (simp append_assoc) (l.more (prefix ++ a) b (push found x) z i j)

else-sound : (prefix a : Lexemes) (found : List Rule) → IsList comma IsRule (prefix ++ a) found → (ts : Lexemes)
    → Sound (λ b y. InRules prefix (a ++ (Sign s.Comma ∷ Sign s.Else ∷ b)) y) ts (q.else_number found ts)
else-sound prefix a found i ts = number-sound (λ b y. InRules prefix (a ++ (Sign s.Comma ∷ Sign s.Else ∷ b)) y) ts _ (λ n ts1.
    expect-sound s.Close (λ b y. InRules prefix (a ++ (Sign s.Comma ∷ Sign s.Else ∷ Number n ∷ b)) y) ts1 (accept (record { rules = found; other = Some n }))
    (λ ts2. sound-ok _ ts2 (record { rules = found; other = Some n })
    (along-rules _ _ _ (append_assoc prefix a (Sign s.Comma ∷ Sign s.Else ∷ Number n ∷ Sign s.Close ∷ [])) (g.rules_and_else (prefix ++ a) found n i))))

a_rule : IsRule (Word (codes "i") ∷ Sign s.Eq ∷ Number 0 ∷ []) (rule_of (pattern_of token.I None None None) 0)
a_rule = g.rule (Word (codes "i") ∷ []) (pattern_of token.I None None None) 0 (g.kind (codes "i") token.I refl)

some_rules : (prefix : Lexemes) (found : List Rule) → Extends prefix found → Sentence (InRules prefix)
unfolding Extends
some_rules prefix found k = record {
  lexemes = Word (codes "i") ∷ Sign s.Eq ∷ Number 0 ∷ Sign s.Close ∷ [];
  tree = record { rules = push found (rule_of (pattern_of token.I None None None) 0); other = None };
  is = along-rules _ _ _ (append_assoc prefix (Word (codes "i") ∷ Sign s.Eq ∷ Number 0 ∷ []) (Sign s.Close ∷ [])) (g.only_rules (prefix ++ (Word (codes "i") ∷ Sign s.Eq ∷ Number 0 ∷ [])) _ (k _ _ a_rule));
}

rules_within-sound : (n : ℕ) (prefix : Lexemes) (found : List Rule) → Extends prefix found → (ts : Lexemes) → Sound (InRules prefix) ts (q.rules_within n found ts)
unfolding q.rules_within Extends
rules_within-sound zero prefix found k ts = sound-err (InRules prefix) ts (some_rules prefix found k)
rules_within-sound (suc n) prefix found k ts =
    sound-bind IsRule (InRules prefix) ts (q.rule ts) _ (rule-sound ts) (λ a ts1 x i.
    next-sound s.Comma (λ b y. InRules prefix (a ++ b) y) (where_next s.Else (q.else_number (push found x)) (q.rules_within n (push found x)))
    (s.Close then accept (record { rules = push found x; other = None })) ts1
    (λ ts2. next-sound s.Else (λ b y. InRules prefix (a ++ (Sign s.Comma ∷ b)) y) (q.else_number (push found x)) (q.rules_within n (push found x)) ts2
    (λ ts3. else-sound prefix a (push found x) (k a x i) ts3)
    (sound-phrase (InRules (prefix ++ (a ++ (Sign s.Comma ∷ [])))) (λ b y. InRules prefix (a ++ (Sign s.Comma ∷ b)) y) ts2 (q.rules_within n (push found x) ts2)
    (λ b y j. along-rules _ _ y (simp append_assoc) j)
    (rules_within-sound n (prefix ++ (a ++ (Sign s.Comma ∷ []))) (push found x) (extends-more prefix a found x (k a x i)) ts2)))
    (expect-sound s.Close (λ b y. InRules prefix (a ++ b) y) ts1 (accept (record { rules = push found x; other = None }))
    (λ ts2. sound-ok _ ts2 (record { rules = push found x; other = None }) (along-rules _ _ _ (append_assoc prefix a (Sign s.Close ∷ [])) (g.only_rules (prefix ++ a) (push found x) (k a x i))))))

extends-none : Extends [] []
unfolding Extends
extends-none b x i = l.one b x i

rules_from-sound : (ts : Lexemes) → Sound (InRules []) ts (q.rules_from [] ts)
unfolding q.rules_from
rules_from-sound ts = rules_within-sound (suc (length ts)) [] [] extends-none ts

rules-sound : (ts : Lexemes) → Sound IsRules ts (q.rules ts)
unfolding q.rules
rules-sound ts = next-sound s.Open IsRules (where_next s.Else (q.else_number []) (q.rules_from [])) (accept (record { rules = []; other = None })) ts
    (λ ts1. next-sound s.Else (λ b y. IsRules (Sign s.Open ∷ b) y) (q.else_number []) (q.rules_from []) ts1
    (λ ts2. number-sound (λ b y. IsRules (Sign s.Open ∷ Sign s.Else ∷ b) y) ts2 _ (λ n ts3.
    expect-sound s.Close (λ b y. IsRules (Sign s.Open ∷ Sign s.Else ∷ Number n ∷ b) y) ts3 (accept (record { rules = []; other = Some n }))
    (λ ts4. sound-ok _ ts4 (record { rules = []; other = Some n }) (g.only_else n))))
    (rules_from-sound ts1))
    (sound-ok IsRules ts (record { rules = []; other = None }) g.no_rules)

-- ---- tokens that are left out

left_out-sound : (ts : Lexemes) → Sound IsLeftOut ts (q.left_out ts)
unfolding q.left_out
left_out-sound ts = sound-bind IsPattern IsLeftOut ts (q.pattern ts) _ (pattern-sound ts)
    (λ a ts1 p i. sound-ok (λ b y. IsLeftOut (a ++ b) y) ts1 (rule_of p 0) (rw append-nil (g.left_out a p i)))

without-sound : (ts : Lexemes) → Sound (λ b y. IsHow (Word (codes "without") ∷ b) y) ts (q.without ts)
unfolding q.without
without-sound ts = sound-bind (IsList comma IsLeftOut) (λ b y. IsHow (Word (codes "without") ∷ b) y) ts (separated q.left_out ts) _
    (separated-sound IsLeftOut q.left_out left_out-sound ts) (λ a ts1 xs i.
    expect_word-sound (codes "of") (λ b y. IsHow (Word (codes "without") ∷ (a ++ b)) y) (accept (syntax.without xs)) ts1
    (λ ts2. sound-ok _ ts2 (syntax.without xs) (g.without a xs i)))

-- WITHOUT before a state of which some rows are left
kept_without-sound : (ts : Lexemes) → Sound (λ b y. IsKeptHow (Word (codes "without") ∷ b) y) ts (q.without ts)
unfolding q.without
kept_without-sound ts = sound-bind (IsList comma IsLeftOut) (λ b y. IsKeptHow (Word (codes "without") ∷ b) y) ts (separated q.left_out ts) _
    (separated-sound IsLeftOut q.left_out left_out-sound ts) (λ a ts1 xs i.
    expect_word-sound (codes "of") (λ b y. IsKeptHow (Word (codes "without") ∷ (a ++ b)) y) (accept (syntax.without xs)) ts1
    (λ ts2. sound-ok _ ts2 (syntax.without xs) (g.remaining a xs i)))

-- ---- what is asked for

value-sound : (ts : Lexemes) → Sound (λ b y. IsHow (Word (codes "value") ∷ b) y) ts (q.value ts)
unfolding q.value
value-sound ts = expect_word-sound (codes "in") (λ b y. IsHow (Word (codes "value") ∷ b) y) _ ts (λ ts1.
    sound-bind IsSemiring (λ b y. IsHow (Word (codes "value") ∷ Word (codes "in") ∷ b) y) ts1 (q.semiring_name ts1) _ (semiring-sound ts1) (λ a ts2 k i.
    sound-bind IsRules (λ b y. IsHow (Word (codes "value") ∷ Word (codes "in") ∷ (a ++ b)) y) ts2 (q.rules ts2) _ (rules-sound ts2) (λ b ts3 r j.
    expect_word-sound (codes "of") (λ c y. IsHow (Word (codes "value") ∷ Word (codes "in") ∷ (a ++ (b ++ c))) y) (accept (syntax.value k r.rules r.other)) ts3
    (λ ts4. sound-ok _ ts4 (syntax.value k r.rules r.other) (g.value a b k r i j)))))

explained-sound : (ts : Lexemes) → Sound (λ b y. IsHow (Word (codes "explain") ∷ b) y) ts (q.explained ts)
explained-sound ts = word-sound (codes "provenance") (λ b y. IsHow (Word (codes "explain") ∷ b) y) (expect_word (codes "of") (accept (syntax.explain true))) (accept (syntax.explain false)) ts
    (λ ts1. expect_word-sound (codes "of") (λ b y. IsHow (Word (codes "explain") ∷ Word (codes "provenance") ∷ b) y) (accept (syntax.explain true)) ts1
    (λ ts2. sound-ok _ ts2 (syntax.explain true) g.explain_provenance))
    (sound-ok _ ts (syntax.explain false) g.explain)

how-sound : (ts : Lexemes) → Sound IsHow ts (q.how ts)
unfolding q.how
how-sound ts =
    word-sound (codes "explain") IsHow q.explained
    (where_word (codes "provenance") (expect_word (codes "of") (accept syntax.provenance))
    (where_word (codes "value") q.value (where_word (codes "without") q.without (accept syntax.rows)))) ts explained-sound
    (word-sound (codes "provenance") IsHow (expect_word (codes "of") (accept syntax.provenance))
    (where_word (codes "value") q.value (where_word (codes "without") q.without (accept syntax.rows))) ts
    (λ ts1. expect_word-sound (codes "of") (λ b y. IsHow (Word (codes "provenance") ∷ b) y) (accept syntax.provenance) ts1 (λ ts2. sound-ok _ ts2 syntax.provenance g.provenance))
    (word-sound (codes "value") IsHow q.value (where_word (codes "without") q.without (accept syntax.rows)) ts value-sound
    (word-sound (codes "without") IsHow q.without (accept syntax.rows) ts without-sound (sound-ok IsHow ts syntax.rows g.rows))))

kept_how-sound : (ts : Lexemes) → Sound IsKeptHow ts (q.kept_how ts)
unfolding q.kept_how
kept_how-sound ts = word-sound (codes "without") IsKeptHow q.without (accept syntax.rows) ts kept_without-sound (sound-ok IsKeptHow ts syntax.rows g.all)

-- ---- subjects

-- a state after what is asked for of it, by the phrases of that
of_state-sound : (Asks : Lexemes → How → Type 0) (how : Parser How) → ((ts : Lexemes) → Sound Asks ts (how ts)) → (Q : Lexemes → Subject → Type 0)
    → ((a b : Lexemes) (how : How) (state : Point) → Asks a how → IsPoint b state → Q (a ++ b) (syntax.of_state how state))
    → (ts : Lexemes) → Sound Q ts (q.of_state how ts)
unfolding q.of_state
of_state-sound Asks how sound Q build ts = sound-bind Asks Q ts (how ts) _ (sound ts) (λ a ts1 x i.
    sound-bind IsPoint (λ b y. Q (a ++ b) y) ts1 (q.state ts1) _ (state-sound ts1)
    (λ b ts2 state j. sound-ok _ ts2 (syntax.of_state x state) (let z : b ++ [] ≡ b = append-nil b in rw z (build a b x state i j))))

abbrev IsNumbers : Lexemes → ℕ × ℕ → Type 0
IsNumbers a n = a ≡ Number n.0 ∷ Word (codes "after") ∷ Number n.1 ∷ []

saw_numbers-one : (ts : Lexemes) → Sound IsNumbers ts (q.saw_numbers ts)
unfolding q.saw_numbers
saw_numbers-one ts = number-sound IsNumbers ts _ (λ t ts1. expect_word-sound (codes "after") (λ b y. IsNumbers (Number t ∷ b) y) _ ts1 (λ ts2.
    number-sound (λ b y. IsNumbers (Number t ∷ Word (codes "after") ∷ b) y) ts2 _ (λ k ts3. sound-ok _ ts3 (t, k) refl)))

saw_numbers-sound : {B : Type 0} (Q : Lexemes → B → Type 0) (ts : Lexemes) (f : (ℕ × ℕ) × Lexemes → Outcome (B × Lexemes))
    → ((t k : ℕ) (rest : Lexemes) → Sound (λ b y. Q (Number t ∷ Word (codes "after") ∷ Number k ∷ b) y) rest (f ((t, k), rest))) → Sound Q ts (q.saw_numbers ts >>= f)
saw_numbers-sound Q ts f k = sound-bind IsNumbers Q ts (q.saw_numbers ts) f (saw_numbers-one ts)
    (λ used rest n h. let F : Lexemes → Type 0 = λ u. Sound (λ b y. Q (u ++ b) y) rest (f (n, rest)) in subst F (sym h) (k n.0 n.1 rest))

saw-sound : (ts : Lexemes) → Sound (λ b y. IsSaw (Word (codes "saw") ∷ b) y) ts (q.saw ts)
unfolding q.saw
saw-sound ts = saw_numbers-sound (λ b y. IsSaw (Word (codes "saw") ∷ b) y) ts _ (λ t k ts1. sound-ok _ ts1 (syntax.saw t k) (g.saw t k))

subject-sound : (ts : Lexemes) → Sound IsSubject ts (q.subject ts)
unfolding q.subject
subject-sound ts = word-sound (codes "saw") IsSubject q.saw (q.of_state q.how) ts
    (λ ts1. sound-phrase (λ b y. IsSaw (Word (codes "saw") ∷ b) y) (λ b y. IsSubject (Word (codes "saw") ∷ b) y) ts1 (q.saw ts1) (λ b y i. g.of_saw (Word (codes "saw") ∷ b) y i) (saw-sound ts1))
    (of_state-sound IsHow q.how how-sound IsSubject (λ a b how state i j. g.of_state a b how state i j) ts)

kept-sound : (ts : Lexemes) → Sound IsKept ts (q.kept ts)
kept-sound ts = of_state-sound IsKeptHow q.kept_how kept_how-sound IsKept (λ a b how state i j. g.kept a b how state i j) ts

side_subject-sound : (ts : Lexemes) → Sound IsSideSubject ts (q.side_subject ts)
unfolding q.side_subject
side_subject-sound ts = word-sound (codes "saw") IsSideSubject q.saw q.kept ts
    (λ ts1. sound-phrase (λ b y. IsSaw (Word (codes "saw") ∷ b) y) (λ b y. IsSideSubject (Word (codes "saw") ∷ b) y) ts1 (q.saw ts1) (λ b y i. g.saw_side (Word (codes "saw") ∷ b) y i) (saw-sound ts1))
    (sound-phrase IsKept IsSideSubject ts (q.kept ts) (λ b y i. g.kept_side b y i) (kept-sound ts))

-- a query after its subject
asked_of-sound : (question : Subject → Query → Question) (Is : Lexemes → Subject → Type 0) (subject : Parser Subject) → ((ts : Lexemes) → Sound Is ts (subject ts))
    → (Q : Lexemes → Question → Type 0) → ((a b : Lexemes) (x : Subject) (xs : Query) → Is a x → BuildsQuery b xs → Q (a ++ b) (question x xs))
    → (ts : Lexemes) → Sound Q ts (q.asked_of question subject ts)
unfolding q.asked_of
asked_of-sound question Is subject sound Q build ts = sound-bind Is Q ts (subject ts) _ (sound ts) (λ a ts1 x i.
    sound-bind BuildsQuery (λ b y. Q (a ++ b) y) ts1 (query ts1) _ (query-sound ts1)
    (λ b ts2 xs j. sound-ok _ ts2 (question x xs) (let z : b ++ [] ≡ b = append-nil b in rw z (build a b x xs i j))))

asks : (a b : Lexemes) (x : Subject) (xs : Query) → IsSubject a x → BuildsQuery b xs → BuildsQuestion (a ++ b) (syntax.ask x xs)
asks a b x xs i j = record { tree = syntax.ask x j.tree; is = g.ask a b x j.tree i j.is; same = ap (λ z. syntax.ask x z) j.same }

causes : (a b : Lexemes) (x : Subject) (xs : Query) → IsKept a x → BuildsQuery b xs
    → BuildsQuestion (Word (codes "causes") ∷ Word (codes "of") ∷ (a ++ b)) (syntax.causes x xs)
causes a b x xs i j = record { tree = syntax.causes x j.tree; is = g.causes a b x j.tree i j.is; same = ap (λ z. syntax.causes x z) j.same }

-- ---- changes

abbrev pub BuildsChange : Lexemes → LogChange → Type 0
BuildsChange = Built IsChange capped_change

all_dropped : (t : ℕ) → BuildsChange (Word (codes "drop") ∷ Number t ∷ []) (syntax.drop_all t)
all_dropped t = record { tree = syntax.drop_all t; is = g.drop_all t; same = refl }

dropped_from-sound : (t : ℕ) (ts : Lexemes) → Sound (λ b y. BuildsChange (Word (codes "drop") ∷ Number t ∷ b) y) ts (q.dropped_from t ts)
dropped_from-sound t [] = sound-ok _ _ (syntax.drop_all t) (all_dropped t)
dropped_from-sound t (Number k ∷ ts) = record { used = Number k ∷ []; split = refl; is = record { tree = syntax.drop t k; is = g.drop t k; same = refl } }
dropped_from-sound t (Sign symbol ∷ ts) = sound-ok _ _ (syntax.drop_all t) (all_dropped t)
dropped_from-sound t (Word word ∷ ts) = sound-ok _ _ (syntax.drop_all t) (all_dropped t)
dropped_from-sound t (Big ∷ ts) = sound-ok _ _ (syntax.drop_all t) (all_dropped t)
dropped_from-sound t (Text bytes ∷ ts) = sound-ok _ _ (syntax.drop_all t) (all_dropped t)

dropped-sound : (ts : Lexemes) → Sound (λ b y. BuildsChange (Word (codes "drop") ∷ b) y) ts (q.dropped ts)
unfolding q.dropped
dropped-sound ts = number-sound (λ b y. BuildsChange (Word (codes "drop") ∷ b) y) ts _ (λ t ts1. dropped_from-sound t ts1)

-- BY and a statement in brackets
data BuildsBy : Lexemes → Command → Type 0 where
  by : (a : Lexemes) (x : Command) → BuildsStatement a x → BuildsBy (Word (codes "by") ∷ Sign s.Open ∷ (a ++ (Sign s.Close ∷ []))) x

by_statement-sound : (ts : Lexemes) → Sound BuildsBy ts (q.by_statement ts)
by_statement-sound ts = expect_word-sound (codes "by") BuildsBy (in_brackets statement) ts
    (λ ts1. in_brackets-sound BuildsStatement (λ b y. BuildsBy (Word (codes "by") ∷ b) y) statement (λ a x i. by a x i) statement-sound ts1)

replaced : (t k : ℕ) (a : Lexemes) (x : Command) → BuildsBy a x → BuildsChange (Word (codes "replace") ∷ Number t ∷ Number k ∷ a) (syntax.replace t k x)
replaced t k _ _ (by a x i) = record {
  tree = syntax.replace t k i.tree;
  is = g.replace t k a i.tree i.is;
  same = ap (λ z. syntax.replace t k z) i.same;
}

added : (t : ℕ) (a : Lexemes) (x : Command) → BuildsBy a x → BuildsChange (Word (codes "add") ∷ Number t ∷ a) (syntax.add t x)
added t _ _ (by a x i) = record { tree = syntax.add t i.tree; is = g.add t a i.tree i.is; same = ap (λ z. syntax.add t z) i.same }

replaced-sound : (ts : Lexemes) → Sound (λ b y. BuildsChange (Word (codes "replace") ∷ b) y) ts (q.replaced ts)
unfolding q.replaced
replaced-sound ts = number-sound (λ b y. BuildsChange (Word (codes "replace") ∷ b) y) ts _ (λ t ts1.
    number-sound (λ b y. BuildsChange (Word (codes "replace") ∷ Number t ∷ b) y) ts1 _ (λ k ts2.
    sound-bind BuildsBy (λ b y. BuildsChange (Word (codes "replace") ∷ Number t ∷ Number k ∷ b) y) ts2 (q.by_statement ts2) _ (by_statement-sound ts2)
    (λ a ts3 x i. sound-ok _ ts3 (syntax.replace t k x) (let z : a ++ [] ≡ a = append-nil a in rw z (replaced t k a x i)))))

added-sound : (ts : Lexemes) → Sound (λ b y. BuildsChange (Word (codes "add") ∷ b) y) ts (q.added ts)
unfolding q.added
added-sound ts = number-sound (λ b y. BuildsChange (Word (codes "add") ∷ b) y) ts _ (λ t ts1.
    sound-bind BuildsBy (λ b y. BuildsChange (Word (codes "add") ∷ Number t ∷ b) y) ts1 (q.by_statement ts1) _ (by_statement-sound ts1)
    (λ a ts2 x i. sound-ok _ ts2 (syntax.add t x) (let z : a ++ [] ≡ a = append-nil a in rw z (added t a x i))))

pub change-sound : (ts : Lexemes) → Sound BuildsChange ts (q.change ts)
unfolding q.change
change-sound ts = word-sound (codes "drop") BuildsChange q.dropped (where_word (codes "replace") q.replaced (expect_word (codes "add") q.added)) ts dropped-sound
    (word-sound (codes "replace") BuildsChange q.replaced (expect_word (codes "add") q.added) ts replaced-sound
    (expect_word-sound (codes "add") BuildsChange q.added ts added-sound))

abbrev BuildsChanges : Lexemes → List LogChange → Type 0
BuildsChanges = Built IsChanges (map capped_change)

changes_of-sound : (ts : Lexemes) → Sound BuildsChanges ts (q.changes_of ts)
changes_of-sound ts = sound-phrase (IsList comma BuildsChange) BuildsChanges ts (q.changes_of ts) (λ a xs i. list-built i) (separated-sound BuildsChange q.change change-sound ts)

what_ifs : (a : Lexemes) (changes : List LogChange) → BuildsChanges a changes → (b c : Lexemes) (x : Subject) (xs : Query) → IsSubject b x → BuildsQuery c xs
    → BuildsQuestion (Word (codes "whatif") ∷ (a ++ (Word (codes "of") ∷ (b ++ c)))) (syntax.what_if changes x xs)
what_ifs a changes i b c x xs j k = record {
  tree = syntax.what_if i.tree x k.tree;
  is = g.what_if a b c i.tree x k.tree i.is j k.is;
  same = ap (λ z. syntax.what_if z x xs) i.same ∙ ap (λ z. syntax.what_if (map capped_change i.tree) x z) k.same;
}

what_if-sound : (ts : Lexemes) → Sound (λ b y. BuildsQuestion (Word (codes "whatif") ∷ b) y) ts (q.what_if ts)
unfolding q.what_if
what_if-sound ts = sound-bind BuildsChanges (λ b y. BuildsQuestion (Word (codes "whatif") ∷ b) y) ts (q.changes_of ts) _ (changes_of-sound ts) (λ a ts1 changes i.
    expect_word-sound (codes "of") (λ b y. BuildsQuestion (Word (codes "whatif") ∷ (a ++ b)) y) (q.asked_of (syntax.what_if changes) q.subject) ts1 (λ ts2.
    asked_of-sound (syntax.what_if changes) IsSubject q.subject subject-sound (λ b y. BuildsQuestion (Word (codes "whatif") ∷ (a ++ (Word (codes "of") ∷ b))) y) (what_ifs a changes i) ts2))

-- ---- sides

abbrev BuildsSide : Lexemes → Side → Type 0
BuildsSide = Built IsSide capped_side

as_is-sound : (ts : Lexemes) → Sound BuildsSide ts (q.as_is_side ts)
unfolding q.as_is_side
as_is-sound ts = sound-bind IsSideSubject BuildsSide ts (q.side_subject ts) _ (side_subject-sound ts)
    (λ a ts1 x i. sound-ok _ ts1 (syntax.as_is x) (let z : a ++ [] ≡ a = append-nil a in rw z (as_is a x i)))
  where
    as_is : (a : Lexemes) (x : Subject) → IsSideSubject a x → BuildsSide a (syntax.as_is x)
    as_is a x i = record { tree = syntax.as_is x; is = g.as_is a x i; same = refl }

changed : (a b : Lexemes) (changes : List LogChange) (x : Subject) → BuildsChanges a changes → IsSideSubject b x
    → BuildsSide (Word (codes "whatif") ∷ (a ++ (Word (codes "of") ∷ b))) (syntax.changed changes x)
changed a b changes x i j = record {
  tree = syntax.changed i.tree x;
  is = g.changed a b i.tree x i.is j;
  same = ap (λ z. syntax.changed z x) i.same;
}

changed-sound : (ts : Lexemes) → Sound (λ b y. BuildsSide (Word (codes "whatif") ∷ b) y) ts (q.changed_side ts)
unfolding q.changed_side
changed-sound ts = sound-bind BuildsChanges (λ b y. BuildsSide (Word (codes "whatif") ∷ b) y) ts (q.changes_of ts) _ (changes_of-sound ts) (λ a ts1 changes i.
    expect_word-sound (codes "of") (λ b y. BuildsSide (Word (codes "whatif") ∷ (a ++ b)) y) _ ts1 (λ ts2.
    sound-bind IsSideSubject (λ b y. BuildsSide (Word (codes "whatif") ∷ (a ++ (Word (codes "of") ∷ b))) y) ts2 (q.side_subject ts2) _ (side_subject-sound ts2)
    (λ b ts3 x j. sound-ok _ ts3 (syntax.changed changes x) (let z : b ++ [] ≡ b = append-nil b in rw z (changed a b changes x i j)))))

side-sound : (ts : Lexemes) → Sound BuildsSide ts (q.side ts)
unfolding q.side
side-sound ts = word-sound (codes "whatif") BuildsSide q.changed_side q.as_is_side ts changed-sound (as_is-sound ts)

diffs : (a b c : Lexemes) (first second : Side) (xs : Query) → BuildsSide a first → BuildsSide b second → BuildsQuery c xs
    → BuildsQuestion (Word (codes "diff") ∷ (a ++ (Word (codes "to") ∷ (b ++ c)))) (syntax.diff first second xs)
diffs a b c first second xs i j k = record {
  tree = syntax.diff i.tree j.tree k.tree;
  is = g.diff a b c i.tree j.tree k.tree i.is j.is k.is;
  same =
      ap (λ z. syntax.diff z second xs) i.same
      ∙ ap (λ z. syntax.diff (capped_side i.tree) z xs) j.same
      ∙ ap (λ z. syntax.diff (capped_side i.tree) (capped_side j.tree) z) k.same;
}

second_side-sound : (a : Lexemes) (first : Side) → BuildsSide a first → (ts : Lexemes)
    → Sound (λ b y. BuildsQuestion (Word (codes "diff") ∷ (a ++ (Word (codes "to") ∷ b))) y) ts (q.second_side first ts)
unfolding q.second_side
second_side-sound a first i ts = sound-bind BuildsSide (λ b y. BuildsQuestion (Word (codes "diff") ∷ (a ++ (Word (codes "to") ∷ b))) y) ts (q.side ts) _ (side-sound ts) (λ b ts1 second j.
    sound-bind BuildsQuery (λ c y. BuildsQuestion (Word (codes "diff") ∷ (a ++ (Word (codes "to") ∷ (b ++ c)))) y) ts1 (query ts1) _ (query-sound ts1)
    (λ c ts2 xs k. sound-ok _ ts2 (syntax.diff first second xs) (let z : c ++ [] ≡ c = append-nil c in rw z (diffs a b c first second xs i j k))))

diff-sound : (ts : Lexemes) → Sound (λ b y. BuildsQuestion (Word (codes "diff") ∷ b) y) ts (q.diff ts)
unfolding q.diff
diff-sound ts = sound-bind BuildsSide (λ b y. BuildsQuestion (Word (codes "diff") ∷ b) y) ts (q.side ts) _ (side-sound ts) (λ a ts1 first i.
    expect_word-sound (codes "to") (λ b y. BuildsQuestion (Word (codes "diff") ∷ (a ++ b)) y) (q.second_side first) ts1 (second_side-sound a first i))

-- ---- whole questions

builds-bare : (a : Lexemes) (x : BareQuestion) → IsBareQuestion a x → BuildsQuestion a (syntax.bare x)
builds-bare a x i = record { tree = syntax.bare x; is = g.bare a x i; same = refl }

changes-sound : (ts : Lexemes) → Sound (λ b y. BuildsQuestion (Word (codes "changes") ∷ b) y) ts (q.changes ts)
unfolding q.changes
changes-sound ts = number-sound (λ b y. BuildsQuestion (Word (codes "changes") ∷ b) y) ts _ (λ t ts1.
    next-sound s.Commit (λ b y. BuildsQuestion (Word (codes "changes") ∷ Number t ∷ b) y) (accept (syntax.bare (syntax.commit_changes t)))
    (λ rest. number rest >>= (λ k. Ok (syntax.bare (syntax.changes t k.0), k.1))) ts1
    (λ ts2. sound-ok _ ts2 (syntax.bare (syntax.commit_changes t)) (builds-bare _ _ (g.commit_changes t)))
    (number-sound (λ b y. BuildsQuestion (Word (codes "changes") ∷ Number t ∷ b) y) ts1 _
    (λ k ts2. sound-ok _ ts2 (syntax.bare (syntax.changes t k)) (builds-bare _ _ (g.changes t k)))))

histories : (table : Bytes) (w : Lexemes) (cond : Option Term) → BuildsWhere w cond
    → BuildsQuestion (Word (codes "history") ∷ Word (codes "of") ∷ Word table ∷ w) (syntax.history table cond)
histories table w cond i = record { tree = syntax.history table i.tree; is = g.history table w i.tree i.is; same = ap (λ z. syntax.history table z) i.same }

history-sound : (ts : Lexemes) → Sound (λ b y. BuildsQuestion (Word (codes "history") ∷ Word (codes "of") ∷ b) y) ts (q.history ts)
unfolding q.history
history-sound ts = identifier-sound (λ b y. BuildsQuestion (Word (codes "history") ∷ Word (codes "of") ∷ b) y) ts _ (λ table ts1.
    sound-bind BuildsWhere (λ b y. BuildsQuestion (Word (codes "history") ∷ Word (codes "of") ∷ Word table ∷ b) y) ts1 (condition ts1) _ (condition-sound ts1)
    (λ w ts2 cond i. sound-ok _ ts2 (syntax.history table cond) (let z : w ++ [] ≡ w = append-nil w in rw z (histories table w cond i))))

whens : (a : Lexemes) (xs : Query) → BuildsQuery a xs → BuildsQuestion (Sign s.When ∷ a) (syntax.when xs)
whens a xs i = record { tree = syntax.when i.tree; is = g.when a i.tree i.is; same = ap (λ z. syntax.when z) i.same }

when-sound : (ts : Lexemes) → Sound (λ b y. BuildsQuestion (Sign s.When ∷ b) y) ts (q.when ts)
unfolding q.when
when-sound ts = sound-bind BuildsQuery (λ b y. BuildsQuestion (Sign s.When ∷ b) y) ts (query ts) _ (query-sound ts)
    (λ a ts1 xs i. sound-ok _ ts1 (syntax.when xs) (let z : a ++ [] ≡ a = append-nil a in rw z (whens a xs i)))

explained_saws : (t k : ℕ) (a : Lexemes) (xs : Query) → BuildsQuery a xs
    → BuildsQuestion (Word (codes "explain") ∷ Word (codes "saw") ∷ Number t ∷ Word (codes "after") ∷ Number k ∷ a) (syntax.explain_saw t k xs)
explained_saws t k a xs i = record { tree = syntax.explain_saw t k i.tree; is = g.explain_saw t k a i.tree i.is; same = ap (λ z. syntax.explain_saw t k z) i.same }

explained_saw-sound : (ts : Lexemes) → Sound (λ b y. BuildsQuestion (Word (codes "explain") ∷ Word (codes "saw") ∷ b) y) ts (q.explained_saw ts)
unfolding q.explained_saw
explained_saw-sound ts = saw_numbers-sound (λ b y. BuildsQuestion (Word (codes "explain") ∷ Word (codes "saw") ∷ b) y) ts _ (λ t k ts1.
    sound-bind BuildsQuery (λ b y. BuildsQuestion (Word (codes "explain") ∷ Word (codes "saw") ∷ Number t ∷ Word (codes "after") ∷ Number k ∷ b) y) ts1 (query ts1) _ (query-sound ts1)
    (λ a ts2 xs i. sound-ok _ ts2 (syntax.explain_saw t k xs) (let z : a ++ [] ≡ a = append-nil a in rw z (explained_saws t k a xs i))))

explained_ask-sound : (ts : Lexemes) → Sound (λ b y. BuildsQuestion (Word (codes "explain") ∷ b) y) ts (q.asked_of syntax.ask (q.of_state q.explained) ts)
explained_ask-sound = asked_of-sound syntax.ask (λ b y. IsSubject (Word (codes "explain") ∷ b) y) (q.of_state q.explained)
    (of_state-sound (λ b y. IsHow (Word (codes "explain") ∷ b) y) q.explained explained-sound (λ b y. IsSubject (Word (codes "explain") ∷ b) y)
    (λ a b how state i j. g.of_state (Word (codes "explain") ∷ a) b how state i j))
    (λ b y. BuildsQuestion (Word (codes "explain") ∷ b) y) (λ a b x xs i j. asks (Word (codes "explain") ∷ a) b x xs i j)

from_explain-sound : (ts : Lexemes) → Sound BuildsQuestion ts (q.from_explain ts)
from_explain-sound ts =
    word-sound (codes "explain") BuildsQuestion (where_word (codes "saw") q.explained_saw (q.asked_of syntax.ask (q.of_state q.explained))) (q.asked_of syntax.ask q.subject) ts
    (λ ts1. word-sound (codes "saw") (λ b y. BuildsQuestion (Word (codes "explain") ∷ b) y) q.explained_saw (q.asked_of syntax.ask (q.of_state q.explained)) ts1
    explained_saw-sound (explained_ask-sound ts1))
    (asked_of-sound syntax.ask IsSubject q.subject subject-sound BuildsQuestion asks ts)

open_question-sound : (ts : Lexemes) → Sound BuildsQuestion ts (q.open_question ts)
unfolding q.open_question
open_question-sound ts =
    word-sound (codes "log") BuildsQuestion (λ ts. number ts >>= (λ t. Ok (syntax.bare (syntax.log t.0), t.1))) q.from_versions ts
    (λ ts1. number-sound (λ b y. BuildsQuestion (Word (codes "log") ∷ b) y) ts1 _ (λ t ts2. sound-ok _ ts2 (syntax.bare (syntax.log t)) (builds-bare _ _ (g.log t))))
    (word-sound (codes "versions") BuildsQuestion q.versions_of q.from_transactions ts
    (λ ts1. expect_word-sound (codes "of") (λ b y. BuildsQuestion (Word (codes "versions") ∷ b) y) _ ts1 (λ ts2.
    identifier-sound (λ b y. BuildsQuestion (Word (codes "versions") ∷ Word (codes "of") ∷ b) y) ts2 _
    (λ table ts3. sound-ok _ ts3 (syntax.bare (syntax.versions table)) (builds-bare _ _ (g.versions table)))))
    (word-sound (codes "transactions") BuildsQuestion (accept (syntax.bare syntax.transactions)) q.from_changes ts
    (λ ts1. sound-ok _ ts1 (syntax.bare syntax.transactions) (builds-bare _ _ g.transactions))
    (word-sound (codes "changes") BuildsQuestion q.changes q.from_conflicts ts changes-sound
    (word-sound (codes "conflicts") BuildsQuestion (λ ts. number ts >>= (λ t. Ok (syntax.bare (syntax.conflicts t.0), t.1))) q.from_history ts
    (λ ts1. number-sound (λ b y. BuildsQuestion (Word (codes "conflicts") ∷ b) y) ts1 _
    (λ t ts2. sound-ok _ ts2 (syntax.bare (syntax.conflicts t)) (builds-bare _ _ (g.conflicts t))))
    (word-sound (codes "history") BuildsQuestion (expect_word (codes "of") q.history) q.from_when ts
    (λ ts1. expect_word-sound (codes "of") (λ b y. BuildsQuestion (Word (codes "history") ∷ b) y) q.history ts1 history-sound)
    (next-sound s.When BuildsQuestion q.when q.from_serial ts when-sound
    (word-sound (codes "serial") BuildsQuestion (accept (syntax.bare syntax.serial)) q.from_anomalies ts
    (λ ts1. sound-ok _ ts1 (syntax.bare syntax.serial) (builds-bare _ _ g.serial))
    (word-sound (codes "anomalies") BuildsQuestion (accept (syntax.bare syntax.anomalies)) q.from_check ts
    (λ ts1. sound-ok _ ts1 (syntax.bare syntax.anomalies) (builds-bare _ _ g.anomalies))
    (word-sound (codes "check") BuildsQuestion (accept (syntax.bare syntax.check)) q.from_diff ts
    (λ ts1. sound-ok _ ts1 (syntax.bare syntax.check) (builds-bare _ _ g.check))
    (word-sound (codes "diff") BuildsQuestion q.diff q.from_causes ts diff-sound
    (word-sound (codes "causes") BuildsQuestion (expect_word (codes "of") (q.asked_of syntax.causes q.kept)) q.from_what_if ts
    (λ ts1. expect_word-sound (codes "of") (λ b y. BuildsQuestion (Word (codes "causes") ∷ b) y) (q.asked_of syntax.causes q.kept) ts1
    (asked_of-sound syntax.causes IsKept q.kept kept-sound (λ b y. BuildsQuestion (Word (codes "causes") ∷ Word (codes "of") ∷ b) y) causes))
    (word-sound (codes "whatif") BuildsQuestion q.what_if q.from_explain ts what_if-sound (from_explain-sound ts)))))))))))))

pub question-sound : (ts : Lexemes) → Sound (Closed BuildsQuestion) ts (q.question ts)
question-sound = closed-sound BuildsQuestion q.open_question open_question-sound
