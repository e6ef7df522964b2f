-- Part of the statement: the grammar of questions, one constructor for each rule. Most of their keywords are no reserved words, and have
-- their meaning only at their places.
use Rattle.std.specs.Prelude.{◌≡◌, ℕ, ◌^◌, ◌≤◌, true, false, List, [], ◌∷◌, ◌++◌, Option, Some, None, codes, if◌then◌else◌, ◌&&◌, nat_lt, ◌==◌}
use Rattle.std.specs.Str.Parse.{digits_value}
use Rattle.gp_lexer.specs.declared.lexeme.Symbol.TheVariants as s
use Rattle.gp_lexer.specs.declared.lexeme.Lexeme.TheVariants.{Symbol as Sign, Word, Number}
use Rattle.gp_grammar.specs.declared.semiring_name.SemiringName.{SemiringName}
use Rattle.gp_grammar.specs.declared.semiring_name.SemiringName.TheVariants as semiring
use Rattle.gp_grammar.specs.declared.token_kind.TokenKind.{TokenKind}
use Rattle.gp_grammar.specs.declared.token_kind.TokenKind.TheVariants as token
use Rattle.gp_grammar.specs.declared.limits.TheConstants.{MAX_PATTERN_NUMBER}
use Rattle.gp_grammar.specs.Syntax as y
use Rattle.gp_grammar.specs.Syntax.{Lexemes, Bytes, Term, Command, Point, Pattern, Rule, rule_of, Rules, How, Query, LogChange, Subject, Side, BareQuestion, Question}
use Rattle.gp_grammar.specs.CommandGrammar.{IsList, comma, IsWhere, IsQuery, IsStatement, Closed, is_number_without_zero}

pub data IsPoint : Lexemes → Point → Type 0 where
  as_of : (v : ℕ) → IsPoint (Sign s.As ∷ Word (codes "of") ∷ Number v ∷ []) (y.as_of v)
  after : (t k : ℕ) → IsPoint (Word (codes "reenact") ∷ Number t ∷ Word (codes "after") ∷ Number k ∷ []) (y.after t k)
  commit : (t : ℕ) → IsPoint (Word (codes "reenact") ∷ Number t ∷ Sign s.Commit ∷ []) (y.Point.commit t)

pub data IsSemiring : Lexemes → SemiringName → Type 0 where
  count : IsSemiring (Word (codes "count") ∷ []) semiring.Count
  bool : IsSemiring (Word (codes "bool") ∷ []) semiring.Bool
  cost : IsSemiring (Word (codes "cost") ∷ []) semiring.Cost
  level : IsSemiring (Word (codes "level") ∷ []) semiring.Level
  poly : IsSemiring (Word (codes "poly") ∷ []) semiring.Poly
  witness : IsSemiring (Word (codes "witness") ∷ []) semiring.Witness

-- i, q or u
abbrev pub token_kind_of : ℕ → Option TokenKind
token_kind_of b = if b == 105 then Some token.I else (if b == 113 then Some token.Q else (if b == 117 then Some token.U else None))

abbrev pub with_transaction : Option TokenKind → Bytes → Option (TokenKind × Option ℕ)
with_transaction None digits = None
with_transaction (Some kind) [] = Some (kind, None)
with_transaction (Some kind) (d ∷ ds) =
    if is_number_without_zero (d ∷ ds) && nat_lt (digits_value 10 (d ∷ ds)) (10 ^ 9) then Some (kind, Some (digits_value 10 (d ∷ ds))) else None

-- what a name means in a pattern: a kind, or a kind and a transaction of one to nine digits without leading zero
abbrev pub pattern_name : Bytes → Option (TokenKind × Option ℕ)
pattern_name [] = None
pattern_name (b ∷ digits) = with_transaction (token_kind_of b) digits

-- the tokens of a kind, of a transaction, of a statement, or of one row of an INSERT with VALUES
pub data IsPattern : Lexemes → Pattern → Type 0 where
  kind : (name : Bytes) (kind : TokenKind) → pattern_name name ≡ Some (kind, None)
      → IsPattern (Word name ∷ []) (record { kind = kind; t = None; k = None; n = None })
  transaction : (name : Bytes) (kind : TokenKind) (t : ℕ) → pattern_name name ≡ Some (kind, Some t)
      → IsPattern (Word name ∷ []) (record { kind = kind; t = Some t; k = None; n = None })
  statement : (name : Bytes) (kind : TokenKind) (t k : ℕ) → pattern_name name ≡ Some (kind, Some t) → k ≤ MAX_PATTERN_NUMBER
      → IsPattern (Word name ∷ Sign s.Dot ∷ Number k ∷ []) (record { kind = kind; t = Some t; k = Some k; n = None })
  row : (name : Bytes) (t k n : ℕ) → pattern_name name ≡ Some (token.I, Some t) → k ≤ MAX_PATTERN_NUMBER → n ≤ MAX_PATTERN_NUMBER
      → IsPattern (Word name ∷ Sign s.Dot ∷ Number k ∷ Sign s.Dot ∷ Number n ∷ []) (record { kind = token.I; t = Some t; k = Some k; n = Some n })

pub data IsRule : Lexemes → Rule → Type 0 where
  rule : (a : Lexemes) (pattern : Pattern) (value : ℕ) → IsPattern a pattern → IsRule (a ++ (Sign s.Eq ∷ Number value ∷ [])) (rule_of pattern value)

pub data IsRules : Lexemes → Rules → Type 0 where
  no_rules : IsRules [] (record { rules = []; other = None })
  only_else : (n : ℕ) → IsRules (Sign s.Open ∷ Sign s.Else ∷ Number n ∷ Sign s.Close ∷ []) (record { rules = []; other = Some n })
  only_rules : (a : Lexemes) (xs : List Rule) → IsList comma IsRule a xs
      → IsRules (Sign s.Open ∷ (a ++ (Sign s.Close ∷ []))) (record { rules = xs; other = None })
  rules_and_else : (a : Lexemes) (xs : List Rule) (n : ℕ) → IsList comma IsRule a xs
      → IsRules (Sign s.Open ∷ (a ++ (Sign s.Comma ∷ Sign s.Else ∷ Number n ∷ Sign s.Close ∷ []))) (record { rules = xs; other = Some n })

-- tokens that are left out have the value 0
pub data IsLeftOut : Lexemes → Rule → Type 0 where
  left_out : (a : Lexemes) (pattern : Pattern) → IsPattern a pattern → IsLeftOut a (rule_of pattern 0)

pub data IsHow : Lexemes → How → Type 0 where
  rows : IsHow [] y.rows
  provenance : IsHow (Word (codes "provenance") ∷ Word (codes "of") ∷ []) y.provenance
  explain : IsHow (Word (codes "explain") ∷ []) (y.explain false)
  explain_provenance : IsHow (Word (codes "explain") ∷ Word (codes "provenance") ∷ Word (codes "of") ∷ []) (y.explain true)
  value : (a b : Lexemes) (semiring : SemiringName) (rules : Rules) → IsSemiring a semiring → IsRules b rules
      → IsHow (Word (codes "value") ∷ Word (codes "in") ∷ (a ++ (b ++ (Word (codes "of") ∷ [])))) (y.value semiring rules.rules rules.other)
  without : (a : Lexemes) (rules : List Rule) → IsList comma IsLeftOut a rules
      → IsHow (Word (codes "without") ∷ (a ++ (Word (codes "of") ∷ []))) (y.without rules)

pub data IsSaw : Lexemes → Subject → Type 0 where
  saw : (t k : ℕ) → IsSaw (Word (codes "saw") ∷ Number t ∷ Word (codes "after") ∷ Number k ∷ []) (y.saw t k)

pub data IsSubject : Lexemes → Subject → Type 0 where
  of_state : (a b : Lexemes) (how : How) (state : Point) → IsHow a how → IsPoint b state → IsSubject (a ++ b) (y.of_state how state)
  of_saw : (a : Lexemes) (subject : Subject) → IsSaw a subject → IsSubject a subject

pub data IsChange : Lexemes → LogChange → Type 0 where
  drop : (t k : ℕ) → IsChange (Word (codes "drop") ∷ Number t ∷ Number k ∷ []) (y.drop t k)
  drop_all : (t : ℕ) → IsChange (Word (codes "drop") ∷ Number t ∷ []) (y.drop_all t)
  replace : (t k : ℕ) (a : Lexemes) (x : Command) → IsStatement a x
      → IsChange (Word (codes "replace") ∷ Number t ∷ Number k ∷ Word (codes "by") ∷ Sign s.Open ∷ (a ++ (Sign s.Close ∷ []))) (y.replace t k x)
  add : (t : ℕ) (a : Lexemes) (x : Command) → IsStatement a x
      → IsChange (Word (codes "add") ∷ Number t ∷ Word (codes "by") ∷ Sign s.Open ∷ (a ++ (Sign s.Close ∷ []))) (y.add t x)

abbrev pub IsChanges : Lexemes → List LogChange → Type 0
IsChanges = IsList comma IsChange

-- the rows of a state, or those that are left without some tokens
pub data IsKeptHow : Lexemes → How → Type 0 where
  all : IsKeptHow [] y.rows
  remaining : (a : Lexemes) (rules : List Rule) → IsList comma IsLeftOut a rules
      → IsKeptHow (Word (codes "without") ∷ (a ++ (Word (codes "of") ∷ []))) (y.without rules)

pub data IsKept : Lexemes → Subject → Type 0 where
  kept : (a b : Lexemes) (how : How) (state : Point) → IsKeptHow a how → IsPoint b state → IsKept (a ++ b) (y.of_state how state)

-- what a side may be about
pub data IsSideSubject : Lexemes → Subject → Type 0 where
  kept_side : (a : Lexemes) (subject : Subject) → IsKept a subject → IsSideSubject a subject
  saw_side : (a : Lexemes) (subject : Subject) → IsSaw a subject → IsSideSubject a subject

pub data IsSide : Lexemes → Side → Type 0 where
  as_is : (a : Lexemes) (subject : Subject) → IsSideSubject a subject → IsSide a (y.as_is subject)
  changed : (a b : Lexemes) (changes : List LogChange) (subject : Subject) → IsChanges a changes → IsSideSubject b subject
      → IsSide (Word (codes "whatif") ∷ (a ++ (Word (codes "of") ∷ b))) (y.changed changes subject)

pub data IsBareQuestion : Lexemes → BareQuestion → Type 0 where
  transactions : IsBareQuestion (Word (codes "transactions") ∷ []) y.transactions
  log : (t : ℕ) → IsBareQuestion (Word (codes "log") ∷ Number t ∷ []) (y.log t)
  versions : (table : Bytes) → IsBareQuestion (Word (codes "versions") ∷ Word (codes "of") ∷ Word table ∷ []) (y.versions table)
  changes : (t k : ℕ) → IsBareQuestion (Word (codes "changes") ∷ Number t ∷ Number k ∷ []) (y.changes t k)
  commit_changes : (t : ℕ) → IsBareQuestion (Word (codes "changes") ∷ Number t ∷ Sign s.Commit ∷ []) (y.commit_changes t)
  conflicts : (t : ℕ) → IsBareQuestion (Word (codes "conflicts") ∷ Number t ∷ []) (y.conflicts t)
  serial : IsBareQuestion (Word (codes "serial") ∷ []) y.serial
  anomalies : IsBareQuestion (Word (codes "anomalies") ∷ []) y.anomalies
  check : IsBareQuestion (Word (codes "check") ∷ []) y.check

pub data IsOpenQuestion : Lexemes → Question → Type 0 where
  bare : (a : Lexemes) (question : BareQuestion) → IsBareQuestion a question → IsOpenQuestion a (y.bare question)
  history : (table : Bytes) (a : Lexemes) (cond : Option Term) → IsWhere a cond
      → IsOpenQuestion (Word (codes "history") ∷ Word (codes "of") ∷ Word table ∷ a) (y.history table cond)
  when : (a : Lexemes) (query : Query) → IsQuery a query → IsOpenQuestion (Sign s.When ∷ a) (y.when query)
  diff : (a b c : Lexemes) (first second : Side) (query : Query) → IsSide a first → IsSide b second → IsQuery c query
      → IsOpenQuestion (Word (codes "diff") ∷ (a ++ (Word (codes "to") ∷ (b ++ c)))) (y.diff first second query)
  causes : (a b : Lexemes) (subject : Subject) (query : Query) → IsKept a subject → IsQuery b query
      → IsOpenQuestion (Word (codes "causes") ∷ Word (codes "of") ∷ (a ++ b)) (y.causes subject query)
  ask : (a b : Lexemes) (subject : Subject) (query : Query) → IsSubject a subject → IsQuery b query → IsOpenQuestion (a ++ b) (y.ask subject query)
  what_if : (a b c : Lexemes) (changes : List LogChange) (subject : Subject) (query : Query) → IsChanges a changes → IsSubject b subject → IsQuery c query
      → IsOpenQuestion (Word (codes "whatif") ∷ (a ++ (Word (codes "of") ∷ (b ++ c)))) (y.what_if changes subject query)
  explain_saw : (t k : ℕ) (a : Lexemes) (query : Query) → IsQuery a query
      → IsOpenQuestion (Word (codes "explain") ∷ Word (codes "saw") ∷ Number t ∷ Word (codes "after") ∷ Number k ∷ a) (y.explain_saw t k query)

-- the lexemes are a question
abbrev pub IsQuestion : Lexemes → Question → Type 0
IsQuestion = Closed IsOpenQuestion
