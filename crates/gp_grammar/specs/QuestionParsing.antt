-- Machinery: the parser of questions as a function.
use Rattle.std.specs.Prelude.{ℕ, zero, suc, Bool, true, false, List, [], ◌∷◌, length, Option, Some, None, Ok, Err, codes, if◌then◌else◌, nat_le}
use Rattle.gp_lexer.specs.declared.lexeme.Symbol.TheVariants as s
use Rattle.gp_lexer.specs.declared.lexeme.Lexeme.TheVariants.{Symbol as Sign, Word, Number, Big, Text}
use Rattle.gp_grammar.specs.declared.semiring_name.SemiringName.{SemiringName}
use Rattle.gp_grammar.specs.declared.semiring_name.SemiringName.TheVariants as semiring
use Rattle.gp_grammar.specs.declared.token_kind.TokenKind.{TokenKind}
use Rattle.gp_grammar.specs.declared.token_kind.TokenKind.TheVariants as token
use Rattle.gp_grammar.specs.declared.limits.TheConstants.{MAX_PATTERN_NUMBER}
use Rattle.gp_grammar.specs.Syntax as y
use Rattle.gp_grammar.specs.Syntax.{Lexemes, Bytes, Command, Point, Pattern, Rule, rule_of, Rules, How, Query, LogChange, Subject, Side, Question}
use Rattle.gp_grammar.specs.QuestionGrammar.{pattern_name}
use Rattle.gp_grammar.specs.Parsing.{Parser, ◌>>=◌, by_option, expect, identifier}
use Rattle.gp_grammar.specs.CommandParsing.{◌then◌, where_next, fail, accept, where_word, expect_word, push, separated, in_brackets, condition, query, statement, closed}

-- ---- numbers

-- a number for which the test holds
abbrev pub number_if : (ℕ → Bool) → Parser ℕ
number_if fits [] = Err []
number_if fits (Number n ∷ ts) = if fits n then Ok (n, ts) else Err (Number n ∷ ts)
number_if fits (Sign symbol ∷ ts) = Err (Sign symbol ∷ ts)
number_if fits (Word word ∷ ts) = Err (Word word ∷ ts)
number_if fits (Big ∷ ts) = Err (Big ∷ ts)
number_if fits (Text bytes ∷ ts) = Err (Text bytes ∷ ts)

abbrev pub number : Parser ℕ
number = number_if (λ n. true)

-- ---- questions

unfoldable pub state : Parser Point
state = where_next s.As (expect_word (codes "of") (λ ts. number ts >>= (λ v. Ok (y.as_of v.0, v.1))))
    (expect_word (codes "reenact") (λ ts. number ts >>= (λ t. where_next s.Commit (accept (y.Point.commit t.0))
    (expect_word (codes "after") (λ rest. number rest >>= (λ k. Ok (y.after t.0 k.0, k.1)))) t.1)))

unfoldable pub semiring_name : Parser SemiringName
semiring_name = where_word (codes "count") (accept semiring.Count) (where_word (codes "bool") (accept semiring.Bool)
    (where_word (codes "cost") (accept semiring.Cost) (where_word (codes "level") (accept semiring.Level)
    (where_word (codes "poly") (accept semiring.Poly) (where_word (codes "witness") (accept semiring.Witness) fail)))))

abbrev pub pattern_number : Parser ℕ
pattern_number = number_if (λ n. nat_le n MAX_PATTERN_NUMBER)

abbrev pub pattern_of : TokenKind → Option ℕ → Option ℕ → Option ℕ → Pattern
pattern_of kind t k n = record { kind = kind; t = t; k = k; n = n }

-- only a pattern of kind i may have a third number
abbrev pub pattern_row : TokenKind → ℕ → ℕ → Parser Pattern
pattern_row token.I t k = where_next s.Dot (λ ts. pattern_number ts >>= (λ n. Ok (pattern_of token.I (Some t) (Some k) (Some n.0), n.1)))
    (accept (pattern_of token.I (Some t) (Some k) None))
pattern_row token.Q t k = accept (pattern_of token.Q (Some t) (Some k) None)
pattern_row token.U t k = accept (pattern_of token.U (Some t) (Some k) None)

-- after the name of a pattern
abbrev pub pattern_parts : TokenKind × Option ℕ → Parser Pattern
pattern_parts (kind, None) = accept (pattern_of kind None None None)
pattern_parts (kind, Some t) =
    where_next s.Dot (λ ts. pattern_number ts >>= (λ k. pattern_row kind t k.0 k.1)) (accept (pattern_of kind (Some t) None None))

abbrev pub pattern : Parser Pattern
pattern [] = Err []
pattern (Word name ∷ ts) = by_option (pattern_name name) (Err (Word name ∷ ts)) (λ kind. pattern_parts kind ts)
pattern (Sign symbol ∷ ts) = Err (Sign symbol ∷ ts)
pattern (Number n ∷ ts) = Err (Number n ∷ ts)
pattern (Big ∷ ts) = Err (Big ∷ ts)
pattern (Text bytes ∷ ts) = Err (Text bytes ∷ ts)

unfoldable pub rule : Parser Rule
rule ts = do
  pattern ← pattern ts
  rest ← expect s.Eq pattern.1
  value ← number rest
  Ok (rule_of pattern.0 value.0, value.1)

-- after ELSE: its number, and the end of the rules
abbrev pub else_number : List Rule → Parser Rules
else_number found ts = number ts >>= (λ n. (s.Close then accept (record { rules = found; other = Some n.0 })) n.1)

-- after an opening bracket or a comma, with at most so many rules; after a comma ELSE may follow too
unfoldable pub rules_within : ℕ → List Rule → Parser Rules
rules_within zero found ts = Err ts
rules_within (suc n) found ts =
    rule ts >>= (λ r. where_next s.Comma (where_next s.Else (else_number (push found r.0)) (rules_within n (push found r.0)))
    (s.Close then accept (record { rules = push found r.0; other = None })) r.1)

unfoldable pub rules_from : List Rule → Parser Rules
rules_from found ts = rules_within (suc (length ts)) found ts

unfoldable pub rules : Parser Rules
rules = where_next s.Open (where_next s.Else (else_number []) (rules_from [])) (accept (record { rules = []; other = None }))

unfoldable pub value : Parser How
value = expect_word (codes "in") (λ ts. do
  semiring ← semiring_name ts
  rules ← rules semiring.1
  expect_word (codes "of") (accept (y.value semiring.0 rules.0.rules rules.0.other)) rules.1)

unfoldable pub left_out : Parser Rule
left_out ts = pattern ts >>= (λ p. Ok (rule_of p.0 0, p.1))

unfoldable pub without : Parser How
without ts = separated left_out ts >>= (λ rules. expect_word (codes "of") (accept (y.without rules.0)) rules.1)

-- after EXPLAIN
abbrev pub explained : Parser How
explained = where_word (codes "provenance") (expect_word (codes "of") (accept (y.explain true))) (accept (y.explain false))

unfoldable pub how : Parser How
how = where_word (codes "explain") explained
    (where_word (codes "provenance") (expect_word (codes "of") (accept y.provenance))
    (where_word (codes "value") value (where_word (codes "without") without (accept y.rows))))

unfoldable pub kept_how : Parser How
kept_how = where_word (codes "without") without (accept y.rows)

-- ---- subjects

-- a state, after what is asked for of it
unfoldable pub of_state : Parser How → Parser Subject
of_state how ts = do
  how ← how ts
  state ← state how.1
  Ok (y.of_state how.0 state.0, state.1)

-- after SAW: a transaction and how many of its statements
unfoldable pub saw_numbers : Parser (ℕ × ℕ)
saw_numbers ts = number ts >>= (λ t. expect_word (codes "after") (λ rest. number rest >>= (λ k. Ok ((t.0, k.0), k.1))) t.1)

unfoldable pub saw : Parser Subject
saw ts = saw_numbers ts >>= (λ n. Ok (y.saw n.0.0 n.0.1, n.1))

unfoldable pub subject : Parser Subject
subject = where_word (codes "saw") saw (of_state how)

abbrev pub kept : Parser Subject
kept = of_state kept_how

unfoldable pub side_subject : Parser Subject
side_subject = where_word (codes "saw") saw kept

-- a query, after the subject that it is asked of
unfoldable pub asked_of : (Subject → Query → Question) → Parser Subject → Parser Question
asked_of question subject ts = do
  subject ← subject ts
  query ← query subject.1
  Ok (question subject.0 query.0, query.1)

-- ---- changes

abbrev pub by_statement : Parser Command
by_statement = expect_word (codes "by") (in_brackets statement)

-- after DROP and a transaction: the number of a statement or none
abbrev pub dropped_from : ℕ → Parser LogChange
dropped_from t [] = Ok (y.drop_all t, [])
dropped_from t (Number k ∷ ts) = Ok (y.drop t k, ts)
dropped_from t (Sign symbol ∷ ts) = Ok (y.drop_all t, Sign symbol ∷ ts)
dropped_from t (Word word ∷ ts) = Ok (y.drop_all t, Word word ∷ ts)
dropped_from t (Big ∷ ts) = Ok (y.drop_all t, Big ∷ ts)
dropped_from t (Text bytes ∷ ts) = Ok (y.drop_all t, Text bytes ∷ ts)

unfoldable pub dropped : Parser LogChange
dropped ts = number ts >>= (λ t. dropped_from t.0 t.1)

unfoldable pub replaced : Parser LogChange
replaced ts = do
  t ← number ts
  k ← number t.1
  statement ← by_statement k.1
  Ok (y.replace t.0 k.0 statement.0, statement.1)

unfoldable pub added : Parser LogChange
added ts = do
  t ← number ts
  statement ← by_statement t.1
  Ok (y.add t.0 statement.0, statement.1)

unfoldable pub change : Parser LogChange
change = where_word (codes "drop") dropped (where_word (codes "replace") replaced (expect_word (codes "add") added))

abbrev pub changes_of : Parser (List LogChange)
changes_of = separated change

-- ---- sides

unfoldable pub as_is_side : Parser Side
as_is_side ts = side_subject ts >>= (λ subject. Ok (y.as_is subject.0, subject.1))

unfoldable pub changed_side : Parser Side
changed_side ts = changes_of ts
    >>= (λ changes. expect_word (codes "of") (λ rest. side_subject rest >>= (λ subject. Ok (y.changed changes.0 subject.0, subject.1))) changes.1)

unfoldable pub side : Parser Side
side = where_word (codes "whatif") changed_side as_is_side

-- ---- questions

unfoldable pub what_if : Parser Question
what_if ts = changes_of ts >>= (λ changes. expect_word (codes "of") (asked_of (y.what_if changes.0) subject) changes.1)

-- after EXPLAIN SAW
unfoldable pub explained_saw : Parser Question
explained_saw ts = saw_numbers ts >>= (λ n. query n.1 >>= (λ query. Ok (y.explain_saw n.0.0 n.0.1 query.0, query.1)))

unfoldable pub changes : Parser Question
changes ts = number ts >>= (λ t. where_next s.Commit (accept (y.bare (y.commit_changes t.0))) (λ rest. number rest >>= (λ k. Ok (y.bare (y.changes t.0 k.0), k.1))) t.1)

-- after HISTORY OF
unfoldable pub history : Parser Question
history ts = do
  table ← identifier ts
  cond ← condition table.1
  Ok (y.history table.0 cond.0, cond.1)

unfoldable pub when : Parser Question
when ts = query ts >>= (λ query. Ok (y.when query.0, query.1))

-- behind the first side
unfoldable pub second_side : Side → Parser Question
second_side first ts = do
  second ← side ts
  query ← query second.1
  Ok (y.diff first second.0 query.0, query.1)

unfoldable pub diff : Parser Question
diff ts = side ts >>= (λ first. expect_word (codes "to") (second_side first.0) first.1)

abbrev pub versions_of : Parser Question
versions_of = expect_word (codes "of") (λ ts. identifier ts >>= (λ table. Ok (y.bare (y.versions table.0), table.1)))

-- a question, by its first word; each of these takes what the words before it do not
abbrev pub from_explain : Parser Question
from_explain = where_word (codes "explain") (where_word (codes "saw") explained_saw (asked_of y.ask (of_state explained))) (asked_of y.ask subject)

abbrev pub from_what_if : Parser Question
from_what_if = where_word (codes "whatif") what_if from_explain

abbrev pub from_causes : Parser Question
from_causes = where_word (codes "causes") (expect_word (codes "of") (asked_of y.causes kept)) from_what_if

abbrev pub from_diff : Parser Question
from_diff = where_word (codes "diff") diff from_causes

abbrev pub from_check : Parser Question
from_check = where_word (codes "check") (accept (y.bare y.check)) from_diff

abbrev pub from_anomalies : Parser Question
from_anomalies = where_word (codes "anomalies") (accept (y.bare y.anomalies)) from_check

abbrev pub from_serial : Parser Question
from_serial = where_word (codes "serial") (accept (y.bare y.serial)) from_anomalies

abbrev pub from_when : Parser Question
from_when = where_next s.When when from_serial

abbrev pub from_history : Parser Question
from_history = where_word (codes "history") (expect_word (codes "of") history) from_when

abbrev pub from_conflicts : Parser Question
from_conflicts = where_word (codes "conflicts") (λ ts. number ts >>= (λ t. Ok (y.bare (y.conflicts t.0), t.1))) from_history

abbrev pub from_changes : Parser Question
from_changes = where_word (codes "changes") changes from_conflicts

abbrev pub from_transactions : Parser Question
from_transactions = where_word (codes "transactions") (accept (y.bare y.transactions)) from_changes

abbrev pub from_versions : Parser Question
from_versions = where_word (codes "versions") versions_of from_transactions

unfoldable pub open_question : Parser Question
open_question = where_word (codes "log") (λ ts. number ts >>= (λ t. Ok (y.bare (y.log t.0), t.1))) from_versions

abbrev pub question : Parser Question
question = closed open_question
