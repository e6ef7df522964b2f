-- No lexeme after a fault matters to the parser of questions.
use Rattle.gp_grammar.proofs.Prelude.{ap, Outcome, Option, by_option, cond, Bool, ◌≡◌, ℕ, zero, suc, true, false, List, [], ◌∷◌, Some, None, Ok, Err, refl, codes, nat_le, Lexeme, Sign, Word, Number, Big, Text, TokenKind, MAX_PATTERN_NUMBER, Lexemes, Bytes, Point, Rule, rule_of, Rules, How, Query, Subject, Side, Question, pattern_name, Parser, ◌>>=◌, identifier, ◌then◌, where_next, fail, accept, where_word, expect_word, push, separated, in_brackets, condition, query, statement, number, pattern_of}
use Rattle.gp_lexer.specs.declared.lexeme.Symbol.TheVariants as s
use Rattle.gp_grammar.specs.declared.semiring_name.SemiringName.TheVariants as semiring
use Rattle.gp_grammar.specs.declared.token_kind.TokenKind.TheVariants as token
use Rattle.gp_grammar.specs.Syntax as syntax
use Rattle.gp_grammar.specs.QuestionParsing as q
use Rattle.gp_grammar.proofs.QuestionCompleteness.{after_rule, rules_from-unfolds, shrinks-change, shrinks-left_out}
use Rattle.gp_grammar.proofs.Locality.{Local, Step, goes, stays, local-zero, local-first-all, local-ok, local-bind, local-err, local-expect, local-identifier, local-same}
use Rattle.gp_grammar.proofs.LocalCombinators.{local-next, local-next-all, local-word-all, local-number, local-separated, local-in_brackets, local-closed}
use Rattle.gp_grammar.proofs.CommandLocality.{local-condition, local-query, local-statement}

module _ (t : Lexeme) (m m' : Lexemes) where
  abbrev IsLocal : {A : Type 0} → Parser A → Type 0
  IsLocal p = (n : ℕ) → Local t m m' n p

  is_local-ok : {A : Type 0} (x : A) → IsLocal (accept x)
  is_local-ok x n = local-ok t m m' n x

  is_local-fail : {A : Type 0} → IsLocal {A = A} fail
  is_local-fail n = local-err t m m' n

  is_local-bind : {A B : Type 0} (p : Parser A) (f : A × Lexemes → Outcome (B × Lexemes)) → IsLocal p → ((x : A) → IsLocal (λ ts. f (x, ts))) → IsLocal (λ ts. p ts >>= f)
  is_local-bind p f w k n = local-bind t m m' n p f (w n) (λ x. k x n)

  is_local-expect : {A : Type 0} (text : Bytes) (p : Parser A) → IsLocal p → IsLocal (expect_word text p)
  is_local-expect text p w = local-word-all t m m' text p fail w is_local-fail

  is_local-number : IsLocal number
  is_local-number n = local-number t m m' n (λ n. true)

  is_local-pattern_number : IsLocal q.pattern_number
  is_local-pattern_number n = local-number t m m' n (λ n. nat_le n MAX_PATTERN_NUMBER)

  is_local-state : IsLocal q.state
  unfolding q.state
  is_local-state = local-next-all t m m' s.As (expect_word (codes "of") (λ ts. number ts >>= (λ v. Ok (syntax.as_of v.0, v.1))))
      (expect_word (codes "reenact") (λ ts. number ts >>= (λ t. where_next s.Commit (accept (syntax.Point.commit t.0))
      (expect_word (codes "after") (λ rest. number rest >>= (λ k. Ok (syntax.after t.0 k.0, k.1)))) t.1)))
      (is_local-expect (codes "of") _ (is_local-bind number _ is_local-number (λ v. is_local-ok (syntax.as_of v))))
      (is_local-expect (codes "reenact") _ (is_local-bind number _ is_local-number (λ x. local-next-all t m m' s.Commit (accept (syntax.Point.commit x))
      (expect_word (codes "after") (λ rest. number rest >>= (λ k. Ok (syntax.after x k.0, k.1)))) (is_local-ok (syntax.Point.commit x))
      (is_local-expect (codes "after") _ (is_local-bind number _ is_local-number (λ k. is_local-ok (syntax.after x k)))))))

  is_local-semiring : IsLocal q.semiring_name
  unfolding q.semiring_name
  is_local-semiring = local-word-all t m m' (codes "count") _ _ (is_local-ok semiring.Count) (local-word-all t m m' (codes "bool") _ _ (is_local-ok semiring.Bool)
      (local-word-all t m m' (codes "cost") _ _ (is_local-ok semiring.Cost) (local-word-all t m m' (codes "level") _ _ (is_local-ok semiring.Level)
      (local-word-all t m m' (codes "poly") _ _ (is_local-ok semiring.Poly)
      (local-word-all t m m' (codes "witness") (accept semiring.Witness) fail (is_local-ok semiring.Witness) is_local-fail)))))

  is_local-row : (kind : TokenKind) (x k : ℕ) → IsLocal (q.pattern_row kind x k)
  is_local-row token.I x k = local-next-all t m m' s.Dot (λ ts. q.pattern_number ts >>= (λ n. Ok (pattern_of token.I (Some x) (Some k) (Some n.0), n.1)))
      (accept (pattern_of token.I (Some x) (Some k) None))
      (is_local-bind q.pattern_number _ is_local-pattern_number (λ n. is_local-ok (pattern_of token.I (Some x) (Some k) (Some n)))) (is_local-ok (pattern_of token.I (Some x) (Some k) None))
  is_local-row token.Q x k = is_local-ok (pattern_of token.Q (Some x) (Some k) None)
  is_local-row token.U x k = is_local-ok (pattern_of token.U (Some x) (Some k) None)

  is_local-parts : (p : TokenKind × Option ℕ) → IsLocal (q.pattern_parts p)
  is_local-parts (kind, None) = is_local-ok (pattern_of kind None None None)
  is_local-parts (kind, Some x) = local-next-all t m m' s.Dot (λ ts. q.pattern_number ts >>= (λ k. q.pattern_row kind x k.0 k.1)) (accept (pattern_of kind (Some x) None None))
      (is_local-bind q.pattern_number _ is_local-pattern_number (λ k. is_local-row kind x k)) (is_local-ok (pattern_of kind (Some x) None None))

  pattern-step : (n : ℕ) (x : Lexeme) → Step t m m' n q.pattern fail x
  pattern-step n (Word name) = by (pattern_name name) refl
    where
      by : (o : Option (TokenKind × Option ℕ)) → pattern_name name ≡ o → Step t m m' n q.pattern fail (Word name)
      by None e = stays (λ ts. ap (λ o. by_option o (Err (Word name ∷ ts)) (λ kind. q.pattern_parts kind ts)) e)
      by (Some kind) e = goes (q.pattern_parts kind) (λ ts. ap (λ o. by_option o (Err (Word name ∷ ts)) (λ kind. q.pattern_parts kind ts)) e) (is_local-parts kind n)
  pattern-step n (Sign symbol) = stays (λ ts. refl)
  pattern-step n (Number k) = stays (λ ts. refl)
  pattern-step n Big = stays (λ ts. refl)
  pattern-step n (Text bytes) = stays (λ ts. refl)

  is_local-pattern : IsLocal q.pattern
  is_local-pattern = local-first-all t m m' q.pattern fail refl pattern-step is_local-fail

  is_local-rule : IsLocal q.rule
  unfolding q.rule
  is_local-rule = is_local-bind q.pattern _ is_local-pattern (λ p n. local-expect t m m' n s.Eq _ (is_local-bind number _ is_local-number (λ k. is_local-ok (rule_of p k)) n))

  is_local-else : (found : List Rule) → IsLocal (q.else_number found)
  is_local-else found = is_local-bind number _ is_local-number (λ k n. local-expect t m m' n s.Close (accept (record { rules = found; other = Some k })) (local-ok t m m' n _))

  is_local-end : (found : List Rule) → IsLocal {A = Rules} (s.Close then accept (record { rules = found; other = None }))
  is_local-end found n = local-expect t m m' n s.Close (accept (record { rules = found; other = None })) (local-ok t m m' n _)

  -- after a comma, where what follows is local below the bound
  else-below : (n : ℕ) (found : List Rule) → Local t m m' n (q.rules_from found) → Local t m m' n (where_next s.Else (q.else_number found) (q.rules_from found))
  else-below zero found w = local-zero t m m' (where_next s.Else (q.else_number found) (q.rules_from found))
  else-below (suc n) found w = local-next t m m' n s.Else (q.else_number found) (q.rules_from found) (is_local-else found n) w

  local-rules_from : (n : ℕ) (found : List Rule) → Local t m m' n (q.rules_from found)
  local-rules_from zero found = local-zero t m m' (q.rules_from found)
  local-rules_from (suc n) found = local-same t m m' (suc n) (λ ts. q.rule ts >>= (λ r. after_rule (push found r.0) r.1)) (q.rules_from found) (rules_from-unfolds found)
      (local-bind t m m' (suc n) q.rule _ (is_local-rule (suc n)) (λ x. local-next t m m' n s.Comma (where_next s.Else (q.else_number (push found x)) (q.rules_from (push found x)))
      (s.Close then accept (record { rules = push found x; other = None })) (else-below n (push found x) (local-rules_from n (push found x))) (is_local-end (push found x) (suc n))))

  is_local-rules : IsLocal q.rules
  unfolding q.rules
  is_local-rules = local-next-all t m m' s.Open (where_next s.Else (q.else_number []) (q.rules_from [])) (accept (record { rules = []; other = None }))
      (local-next-all t m m' s.Else (q.else_number []) (q.rules_from []) (is_local-else []) (λ n. local-rules_from n [])) (is_local-ok (record { rules = []; other = None }))

  is_local-value : IsLocal q.value
  unfolding q.value
  is_local-value = is_local-expect (codes "in") _ (is_local-bind q.semiring_name _ is_local-semiring (λ k. is_local-bind q.rules _ is_local-rules
      (λ r. is_local-expect (codes "of") (accept (syntax.value k r.rules r.other)) (is_local-ok (syntax.value k r.rules r.other)))))

  is_local-left_out : IsLocal q.left_out
  unfolding q.left_out
  is_local-left_out = is_local-bind q.pattern _ is_local-pattern (λ p. is_local-ok (rule_of p 0))

  is_local-without : IsLocal q.without
  unfolding q.without
  is_local-without = is_local-bind (separated q.left_out) _ (λ n. local-separated t m m' q.left_out shrinks-left_out n (is_local-left_out n))
      (λ xs. is_local-expect (codes "of") (accept (syntax.without xs)) (is_local-ok (syntax.without xs)))

  is_local-explained : IsLocal q.explained
  is_local-explained = local-word-all t m m' (codes "provenance") _ _ (is_local-expect (codes "of") (accept (syntax.explain true)) (is_local-ok (syntax.explain true))) (is_local-ok (syntax.explain false))

  is_local-how : IsLocal q.how
  unfolding q.how
  is_local-how = local-word-all t m m' (codes "explain") q.explained _ is_local-explained
      (local-word-all t m m' (codes "provenance") _ _ (is_local-expect (codes "of") (accept syntax.provenance) (is_local-ok syntax.provenance))
      (local-word-all t m m' (codes "value") q.value (where_word (codes "without") q.without (accept syntax.rows)) is_local-value
      (local-word-all t m m' (codes "without") q.without (accept syntax.rows) is_local-without (is_local-ok syntax.rows))))

  is_local-kept_how : IsLocal q.kept_how
  unfolding q.kept_how
  is_local-kept_how = local-word-all t m m' (codes "without") q.without (accept syntax.rows) is_local-without (is_local-ok syntax.rows)

  is_local-of_state : (how : Parser How) → IsLocal how → IsLocal (q.of_state how)
  unfolding q.of_state
  is_local-of_state how w = is_local-bind how _ w (λ x. is_local-bind q.state _ is_local-state (λ state. is_local-ok (syntax.of_state x state)))

  is_local-saw_numbers : IsLocal q.saw_numbers
  unfolding q.saw_numbers
  is_local-saw_numbers = is_local-bind number _ is_local-number (λ x. is_local-expect (codes "after") _ (is_local-bind number _ is_local-number (λ k. is_local-ok (x, k))))

  is_local-saw : IsLocal q.saw
  unfolding q.saw
  is_local-saw = is_local-bind q.saw_numbers _ is_local-saw_numbers (λ n. is_local-ok (syntax.saw n.0 n.1))

  is_local-subject : IsLocal q.subject
  unfolding q.subject
  is_local-subject = local-word-all t m m' (codes "saw") q.saw (q.of_state q.how) is_local-saw (is_local-of_state q.how is_local-how)

  is_local-kept : IsLocal q.kept
  is_local-kept = is_local-of_state q.kept_how is_local-kept_how

  is_local-side_subject : IsLocal q.side_subject
  unfolding q.side_subject
  is_local-side_subject = local-word-all t m m' (codes "saw") q.saw q.kept is_local-saw is_local-kept

  is_local-asked_of : (question : Subject → Query → Question) (subject : Parser Subject) → IsLocal subject → IsLocal (q.asked_of question subject)
  unfolding q.asked_of
  is_local-asked_of question subject w = is_local-bind subject _ w (λ x. is_local-bind query _ (λ n. local-query t m m' n) (λ xs. is_local-ok (question x xs)))

  is_local-by_statement : IsLocal q.by_statement
  is_local-by_statement = is_local-expect (codes "by") (in_brackets statement) (λ n. local-in_brackets t m m' statement n (local-statement t m m' n))

  dropped-step : (x : ℕ) (n : ℕ) (y : Lexeme) → Step t m m' n (q.dropped_from x) (accept (syntax.drop_all x)) y
  dropped-step x n (Number k) = goes _ (λ ts. refl) (local-ok t m m' n (syntax.drop x k))
  dropped-step x n (Sign symbol) = stays (λ ts. refl)
  dropped-step x n (Word word) = stays (λ ts. refl)
  dropped-step x n Big = stays (λ ts. refl)
  dropped-step x n (Text bytes) = stays (λ ts. refl)

  is_local-dropped_from : (x : ℕ) → IsLocal (q.dropped_from x)
  is_local-dropped_from x = local-first-all t m m' (q.dropped_from x) (accept (syntax.drop_all x)) refl (dropped-step x) (is_local-ok (syntax.drop_all x))

  is_local-dropped : IsLocal q.dropped
  unfolding q.dropped
  is_local-dropped = is_local-bind number _ is_local-number (λ x. is_local-dropped_from x)

  is_local-replaced : IsLocal q.replaced
  unfolding q.replaced
  is_local-replaced = is_local-bind number _ is_local-number (λ x. is_local-bind number _ is_local-number (λ k.
      is_local-bind q.by_statement _ is_local-by_statement (λ command. is_local-ok (syntax.replace x k command))))

  is_local-added : IsLocal q.added
  unfolding q.added
  is_local-added = is_local-bind number _ is_local-number (λ x. is_local-bind q.by_statement _ is_local-by_statement (λ command. is_local-ok (syntax.add x command)))

  is_local-change : IsLocal q.change
  unfolding q.change
  is_local-change = local-word-all t m m' (codes "drop") q.dropped (where_word (codes "replace") q.replaced (expect_word (codes "add") q.added)) is_local-dropped
      (local-word-all t m m' (codes "replace") q.replaced (expect_word (codes "add") q.added) is_local-replaced (is_local-expect (codes "add") q.added is_local-added))

  is_local-changes_of : IsLocal q.changes_of
  is_local-changes_of n = local-separated t m m' q.change shrinks-change n (is_local-change n)

  is_local-what_if : IsLocal q.what_if
  unfolding q.what_if
  is_local-what_if = is_local-bind q.changes_of _ is_local-changes_of
      (λ changes. is_local-expect (codes "of") (q.asked_of (syntax.what_if changes) q.subject) (is_local-asked_of (syntax.what_if changes) q.subject is_local-subject))

  is_local-as_is_side : IsLocal q.as_is_side
  unfolding q.as_is_side
  is_local-as_is_side = is_local-bind q.side_subject _ is_local-side_subject (λ x. is_local-ok (syntax.as_is x))

  is_local-changed_side : IsLocal q.changed_side
  unfolding q.changed_side
  is_local-changed_side = is_local-bind q.changes_of _ is_local-changes_of
      (λ changes. is_local-expect (codes "of") _ (is_local-bind q.side_subject _ is_local-side_subject (λ x. is_local-ok (syntax.changed changes x))))

  is_local-side : IsLocal q.side
  unfolding q.side
  is_local-side = local-word-all t m m' (codes "whatif") q.changed_side q.as_is_side is_local-changed_side is_local-as_is_side

  is_local-second_side : (first : Side) → IsLocal (q.second_side first)
  unfolding q.second_side
  is_local-second_side first = is_local-bind q.side _ is_local-side (λ second. is_local-bind query _ (λ n. local-query t m m' n) (λ xs. is_local-ok (syntax.diff first second xs)))

  is_local-diff : IsLocal q.diff
  unfolding q.diff
  is_local-diff = is_local-bind q.side _ is_local-side (λ first. is_local-expect (codes "to") (q.second_side first) (is_local-second_side first))

  is_local-versions : IsLocal q.versions_of
  is_local-versions = is_local-expect (codes "of") _ (is_local-bind identifier _ (λ n. local-identifier t m m' n) (λ table. is_local-ok (syntax.bare (syntax.versions table))))

  is_local-changes : IsLocal q.changes
  unfolding q.changes
  is_local-changes = is_local-bind number _ is_local-number (λ x. local-next-all t m m' s.Commit (accept (syntax.bare (syntax.commit_changes x)))
      (λ rest. number rest >>= (λ k. Ok (syntax.bare (syntax.changes x k.0), k.1))) (is_local-ok (syntax.bare (syntax.commit_changes x)))
      (is_local-bind number _ is_local-number (λ k. is_local-ok (syntax.bare (syntax.changes x k)))))

  is_local-history : IsLocal q.history
  unfolding q.history
  is_local-history = is_local-bind identifier _ (λ n. local-identifier t m m' n) (λ table.
      is_local-bind condition _ (λ n. local-condition t m m' n) (λ cond. is_local-ok (syntax.history table cond)))

  is_local-when : IsLocal q.when
  unfolding q.when
  is_local-when = is_local-bind query _ (λ n. local-query t m m' n) (λ xs. is_local-ok (syntax.when xs))

  is_local-explained_saw : IsLocal q.explained_saw
  unfolding q.explained_saw
  is_local-explained_saw = is_local-bind q.saw_numbers _ is_local-saw_numbers (λ n. is_local-bind query _ (λ n. local-query t m m' n) (λ xs. is_local-ok (syntax.explain_saw n.0 n.1 xs)))

  is_local-from_explain : IsLocal q.from_explain
  is_local-from_explain = local-word-all t m m' (codes "explain") (where_word (codes "saw") q.explained_saw (q.asked_of syntax.ask (q.of_state q.explained))) (q.asked_of syntax.ask q.subject)
      (local-word-all t m m' (codes "saw") q.explained_saw (q.asked_of syntax.ask (q.of_state q.explained)) is_local-explained_saw
      (is_local-asked_of syntax.ask (q.of_state q.explained) (is_local-of_state q.explained is_local-explained)))
      (is_local-asked_of syntax.ask q.subject is_local-subject)

  is_local-open_question : IsLocal q.open_question
  unfolding q.open_question
  is_local-open_question = local-word-all t m m' (codes "log") (λ ts. number ts >>= (λ t. Ok (syntax.bare (syntax.log t.0), t.1))) q.from_versions
      (is_local-bind number _ is_local-number (λ x. is_local-ok (syntax.bare (syntax.log x))))
      (local-word-all t m m' (codes "versions") q.versions_of q.from_transactions is_local-versions
      (local-word-all t m m' (codes "transactions") (accept (syntax.bare syntax.transactions)) q.from_changes (is_local-ok (syntax.bare syntax.transactions))
      (local-word-all t m m' (codes "changes") q.changes q.from_conflicts is_local-changes
      (local-word-all t m m' (codes "conflicts") (λ ts. number ts >>= (λ t. Ok (syntax.bare (syntax.conflicts t.0), t.1))) q.from_history
      (is_local-bind number _ is_local-number (λ x. is_local-ok (syntax.bare (syntax.conflicts x))))
      (local-word-all t m m' (codes "history") (expect_word (codes "of") q.history) q.from_when (is_local-expect (codes "of") q.history is_local-history)
      (local-next-all t m m' s.When q.when q.from_serial is_local-when
      (local-word-all t m m' (codes "serial") (accept (syntax.bare syntax.serial)) q.from_anomalies (is_local-ok (syntax.bare syntax.serial))
      (local-word-all t m m' (codes "anomalies") (accept (syntax.bare syntax.anomalies)) q.from_check (is_local-ok (syntax.bare syntax.anomalies))
      (local-word-all t m m' (codes "check") (accept (syntax.bare syntax.check)) q.from_diff (is_local-ok (syntax.bare syntax.check))
      (local-word-all t m m' (codes "diff") q.diff q.from_causes is_local-diff
      (local-word-all t m m' (codes "causes") (expect_word (codes "of") (q.asked_of syntax.causes q.kept)) q.from_what_if
      (is_local-expect (codes "of") (q.asked_of syntax.causes q.kept) (is_local-asked_of syntax.causes q.kept is_local-kept))
      (local-word-all t m m' (codes "whatif") q.what_if q.from_explain is_local-what_if is_local-from_explain))))))))))))

  pub local-question : IsLocal q.question
  local-question n = local-closed t m m' q.open_question n (is_local-open_question n)
