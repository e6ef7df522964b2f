-- Worked examples of the parser, by computation.
use Rattle.gp_grammar.proofs.Prelude.{◌≡◌, negsuc, true, false, [], ◌∷◌, ◌++◌, Some, None, Ok, Err, refl, codes, Sign, Word, Number, Big, Lexemes, MAX_OPEN, is_too_deep, both, shape_of_count, passed_limit, whole, result_ok, command_text}
use Rattle.std.proofs.Common.{replicate}
use Rattle.gp_base.specs.declared.cell.Cell.TheVariants as cell
use Rattle.gp_lexer.specs.declared.lexeme.Symbol.TheVariants as s
use Rattle.gp_lexer.specs.Lexemes.{symbol_text}
use Rattle.gp_grammar.specs.declared.token_kind.TokenKind.TheVariants as token
use Rattle.gp_grammar.specs.Syntax as y
use Rattle.gp_grammar.specs.Limits.{columns, change_count}
use Rattle.gp_grammar.specs.Parsing as p
use Rattle.gp_grammar.specs.CommandParsing as c
use Rattle.gp_grammar.specs.QuestionParsing as q
use Rattle.gp_grammar.specs.LineReading as r
use Rattle.gp_grammar.specs.Reading as f
use Rattle.gp_lexer.specs.Lexing as lex
use Rattle.std.specs.Str.{is_utf8, chars}
use Rattle.std.specs.Option.{option_map}
use Rattle.gp_lexer.specs.Layout.{written}
use Rattle.gp_grammar.specs.Capping as cap

-- after `s1:`, a word that is no command
no_command : whole c.script_line (Word (codes "s1") ∷ Sign s.Colon ∷ Word (codes "selct") ∷ Sign s.Star ∷ Sign s.From ∷ Word (codes "r") ∷ [])
    ≡ Err (Word (codes "selct") ∷ Sign s.Star ∷ Sign s.From ∷ Word (codes "r") ∷ [])
unfolding p.expect
no_command = refl

-- session 65, and a session with a leading zero
no_session : whole c.script_line (Word (codes "s65") ∷ Sign s.Colon ∷ Sign s.Begin ∷ []) ≡ Err (Word (codes "s65") ∷ Sign s.Colon ∷ Sign s.Begin ∷ [])
no_session = refl

leading_zero : whole c.script_line (Word (codes "s01") ∷ Sign s.Colon ∷ Sign s.Begin ∷ []) ≡ Err (Word (codes "s01") ∷ Sign s.Colon ∷ Sign s.Begin ∷ [])
leading_zero = refl

-- `s64: BEGIN;`, and a second semicolon
session_64 : whole c.script_line (Word (codes "s64") ∷ Sign s.Colon ∷ Sign s.Begin ∷ Sign s.Semicolon ∷ []) ≡ Ok (record { session = 64; command = y.begin false })
unfolding p.expect c.begin
session_64 = refl

second_semicolon : whole c.script_line (Word (codes "s1") ∷ Sign s.Colon ∷ Sign s.Begin ∷ Sign s.Semicolon ∷ Sign s.Semicolon ∷ []) ≡ Err (Sign s.Semicolon ∷ [])
unfolding p.expect c.begin
second_semicolon = refl

-- the least number is a sign and the big number, and the big number alone is none
least_number : whole c.command (Sign s.Insert ∷ Sign s.Into ∷ Word (codes "r") ∷ Sign s.Values ∷ Sign s.Open ∷ Sign s.Minus ∷ Big ∷ Sign s.Close ∷ [])
    ≡ Ok (y.insert (codes "r") ((cell.Int (negsuc 9223372036854775807) ∷ []) ∷ []))
unfolding p.expect c.insert c.separated c.tuple c.many c.repeat
least_number = refl

too_big : whole c.command (Sign s.Insert ∷ Sign s.Into ∷ Word (codes "r") ∷ Sign s.Values ∷ Sign s.Open ∷ Big ∷ Sign s.Close ∷ [])
    ≡ Err (Big ∷ Sign s.Close ∷ [])
unfolding p.expect c.insert c.separated c.tuple c.many c.repeat
too_big = refl

-- NOT NOT stops at the second NOT, and two signs at the second one
second_not : whole p.term (Sign s.Not ∷ Sign s.Not ∷ Word (codes "a") ∷ []) ≡ Err (Sign s.Not ∷ Word (codes "a") ∷ [])
unfolding p.term p.term_within p.joined p.negation p.full_test p.factor
second_not = refl

second_sign : whole p.term (Sign s.Minus ∷ Sign s.Minus ∷ Number 1 ∷ []) ≡ Err (Sign s.Minus ∷ Number 1 ∷ [])
unfolding p.term p.term_within p.joined p.negation p.full_test p.factor
second_sign = refl

-- `q1.2.3` stops at the second dot, and `i0` at once
third_part : q.pattern (Word (codes "q1") ∷ Sign s.Dot ∷ Number 2 ∷ Sign s.Dot ∷ Number 3 ∷ [])
    ≡ Ok (record { kind = token.Q; t = Some 1; k = Some 2; n = None }, Sign s.Dot ∷ Number 3 ∷ [])
third_part = refl

zero_transaction : q.pattern (Word (codes "i0") ∷ []) ≡ Err (Word (codes "i0") ∷ [])
zero_transaction = refl

-- ---- whole lines, from their bytes

misspelled : f.script_line_of (codes "s1: SELCT * FROM r") ≡ Err (r.syntax 5)
unfolding is_utf8 chars lib.Utf8.encode lex.lexed lex.lexed_from lex.lexeme_at lex.word_at lex.reserved_word symbol_text lex.number_at lex.sign_at p.expect
misspelled = refl

no_such_session : f.script_line_of (codes "s65: BEGIN") ≡ Err (r.syntax 1)
unfolding is_utf8 chars lib.Utf8.encode lex.lexed lex.lexed_from lex.lexeme_at lex.word_at lex.reserved_word symbol_text lex.number_at lex.sign_at p.expect
no_such_session = refl

no_colon : f.script_line_of (codes "s1 BEGIN") ≡ Err (r.syntax 4)
unfolding is_utf8 chars lib.Utf8.encode lex.lexed lex.lexed_from lex.lexeme_at lex.word_at lex.reserved_word symbol_text lex.number_at lex.sign_at p.expect
no_colon = refl

no_sign : f.script_line_of (codes "s1: SELECT a ! b FROM r") ≡ Err (r.lexical 14)
unfolding is_utf8 chars lib.Utf8.encode lex.lexed lex.lexed_from lex.lexeme_at lex.word_at lex.reserved_word symbol_text lex.number_at lex.sign_at p.expect
no_sign = refl

unclosed : f.script_line_of (codes "s1: SELECT * FROM r WHERE a = 'x") ≡ Err (r.lexical 31)
unfolding is_utf8 chars lib.Utf8.encode lex.lexed lex.lexed_from lex.lexeme_at lex.word_at lex.reserved_word symbol_text lex.number_at lex.sign_at p.expect
unclosed = refl

big_number : f.script_line_of (codes "s1: INSERT INTO r VALUES (9223372036854775808)") ≡ Err (r.syntax 27)
unfolding is_utf8 chars lib.Utf8.encode lex.lexed lex.lexed_from lex.lexeme_at lex.word_at lex.reserved_word symbol_text lex.number_at lex.sign_at p.expect c.insert c.query c.block c.items c.item c.condition c.separated c.many c.repeat c.tuple
big_number = refl

line_end : f.script_line_of (codes "s2: SELECT * FROM nowhere WHERE") ≡ Err (r.syntax 32)
unfolding is_utf8 chars lib.Utf8.encode lex.lexed lex.lexed_from lex.lexeme_at lex.word_at lex.reserved_word symbol_text lex.number_at lex.sign_at p.expect c.insert c.query c.block c.items c.item c.condition c.separated c.many c.repeat c.tuple p.term p.term_within p.joined p.chain p.chain_within p.negation p.full_test p.factor p.column p.brackets p.value_test
line_end = refl

version_too_big : f.question_of (codes "AS OF 9223372036854775808 SELECT * FROM r") ≡ Err (r.syntax 7)
unfolding is_utf8 chars lib.Utf8.encode lex.lexed lex.lexed_from lex.lexeme_at lex.word_at lex.reserved_word symbol_text lex.number_at lex.sign_at p.expect q.open_question q.asked_of q.subject q.of_state q.how q.state
version_too_big = refl

second_part : f.question_of (codes "VALUE IN COUNT (q1.2.3 = 1) OF AS OF 1 SELECT * FROM r") ≡ Err (r.syntax 21)
unfolding is_utf8 chars lib.Utf8.encode lex.lexed lex.lexed_from lex.lexeme_at lex.word_at lex.reserved_word symbol_text lex.number_at lex.sign_at p.expect q.open_question q.asked_of q.subject q.of_state q.how q.value q.semiring_name q.rules q.rules_from q.rules_within q.rule
second_part = refl

-- what is left out is one pattern or more with commas between them
left_out : f.question_of (codes "without i1.1.2, q OF as of 2 select * from r") ≡ Ok (y.ask
    (y.of_state (y.without ((record { kind = token.I; t = Some 1; k = Some 1; n = Some 2; value = 0 }) ∷ (record { kind = token.Q; t = None; k = None; n = None; value = 0 }) ∷ []))
    (y.as_of 2)) ((record { items = y.star; from = (record { table = codes "r"; name = codes "r" }) ∷ []; cond = None }) ∷ []))
unfolding is_utf8 chars lib.Utf8.encode lex.lexed lex.lexed_from lex.lexeme_at lex.word_at lex.reserved_word symbol_text lex.number_at lex.sign_at p.expect q.open_question q.asked_of q.subject q.of_state q.how q.without q.left_out q.state c.query c.block c.items c.item c.condition c.separated c.many c.repeat
left_out = refl

second_part_left_out : f.question_of (codes "WITHOUT q1.7,u1.1.1,i1 OF AS OF 1 SELECT * FROM r") ≡ Err (r.syntax 18)
unfolding is_utf8 chars lib.Utf8.encode lex.lexed lex.lexed_from lex.lexeme_at lex.word_at lex.reserved_word symbol_text lex.number_at lex.sign_at p.expect q.open_question q.asked_of q.subject q.of_state q.how q.without q.left_out c.separated c.many c.repeat
second_part_left_out = refl

part_of_a_kind : f.question_of (codes "without q,i,i.1 of as of 6 select * from r") ≡ Err (r.syntax 14)
unfolding is_utf8 chars lib.Utf8.encode lex.lexed lex.lexed_from lex.lexeme_at lex.word_at lex.reserved_word symbol_text lex.number_at lex.sign_at p.expect q.open_question q.asked_of q.subject q.of_state q.how q.without q.left_out c.separated c.many c.repeat
part_of_a_kind = refl

nothing_left_out : f.question_of (codes "WITHOUT OF AS OF 1 SELECT * FROM r") ≡ Err (r.syntax 9)
unfolding is_utf8 chars lib.Utf8.encode lex.lexed lex.lexed_from lex.lexeme_at lex.word_at lex.reserved_word symbol_text lex.number_at lex.sign_at p.expect q.open_question q.asked_of q.subject q.of_state q.how q.without q.left_out c.separated c.many c.repeat
nothing_left_out = refl

-- WITHOUT and WITNESS are names elsewhere
witness_name : f.question_of (codes "reenact 1 after 2 select * from witness without") ≡ Ok (y.ask (y.of_state y.rows (y.after 1 2))
    ((record { items = y.star; from = (record { table = codes "witness"; name = codes "without" }) ∷ []; cond = None }) ∷ []))
unfolding is_utf8 chars lib.Utf8.encode lex.lexed lex.lexed_from lex.lexeme_at lex.word_at lex.reserved_word symbol_text lex.number_at lex.sign_at p.expect q.open_question q.asked_of q.subject q.of_state q.how q.state c.query c.block c.items c.item c.condition c.separated c.many c.repeat
witness_name = refl

-- a change without a statement, and with another one in its place
dropped : f.question_of (codes "WHATIF DROP 2 1 OF AS OF 5 SELECT * FROM acct") ≡ Ok (y.what_if (y.drop 2 1 ∷ []) (y.of_state y.rows (y.as_of 5))
    ((record { items = y.star; from = (record { table = codes "acct"; name = codes "acct" }) ∷ []; cond = None }) ∷ []))
unfolding is_utf8 chars lib.Utf8.encode lex.lexed lex.lexed_from lex.lexeme_at lex.word_at lex.reserved_word symbol_text lex.number_at lex.sign_at p.expect q.open_question q.asked_of q.subject q.of_state q.what_if q.change q.dropped q.how q.state c.query c.block c.items c.item c.condition c.separated c.many c.repeat
dropped = refl

replaced : f.question_of (codes "whatif replace 3 1 by (delete from r) of provenance of as of 5 select * from r;") ≡ Ok (y.what_if (y.replace 3 1 (y.delete (codes "r") None) ∷ []) (y.of_state y.provenance (y.as_of 5))
    ((record { items = y.star; from = (record { table = codes "r"; name = codes "r" }) ∷ []; cond = None }) ∷ []))
unfolding is_utf8 chars lib.Utf8.encode lex.lexed lex.lexed_from lex.lexeme_at lex.word_at lex.reserved_word symbol_text lex.number_at lex.sign_at p.expect q.open_question q.asked_of q.subject q.of_state q.what_if q.change q.replaced q.how q.state c.delete c.query c.block c.items c.item c.condition c.separated c.many c.repeat
replaced = refl

-- only a statement is added, and in brackets
added_begin : f.question_of (codes "WHATIF ADD 4 BY (BEGIN) OF AS OF 4 SELECT * FROM r") ≡ Err (r.syntax 18)
unfolding is_utf8 chars lib.Utf8.encode lex.lexed lex.lexed_from lex.lexeme_at lex.word_at lex.reserved_word symbol_text lex.number_at lex.sign_at p.expect q.open_question q.asked_of q.subject q.of_state q.what_if q.change q.added c.separated c.many c.repeat
added_begin = refl

added_bare : f.question_of (codes "WHATIF ADD 4 BY DELETE FROM r OF AS OF 4 SELECT * FROM r") ≡ Err (r.syntax 17)
unfolding is_utf8 chars lib.Utf8.encode lex.lexed lex.lexed_from lex.lexeme_at lex.word_at lex.reserved_word symbol_text lex.number_at lex.sign_at p.expect q.open_question q.asked_of q.subject q.of_state q.what_if q.change q.added c.separated c.many c.repeat
added_bare = refl

second_table : f.question_of (codes "WHATIF ADD 3 BY (UPDATE m17 AFTER SET b = b) OF AS OF 3 SELECT * FROM m17") ≡ Err (r.syntax 29)
unfolding is_utf8 chars lib.Utf8.encode lex.lexed lex.lexed_from lex.lexeme_at lex.word_at lex.reserved_word symbol_text lex.number_at lex.sign_at p.expect q.open_question q.asked_of q.subject q.of_state q.what_if q.change q.added c.update c.separated c.many c.repeat
second_table = refl

-- the words of changes are names elsewhere, and a change needs one of them
change_names : f.question_of (codes "whatif drop 1 1 of as of 1 select * from whatif drop") ≡ Ok (y.what_if (y.drop 1 1 ∷ []) (y.of_state y.rows (y.as_of 1))
    ((record { items = y.star; from = (record { table = codes "whatif"; name = codes "drop" }) ∷ []; cond = None }) ∷ []))
unfolding is_utf8 chars lib.Utf8.encode lex.lexed lex.lexed_from lex.lexeme_at lex.word_at lex.reserved_word symbol_text lex.number_at lex.sign_at p.expect q.open_question q.asked_of q.subject q.of_state q.what_if q.change q.dropped q.how q.state c.query c.block c.items c.item c.condition c.separated c.many c.repeat
change_names = refl

no_change : f.question_of (codes "whatif table drop 6 0 of as of 1 select * from r") ≡ Err (r.syntax 8)
unfolding is_utf8 chars lib.Utf8.encode lex.lexed lex.lexed_from lex.lexeme_at lex.word_at lex.reserved_word symbol_text lex.number_at lex.sign_at p.expect q.open_question q.asked_of q.subject q.of_state q.what_if q.change c.separated c.many c.repeat
no_change = refl

-- several changes, of which one drops a whole transaction, of what a transaction saw
several : f.question_of (codes "whatif drop 2, drop 1 3, add 3 by (delete from r) of saw 4 after 0 select * from r") ≡ Ok (y.what_if
    (y.drop_all 2 ∷ y.drop 1 3 ∷ y.add 3 (y.delete (codes "r") None) ∷ []) (y.saw 4 0)
    ((record { items = y.star; from = (record { table = codes "r"; name = codes "r" }) ∷ []; cond = None }) ∷ []))
unfolding is_utf8 chars lib.Utf8.encode lex.lexed lex.lexed_from lex.lexeme_at lex.word_at lex.reserved_word symbol_text lex.number_at lex.sign_at p.expect q.open_question q.asked_of q.subject q.saw q.saw_numbers q.what_if q.change q.dropped q.added c.delete c.query c.block c.items c.item c.condition c.separated c.many c.repeat
several = refl

-- a comma needs a change behind it
trailing_comma : f.question_of (codes "WHATIF DROP 2, OF AS OF 1 SELECT * FROM r") ≡ Err (r.syntax 16)
unfolding is_utf8 chars lib.Utf8.encode lex.lexed lex.lexed_from lex.lexeme_at lex.word_at lex.reserved_word symbol_text lex.number_at lex.sign_at p.expect q.open_question q.what_if q.change q.dropped c.separated c.many c.repeat
trailing_comma = refl

-- EXPLAIN stands before SAW, but not behind WHATIF, and no provenance is asked of it
explained_saw : f.question_of (codes "explain saw 2 after 1 select * from saw") ≡ Ok (y.explain_saw 2 1
    ((record { items = y.star; from = (record { table = codes "saw"; name = codes "saw" }) ∷ []; cond = None }) ∷ []))
unfolding is_utf8 chars lib.Utf8.encode lex.lexed lex.lexed_from lex.lexeme_at lex.word_at lex.reserved_word symbol_text lex.number_at lex.sign_at p.expect q.open_question q.explained_saw q.saw_numbers c.query c.block c.items c.item c.condition c.separated c.many c.repeat
explained_saw = refl

explained_behind : f.question_of (codes "WHATIF DROP 1 OF EXPLAIN SAW 2 AFTER 1 SELECT * FROM r") ≡ Err (r.syntax 26)
unfolding is_utf8 chars lib.Utf8.encode lex.lexed lex.lexed_from lex.lexeme_at lex.word_at lex.reserved_word symbol_text lex.number_at lex.sign_at p.expect q.open_question q.asked_of q.subject q.of_state q.how q.state q.what_if q.change q.dropped c.separated c.many c.repeat
explained_behind = refl

provenance_saw : f.question_of (codes "PROVENANCE OF SAW 2 AFTER 1 SELECT * FROM r") ≡ Err (r.syntax 15)
unfolding is_utf8 chars lib.Utf8.encode lex.lexed lex.lexed_from lex.lexeme_at lex.word_at lex.reserved_word symbol_text lex.number_at lex.sign_at p.expect q.open_question q.asked_of q.subject q.of_state q.how q.state
provenance_saw = refl

-- a side may be what a transaction saw, but not without tokens
saw_side : f.question_of (codes "DIFF SAW 2 AFTER 1 TO WITHOUT i OF SAW 2 AFTER 1 SELECT * FROM r") ≡ Err (r.syntax 36)
unfolding is_utf8 chars lib.Utf8.encode lex.lexed lex.lexed_from lex.lexeme_at lex.word_at lex.reserved_word symbol_text lex.number_at lex.sign_at p.expect q.open_question q.diff q.side q.as_is_side q.second_side q.side_subject q.saw q.saw_numbers q.of_state q.kept_how q.without q.left_out q.state c.separated c.many c.repeat
saw_side = refl

caused_saw : f.question_of (codes "CAUSES OF SAW 2 AFTER 1 SELECT * FROM r") ≡ Err (r.syntax 11)
unfolding is_utf8 chars lib.Utf8.encode lex.lexed lex.lexed_from lex.lexeme_at lex.word_at lex.reserved_word symbol_text lex.number_at lex.sign_at p.expect q.open_question q.asked_of q.of_state q.kept_how q.state
caused_saw = refl

-- the other words are names elsewhere too; WHEN is a reserved word
life : f.question_of (codes "history of conflicts where serial is null;") ≡ Ok (y.history (codes "conflicts") (Some (y.is_null (y.col None (codes "serial")) true)))
unfolding is_utf8 chars lib.Utf8.encode lex.lexed lex.lexed_from lex.lexeme_at lex.word_at lex.reserved_word symbol_text lex.number_at lex.sign_at p.expect q.open_question q.history c.condition p.term p.term_within p.joined p.chain p.chain_within p.negation p.full_test p.factor p.column p.value_test cap.is_null
life = refl

anomalies_of_all : f.question_of (codes "Anomalies ;") ≡ Ok (y.bare y.anomalies)
unfolding is_utf8 chars lib.Utf8.encode lex.lexed lex.lexed_from lex.lexeme_at lex.word_at lex.reserved_word symbol_text lex.number_at lex.sign_at p.expect q.open_question
anomalies_of_all = refl

when_there : f.question_of (codes "when select * from history") ≡ Ok (y.when
    ((record { items = y.star; from = (record { table = codes "history"; name = codes "history" }) ∷ []; cond = None }) ∷ []))
unfolding is_utf8 chars lib.Utf8.encode lex.lexed lex.lexed_from lex.lexeme_at lex.word_at lex.reserved_word symbol_text lex.number_at lex.sign_at p.expect q.open_question q.when c.query c.block c.items c.item c.condition c.separated c.many c.repeat
when_there = refl

canonical_update : option_map command_text (result_ok (f.command_of (codes "update R set b = -b * c + 'x' where not a = b and b is null or a <> c")))
    ≡ Some (codes "UPDATE r SET b = (((-b) * c) + 'x') WHERE (((NOT (a = b)) AND (b IS NULL)) OR (a <> c))")
unfolding is_utf8 chars lib.Utf8.encode lex.lexed lex.lexed_from lex.lexeme_at lex.word_at lex.reserved_word symbol_text lex.number_at lex.sign_at p.expect c.update c.set_term c.separated c.many c.repeat c.condition p.term p.term_within p.joined p.chain p.chain_within p.negation p.full_test p.factor p.column p.brackets p.value_test cap.binary cap.neg cap.not cap.is_null written
canonical_update = refl

-- `BEGIN READ COMMITTED` in letters of either case, and a transaction of that kind is written in capitals
read_committed : f.script_line_of (codes "s1: begin Read COMMITTED;") ≡ Ok (record { session = 1; command = y.begin true })
unfolding is_utf8 chars lib.Utf8.encode lex.lexed lex.lexed_from lex.lexeme_at lex.word_at lex.reserved_word symbol_text lex.number_at lex.sign_at p.expect c.begin
read_committed = refl

canonical_read_committed : option_map command_text (result_ok (f.command_of (codes "begin read committed"))) ≡ Some (codes "BEGIN READ COMMITTED")
unfolding is_utf8 chars lib.Utf8.encode lex.lexed lex.lexed_from lex.lexeme_at lex.word_at lex.reserved_word symbol_text lex.number_at lex.sign_at p.expect c.begin
canonical_read_committed = refl

-- both words are needed, and in this order
only_read : f.script_line_of (codes "s1: BEGIN READ") ≡ Err (r.syntax 15)
unfolding is_utf8 chars lib.Utf8.encode lex.lexed lex.lexed_from lex.lexeme_at lex.word_at lex.reserved_word symbol_text lex.number_at lex.sign_at p.expect c.begin
only_read = refl

only_committed : f.script_line_of (codes "s1: BEGIN COMMITTED") ≡ Err (r.syntax 11)
unfolding is_utf8 chars lib.Utf8.encode lex.lexed lex.lexed_from lex.lexeme_at lex.word_at lex.reserved_word symbol_text lex.number_at lex.sign_at p.expect c.begin
only_committed = refl

-- 61 open brackets are too deep, 60 are not, and one that closes makes room
too_deep : is_too_deep MAX_OPEN (replicate 61 (Sign s.Open)) ≡ true
too_deep = refl

deep_enough : is_too_deep MAX_OPEN (replicate 60 (Sign s.Open) ++ (Sign s.Close ∷ Sign s.Case ∷ [])) ≡ false
deep_enough = refl

-- limit by limit over a change and a query: too many columns in the query come before too many tuples in the change
both_parts : passed_limit (both (record { columns = []; from = []; branches = 0; values = 101; terms = []; changes = 0 }) (record { columns = 17 ∷ []; from = 1 ∷ []; branches = 1; values = 0; terms = []; changes = 0 }))
    ≡ Some columns
both_parts = refl

-- 17 columns are too many, and are told before five FROM items
too_many_columns : passed_limit (record { columns = 16 ∷ 17 ∷ []; from = 5 ∷ []; branches = 9; values = 101; terms = []; changes = 0 }) ≡ Some columns
too_many_columns = refl

no_limit : passed_limit (record { columns = 16 ∷ []; from = 4 ∷ []; branches = 8; values = 100; terms = []; changes = 16 }) ≡ None
no_limit = refl

-- the limit on changes is the last
many_changes : passed_limit (both (shape_of_count 17) (shape_of_count 1)) ≡ Some change_count
many_changes = refl

wide_before_many : passed_limit (both (shape_of_count 17) (record { columns = 17 ∷ []; from = []; branches = 0; values = 0; terms = []; changes = 0 })) ≡ Some columns
wide_before_many = refl
