-- The commands of the changes in a question that was read are statements.
use Rattle.gp_grammar.proofs.Prelude.{◌≡◌, List, [], ◌∷◌, true, Ok, refl, ◌∙◌, Lexemes, Bytes, LogChange, Side, Question, capped_question, IsChange, IsChanges, IsSide, IsOpenQuestion, IsQuestion, question_shape, ReadsLine, question_of, question}
use Rattle.std.proofs.lemmas.Bool.{and_from}
use Rattle.std.proofs.lemmas.List.Folds.{list_all-append}
use Rattle.gp_grammar.specs.CommandGrammar as l
use Rattle.gp_grammar.specs.QuestionGrammar as g
use Rattle.gp_grammar.specs.Laws.{has_statement, have_statements, has_statements, side_has_statements}
use Rattle.gp_grammar.proofs.LineLaws.{lines-read}
use Rattle.gp_grammar.proofs.ParserLaws.{lawful-question}
use Rattle.gp_grammar.proofs.ShapeLemmas.{questions-fair}

change-statement : (a : Lexemes) (x : LogChange) → IsChange a x → has_statement x ≡ true
change-statement _ _ (g.drop t k) = refl
change-statement _ _ (g.drop_all t) = refl
change-statement _ _ (g.replace t k a x i) = i.statement
change-statement _ _ (g.add t a x i) = i.statement

changes-statements : (a : Lexemes) (xs : List LogChange) → IsChanges a xs → have_statements xs ≡ true
changes-statements _ _ (l.one a x i) = and_from _ _ (change-statement a x i) refl
changes-statements _ _ (l.more a b xs x i j) =
    list_all-append has_statement xs (x ∷ []) ∙ and_from _ _ (changes-statements a xs i) (and_from _ _ (change-statement b x j) refl)

side-statements : (a : Lexemes) (x : Side) → IsSide a x → side_has_statements x ≡ true
side-statements _ _ (g.as_is a subject i) = refl
side-statements _ _ (g.changed a b changes subject i j) = changes-statements a changes i

open-statement : (a : Lexemes) (x : Question) → IsOpenQuestion a x → has_statements x ≡ true
open-statement _ _ (g.bare a question i) = refl
open-statement _ _ (g.history table a cond i) = refl
open-statement _ _ (g.when a query i) = refl
open-statement _ _ (g.diff a b c first second query i j k) = and_from _ _ (side-statements a first i) (side-statements b second j)
open-statement _ _ (g.causes a b subject query i j) = refl
open-statement _ _ (g.ask a b subject query i j) = refl
open-statement _ _ (g.what_if a b c changes subject query i j k) = changes-statements a changes i
open-statement _ _ (g.explain_saw t k a query i) = refl

question-statement : (a : Lexemes) (x : Question) → IsQuestion a x → has_statements x ≡ true
question-statement _ _ (l.open_end a x i) = open-statement a x i
question-statement _ _ (l.semicolon a x i) = open-statement a x i

pub statements-read : (bytes : Bytes) (x : Question) → question_of bytes ≡ Ok x → has_statements x ≡ true
statements-read bytes x e =
    let r : ReadsLine IsQuestion question_shape bytes x = (lines-read question IsQuestion capped_question question_shape lawful-question questions-fair bytes x).0 e in
    question-statement r.text.lexemes x r.text.derived
