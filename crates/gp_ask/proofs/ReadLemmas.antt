-- A question that was read is valid, and a text that is not read is refused.
use Rattle.std.proofs.Common.{◌≡◌, ℕ, Bool, true, false, not, ◌&&◌, List, Some, None, Result, Ok, Err, refl, sym, ap, ◌∙◌}
use Rattle.gp_base.specs.declared.refusal.Refusal.{Refusal}
use Rattle.gp_grammar.specs.Capping.{capped_question}
use Rattle.gp_grammar.specs.declared.limits.TheConstants.{MAX_FROM}
use Rattle.gp_grammar.specs.Laws.{has_statements, have_statements}
use Rattle.gp_grammar.specs.Limits.{Shape, both, changes_shape, passed_limit, query_shape, question_shape, side_shape, some_above}
use Rattle.gp_grammar.specs.LineReading.{Fault}
use Rattle.gp_grammar.specs.Reading.{question_of}
use Rattle.gp_grammar.specs.QuestionGrammar.{IsQuestion}
use Rattle.gp_grammar.specs.QuestionParsing.{question}
use Rattle.gp_grammar.specs.Syntax as y
use Rattle.gp_grammar.proofs.BothLemmas.{both-within}
use Rattle.gp_grammar.proofs.ChangeLaws.{statements-read}
use Rattle.gp_grammar.proofs.LineLaws.{lines-read}
use Rattle.gp_grammar.proofs.ParserLaws.{lawful-question}
use Rattle.gp_grammar.proofs.ShapeLemmas.{first_limit, of_shape, questions-fair}
use Rattle.gp_syntax.specs.Refusals.{refusal_of_fault}
use Rattle.gp_syntax.specs.ReadResults.{refusal_in}
use Rattle.gp_check.specs.Valid as check
use Rattle.gp_check.specs.Valid.{changes_are_valid, query_is_valid}
use Rattle.gp_check.proofs.ValidLemmas.{question-read}
use Rattle.gp_ask.specs.declared.answered.Answered.{Answered}
use Rattle.gp_ask.specs.declared.answered.Answered.TheVariants.{Refused}
use Rattle.gp_machine.specs.Entries.{Entry}
use Rattle.gp_ask.specs.Answerable.{has_few_items, keeps_from, question_is_valid}
use Rattle.gp_ask.specs.QuestionFiles.{ExplainsRead}
use Rattle.gp_ask.specs.Questions.{answered}
use Rattle.std.proofs.lemmas.Bool.{and_from, and_parts}

-- within the limits the items of each FROM are within theirs
from-within : (c f b v n d k : Bool) → first_limit c f b v n d k ≡ None → f ≡ false
from-within true f b v n d k is = absurd cc
from-within false true b v n d k is = absurd cc
from-within false false b v n d k is = refl

pub within-from : (shape : Shape) → passed_limit shape ≡ None → some_above MAX_FROM shape.from ≡ false
within-from shape none = from-within _ _ _ _ _ _ _ (sym (of_shape shape) ∙ none)

few-within : (question : y.Question) → passed_limit (question_shape question) ≡ None → keeps_from question ≡ true
few-within (y.bare question) within = refl
few-within (y.history name cond) within = refl
few-within (y.when query) within = ap not (within-from (query_shape query) within)
few-within (y.diff first second query) within = ap not (within-from (query_shape query) (both-within (both (side_shape first) (side_shape second)) (query_shape query) within).1)
few-within (y.causes subject query) within = ap not (within-from (query_shape query) within)
few-within (y.ask subject query) within = ap not (within-from (query_shape query) within)
few-within (y.what_if changes subject query) within = ap not (within-from (query_shape query) (both-within (changes_shape changes) (query_shape query) within).1)
few-within (y.explain_saw t k query) within = ap not (within-from (query_shape query) within)

pub read-valid : (text : List ℕ) (question : y.Question) → question_of text ≡ Ok question → question_is_valid question ≡ true
read-valid text own is =
    let reads = (lines-read question IsQuestion capped_question question_shape lawful-question questions-fair text own).0 is in
    and_from (has_statements own) (check.question_is_valid own && keeps_from own) (statements-read text own is)
    (and_from (check.question_is_valid own) (keeps_from own) (question-read text own is) (few-within own reads.text.within))

-- ---- the parts of a valid question

pub valid-parts : (subject : y.Subject) (query : y.Query) → question_is_valid (y.ask subject query) ≡ true → (query_is_valid query ≡ true) × (has_few_items query ≡ true)
valid-parts subject query valid = and_parts (query_is_valid query) (has_few_items query) valid

pub valid-change : (changes : List y.LogChange) (subject : y.Subject) (query : y.Query) → question_is_valid (y.what_if changes subject query) ≡ true
    → (have_statements changes ≡ true) × ((changes_are_valid changes ≡ true) × ((query_is_valid query ≡ true) × (has_few_items query ≡ true)))
valid-change changes subject query valid =
    let outer = and_parts (have_statements changes) ((changes_are_valid changes && query_is_valid query) && has_few_items query) valid in
    let inner = and_parts (changes_are_valid changes && query_is_valid query) (has_few_items query) outer.1 in
    let parts = and_parts (changes_are_valid changes) (query_is_valid query) inner.0 in
    (outer.0, (parts.0, (parts.1, inner.1)))

pub refused-text : (answers : y.Question → Answered) (reading : Result y.Question Fault) (refusal : Refusal) → refusal_in reading ≡ Some refusal
    → Refused refusal ≡ answered answers reading
refused-text answers (Ok question) refusal is = absurd cc
refused-text answers (Err fault) refusal is = let same : refusal ≡ refusal_of_fault fault = cc in ap Refused same

-- nothing is explained in a line that is no question
pub unread-explains : (entries : List Entry) (reading : Result y.Question Fault) (refusal : Refusal) → refusal_in reading ≡ Some refusal → ExplainsRead entries reading
unread-explains entries (Ok question) refusal is = absurd cc
unread-explains entries (Err fault) refusal is = tt
