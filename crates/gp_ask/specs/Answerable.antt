-- Of the contract of `answer`, as its premise: which questions are answered. Every question that was read is such: so says the law
-- `read_questions_are_valid`.
use Rattle.std.specs.Prelude.{Bool, true, not, ◌&&◌}
use Rattle.gp_grammar.specs.declared.limits.TheConstants.{MAX_FROM}
use Rattle.gp_grammar.specs.Laws.{has_statements}
use Rattle.gp_grammar.specs.Limits.{query_shape, some_above}
use Rattle.gp_grammar.specs.Syntax as y
use Rattle.gp_check.specs.Valid as check

-- no FROM has more items than a line may have
abbrev pub has_few_items : y.Query → Bool
has_few_items query = not (some_above MAX_FROM (query_shape query).from)

-- the query of a question, if it has one, keeps the limit of FROM
abbrev pub keeps_from : y.Question → Bool
keeps_from (y.when query) = has_few_items query
keeps_from (y.diff first second query) = has_few_items query
keeps_from (y.causes subject query) = has_few_items query
keeps_from (y.ask subject query) = has_few_items query
keeps_from (y.what_if changes subject query) = has_few_items query
keeps_from (y.explain_saw t k query) = has_few_items query
keeps_from question = true

-- its query and the commands of its changes are valid, if it has them; the query keeps the limit of FROM, and the commands are statements
abbrev pub question_is_valid : y.Question → Bool
question_is_valid question = has_statements question && (check.question_is_valid question && keeps_from question)
