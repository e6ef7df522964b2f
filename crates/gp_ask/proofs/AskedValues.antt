-- The values by rules, with the operations of a semiring as a record, are the answer.
use Rattle.std.proofs.Common.{◌≡◌, ℕ, List, [], ◌∷◌, Option, refl, ◌∙◌}
use Rattle.gp_grammar.specs.declared.semiring_name.SemiringName.{SemiringName}
use Rattle.gp_grammar.specs.declared.semiring_name.SemiringName.TheVariants as named
use Rattle.gp_grammar.specs.Syntax as y
use Rattle.gp_algebra.specs.Statements.{Select}
use Rattle.gp_check.specs.Checking.{checked_query}
use Rattle.gp_log.specs.LogFacts.{tables_in}
use Rattle.gp_machine.specs.Questions.{log_refusal}
use Rattle.gp_dump.specs.Dumps.{Dump}
use Rattle.gp_ask.specs.Computed.{computed_answer}
use Rattle.gp_ask.specs.AskingForms.{dump_query, rules_of}
use Rattle.gp_ask.specs.ValueForms.{dump_valued, dump_values}
use Rattle.gp_ask.specs.Operations.{operations_of}
use Rattle.gp_ask.proofs.QueryLemmas.{query-same}

valued_is : (name : SemiringName) (rules : List y.Rule) (other : Option ℕ) (dump : Dump) (point : y.Point) (select : Select)
    → dump_values (operations_of name) name (rules_of rules other) dump point select ≡ dump_valued name rules other dump point select
valued_is named.Count rules other dump point select = refl
valued_is named.Bool rules other dump point select = refl
valued_is named.Cost rules other dump point select = refl
valued_is named.Level rules other dump point select = refl
valued_is named.Poly rules other dump point select = refl
valued_is named.Witness rules other dump point select = refl

pub asked_values : (name : SemiringName) (rules : List y.Rule) (other : Option ℕ) (dump : Dump) (point : y.Point) (query : y.Query)
    → dump_query dump (dump_values (operations_of name) name (rules_of rules other) dump point) point query ≡ computed_answer dump (y.ask (y.of_state (y.value name rules other) point) query)
asked_values name rules other dump point query =
    query-same (dump_values (operations_of name) name (rules_of rules other) dump point) (dump_valued name rules other dump point) (valued_is name rules other dump point)
    (log_refusal dump.entries point) (checked_query (tables_in dump.entries) query)
