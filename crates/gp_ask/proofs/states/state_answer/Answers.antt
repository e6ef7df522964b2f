use Rattle.std.proofs.Common.{List, map, subst, sym, ◌≡◌, ◌∙◌}
use Rattle.std.specs.Prelude.{IfOk}
use Rattle.std.proofs.lemmas.Result.{IfOk-weaker}
use Rattle.gp_dump.specs.Views.{dump_view}
use Rattle.gp_grammar.specs.Syntax as y
use Rattle.gp_syntax.specs.declared.question.How.{How}
use Rattle.gp_syntax.specs.declared.question.Rule.{Rule}
use Rattle.gp_syntax.specs.Views.{how_view, query_view, rule_view, point_view}
use Rattle.gp_ask.specs.declared.answered.Answered.{Answered}
use Rattle.gp_ask.specs.Computed.{computed_answer}
use Rattle.gp_ask.specs.AskingForms.{dump_query, rules_of}
use Rattle.gp_ask.specs.ValueForms.{dump_values}
use Rattle.gp_ask.specs.Operations.{operations_of}
use Rattle.gp_ask.proofs.AskedValues.{asked_values}
use Rattle.gp_ask.proofs.states.state_answer.Goals as goal

pub returns-in-Rows-clause-answered : goal.returns-in-Rows-clause-answered
returns-in-Rows-clause-answered c =
    subst (λ (how : How). IfOk c.query_answer.result (λ answered. answered ≡ computed_answer (dump_view c.args.dump.now) (y.ask (y.of_state (how_view how) (point_view c.args.state)) (query_view c.args.query.read.now))))
    (sym c.in-Rows.is) c.query_answer.ensures

pub returns-in-Provenance-clause-answered : goal.returns-in-Provenance-clause-answered
returns-in-Provenance-clause-answered c =
    subst (λ (how : How). IfOk c.provenance_answer.result (λ answered. answered ≡ computed_answer (dump_view c.args.dump.now) (y.ask (y.of_state (how_view how) (point_view c.args.state)) (query_view c.args.query.read.now))))
    (sym c.in-Provenance.is) c.provenance_answer.ensures.answered

pub returns-in-Explain-clause-answered : goal.returns-in-Explain-clause-answered
returns-in-Explain-clause-answered c =
    subst (λ (how : How). IfOk c.program_answer.result (λ answered. answered ≡ computed_answer (dump_view c.args.dump.now) (y.ask (y.of_state (how_view how) (point_view c.args.state)) (query_view c.args.query.read.now))))
    (sym c.in-Explain.is) c.program_answer.ensures.answered

pub returns-in-Value-clause-answered : goal.returns-in-Value-clause-answered
returns-in-Value-clause-answered c =
    let dump = dump_view c.args.dump.now in
    let point = point_view c.args.state in
    let query = query_view c.args.query.read.now in
    let name = c.in-Value.semiring in
    let other = c.in-Value.other in
    let own = map rule_view c.as_slice.result.now in
    subst (λ (how : How). IfOk c.value_answer.result (λ answered. answered ≡ computed_answer dump (y.ask (y.of_state (how_view how) point) query)))
    (sym c.in-Value.is)
    (subst (λ (rules : List Rule). IfOk c.value_answer.result (λ answered. answered ≡ computed_answer dump (y.ask (y.of_state (y.value name (map rule_view rules) other) point) query)))
    c.as_slice.ensures
    (IfOk-weaker c.value_answer.result (λ (a : Answered). a ≡ dump_query dump (dump_values (operations_of name) name (rules_of own other) dump point) point query)
    (λ (a : Answered). a ≡ computed_answer dump (y.ask (y.of_state (y.value name own other) point) query))
    (λ a is. is ∙ asked_values name own other dump point query) c.value_answer.ensures.answered))

pub returns-in-Without-clause-answered : goal.returns-in-Without-clause-answered
returns-in-Without-clause-answered c =
    let dump = dump_view c.args.dump.now in
    let point = point_view c.args.state in
    let query = query_view c.args.query.read.now in
    subst (λ (how : How). IfOk c.remaining_answer.result (λ answered. answered ≡ computed_answer dump (y.ask (y.of_state (how_view how) point) query)))
    (sym c.in-Without.is)
    (subst (λ (rules : List Rule). IfOk c.remaining_answer.result (λ answered. answered ≡ computed_answer dump (y.ask (y.of_state (y.without (map rule_view rules)) point) query)))
    c.as_slice-in-Without.ensures c.remaining_answer.ensures.answered)

pub returns-in-Provenance-clause-kept : goal.returns-in-Provenance-clause-kept
returns-in-Provenance-clause-kept c =
    let old = c.requires.kept in
    record {
      monomials = c.provenance_answer.ensures.kept;
      count = old.count;
      truth = old.truth;
      cost = old.cost;
      level = old.level;
      polynomial = old.polynomial;
      witness = old.witness;
      without = old.without;
    }

pub returns-in-Without-clause-kept : goal.returns-in-Without-clause-kept
returns-in-Without-clause-kept c =
    let old = c.requires.kept in
    record {
      monomials = old.monomials;
      count = old.count;
      truth = old.truth;
      cost = old.cost;
      level = old.level;
      polynomial = old.polynomial;
      witness = old.witness;
      without = c.remaining_answer.ensures.kept;
    }
