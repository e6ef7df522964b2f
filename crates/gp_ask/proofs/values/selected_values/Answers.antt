use Rattle.std.proofs.Common.{List, Option, subst, sym, ℕ, ◌≡◌}
use Rattle.std.specs.Prelude.{IfOk}
use Rattle.gp_algebra.specs.Views.{select_view}
use Rattle.gp_dump.specs.Views.{dump_view}
use Rattle.gp_grammar.specs.declared.semiring_name.SemiringName.{SemiringName}
use Rattle.gp_syntax.specs.Views.{point_view}
use Rattle.gp_semiring.specs.declared.rules.Rule.{Rule}
use Rattle.gp_ask.specs.Operations.{operations_of}
use Rattle.gp_ask.specs.ValueForms.{dump_values}
use Rattle.gp_ask.proofs.values.selected_values.Goals as goal

pub returns-in-Count-clause-answered : goal.returns-in-Count-clause-answered
returns-in-Count-clause-answered c =
    let rules : List Rule × Option ℕ = (c.args.rules.rules, c.args.rules.other) in
    subst (λ (name : SemiringName). IfOk c.values_in.result (λ answered. answered ≡ dump_values (operations_of name) c.args.name rules (dump_view c.args.dump.now) (point_view c.args.state) (select_view c.args.select.now)))
    (sym c.in-Count.is) c.values_in.ensures.answered

pub returns-in-Count-clause-kept : goal.returns-in-Count-clause-kept
returns-in-Count-clause-kept c =
    let old = c.requires.kept in
    record {
      monomials = old.monomials;
      count = c.values_in.ensures.kept;
      truth = old.truth;
      cost = old.cost;
      level = old.level;
      polynomial = old.polynomial;
      witness = old.witness;
      without = old.without;
    }

pub returns-in-Bool-clause-answered : goal.returns-in-Bool-clause-answered
returns-in-Bool-clause-answered c =
    let rules : List Rule × Option ℕ = (c.args.rules.rules, c.args.rules.other) in
    subst (λ (name : SemiringName). IfOk c.values_in-in-Bool.result (λ answered. answered ≡ dump_values (operations_of name) c.args.name rules (dump_view c.args.dump.now) (point_view c.args.state) (select_view c.args.select.now)))
    (sym c.in-Bool.is) c.values_in-in-Bool.ensures.answered

pub returns-in-Bool-clause-kept : goal.returns-in-Bool-clause-kept
returns-in-Bool-clause-kept c =
    let old = c.requires.kept in
    record {
      monomials = old.monomials;
      count = old.count;
      truth = c.values_in-in-Bool.ensures.kept;
      cost = old.cost;
      level = old.level;
      polynomial = old.polynomial;
      witness = old.witness;
      without = old.without;
    }

pub returns-in-Cost-clause-answered : goal.returns-in-Cost-clause-answered
returns-in-Cost-clause-answered c =
    let rules : List Rule × Option ℕ = (c.args.rules.rules, c.args.rules.other) in
    subst (λ (name : SemiringName). IfOk c.values_in-in-Cost.result (λ answered. answered ≡ dump_values (operations_of name) c.args.name rules (dump_view c.args.dump.now) (point_view c.args.state) (select_view c.args.select.now)))
    (sym c.in-Cost.is) c.values_in-in-Cost.ensures.answered

pub returns-in-Cost-clause-kept : goal.returns-in-Cost-clause-kept
returns-in-Cost-clause-kept c =
    let old = c.requires.kept in
    record {
      monomials = old.monomials;
      count = old.count;
      truth = old.truth;
      cost = c.values_in-in-Cost.ensures.kept;
      level = old.level;
      polynomial = old.polynomial;
      witness = old.witness;
      without = old.without;
    }

pub returns-in-Level-clause-answered : goal.returns-in-Level-clause-answered
returns-in-Level-clause-answered c =
    let rules : List Rule × Option ℕ = (c.args.rules.rules, c.args.rules.other) in
    subst (λ (name : SemiringName). IfOk c.values_in-in-Level.result (λ answered. answered ≡ dump_values (operations_of name) c.args.name rules (dump_view c.args.dump.now) (point_view c.args.state) (select_view c.args.select.now)))
    (sym c.in-Level.is) c.values_in-in-Level.ensures.answered

pub returns-in-Level-clause-kept : goal.returns-in-Level-clause-kept
returns-in-Level-clause-kept c =
    let old = c.requires.kept in
    record {
      monomials = old.monomials;
      count = old.count;
      truth = old.truth;
      cost = old.cost;
      level = c.values_in-in-Level.ensures.kept;
      polynomial = old.polynomial;
      witness = old.witness;
      without = old.without;
    }

pub returns-in-Poly-clause-answered : goal.returns-in-Poly-clause-answered
returns-in-Poly-clause-answered c =
    let rules : List Rule × Option ℕ = (c.args.rules.rules, c.args.rules.other) in
    subst (λ (name : SemiringName). IfOk c.values_in-in-Poly.result (λ answered. answered ≡ dump_values (operations_of name) c.args.name rules (dump_view c.args.dump.now) (point_view c.args.state) (select_view c.args.select.now)))
    (sym c.in-Poly.is) c.values_in-in-Poly.ensures.answered

pub returns-in-Poly-clause-kept : goal.returns-in-Poly-clause-kept
returns-in-Poly-clause-kept c =
    let old = c.requires.kept in
    record {
      monomials = old.monomials;
      count = old.count;
      truth = old.truth;
      cost = old.cost;
      level = old.level;
      polynomial = c.values_in-in-Poly.ensures.kept;
      witness = old.witness;
      without = old.without;
    }

pub returns-in-Witness-clause-answered : goal.returns-in-Witness-clause-answered
returns-in-Witness-clause-answered c =
    let rules : List Rule × Option ℕ = (c.args.rules.rules, c.args.rules.other) in
    subst (λ (name : SemiringName). IfOk c.values_in-in-Witness.result (λ answered. answered ≡ dump_values (operations_of name) c.args.name rules (dump_view c.args.dump.now) (point_view c.args.state) (select_view c.args.select.now)))
    (sym c.in-Witness.is) c.values_in-in-Witness.ensures.answered

pub returns-in-Witness-clause-kept : goal.returns-in-Witness-clause-kept
returns-in-Witness-clause-kept c =
    let old = c.requires.kept in
    record {
      monomials = old.monomials;
      count = old.count;
      truth = old.truth;
      cost = old.cost;
      level = old.level;
      polynomial = old.polynomial;
      witness = c.values_in-in-Witness.ensures.kept;
      without = old.without;
    }
