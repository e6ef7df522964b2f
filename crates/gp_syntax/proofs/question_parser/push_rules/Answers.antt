use Rattle.std.proofs.Common.{map, arith, subst, sym}
use Rattle.std.proofs.lemmas.Result.{err_from_is_err_and}
use Rattle.gp_grammar.specs.Syntax as y
use Rattle.gp_grammar.specs.Syntax.{Lexemes}
use Rattle.gp_grammar.specs.Parsing.{Outcome}
use Rattle.gp_grammar.specs.QuestionParsing as spec
use Rattle.gp_grammar.proofs.QuestionCompleteness.{shrinks-rule}
use Rattle.gp_syntax.specs.Parses.{Parses}
use Rattle.gp_syntax.specs.QuestionParts.{rules_of}
use Rattle.gp_syntax.specs.Views.{rule_view}
use Rattle.gp_syntax.proofs.RepetitionLemmas.{pushed-shorter}
use Rattle.gp_syntax.proofs.RuleLemmas.{rules-step, rules-end, rules-else, rules-fault}
use Rattle.gp_syntax.proofs.question_parser.push_rules.Goals as goal

pub returns-in_err-after : goal.returns-in_err-after
returns-in_err-after c =
    let p = err_from_is_err_and c.from_residual.result c.from_residual.ensures.1 in
    rw (p.1, p.2) (rules-fault (rules_of (map rule_view c.push_rule.new.found)) (map rule_view c.loop-after.found) (map rule_view c.push_rule.new.found) c.loop-after.rest.now _
    c.in_err-after.field-0.0 c.loop-after.invariant c.in_err-after.ensures)

pub returns-in-None : goal.returns-in-None
returns-in-None c =
    let P : Outcome (y.Rules × Lexemes) → Type 0 = λ o. Parses (rules_of (map rule_view c.push_rule.new.found)) c.end_of_rules.result o in
    subst P (sym (rules-end (map rule_view c.loop-after.found) (map rule_view c.push_rule.new.found) c.loop-after.rest.now c.in_ok-after.after.now _
    c.loop-after.invariant c.in_ok-after.ensures c.in-None.ensures.value)) (c.end_of_rules.ensures (map rule_view c.push_rule.new.found))

pub returns-in-Some-strip : goal.returns-in-Some-strip
returns-in-Some-strip c =
    let P : Outcome (y.Rules × Lexemes) → Type 0 = λ o. Parses (rules_of (map rule_view c.push_rule.new.found)) c.else_number.result o in
    subst P (sym (rules-else (map rule_view c.loop-after.found) (map rule_view c.push_rule.new.found) c.loop-after.rest.now c.in_ok-after.after.now c.in-Some.others.now
    c.in-Some-strip.others.now _ c.loop-after.invariant c.in_ok-after.ensures c.in-Some.ensures.value c.in-Some-strip.ensures.value))
    (c.else_number.ensures (map rule_view c.push_rule.new.found))

pub loop-after-smaller : goal.loop-after-smaller
loop-after-smaller c =
    omega (
      arith,
      pushed-shorter spec.rule shrinks-rule (map rule_view c.loop-after.found) (map rule_view c.push_rule.new.found) c.loop-after.rest.now c.in_ok-after.after.now
          c.in_ok-after.ensures,
      c.in-Some.ensures.shorter,
    )

pub loop-after-preserved : goal.loop-after-preserved
loop-after-preserved c =
    rules-step (map rule_view c.loop-after.found) (map rule_view c.push_rule.new.found) c.loop-after.rest.now c.in_ok-after.after.now c.in-Some.others.now _
    c.loop-after.invariant c.in_ok-after.ensures c.in-Some.ensures.value c.in-None-strip.ensures.value
