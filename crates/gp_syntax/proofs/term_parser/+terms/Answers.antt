use Rattle.std.proofs.Common.{◌≡◌, sym, ap, arith, ◌∙◌, Some, Err}
use Rattle.std.proofs.lemmas.Result.{err_from_is_err_and}
use Rattle.gp_grammar.specs.declared.level.Level.{Level}
use Rattle.gp_grammar.specs.declared.op.Op.{Op}
use Rattle.gp_grammar.specs.Syntax.{Lexemes, Term}
use Rattle.gp_grammar.specs.Capping.{binary}
use Rattle.gp_grammar.specs.Operators.{operator_of}
use Rattle.gp_grammar.specs.Parsing as spec
use Rattle.gp_grammar.specs.Parsing.{Outcome}
use Rattle.gp_grammar.proofs.Agreement.{chain-step, chain-fault}
use Rattle.gp_syntax.specs.declared.error.ParseStop.{ParseStop}
use Rattle.gp_syntax.specs.declared.error.ParseStop.TheVariants.{At, NoMemory}
use Rattle.gp_syntax.specs.declared.built.Built.{Built}
use Rattle.gp_syntax.specs.Parses.{Parses, built_view}
use Rattle.gp_syntax.proofs.term_parser.+terms.Goals as goal

pub operations-loop-op-preserved : goal.operations-loop-op-preserved
operations-loop-op-preserved t c =
    let e : built_view c.in_ok-left-2.left ≡ binary c.in-Some.op (built_view c.loop-op.left) (built_view c.in_ok-right.right) = c.in_ok-left-2.ensures in (
      chain-step c.args.at (built_view c.loop-op.left) (built_view c.in_ok-right.right) c.loop-op.rest.now c.in-Some.after.now c.in_ok-right.others.now c.in-Some.op _
          c.loop-op.invariant.0 c.in-Some.ensures.value c.in_ok-right.ensures.value
          ∙ ap (λ x. spec.chain (operator_of c.args.at) (spec.operand spec.term c.args.at) x c.in_ok-right.others.now) (sym e),
      omega (arith, c.in-Some.ensures.shorter, c.in_ok-right.ensures.shorter),
    )

fault-parses : (at : Level) (left : Term) (ts after : Lexemes) (o : Op) (whole : Outcome (Term × Lexemes)) (e : ParseStop)
    → whole ≡ spec.chain (operator_of at) (spec.operand spec.term at) left ts
    → spec.next_operator (operator_of at) ts ≡ Some (o, after) → Parses {X = Built} built_view (Err e) (spec.operand spec.term at after) → Parses {X = Built} built_view (Err e) whole
fault-parses at left ts after o whole (At rest) a b c = chain-fault at left ts after rest.now o whole a b c
fault-parses at left ts after o whole NoMemory a b c = tt

pub operations-returns-in_err-right-clause-value : goal.operations-returns-in_err-right-clause-value
operations-returns-in_err-right-clause-value t c =
    let p = err_from_is_err_and c.from_residual-in_err-right.result c.from_residual-in_err-right.ensures.1 in
    rw (p.1, p.2) (fault-parses c.args.at (built_view c.loop-op.left) c.loop-op.rest.now c.in-Some.after.now c.in-Some.op _ c.in_err-right.field-0.0
    c.loop-op.invariant.0 c.in-Some.ensures.value c.in_err-right.ensures.value)
