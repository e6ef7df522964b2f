use Rattle.std.proofs.Common.{Bool, ap, subst, sym, ◌∙◌, ◌≡◌}
use Rattle.std.specs.Prelude.{IfOk}
use Rattle.std.proofs.lemmas.Result.{IfOk-weaker}
use Rattle.gp_grammar.specs.Syntax as y
use Rattle.gp_log.specs.Logs.{log_view}
use Rattle.gp_syntax.specs.declared.question.How.{How}
use Rattle.gp_syntax.specs.declared.question.Point.{Point}
use Rattle.gp_syntax.specs.declared.question.Subject.{Subject}
use Rattle.gp_syntax.specs.declared.question.Subject.TheVariants as asked_of
use Rattle.gp_syntax.specs.declared.question.How.TheVariants as how_is
use Rattle.gp_syntax.specs.Views.{query_view, subject_view}
use Rattle.gp_ask.specs.declared.answered.Answered.{Answered}
use Rattle.gp_ask.specs.Printed.{query_to}
use Rattle.gp_ask.specs.ExplainedTexts.{ExplainsQuestion}
use Rattle.gp_ask.specs.Hypothetical as h
use Rattle.gp_ask.specs.Programs.{program_lines}
use Rattle.gp_ask.specs.Values.{unless_refused}
use Rattle.gp_ask.proofs.WhatIfLemmas.{explains_over, not-explained, remade_over, seen-not-explained}
use Rattle.gp_ask.proofs.hypothetical.remade_answer.Goals as goal

pub returns-in-Explain-clause-answered : goal.returns-in-Explain-clause-answered
returns-in-Explain-clause-answered c =
    let entries = log_view c.args.log.entries in
    let query = query_view c.args.query.read.now in
    subst
    (λ (subject : Subject). IfOk c.program_answer.result
    (λ (a : Answered). a ≡ h.remade_answer program_lines (query_to (h.replayed_dump entries)) entries (subject_view subject) query))
    (sym (c.in-State.is ∙ ap (λ (how : How). asked_of.State how c.in-State.state) c.in-Explain.is)) c.program_answer.ensures.answered

pub returns-in_default : goal.returns-in_default
returns-in_default c =
    let entries = log_view c.args.log.entries in
    let subject = subject_view c.args.subject.now in
    let query = query_view c.args.query.read.now in
    let over = unless_refused (h.asking_refusal entries subject query) (unless_refused (h.remaking_refusal entries) (query_to (h.replayed_dump entries) subject query)) in
    let other : (prov : Bool) (own : Point) → c.args.subject.now ≡ asked_of.State (how_is.Explain prov) own → ⊥ =
    not-explained c.args.subject.now c.in-State.how c.in-State.state c.in-State.is c.in_default.not-Explain in
    record {
      answered =
          IfOk-weaker c.remade_rows.result (λ (a : Answered). a ≡ over) (λ (a : Answered). a ≡ h.remade_answer program_lines (query_to (h.replayed_dump entries)) entries subject query)
          (λ a is. is ∙ sym (remade_over entries query c.args.subject.now other)) c.remade_rows.ensures;
      explained =
          IfOk-weaker c.remade_rows.result (λ (a : Answered). a ≡ over) (λ (a : Answered). ExplainsQuestion entries (y.ask subject query))
          (λ a is. explains_over entries query c.args.subject.now other) c.remade_rows.ensures;
    }

pub returns-in-Saw : goal.returns-in-Saw
returns-in-Saw c =
    let entries = log_view c.args.log.entries in
    let subject = subject_view c.args.subject.now in
    let query = query_view c.args.query.read.now in
    let over = unless_refused (h.asking_refusal entries subject query) (unless_refused (h.remaking_refusal entries) (query_to (h.replayed_dump entries) subject query)) in
    let other : (prov : Bool) (own : Point) → c.args.subject.now ≡ asked_of.State (how_is.Explain prov) own → ⊥ =
    seen-not-explained c.args.subject.now c.in-Saw.t c.in-Saw.k c.in-Saw.is in
    record {
      answered =
          IfOk-weaker c.remade_rows-in-Saw.result (λ (a : Answered). a ≡ over) (λ (a : Answered). a ≡ h.remade_answer program_lines (query_to (h.replayed_dump entries)) entries subject query)
          (λ a is. is ∙ sym (remade_over entries query c.args.subject.now other)) c.remade_rows-in-Saw.ensures;
      explained =
          IfOk-weaker c.remade_rows-in-Saw.result (λ (a : Answered). a ≡ over) (λ (a : Answered). ExplainsQuestion entries (y.ask subject query))
          (λ a is. explains_over entries query c.args.subject.now other) c.remade_rows-in-Saw.ensures;
    }
