use Rattle.std.proofs.Common.{Bool, ℕ, List, [], inl, refl, subst}
use Rattle.gp_ask.specs.Questions.{is_refused}
use Rattle.gp_dump.specs.Views.{dump_view}
use Rattle.gprom_cli.specs.Call.{some_written}
use Rattle.gprom_cli.specs.Steps.{WritesAnswers, line_answer, line_text}
use Rattle.gprom_cli.proofs.WritesLemmas.{after-nothing}
use Rattle.gprom_cli.proofs.ask.write_line.Goals as goal

pub returns-in-Ok-clause-written : goal.returns-in-Ok-clause-written
returns-in-Ok-clause-written g c =
    let dump = dump_view c.args.dump.now in
    let line : ℕ × List ℕ = (c.args.number, c.args.bytes.now) in
    let old = g.K.Sink.state c.args.out.now in
    let new = g.K.Sink.state c.write_answered.new.out in
    subst (λ (text : List ℕ). WritesAnswers text (is_refused (line_answer c.args.format dump line)) old new c.write_answered.result) c.in-Ok.ensures.text
    (subst (λ (refused : Bool). WritesAnswers c.in-Ok.answer.text.items refused old new c.write_answered.result) c.in-Ok.ensures.refused c.write_answered.ensures)

pub returns-in-Err-clause-written : goal.returns-in-Err-clause-written
returns-in-Err-clause-written g c =
    let text = line_text c.args.format (dump_view c.args.dump.now) (c.args.number, c.args.bytes.now) in
    record { refused = tt; written = some_written [] text refl (inl refl) (after-nothing (g.K.Sink.state c.args.out.now)) refl }
