use Rattle.std.proofs.Common.{ℕ, List, [], ◌∷◌, subst}
use Rattle.gp_io.specs.Sink.{SinkState}
use Rattle.gp_script.specs.declared.script.TheConstants.{MAX_SCRIPT_LENGTH}
use Rattle.gp_dump.specs.declared.dump.TheConstants.{MAX_DUMP_LENGTH}
use Rattle.gprom_cli.specs.Args.{Ask}
use Rattle.gprom_cli.specs.Call as call
use Rattle.gprom_cli.specs.Call.{read_of}
use Rattle.gprom_cli.specs.Steps.{Answers}
use Rattle.gprom_cli.proofs.StepsLemmas.{ask-answered, stopped}
use Rattle.gprom_cli.proofs.ask.ask_bytes.Goals as goal

pub returns-in-Ok : goal.returns-in-Ok
returns-in-Ok g c = λ dump before there.
    let sink_after = g.K.Sink.state c.answer.new.out in
    let asked = c.in-Ok.ensures.read in
    let answers =
    subst (λ (k : SinkState). Answers c.args.format c.args.bytes.now c.in-Ok.asked.items k sink_after c.answer.result) c.in-Ok.ensures.unwritten
    (subst (λ (x : List ℕ). Answers c.args.format c.args.bytes.now x (g.K.Sink.state c.read_file.new.out) sink_after c.answer.result) c.deref.ensures.value c.answer.ensures) in
    ask-answered c.args.format dump c.args.questions.now c.args.bytes.now c.in-Ok.asked.items before (g.H.Shelf.events c.args.shelf.now) (g.H.Shelf.events c.read_file.new.shelf)
    (g.K.Sink.state c.args.out.now) sink_after c.answer.result there asked.grown c.requires asked.short answers

pub returns-in-Err : goal.returns-in-Err
returns-in-Err g c = λ dump before there.
    stopped (Ask c.args.format dump c.args.questions.now) before (g.H.Shelf.events c.args.shelf.now) (g.H.Shelf.events c.read_file.new.shelf) (read_of dump MAX_DUMP_LENGTH c.args.bytes.now ∷ [])
    c.args.questions.now MAX_SCRIPT_LENGTH (call.reads_questions c.args.format dump c.args.questions.now c.args.bytes.now c.requires) there
    (g.K.Sink.state c.args.out.now) (g.K.Sink.state c.read_file.new.out) c.in-Err.status c.in-Err.ensures.stopped
