use Rattle.std.proofs.Common.{◌≡◌, ℕ, List, [], ◌∷◌, ◌++◌, Some, subst, sym}
use Rattle.gp_dump.specs.declared.dump.TheConstants.{MAX_DUMP_LENGTH}
use Rattle.gprom_cli.specs.Args.{Ask}
use Rattle.gprom_cli.specs.Call as call
use Rattle.gprom_cli.specs.Call.{read_of}
use Rattle.gprom_cli.proofs.StepsLemmas.{goes-on, stopped-first}
use Rattle.gprom_cli.proofs.ask.ask.Goals as goal

pub returns-in-Ok : goal.returns-in-Ok
returns-in-Ok g c =
    let before = g.H.Shelf.events c.args.shelf.now in
    let middle = g.H.Shelf.events c.read_file.new.shelf in
    let name = c.args.dump.now in
    let there : middle ≡ before ++ read_of name MAX_DUMP_LENGTH c.deref.result.now ∷ [] =
    subst (λ (bytes : List ℕ). middle ≡ before ++ read_of name MAX_DUMP_LENGTH bytes ∷ []) (sym c.deref.ensures.value) c.in-Ok.ensures.read.grown in
    goes-on (Some (Ask c.args.format name c.args.questions.now)) before (g.H.Shelf.events c.ask_bytes.new.shelf)
    (g.K.Sink.state c.args.out.now) (g.K.Sink.state c.read_file.new.out) (g.K.Sink.state c.ask_bytes.new.out) c.ask_bytes.result
    c.in-Ok.ensures.unwritten (c.ask_bytes.ensures name before there)

pub returns-in-Err : goal.returns-in-Err
returns-in-Err g c =
    stopped-first (Ask c.args.format c.args.dump.now c.args.questions.now) (g.H.Shelf.events c.args.shelf.now) (g.H.Shelf.events c.read_file.new.shelf) c.args.dump.now MAX_DUMP_LENGTH
    (call.reads_dump c.args.format c.args.dump.now c.args.questions.now) (g.K.Sink.state c.args.out.now) (g.K.Sink.state c.read_file.new.out) c.in-Err.status c.in-Err.ensures.stopped
