use Rattle.std.proofs.Common.{◌≡◌, ℕ, List, [], ◌∷◌, ◌++◌, Some, subst, sym}
use Rattle.gp_script.specs.declared.script.TheConstants.{MAX_SCRIPT_LENGTH}
use Rattle.gprom_cli.specs.Args.{Run}
use Rattle.gprom_cli.specs.Call as call
use Rattle.gprom_cli.specs.Call.{read_of}
use Rattle.gprom_cli.proofs.StepsLemmas.{goes-on, stopped-first}
use Rattle.gprom_cli.proofs.run.run.Goals as goal

pub returns-in-Ok : goal.returns-in-Ok
returns-in-Ok g c =
    let before = g.H.Shelf.events c.args.shelf.now in
    let middle = g.H.Shelf.events c.read_file.new.shelf in
    let name = c.args.script.now in
    let there : middle ≡ before ++ read_of name MAX_SCRIPT_LENGTH c.deref.result.now ∷ [] =
    subst (λ (bytes : List ℕ). middle ≡ before ++ read_of name MAX_SCRIPT_LENGTH bytes ∷ []) (sym c.deref.ensures.value) c.in-Ok.ensures.read.grown in
    goes-on (Some (Run name c.args.dump.now)) before (g.H.Shelf.events c.run_bytes.new.shelf)
    (g.K.Sink.state c.args.out.now) (g.K.Sink.state c.read_file.new.out) (g.K.Sink.state c.run_bytes.new.out) c.run_bytes.result
    c.in-Ok.ensures.unwritten (c.run_bytes.ensures name before there)

pub returns-in-Err : goal.returns-in-Err
returns-in-Err g c =
    stopped-first (Run c.args.script.now c.args.dump.now) (g.H.Shelf.events c.args.shelf.now) (g.H.Shelf.events c.read_file.new.shelf) c.args.script.now MAX_SCRIPT_LENGTH
    (call.reads_script c.args.script.now c.args.dump.now) (g.K.Sink.state c.args.out.now) (g.K.Sink.state c.read_file.new.out) c.in-Err.status c.in-Err.ensures.stopped
