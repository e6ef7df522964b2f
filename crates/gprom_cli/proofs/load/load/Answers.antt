use Rattle.std.proofs.Common.{◌≡◌, ℕ, List, [], ◌∷◌, ◌++◌, Some, subst, sym}
use Rattle.gprom_cli.specs.declared.load.TheConstants.{MAX_SHEET_LENGTH}
use Rattle.gprom_cli.specs.Args.{Load}
use Rattle.gprom_cli.specs.Call as call
use Rattle.gprom_cli.specs.Call.{read_of}
use Rattle.gprom_cli.proofs.StepsLemmas.{goes-on, stopped-first}
use Rattle.gprom_cli.proofs.load.load.Goals as goal

pub returns-in-Ok : goal.returns-in-Ok
returns-in-Ok g c =
    let before = g.H.Shelf.events c.args.shelf.now in
    let middle = g.H.Shelf.events c.read_file.new.shelf in
    let name = c.args.csv.now in
    let there : middle ≡ before ++ read_of name MAX_SHEET_LENGTH c.deref.result.now ∷ [] =
    subst (λ (bytes : List ℕ). middle ≡ before ++ read_of name MAX_SHEET_LENGTH bytes ∷ []) (sym c.deref.ensures.value) c.in-Ok.ensures.read.grown in
    goes-on (Some (Load name c.args.table.now c.args.script.now)) before (g.H.Shelf.events c.load_bytes.new.shelf)
    (g.K.Sink.state c.args.out.now) (g.K.Sink.state c.read_file.new.out) (g.K.Sink.state c.load_bytes.new.out) c.load_bytes.result
    c.in-Ok.ensures.unwritten (c.load_bytes.ensures name before there)

pub returns-in-Err : goal.returns-in-Err
returns-in-Err g c =
    stopped-first (Load c.args.csv.now c.args.table.now c.args.script.now) (g.H.Shelf.events c.args.shelf.now) (g.H.Shelf.events c.read_file.new.shelf) c.args.csv.now MAX_SHEET_LENGTH
    (call.reads_sheet c.args.csv.now c.args.table.now c.args.script.now) (g.K.Sink.state c.args.out.now) (g.K.Sink.state c.read_file.new.out) c.in-Err.status c.in-Err.ensures.stopped
