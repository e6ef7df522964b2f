use Rattle.std.proofs.Common.{◌≡◌, Err, List, [], ◌∷◌, ◌++◌, ℕ, refl, ap, subst, ◌∙◌}
use Rattle.gp_io.specs.Events.{Replaced, NotReplaced}
use Rattle.gprom_cli.specs.declared.status.Status.TheVariants as exit
use Rattle.gprom_cli.proofs.OutcomeLemmas.{load-done, load-lost, load-memory}
use Rattle.gprom_cli.proofs.load.write_results.Goals as goal

pub returns-in-Ok : goal.returns-in-Ok
returns-in-Ok g c = λ name before there.
    let events = g.H.Shelf.events c.args.shelf.now in
    let after = g.H.Shelf.events c.replace.new.self in
    load-done name c.args.table.now c.args.script.now c.args.bytes.now c.requires.short before events after there
    (g.K.Sink.state c.args.out.now) (g.K.Sink.state c.write_loaded.new.out) c.write_loaded.result
    c.args.made.now.text.items c.args.made.now.rows c.requires.exact c.requires.loads
    (subst (λ (t : List ℕ). after ≡ events ++ Replaced c.args.script.now t ∷ []) c.deref.ensures.value c.in-Ok.ensures.replaced) c.write_loaded.ensures

pub returns-in-Err-Failed : goal.returns-in-Err-Failed
returns-in-Err-Failed g c = λ name before there.
    let events = g.H.Shelf.events c.args.shelf.now in
    let after = g.H.Shelf.events c.replace.new.self in
    let is = c.in-Err-Failed.is ∙ ap Err c.in-Err-Failed.field-0-is in
    load-lost name c.args.table.now c.args.script.now c.args.bytes.now c.requires.short before events after there
    (g.K.Sink.state c.args.out.now) (g.K.Sink.state c.write_message.new.out) c.write_message.result
    c.args.made.now.text.items c.args.made.now.rows c.requires.exact
    (subst (λ (t : List ℕ). after ≡ events ++ NotReplaced c.args.script.now t ∷ []) c.deref.ensures.value (rw is at c.replace.ensures.stopped)) c.write_message.ensures

pub returns-in-Err-NoMemory : goal.returns-in-Err-NoMemory
returns-in-Err-NoMemory g c = λ name before there.
    let events = g.H.Shelf.events c.args.shelf.now in
    let sink = g.K.Sink.state c.args.out.now in
    let is = c.in-Err-NoMemory.is ∙ ap Err c.in-Err-NoMemory.field-0-is in
    load-memory name c.args.table.now c.args.script.now c.args.bytes.now c.requires.short before events (g.H.Shelf.events c.replace.new.self) there sink sink exit.OutOfMemory
    (rw is at c.replace.ensures.stopped) refl refl
