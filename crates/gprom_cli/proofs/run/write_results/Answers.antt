use Rattle.std.proofs.Common.{◌≡◌, ◌<◌, ◌≤◌, ◌∙◌, Err, List, [], ◌∷◌, ◌++◌, ℕ, length, refl, ap, subst, arith}
use Rattle.gp_io.specs.Events.{Replaced, NotReplaced}
use Rattle.gp_dump.specs.declared.dump.TheConstants.{MAX_DUMP_LENGTH}
use Rattle.gp_script.specs.History.{replies_text, has_refusal}
use Rattle.gp_script.specs.Scripts.{replies_of}
use Rattle.gprom_cli.specs.declared.status.Status.{Status}
use Rattle.gprom_cli.specs.declared.status.Status.TheVariants as exit
use Rattle.gprom_cli.specs.Call.{WritesOutput, answered_status}
use Rattle.gprom_cli.specs.Steps.{script_dump}
use Rattle.gprom_cli.proofs.OutcomeLemmas.{run-long, run-lost, run-memory, run-replied}
use Rattle.gprom_cli.proofs.run.write_results.Goals as goal

pub returns-then-len-gt-MAX_DUMP_LENGTH : goal.returns-then-len-gt-MAX_DUMP_LENGTH
returns-then-len-gt-MAX_DUMP_LENGTH g c = λ name before there.
    let events = g.H.Shelf.events c.args.shelf.now in
    let long : MAX_DUMP_LENGTH < length (script_dump c.args.script.now) = subst (λ (text : List ℕ). MAX_DUMP_LENGTH < length text) c.requires.dump (omega (arith, c.args.made.now.dump.ok.0)) in
    run-long name c.args.dump.now c.args.script.now c.requires.short before events events there
    (g.K.Sink.state c.args.out.now) (g.K.Sink.state c.write_message.new.out) c.write_message.result long refl c.write_message.ensures

pub returns-in-Ok : goal.returns-in-Ok
returns-in-Ok g c = λ name before there.
    let events = g.H.Shelf.events c.args.shelf.now in
    let after = g.H.Shelf.events c.replace.new.self in
    let sink = g.K.Sink.state c.args.out.now in
    let sink_after = g.K.Sink.state c.write_output.new.out in
    let replies = replies_of c.args.script.now in
    let short : length (script_dump c.args.script.now) ≤ MAX_DUMP_LENGTH = subst (λ (text : List ℕ). length text ≤ MAX_DUMP_LENGTH) c.requires.dump (omega (arith, c.args.made.now.dump.ok.0)) in
    let text : c.deref-in-Ok.result.now ≡ replies_text replies = c.deref-in-Ok.ensures.value ∙ c.requires.replies in
    let status : c.answered.result ≡ answered_status (has_refusal replies) = c.answered.ensures ∙ ap answered_status c.requires.refused in
    let written : WritesOutput (replies_text replies) c.answered.result sink sink_after c.write_output.result =
    subst (λ (t : List ℕ). WritesOutput t c.answered.result sink sink_after c.write_output.result) text c.write_output.ensures in
    run-replied name c.args.dump.now c.args.script.now c.requires.short before events after there sink sink_after c.write_output.result short
    (subst (λ (t : List ℕ). after ≡ events ++ Replaced c.args.dump.now t ∷ []) (c.deref.ensures.value ∙ c.requires.dump) c.in-Ok.ensures.replaced)
    (subst (λ (s : Status). WritesOutput (replies_text replies) s sink sink_after c.write_output.result) status written)

pub returns-in-Err-Failed : goal.returns-in-Err-Failed
returns-in-Err-Failed g c = λ name before there.
    let events = g.H.Shelf.events c.args.shelf.now in
    let after = g.H.Shelf.events c.replace.new.self in
    let is = c.in-Err-Failed.is ∙ ap Err c.in-Err-Failed.field-0-is in
    let short : length (script_dump c.args.script.now) ≤ MAX_DUMP_LENGTH = subst (λ (text : List ℕ). length text ≤ MAX_DUMP_LENGTH) c.requires.dump (omega (arith, c.args.made.now.dump.ok.0)) in
    run-lost name c.args.dump.now c.args.script.now c.requires.short before events after there
    (g.K.Sink.state c.args.out.now) (g.K.Sink.state c.write_message-in-Err-Failed.new.out) c.write_message-in-Err-Failed.result short
    (subst (λ (t : List ℕ). after ≡ events ++ NotReplaced c.args.dump.now t ∷ []) (c.deref.ensures.value ∙ c.requires.dump) (rw is at c.replace.ensures.stopped))
    c.write_message-in-Err-Failed.ensures

pub returns-in-Err-NoMemory : goal.returns-in-Err-NoMemory
returns-in-Err-NoMemory g c = λ name before there.
    let events = g.H.Shelf.events c.args.shelf.now in
    let sink = g.K.Sink.state c.args.out.now in
    let is = c.in-Err-NoMemory.is ∙ ap Err c.in-Err-NoMemory.field-0-is in
    run-memory name c.args.dump.now c.args.script.now c.requires.short before events (g.H.Shelf.events c.replace.new.self) there sink sink exit.OutOfMemory
    (rw is at c.replace.ensures.stopped) refl refl
