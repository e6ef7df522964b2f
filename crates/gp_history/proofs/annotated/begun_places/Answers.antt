use Rattle.std.proofs.lemmas.Option.{IfSome_then}
use Rattle.gp_history.proofs.RenewingLemmas.{got}
use Rattle.gp_history.proofs.annotated.begun_places.Goals as goal

pub returns-in_ok-begun_at-in-Some : goal.returns-in_ok-begun_at-in-Some
returns-in_ok-begun_at-in-Some c =
    let lookup = c.in-Some.ensures.lookup in
    let here = got c.args.finders.now c.args.table c.in-Some.finder.now lookup.3.0 lookup.1 in
    IfSome_then c.in_ok-begun_at-in-Some.field-0 c.in_ok-begun_at-in-Some.ensures (λ places has. has c.args.spans.now (rw here at c.requires))
