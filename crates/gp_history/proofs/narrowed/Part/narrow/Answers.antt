use Rattle.gp_history.proofs.RenewingLemmas.{got}
use Rattle.gp_history.proofs.narrowed.Part.narrow.Goals as goal

pub found-requires-clause-finder : goal.found-requires-clause-finder
found-requires-clause-finder g c =
    let lookup = c.in-Some.ensures.lookup in
    let here = got c.args.finders.now c.args.table c.in-Some.finder.now lookup.3.0 lookup.1 in
    rw here at c.requires.finder
