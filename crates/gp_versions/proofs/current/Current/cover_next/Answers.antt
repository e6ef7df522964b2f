use Rattle.std.proofs.Common.{◌+◌, refl}
use Rattle.gp_versions.proofs.ListedLemmas.{IsListed-ended, IsListed-open}
use Rattle.gp_versions.proofs.current.Current.cover_next.Goals as goal

pub returns-in_ok-push-in-None-clause-current : goal.returns-in_ok-push-in-None-clause-current
returns-in_ok-push-in-None-clause-current c = λ spans at is.
    let current = c.args.self.now in
    IsListed-open current.places.items c.push.new.self.items c.in-Ok.place current.covered (current.covered + 1) current.floor spans c.args.span.now c.in-Ok.ensures.1 refl c.in_ok-push-in-None.ensures.items at is

pub returns-in-Some-clause-current : goal.returns-in-Some-clause-current
returns-in-Some-clause-current c = λ spans at is.
    let current = c.args.self.now in
    IsListed-ended current.places.items current.covered (current.covered + 1) current.floor c.greater-self.result c.in-Some.to spans c.args.span.now refl c.greater-self.ensures c.in-Some.is at is
