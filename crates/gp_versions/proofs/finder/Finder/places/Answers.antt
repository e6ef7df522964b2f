use Rattle.gp_versions.proofs.FinderLemmas.{found-permuted}
use Rattle.gp_versions.proofs.finder.Finder.places.Goals as goal

pub returns-clause-found : goal.returns-clause-found
returns-clause-found c = found-permuted c.args.wanted.now c.args.spans.now c.push_wanted.new.found.items c.sort.new.self.items c.in_ok-sort.ensures.permutation (c.in_ok-push_wanted.ensures c.if-not-branch.false)
