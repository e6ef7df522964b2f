use Rattle.gp_history.proofs.kept.readied.Goals as goal

pub returns : goal.returns
returns g c = record {
  within = c.requires.within;
  annotated = c.requires.annotated;
  unstopped = c.requires.unstopped;
  finders = c.in_ok-finders.ensures;
}
