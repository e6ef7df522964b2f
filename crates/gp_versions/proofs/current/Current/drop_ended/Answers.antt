use Rattle.std.proofs.Common.{ap, ◌∙◌}
use Rattle.gp_versions.specs.Listed.{newest_end, open_places}
use Rattle.gp_versions.proofs.ListedLemmas.{IsListed-dropped}
use Rattle.gp_versions.proofs.current.Current.drop_ended.Goals as goal

pub returns : goal.returns
returns c =
    let current = c.args.self.now in
    let spans = c.args.spans.now in
    record {
      current = IsListed-dropped current.places.items c.in_ok-places.places.items current.covered current.floor c.newest_end-self.result spans
          (c.in_ok-places.ensures ∙ ap (open_places spans) c.deref.ensures.value) (c.newest_end-self.ensures ∙ ap (newest_end current.floor spans) c.deref-2.ensures.value) c.requires.current;
    }
