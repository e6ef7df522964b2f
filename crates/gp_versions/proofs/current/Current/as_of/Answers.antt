use Rattle.std.proofs.Common.{◌-◌, ◌++◌, ap, drop, length, take, ◌∙◌}
use Rattle.std.proofs.lemmas.List.{take_rest}
use Rattle.gp_versions.specs.Listed.{listed}
use Rattle.gp_versions.specs.Spans.{spans_at}
use Rattle.gp_versions.proofs.ListedLemmas.{as_of-listed}
use Rattle.gp_versions.proofs.current.Current.as_of.Goals as goal

pub returns-then-self-v : goal.returns-then-self-v
returns-then-self-v c =
    let current = c.args.self.now in
    let spans = c.args.spans.now in
    let v = c.args.v in
    c.new.ensures
    ∙ ap (λ places. spans_at v (listed spans places) ++ spans_at v (take (length spans - current.covered) (drop current.covered spans))) c.deref.ensures.value
    ∙ ap (λ rest. spans_at v (listed spans current.places.items) ++ spans_at v rest) (take_rest spans current.covered)
    ∙ as_of-listed current.places.items current.covered current.floor v spans c.requires.current c.if-self-v.true
