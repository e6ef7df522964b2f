use Rattle.std.proofs.Common.{ap, length, map, ◌-◌, ◌∙◌, arith}
use Rattle.std.proofs.lemmas.List.{take_rest}
use Rattle.gp_versions.specs.Chains.{entered}
use Rattle.gp_versions.specs.Commits.{ended}
use Rattle.gp_versions.proofs.EndLemmas.{ended_first-rest, put-rest}
use Rattle.gp_versions.proofs.commit.end_all.Goals as goal

pub returns : goal.returns
returns c =
    let version = c.args.version in
    let writes = c.args.writes.now in
    let to = c.len.result in
    let spans = c.end_entered.new.spans in
    put-rest (ended version writes) to (length spans - to) spans c.end_spans.new.spans (omega arith) (c.end_spans.ensures ∙ ap (map (ended version writes)) (take_rest spans to))
    ∙ (rw (c.len.ensures, c.end_entered.ensures, c.as_slice.ensures) (ended_first-rest (entered c.args.chains.now) version writes c.args.spans.now))
