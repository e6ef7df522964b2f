use Rattle.std.proofs.Common.{ap}
use Rattle.std.proofs.lemmas.List.{take_rest}
use Rattle.gp_versions.specs.Spans.{Versions}
use Rattle.gp_versions.proofs.ChainLemmas.{written-parts}
use Rattle.gp_versions.proofs.table.VersionTable.written_after.Goals as goal

pub returns : goal.returns
returns c =
    let spans = c.as_slice-spans.result.now in
    let parts = written-parts c.args.id.now c.args.v spans c.len.result in
    let rest = take_rest spans c.len.result in
    let view = ap (λ (versions : Versions). versions.spans) c.self.view_is in
    cc
