use Rattle.gp_versions.specs.Spans.{spans_at}
use Rattle.std.specs.Prelude.{slice_index_or}
use Rattle.gp_reenact.specs.Travel.{no_table}
use Rattle.gp_reenact.proofs.EncodingLemmas.{rows-plain}
use Rattle.gp_reenact.proofs.scan_laws.annotations_are_left_out.Goals as goal

pub returns : goal.returns
returns g c = record { left_out = λ kind versions version table. rows-plain kind (spans_at version (slice_index_or versions table no_table).spans) }
