use Rattle.std.proofs.Common.{Bool, subst, sym}
use Rattle.std.specs.BTreeMap.{get}
use Rattle.std.specs.Option.{is_some}
use Rattle.gp_base.specs.Identities.{identity_cmp}
use Rattle.gp_versions.specs.TableSpans.{AreWhole, NoOverlap}
use Rattle.gp_versions.specs.declared.span.Span.{Span}
use Rattle.gp_ask.proofs.NarrowedLemmas.{apart-asked, whole-asked}
use Rattle.gp_ask.proofs.narrowing.asked_table.Goals as goal

pub from_spans-requires-clause-apart : goal.from_spans-requires-clause-apart
from_spans-requires-clause-apart c =
    let asks : Span → Bool = λ (span : Span). is_some (get identity_cmp c.args.asked.now span.id) in
    subst NoOverlap (sym c.in_ok-spans-in-Some.ensures) (apart-asked asks c.as_slice.result.now (subst NoOverlap (sym c.as_slice.ensures.spans) c.as_slice.ensures.apart))

pub from_spans-requires-clause-whole : goal.from_spans-requires-clause-whole
from_spans-requires-clause-whole c =
    let asks : Span → Bool = λ (span : Span). is_some (get identity_cmp c.args.asked.now span.id) in
    subst AreWhole (sym c.in_ok-spans-in-Some.ensures) (whole-asked asks c.as_slice.result.now (subst AreWhole (sym c.as_slice.ensures.spans) c.as_slice.ensures.whole))
