use Rattle.std.proofs.Common.{Option, subst}
use Rattle.gp_base.specs.declared.refusal.Refusal.{Refusal}
use Rattle.gp_kexec.specs.Valuing.{values_in}
use Rattle.gp_log.specs.Logs.{log_view}
use Rattle.gp_reenact.specs.Reenacting.{spans_of}
use Rattle.gp_history.specs.Provenance.{AnnotatesOr}
use Rattle.gp_history.specs.Images.{values_are_images}
use Rattle.gp_history.specs.Keeping.{Reaches}
use Rattle.gp_history.proofs.ValuingLemmas.{stop_same}
use Rattle.gp_history.proofs.valuing.valued_to.Goals as goal

pub returns : goal.returns
returns g c =
    let k = g.K.Semiring in
    let met = g.met.K.Semiring in
    let domain = values_in k c.args.valuation.now in
    let entries = log_view c.args.log.now.entries in
    let spans = spans_of c.args.versions.now in
    subst (λ (expected : Option Refusal). AnnotatesOr (Reaches domain entries spans c.args.v) c.annotated_to.result expected)
    (stop_same domain (values_are_images met.laws k.number_of k.itself_of met.number_in met.itself_in c.args.valuation.now) entries spans c.args.v) c.annotated_to.ensures
