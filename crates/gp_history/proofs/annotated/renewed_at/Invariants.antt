use Rattle.gp_history.proofs.RenewingLemmas.{Renews}
use Rattle.gp_history.proofs.annotated.renewed_at.Given as goal

abbrev pub invariant-loop-place : goal.invariant-loop-place
invariant-loop-place g l = Renews (g.N.Annotator.domain l.annotator).one l.version l.found l.spans l.initial.annotations.items l.annotations.items l.places l.place-index
