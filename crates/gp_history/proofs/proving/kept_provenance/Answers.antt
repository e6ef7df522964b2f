use Rattle.std.proofs.Common.{subst, sym, ℕ, ◌≤◌}
use Rattle.gp_base.specs.Annotated.{monomials}
use Rattle.gp_log.specs.Logs.{log_view}
use Rattle.gp_machine.specs.Entries.{versions_in}
use Rattle.gp_reenact.specs.Reenacting.{spans_of}
use Rattle.gp_syntax.specs.Views.{point_view}
use Rattle.gp_history.specs.Keeping.{Reaches}
use Rattle.gp_history.proofs.ProvingLemmas.{needed_within}
use Rattle.gp_history.proofs.proving.kept_provenance.Goals as goal

pub annotated_to-requires-clause-within : goal.annotated_to-requires-clause-within
annotated_to-requires-clause-within c =
    let entries = log_view c.args.log.now.entries in
    subst (λ (v : ℕ). v ≤ versions_in entries) (sym c.needed_version.ensures) (needed_within entries (point_view c.args.state) c.requires.known)

pub known_provenance-answer-requires-clause-reaches : goal.known_provenance-answer-requires-clause-reaches
known_provenance-answer-requires-clause-reaches c =
    subst (λ (v : ℕ). Reaches monomials (log_view c.args.log.now.entries) (spans_of c.args.versions.now) v c.in-Ok.known) c.needed_version.ensures c.in-Ok.ensures.1
