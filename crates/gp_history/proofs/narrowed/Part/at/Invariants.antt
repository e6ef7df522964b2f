use Rattle.std.proofs.Common.{map}
use Rattle.gp_algebra.specs.Views.{statement_view}
use Rattle.gp_history.specs.Narrowing.{is_left}
use Rattle.gp_history.proofs.SeekingLemmas.{Looked}
use Rattle.gp_history.proofs.narrowed.Part.at.Given as goal

-- the spans below a place are decided
abbrev pub invariant-loop-place : goal.invariant-loop-place
invariant-loop-place g l =
    Looked (is_left l.fn.reach l.fn.t (map (λ stmt. statement_view stmt.now) l.fn.statements) l.fn.table) l.spans l.annotations l.places l.part l.next l.place-index
