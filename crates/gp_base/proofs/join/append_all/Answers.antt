use Rattle.std.proofs.Common.{ℕ, List, ◌∙◌, take}
use Rattle.std.specs.Borrow.{Bor}
use Rattle.std.specs.List.{flat_map}
use Rattle.std.proofs.lemmas.Result.{err_from_is_err_and}
use Rattle.gp_base.proofs.WritingLemmas.{AppendsPrefix-part, flat_map-parts}
use Rattle.gp_base.proofs.join.append_all.Goals as goal

pub returns-in_err-extend_from_slice-clause-err : goal.returns-in_err-extend_from_slice-clause-err
returns-in_err-extend_from_slice-clause-err c =
    let p = err_from_is_err_and c.from_residual.result c.from_residual.ensures.1 in
    let text = λ (piece : Bor (List ℕ)). piece.now in
    let pieces = c.args.pieces.now in
    rw p.1 (AppendsPrefix-part c.args.out.now.items c.extend_from_slice.new.self.items (flat_map text pieces) (flat_map text (take c.loop-piece.piece-index pieces)) _
    (c.in_err-extend_from_slice.ensures.items ∙ c.loop-piece.invariant) (flat_map-parts text pieces c.loop-piece.piece-index))
