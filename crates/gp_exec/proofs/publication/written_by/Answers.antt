use Rattle.std.proofs.Common.{◌≡◌, ◌∙◌}
use Rattle.std.proofs.lemmas.Result.{IfOk-weaker}
use Rattle.gp_base.specs.declared.cell.Cell.{Cell}
use Rattle.gp_base.specs.Identities.{Identity}
use Rattle.gp_algebra.specs.Plain.{is_written}
use Rattle.gp_exec.specs.Evaluating.{found_rows}
use Rattle.gp_exec.specs.PendingRows.{exprs_of, cell_there, pending_rows}
use Rattle.gp_exec.specs.Publishing.{has_key, has_written, holds_cell}
use Rattle.gp_exec.proofs.PublishingLemmas.{seen_cell}
use Rattle.gp_exec.proofs.publication.written_by.Goals as goal

pub returns : goal.returns
returns c =
    let at = c.args.at in
    let mine = c.args.mine.now in
    let base = found_rows c.args.base.now in
    IfOk-weaker c.written.result (λ ids. (id : Identity) → has_key ids id ≡ has_written c.deref.result.now c.deref-2.result.now id)
    (λ ids. (x : Cell) → holds_cell ids x ≡ is_written at base (pending_rows mine) x)
    (λ ids keys. seen_cell at (exprs_of mine) (cell_there mine.id) (cell_there mine.mark) base (found_rows mine.rows) c.in_ok-base.base.items c.in_ok-own.own.items ids c.requires.id.cell
    c.requires.mark.cell c.in_ok-base.ensures.ids c.in_ok-own.ensures.ids c.in_ok-own.ensures.marked
    (λ id. keys id ∙ (λ i. has_written (c.deref.ensures.value i) (c.deref-2.ensures.value i) id))) c.written.ensures
