use Rattle.std.proofs.Common.{List, [], ◌∷◌, ◌+◌, ◌++◌, take, sym, ap, subst, ◌∙◌}
use Rattle.std.proofs.lemmas.List.{take_all}
use Rattle.gp_base.specs.declared.cell.Cell.{Cell}
use Rattle.gp_base.specs.Identities.{Identity, no_sources}
use Rattle.gp_base.specs.IdentityForms.{sources_of}
use Rattle.gp_algebra.specs.AnnotatedMeaning.{Derived}
use Rattle.gp_kexec.specs.Evaluating.{Appends, new_row}
use Rattle.gp_kexec.specs.Valuing.{values_in}
use Rattle.gp_kexec.proofs.GivenLemmas.{given_more, given_row, given_rows}
use Rattle.gp_kexec.proofs.MadeLemmas.{Appends-same, Appends-then}
use Rattle.gp_kexec.proofs.table.KInputs.given.Goals as goal

pub returns : goal.returns
returns g c =
    let k = g.K.Semiring in
    let kind = values_in k c.args.self.now.valuation.now in
    Appends-same c.args.made.now c.loop-place.made (given_rows kind c.args.t c.args.statement 1 (take c.loop-place.place c.args.rows.now)) (given_rows kind c.args.t c.args.statement 1 c.args.rows.now)
    (ap (given_rows kind c.args.t c.args.statement 1) (take_all c.loop-place.place c.args.rows.now c.loop-place-test.false)) c.loop-place.invariant

pub loop-place-preserved : goal.loop-place-preserved
loop-place-preserved g c =
    let k = g.K.Semiring in
    let kind = values_in k c.args.self.now.valuation.now in
    let i = c.loop-place.place in
    let row = c.index-rows-place.result in
    let done = given_rows kind c.args.t c.args.statement 1 (take i c.args.rows.now) in
    let same =
    ap (λ (ids : List Identity). new_row c.args.t c.args.statement (i + 1) (sources_of ids) c.in_ok-cells.cells c.in_ok-value.value) c.new.ensures.items
    ∙ (ap (λ (cells : List Cell). new_row c.args.t c.args.statement (i + 1) no_sources cells c.in_ok-value.value) c.in_ok-cells.ensures.cases
    ∙ ap (new_row c.args.t c.args.statement (i + 1) no_sources row) c.in_ok-value.ensures) in
    let pushed = subst (λ (new : Derived g.row.K.Denot). Appends c.loop-place.made c.push.new.self (new ∷ [])) same c.in_ok-push.ensures in
    Appends-same c.args.made.now c.push.new.self (done ++ given_row kind c.args.t c.args.statement (i + 1) row ∷ []) (given_rows kind c.args.t c.args.statement 1 (take (i + 1) c.args.rows.now))
    (sym (given_more kind c.args.t c.args.statement c.args.rows.now 1 i row row c.loop-place-test.true c.index-rows-place.is))
    (Appends-then c.args.made.now c.loop-place.made c.push.new.self done (given_row kind c.args.t c.args.statement (i + 1) row ∷ []) c.loop-place.invariant pushed)
