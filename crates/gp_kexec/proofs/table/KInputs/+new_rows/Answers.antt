use Rattle.std.proofs.Common.{◌++◌, sym, subst}
use Rattle.std.specs.Prelude.{OnOk}
use Rattle.gp_algebra.specs.AnnotatedMeaning.{meaning}
use Rattle.gp_algebra.specs.QueryViews.{annotated_view}
use Rattle.gp_algebra.specs.declared.annotated.AQuery.{AQuery}
use Rattle.gp_kexec.specs.Evaluating.{Appends, held_after}
use Rattle.gp_kexec.specs.Rows.{environment_view}
use Rattle.gp_kexec.specs.Valuing.{values_in}
use Rattle.gp_kexec.proofs.MadeLemmas.{Appends-then, OnOk-then}
use Rattle.gp_kexec.proofs.table.KInputs.+new_rows.Goals as goal

pub returns-in_ok-new_rows-in-Union : goal.returns-in_ok-new_rows-in-Union
returns-in_ok-new_rows-in-Union g t c =
    let k = g.K.Semiring in
    let meant = λ (query : AQuery).
    meaning (values_in k c.args.self.now.valuation.now) (held_after c.args.self.now.steps.now) (environment_view c.args.self.now.env.now) (annotated_view query) in
    let old = c.args.made.now in
    let mid = c.new_rows.new.made in
    let new = c.new_rows-in-Union.new.made in
    let first = subst (λ (query : AQuery). Appends old mid (meant query)) c.deref-in-Union.ensures c.in_ok-new_rows-in-Union.ensures in
    let second = subst (λ (query : AQuery). OnOk c.new_rows-in-Union.result (Appends mid new (meant query))) c.deref-in-Union-2.ensures c.new_rows-in-Union.ensures in
    subst (λ (query : AQuery). OnOk c.new_rows-in-Union.result (Appends old new (meant query))) (sym c.in-Union.is)
    (OnOk-then c.new_rows-in-Union.result (Appends mid new (meant c.in-Union.right.value)) (Appends old new (meant c.in-Union.left.value ++ meant c.in-Union.right.value))
    (λ rest. Appends-then old mid new (meant c.in-Union.left.value) (meant c.in-Union.right.value) first rest) second)
