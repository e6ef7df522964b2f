use Rattle.std.proofs.Common.{◌∙◌, ap, length, sym}
use Rattle.std.specs.Prelude.{◌&&◌}
use Rattle.std.proofs.lemmas.Result.{err_from_is_err_and}
use Rattle.gp_log.specs.Contents.{commits, entries}
use Rattle.gp_serial.specs.Comparing.{ends_same, passes_first}
use Rattle.gp_serial.proofs.ComparingLemmas.{stop_compares_ends}
use Rattle.gp_serial.proofs.serializing.do_same.Goals as goal

pub returns-in_err-same : goal.returns-in_err-same
returns-in_err-same c =
    let p = err_from_is_err_and c.from_residual.result c.from_residual.ensures.1 in
    rw (p.1, p.2) (stop_compares_ends (entries c.args.log.now) c.args.versions.now (entries c.args.other.now) c.args.made.now c.args.order.now c.in_err-same.field-0.0 c.in_err-same.ensures)

pub returns-then-not-same : goal.returns-then-not-same
returns-then-not-same c =
    let ends = passes_first (ends_same (commits c.args.log.now) (commits c.args.other.now) c.args.versions.now c.args.made.now) (length c.args.versions.now) in
    sym (ap (λ b. b && ends) (sym c.in_ok-same.ensures ∙ c.if-not-same.true))

pub ends_same-requires : goal.ends_same-requires
ends_same-requires c = c.requires.tables

pub returns : goal.returns
returns c =
    let ends = passes_first (ends_same (commits c.args.log.now) (commits c.args.other.now) c.args.versions.now c.args.made.now) (length c.args.versions.now) in
    c.in_ok-ends_same.ensures
    ∙ (λ i. passes_first (ends_same (c.commits.ensures i) (c.commits-2.ensures i) c.args.versions.now c.args.made.now) (length c.args.versions.now))
    ∙ sym (ap (λ b. b && ends) (sym c.in_ok-same.ensures ∙ c.if-not-same.false))
