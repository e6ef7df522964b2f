use Rattle.std.proofs.Common.{◌∙◌, ◌+◌, ℕ, Bool, ap, drop, get_or, sym}
use Rattle.std.specs.Prelude.{◌&&◌}
use Rattle.std.specs.List.{list_all}
use Rattle.std.proofs.lemmas.Grind.{get_or_default_zero}
use Rattle.std.proofs.lemmas.Result.{err_from_is_err_and}
use Rattle.gp_log.specs.Contents.{entries}
use Rattle.gp_machine.specs.Entries.{statement_count}
use Rattle.gp_reenact.specs.Reenacting.{spans_of}
use Rattle.gp_serial.specs.Comparing.{first_do_same}
use Rattle.gp_serial.proofs.ComparingLemmas.{all_here, stop_compares_all}
use Rattle.gp_serial.proofs.serializing.all_do_same.Goals as goal

pub returns-in_err-same : goal.returns-in_err-same
returns-in_err-same c =
    let p = err_from_is_err_and c.from_residual.result c.from_residual.ensures.1 in
    rw (p.1, p.2) (stop_compares_all (entries c.args.log.now) c.args.versions.now (entries c.args.other.now) c.args.made.now (get_or c.args.order.now c.loop-t.t-index 0) c.args.order.now c.in_err-same.field-0.0 c.in_err-same.ensures)

pub returns-then-not-same : goal.returns-then-not-same
returns-then-not-same c =
    let test : ℕ → Bool = λ t. first_do_same (entries c.args.log.now) (spans_of c.args.versions.now) (entries c.args.other.now) (spans_of c.args.made.now) t (statement_count t (entries c.args.log.now)) in
    sym (sym c.loop-t.invariant ∙ all_here test c.args.order.now c.loop-t.t-index c.loop-t-test.true
    ∙ ap (λ b. b && list_all test (drop (c.loop-t.t-index + 1) c.args.order.now)) (sym c.in_ok-same.ensures ∙ c.if-not-same.true))

pub loop-t-preserved : goal.loop-t-preserved
loop-t-preserved c =
    let test : ℕ → Bool = λ t. first_do_same (entries c.args.log.now) (spans_of c.args.versions.now) (entries c.args.other.now) (spans_of c.args.made.now) t (statement_count t (entries c.args.log.now)) in
    sym (all_here test c.args.order.now c.loop-t.t-index c.loop-t-test.true
    ∙ ap (λ b. b && list_all test (drop (c.loop-t.t-index + 1) c.args.order.now)) (sym c.in_ok-same.ensures ∙ c.if-not-same.false))
    ∙ c.loop-t.invariant

pub does_same-requires : goal.does_same-requires
does_same-requires c =
    c.requires.each (get_or c.args.order.now c.loop-t.t-index 0)
    (c.loop-t.t-index, c.loop-t-test.true, get_or_default_zero c.args.order.now c.loop-t.t-index (get_or c.args.order.now c.loop-t.t-index 0) c.loop-t-test.true)
