use Rattle.std.proofs.Common.{List, arith, length, subst, sym, ◌<◌}
use Rattle.gp_reenact.specs.Reenacting.{spans_of}
use Rattle.gp_versions.specs.declared.span.Span.{Span}
use Rattle.gp_versions.specs.Finding.{IsFinder}
use Rattle.gp_history.proofs.RenewingLemmas.{finders_set, got}
use Rattle.gp_history.proofs.finders.enter_table.Goals as goal

pub enter_cells-requires : goal.enter_cells-requires
enter_cells-requires c =
    let finder = c.index_mut.result.now in
    let there : c.args.table < length c.args.finders.now.items = omega (arith, c.if-at-len.true, c.len.ensures) in
    subst (λ (spans : List Span). IsFinder spans finder) (sym c.spans_in.ensures.spans)
    (c.requires c.args.table finder (got c.args.finders.now.items c.args.table finder there c.index_mut.ensures.value))

pub returns-in_ok-enter_cells : goal.returns-in_ok-enter_cells
returns-in_ok-enter_cells c =
    finders_set (spans_of c.args.versions.now) c.args.finders.now.items c.args.table c.enter_cells.new.finder (subst (λ (spans : List Span). IsFinder spans c.enter_cells.new.finder) c.spans_in.ensures.spans c.enter_cells.ensures)
    c.requires

pub returns-in_err-enter_cells : goal.returns-in_err-enter_cells
returns-in_err-enter_cells c =
    finders_set (spans_of c.args.versions.now) c.args.finders.now.items c.args.table c.enter_cells.new.finder (subst (λ (spans : List Span). IsFinder spans c.enter_cells.new.finder) c.spans_in.ensures.spans c.enter_cells.ensures)
    c.requires
