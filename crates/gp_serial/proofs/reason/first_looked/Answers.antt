use Rattle.std.proofs.Common.{◌≡◌, ◌∙◌, List, [], map, true, ap, subst, sym}
use Rattle.std.specs.Prelude.{filter}
use Rattle.std.specs.Option.{option_map_or}
use Rattle.gp_base.specs.declared.table.Table.{Table}
use Rattle.gp_algebra.specs.Fitting.{statement_fits}
use Rattle.gp_algebra.specs.Views.{statement_view}
use Rattle.gp_log.specs.Contents.{entries, tables}
use Rattle.gp_machine.specs.Entries.{statement_at}
use Rattle.gp_machine.specs.Looks.{looks}
use Rattle.gp_serial.specs.Changes.{change_view}
use Rattle.gp_serial.specs.LookViews.{look_view}
use Rattle.gp_serial.specs.Reasons.{first_of, is_looked}
use Rattle.gp_serial.proofs.FittingStatements.{fits_there}
use Rattle.gp_serial.proofs.ReasonLemmas.{looked_first, looked_none}
use Rattle.gp_serial.proofs.reason.first_looked.Goals as goal

pub looks_of-requires : goal.looks_of-requires
looks_of-requires c =
    let statement = statement_view c.in-Some.stmt.now in
    subst (λ (ts : List Table). statement_fits ts statement ≡ true) (sym c.catalog.ensures)
    (fits_there (tables c.args.log.now) (entries c.args.log.now) c.args.reader c.args.k statement c.requires.fits (sym c.in-Some.ensures))

pub returns-in-None : goal.returns-in-None
returns-in-None c =
    sym (looked_none (tables c.args.log.now) (entries c.args.log.now) c.args.reader c.args.k c.args.writer (map change_view c.args.changes.now) c.args.earlier (sym c.in-None.ensures))

pub returns-in_ok-looks-in-Some : goal.returns-in_ok-looks-in-Some
returns-in_ok-looks-in-Some c =
    let all = tables c.args.log.now in
    let log = entries c.args.log.now in
    let same : map look_view c.deref.result.now ≡ option_map_or (looks all) (statement_at c.args.reader c.args.k log) [] =
    ap (map look_view) c.deref.ensures.value ∙ c.in_ok-looks-in-Some.ensures.looks ∙ (λ i. option_map_or (looks (c.catalog.ensures i)) (c.in-Some.ensures i) []) in
    looked_first all log c.args.reader c.args.k c.args.writer c.args.earlier c.args.changes.now c.first_among.result c.requires.made
    (c.first_among.ensures ∙ (λ i. first_of (filter (is_looked c.args.writer (c.version_read_by-version.ensures i) c.args.earlier (same i)) c.args.changes.now)))
