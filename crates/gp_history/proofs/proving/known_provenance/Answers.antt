use Rattle.std.proofs.Common.{Err, Global, Ok, Vec, ap, subst, sym, ℕ, ◌∙◌}
use Rattle.gp_algebra.specs.PlainViews.{program_view}
use Rattle.gp_algebra.specs.Views.{select_view}
use Rattle.gp_algebra.specs.WellBuilt.{is_well_built}
use Rattle.gp_base.specs.declared.row.Row.{Row}
use Rattle.gp_base.specs.Annotated.{monomials}
use Rattle.gp_log.specs.Parameters.{parameters}
use Rattle.gp_log.specs.LogFacts.{tables_in}
use Rattle.gp_log.specs.Logs.{log_view}
use Rattle.gp_machine.specs.Entries.{log_of, versions_in}
use Rattle.gp_machine.specs.Questions.{annotated_answer, needed_version}
use Rattle.gp_base.specs.declared.stop.Stop.{Stop}
use Rattle.gp_reenact.specs.Reenacting.{spans_of, stopped}
use Rattle.gp_syntax.specs.Views.{point_view}
use Rattle.gp_history.specs.Agreement.{agree}
use Rattle.gp_history.specs.Provenance.{Proves}
use Rattle.gp_history.proofs.KeepingLemmas.{none_before}
use Rattle.gp_history.proofs.ProvenanceLemmas.{plain_is_built}
use Rattle.gp_history.proofs.ProvingLemmas.{found_is, over_all, stop_is}
use Rattle.gp_history.proofs.proving.known_provenance.Goals as goal

pub planned-requires-clause-query : goal.planned-requires-clause-query
planned-requires-clause-query c = record { fits = c.requires.fits; statements = c.requires.sound.statements }

pub rows_over-requires : goal.rows_over-requires
rows_over-requires c =
    let entries = log_view c.args.log.now.entries in
    ap is_well_built c.in_ok-plain.ensures
    ∙ plain_is_built entries c.args.versions.now c.requires.sound (select_view c.args.select.now) c.requires.fits (point_view c.args.state) c.requires.known (versions_in entries)

pub returns-in-Ok : goal.returns-in-Ok
returns-in-Ok c =
    let entries = log_view c.args.log.now.entries in
    let versions = c.args.versions.now in
    let spans = spans_of versions in
    let select = select_view c.args.select.now in
    let point = point_view c.args.state in
    let view = λ (rows : Vec Row Global). rows.items in
    let kept = c.args.known.now in
    let reaches = c.requires.reaches in
    let none = none_before monomials (tables_in entries) (log_of entries) spans (needed_version entries point) kept.version reaches.1 reaches.0.unstopped in
    found_is view entries versions c.requires.sound select c.requires.fits point c.requires.known none c.in-Ok.rows
    (over_all view entries versions c.requires.sound select c.requires.fits point c.requires.known kept.version reaches.1 reaches.0.within kept.annotated reaches.0.annotated (program_view c.in_ok-plain.plain) c.in_ok-plain.ensures (Ok c.in-Ok.rows) c.in-Ok.ensures)

pub returns : goal.returns
returns c =
    let entries = log_view c.args.log.now.entries in
    let versions = c.args.versions.now in
    let spans = spans_of versions in
    let select = select_view c.args.select.now in
    let point = point_view c.args.state in
    let view = λ (rows : Vec Row Global). rows.items in
    let kept = c.args.known.now in
    let reaches = c.requires.reaches in
    let none = none_before monomials (tables_in entries) (log_of entries) spans (needed_version entries point) kept.version reaches.1 reaches.0.unstopped in
    subst (λ (stop : Stop). Proves view (Err stop) (annotated_answer monomials parameters agree (tables_in entries) entries spans point select))
    (sym (c.stopped.ensures ∙ ap (λ (t : ℕ). stopped t c.in-Err.stop) c.transaction_at.ensures))
    (stop_is view entries versions c.requires.sound select c.requires.fits point c.requires.known none c.in-Err.stop
    (over_all view entries versions c.requires.sound select c.requires.fits point c.requires.known kept.version reaches.1 reaches.0.within kept.annotated reaches.0.annotated (program_view c.in_ok-plain.plain) c.in_ok-plain.ensures (Err c.in-Err.stop) c.in-Err.ensures))
