use Rattle.std.proofs.Common.{Err, Global, Ok, Vec, ap, arith, map, subst, sym, ℕ, ◌≤◌, ◌∙◌}
use Rattle.gp_algebra.specs.AnnotatedQueries.{Program}
use Rattle.gp_algebra.specs.Views.{select_view}
use Rattle.gp_kexec.specs.declared.env.KRow.{KRow}
use Rattle.gp_kexec.specs.Rows.{pair_view}
use Rattle.gp_kexec.specs.Running.{IsSomeProgram}
use Rattle.gp_kexec.specs.Valuing.{values_in}
use Rattle.gp_log.specs.Parameters.{parameters}
use Rattle.gp_log.specs.LogFacts.{tables_in}
use Rattle.gp_log.specs.Logs.{log_view}
use Rattle.gp_machine.specs.Entries.{versions_in}
use Rattle.gp_base.specs.declared.stop.Stop.{Stop}
use Rattle.gp_reenact.specs.Reenacting.{spans_of, stopped, transaction_at}
use Rattle.gp_syntax.specs.Views.{point_view}
use Rattle.gp_semiring.specs.Values.{token_value}
use Rattle.gp_history.specs.ValueForms.{value_answer}
use Rattle.gp_history.specs.Agreement.{agree}
use Rattle.gp_history.specs.Images.{value_in, values_are_images}
use Rattle.gp_history.specs.Running.{SumsOver}
use Rattle.gp_history.specs.SpanAnnotations.{versions_with}
use Rattle.gp_history.specs.Values.{Gives}
use Rattle.gp_history.proofs.ValuingLemmas.{agree_ignores, found_is, program_is_built, room, stop_is}
use Rattle.gp_history.proofs.valuing.known_values.Goals as goal

pub planned-requires-clause-query : goal.planned-requires-clause-query
planned-requires-clause-query g c = record { fits = c.requires.fits; statements = c.requires.sound.statements }

pub sums_over-requires : goal.sums_over-requires
sums_over-requires g c =
    let k = g.K.Semiring in
    let met = g.met.K.Semiring in
    let rules = c.args.valuation.now in
    subst (λ (program : Program). IsSomeProgram program) (sym c.in_ok-program.ensures)
    (program_is_built (values_in k rules) (values_are_images met.laws k.number_of k.itself_of met.number_in met.itself_in rules) k.plus_of (log_view c.args.log.now.entries)
    c.args.versions.now c.requires.sound (select_view c.args.select.now) c.requires.fits (point_view c.args.state) c.requires.known)

pub returns-in-Ok : goal.returns-in-Ok
returns-in-Ok g c =
    let k = g.K.Semiring in
    let met = g.met.K.Semiring in
    let rules = c.args.valuation.now in
    let domain = values_in k rules in
    let image = values_are_images met.laws k.number_of k.itself_of met.number_in met.itself_in rules in
    let value = token_value k.one_of k.number_of k.itself_of rules in
    let entries = log_view c.args.log.now.entries in
    let versions = c.args.versions.now in
    let spans = spans_of versions in
    let select = select_view c.args.select.now in
    let point = point_view c.args.state in
    let view = λ (rows : Vec (KRow g.row.K.Denot) Global). map pair_view rows.items in
    let few : versions_in entries ≤ 0xffff_ffff = omega (arith, c.bounds.ensures.commits) in
    let same =
    c.values_are_sums_over_the_history.ensures.answers value (value_in met.laws k.number_of k.itself_of met.number_in met.itself_in rules) parameters agree agree agree_ignores (tables_in entries) entries spans point select
    (room entries versions c.requires.sound few select c.requires.few) in
    let kept = c.args.known.now in
    let sums = subst (λ (program : Program). SumsOver domain k.plus_of view (Ok c.in-Ok.rows) (versions_with spans kept.annotated) program) c.in_ok-program.ensures c.in-Ok.ensures in
    subst (Gives view (Ok c.in-Ok.rows)) same
    (found_is domain image k.plus_of entries versions c.requires.sound select c.requires.fits point c.requires.known view kept c.requires.reaches c.in-Ok.rows sums)

pub returns : goal.returns
returns g c =
    let k = g.K.Semiring in
    let met = g.met.K.Semiring in
    let rules = c.args.valuation.now in
    let domain = values_in k rules in
    let image = values_are_images met.laws k.number_of k.itself_of met.number_in met.itself_in rules in
    let value = token_value k.one_of k.number_of k.itself_of rules in
    let entries = log_view c.args.log.now.entries in
    let versions = c.args.versions.now in
    let spans = spans_of versions in
    let select = select_view c.args.select.now in
    let point = point_view c.args.state in
    let view = λ (rows : Vec (KRow g.row.K.Denot) Global). map pair_view rows.items in
    let few : versions_in entries ≤ 0xffff_ffff = omega (arith, c.bounds.ensures.commits) in
    let same =
    c.values_are_sums_over_the_history.ensures.answers value (value_in met.laws k.number_of k.itself_of met.number_in met.itself_in rules) parameters agree agree agree_ignores (tables_in entries) entries spans point select
    (room entries versions c.requires.sound few select c.requires.few) in
    let kept = c.args.known.now in
    let sums = subst (λ (program : Program). SumsOver domain k.plus_of view (Err c.in-Err.stop) (versions_with spans kept.annotated) program) c.in_ok-program.ensures c.in-Err.ensures in
    subst (λ (stop : Stop). Gives view (Err stop) (value_answer parameters k.plus_of k.zero_of k.one_of k.times_of value agree (tables_in entries) entries spans point select))
    (sym (c.stopped.ensures ∙ ap (λ (t : ℕ). stopped t c.in-Err.stop) c.transaction_at.ensures))
    (subst (Gives view (Err (stopped (transaction_at point) c.in-Err.stop))) same
    (stop_is domain image k.plus_of entries versions c.requires.sound select c.requires.fits point c.requires.known view kept c.requires.reaches c.in-Err.stop sums))
