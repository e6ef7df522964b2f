use Rattle.std.proofs.Common.{Err, Global, Ok, Vec, ap, map, subst, true, ◌∙◌}
use Rattle.gp_algebra.specs.Statements.{width_of}
use Rattle.gp_algebra.specs.Plain.{PlainProgram}
use Rattle.gp_algebra.specs.WellBuilt.{is_well_built}
use Rattle.gp_base.specs.declared.monomial.Monomial.{Monomial}
use Rattle.gp_base.specs.declared.row.Row.{Row}
use Rattle.gp_kexec.specs.declared.held.Held.{Held}
use Rattle.gp_log.specs.Logs.{log_view}
use Rattle.gp_prov.specs.Encoding.{encoded}
use Rattle.gp_prov.specs.ToPlain.{plain_program}
use Rattle.gp_history.specs.Decoded.{decoded}
use Rattle.gp_history.specs.Narrowing.{narrow_spans, narrow_versions}
use Rattle.gp_history.specs.Noted.{row_view}
use Rattle.gp_history.specs.Running.{RunsTableOver}
use Rattle.gp_history.proofs.PublishedLemmas.{asked_is_built, found_published, stop_published}
use Rattle.gp_history.proofs.monomials.MonomialsAnnotatorMonomial.rows.Goals as goal

pub plain_rows-requires : goal.plain_rows-requires
plain_rows-requires c =
    let entries = log_view c.args.log.now.entries in
    ap is_well_built (c.in_ok-plain.ensures.exact ∙ (λ i. plain_program (width_of (c.catalog.ensures i)) true (c.requires.program i)))
    ∙ asked_is_built entries c.args._versions.now c.requires.sound c.args.of.now.before c.requires.within c.args.of.now.table

pub returns-in-Ok : goal.returns-in-Ok
returns-in-Ok c =
    let entries = log_view c.args.log.now.entries in
    let versions = c.args._versions.now in
    let known = c.args.known.now in
    let few_fit = c.requires.fit in
    let view = λ (rows : Vec Row Global). rows.items in
    let program = c.in_ok-plain.ensures.exact ∙ (λ i. plain_program (width_of (c.catalog.ensures i)) true (c.requires.program i)) in
    found_published entries versions c.requires.sound c.args.of.now.before c.requires.within c.args.of.now.table (narrow_spans known) few_fit known.most (narrow_versions known) c.requires.known view c.in-Ok.rows
    (map row_view c.in_ok-decoded-in-Ok.field-0.items) (c.in_ok-decoded-in-Ok.ensures ∙ ap decoded c.deref.ensures.value)
    (subst (λ (p : PlainProgram). RunsTableOver known.most view (Ok c.in-Ok.rows) (encoded true (narrow_versions known)) p) program c.in-Ok.ensures)

pub returns : goal.returns
returns c =
    let entries = log_view c.args.log.now.entries in
    let versions = c.args._versions.now in
    let known = c.args.known.now in
    let few_fit = c.requires.fit in
    let view = λ (rows : Vec Row Global). rows.items in
    let program = c.in_ok-plain.ensures.exact ∙ (λ i. plain_program (width_of (c.catalog.ensures i)) true (c.requires.program i)) in
    stop_published entries versions c.requires.sound c.args.of.now.before c.requires.within c.args.of.now.table (narrow_spans known) few_fit known.most (narrow_versions known) c.requires.known view
    (λ (rows : Vec (Held Monomial) Global). map row_view rows.items) c.in-Err.stop
    (subst (λ (p : PlainProgram). RunsTableOver known.most view (Err c.in-Err.stop) (encoded true (narrow_versions known)) p) program c.in-Err.ensures)
