use Rattle.std.proofs.Common.{◌≡◌, ◌-◌, ◌∙◌, List, None, Ok, Some, ap, arith, map, subst, suc, sym, ℕ}
use Rattle.std.specs.Prelude.{filter, option_and_then}
use Rattle.gp_base.specs.Annotated.{unannotated}
use Rattle.gp_base.specs.Order.{row_cmp, sorted_by}
use Rattle.gp_expr.specs.Views.{cond_view}
use Rattle.gp_log.specs.Contents.{entries}
use Rattle.gp_log.specs.Parameters.{parameters}
use Rattle.gp_machine.specs.Entries.{log_of, statement_at}
use Rattle.gp_machine.specs.HistorySpans.{as_of}
use Rattle.gp_machine.specs.Points.{run_stop}
use Rattle.gp_reenact.specs.Reenacting.{spans_of}
use Rattle.gp_versions.specs.declared.span.Span.{Span}
use Rattle.gp_serial.specs.Finding.{is_found, keyed_span, search_of}
use Rattle.gp_serial.specs.Running.{IsShown}
use Rattle.gp_serial.proofs.FindingLemmas.{found_shown, simple_search, search_at}
use Rattle.gp_serial.proofs.finding.searched.Goals as goal

pub found-requires : goal.found-requires
found-requires c = simple_search (entries c.args.log.now) c.args.t c.args.k c.args.table (cond_view c.args.cond.now) c.requires.at.statements c.requires.here

pub returns : goal.returns
returns c =
    let log = entries c.args.log.now in
    let spans = spans_of c.args.versions.now in
    let t = c.args.t in
    let table = c.args.table in
    let own = cond_view c.args.cond.now in
    let before = c.args.k - 1 in
    let is : c.args.k ≡ suc before = omega (arith, c.requires.at.first) in
    subst (λ (k : ℕ). IsShown log spans t k (Ok (Some c.in_ok-found.field-0))) (sym is)
    (found_shown log spans t before table own c.in_ok-found.field-0 (subst (λ (k : ℕ). option_and_then search_of (statement_at t k log) ≡ Some (search_at table own)) is c.requires.here)
    (c.is_unwritten.ensures c.if-not-is_unwritten.false) (subst (λ (k : ℕ). run_stop unannotated parameters (log_of log) t k (as_of unannotated spans) ≡ None) is c.requires.runs)
    (c.in_ok-found.ensures
    ∙ ap (λ (all : List Span). sorted_by row_cmp (map keyed_span (filter (is_found c.version_read_by-version.result own) all))) c.spans_of.ensures
    ∙ ap (λ v. sorted_by row_cmp (map keyed_span (filter (is_found v own) (spans table)))) (c.version_read_by-version.ensures ∙ ap (λ (k : ℕ). (log_of log).version t k) is)))
