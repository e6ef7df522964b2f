use Rattle.std.proofs.Common.{◌≡◌, ℕ, Global, List, Vec, ap, ◌∙◌}
use Rattle.std.proofs.lemmas.Result.{IfOk-weaker}
use Rattle.gp_base.specs.declared.cell.Cell.{Cell}
use Rattle.gp_base.specs.Order.{row_cmp, sorted_by}
use Rattle.gp_algebra.specs.Views.{select_view}
use Rattle.gp_log.specs.Logs.{log_view}
use Rattle.gp_log.specs.Parameters.{parameters}
use Rattle.gp_reenact.specs.Looking.{saw_answer}
use Rattle.gp_reenact.specs.Reenacting.{spans_of}
use Rattle.gp_versions.specs.declared.span.Span.{Span}
use Rattle.gp_versions.specs.Spans.{Versions}
use Rattle.gp_dump.specs.Views.{dump_view, tables_view}
use Rattle.gp_ask.specs.declared.answered.Answered.{Answered}
use Rattle.gp_ask.specs.declared.answered.Answered.TheVariants.{Rows}
use Rattle.gp_ask.specs.Asking.{of_elements, table_spans}
use Rattle.gp_ask.specs.Seeing.{dump_saw}
use Rattle.gp_ask.proofs.ProvenanceLemmas.{sound-versions}
use Rattle.gp_ask.proofs.ReenactedLemmas.{dump-spans, in-order, refused}
use Rattle.gp_ask.proofs.seeing.selected_saw.Goals as goal

same-spans : (own versions : List Versions) → own ≡ versions → spans_of own ≡ table_spans (tables_view versions)
same-spans own versions is = ap spans_of is ∙ dump-spans versions

pub saw-requires-clause-query : goal.saw-requires-clause-query
saw-requires-clause-query c = record { fits = c.requires.fits; statements = c.args.dump.now.answerable.statements }

pub saw-requires-clause-spans : goal.saw-requires-clause-spans
saw-requires-clause-spans c = (sound-versions c.args.dump.now c.as_slice.result.now c.as_slice.ensures).spans

pub returns-in-Ok : goal.returns-in-Ok
returns-in-Ok c =
    let dump = c.args.dump.now in
    let entries = log_view dump.log.entries in
    let select = select_view c.args.select.now in
    let rows = c.in-Ok.rows in
    let view : Vec (List Cell) Global → List (List Cell) = λ found. found.items in
    IfOk-weaker c.sorted_answer.result (λ (a : Answered). a ≡ Rows (sorted_by row_cmp rows.items)) (λ (a : Answered). a ≡ dump_saw (dump_view dump) c.args.t c.args.k select)
    (λ a is.
    is
    ∙ in-order view rows (saw_answer parameters entries (spans_of c.as_slice.result.now) c.args.t c.args.k select) c.in-Ok.ensures
    ∙ ap (λ (spans : ℕ → List Span). of_elements (saw_answer parameters entries spans c.args.t c.args.k select)) (same-spans c.as_slice.result.now dump.versions c.as_slice.ensures))
    c.sorted_answer.ensures

pub returns-in-Err-Refused : goal.returns-in-Err-Refused
returns-in-Err-Refused c =
    let dump = c.args.dump.now in
    let entries = log_view dump.log.entries in
    let select = select_view c.args.select.now in
    let view : Vec (List Cell) Global → List (List Cell) = λ found. found.items in
    refused view c.in-Err-Refused.refusal (saw_answer parameters entries (spans_of c.as_slice.result.now) c.args.t c.args.k select) (rw c.in-Err-Refused.field-0-is at c.in-Err-Refused.ensures)
    ∙ ap (λ (spans : ℕ → List Span). of_elements (saw_answer parameters entries spans c.args.t c.args.k select)) (same-spans c.as_slice.result.now dump.versions c.as_slice.ensures)
