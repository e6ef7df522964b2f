use Rattle.std.proofs.Common.{◌≡◌, ◌∙◌, Err, Global, List, Ok, Result, Vec, ap, subst}
use Rattle.std.proofs.lemmas.Result.{err_from_is_err_and}
use Rattle.gp_base.specs.declared.cell.Cell.{Cell}
use Rattle.gp_base.specs.declared.refusal.Refusal.{Refusal}
use Rattle.gp_base.specs.declared.row.Row.{Row}
use Rattle.gp_algebra.specs.Answers.{Element}
use Rattle.gp_grammar.specs.Syntax as y
use Rattle.gp_algebra.specs.Views.{select_view}
use Rattle.gp_dump.specs.Dumps.{Dump}
use Rattle.gp_dump.specs.Views.{dump_view}
use Rattle.gp_log.specs.Parameters.{parameters}
use Rattle.gp_machine.specs.Questions.{rows_answer}
use Rattle.gp_reenact.specs.Reenacting.{Reenacts, spans_of}
use Rattle.gp_ask.specs.Asking.{table_spans}
use Rattle.gp_ask.proofs.ProvenanceLemmas.{sound-versions}
use Rattle.gp_ask.proofs.ReenactedLemmas.{dump-spans}
use Rattle.gp_ask.proofs.WhenLemmas.{found-at, rows-stopped}
use Rattle.gp_ask.proofs.intervals.rows_at.Goals as goal

pub reenact-requires-clause-spans : goal.reenact-requires-clause-spans
reenact-requires-clause-spans c = (sound-versions c.args.dump.now c.as_slice.result.now c.as_slice.ensures).spans

pub returns-in_err-rows : goal.returns-in_err-rows
returns-in_err-rows c =
    let dump : Dump = dump_view c.args.dump.now in
    let select = select_view c.args.select.now in
    let view : Vec Row Global → List (List Cell) = λ (rows : Vec Row Global). rows.items in
    let spans = ap spans_of c.as_slice.ensures ∙ dump-spans c.args.dump.now.versions in
    let same : rows_answer parameters dump.entries (spans_of c.as_slice.result.now) (y.as_of c.from.result) select ≡ rows_answer parameters dump.entries (table_spans dump.tables) (y.as_of c.args.version) select = (λ i. rows_answer parameters dump.entries (spans i) (y.as_of (c.from.ensures i)) select) in
    let p = err_from_is_err_and c.from_residual.result c.from_residual.ensures.1 in
    rw (p.1, p.2) (rows-stopped dump select view c.args.version c.in_err-rows.field-0.0 (subst (λ (own : Result (List (Element (Unit {0}))) Refusal). Reenacts view (Err c.in_err-rows.field-0.0) own) same c.in_err-rows.ensures))

pub returns : goal.returns
returns c =
    let dump : Dump = dump_view c.args.dump.now in
    let select = select_view c.args.select.now in
    let view : Vec Row Global → List (List Cell) = λ (rows : Vec Row Global). rows.items in
    let spans = ap spans_of c.as_slice.ensures ∙ dump-spans c.args.dump.now.versions in
    let same : rows_answer parameters dump.entries (spans_of c.as_slice.result.now) (y.as_of c.from.result) select ≡ rows_answer parameters dump.entries (table_spans dump.tables) (y.as_of c.args.version) select = (λ i. rows_answer parameters dump.entries (spans i) (y.as_of (c.from.ensures i)) select) in
    found-at dump select view c.args.version c.in_ok-rows.rows c.sort_rows.new.rows.items c.in_ok-sort_rows.ensures.unique
    (subst (λ (own : Result (List (Element (Unit {0}))) Refusal). Reenacts view (Ok c.in_ok-rows.rows) own) same c.in_ok-rows.ensures)
