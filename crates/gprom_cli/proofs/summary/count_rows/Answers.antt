use Rattle.std.proofs.Common.{rules, ℕ, ◌+◌, List, subst, sym}
use Rattle.gp_base.specs.declared.limit.TheConstants.{MAX_ANSWER_ROWS}
use Rattle.gp_syntax.specs.Lines.{script_lines}
use Rattle.gp_dump.specs.Views.{dump_view}
use Rattle.gp_ask.specs.Computed.{computed_answer}
use Rattle.gprom_cli.specs.Summaries.{line_rows}
use Rattle.gprom_cli.proofs.CountingLemmas.{IsCounted, counts-none, counts-few, counts-more, counts-all}
use Rattle.gprom_cli.proofs.RowCountLemmas.{few-rows}
use Rattle.gprom_cli.proofs.summary.count_rows.Goals as goal

pub loop-line-init : goal.loop-line-init
loop-line-init c =
    counts-none (line_rows (computed_answer (dump_view c.args.dump.now))) MAX_ANSWER_ROWS c.args.questions.now c.lines-rest.result c.lines-rest.ensures.lines c.lines-rest.ensures.increasing

pub returns : goal.returns
returns c =
    counts-all (line_rows (computed_answer (dump_view c.args.dump.now))) MAX_ANSWER_ROWS c.args.questions.now c.loop-line.rest c.loop-line.rows c.in_default.ensures.steps.0 c.loop-line.invariant

pub loop-line-preserved : goal.loop-line-preserved
loop-line-preserved c =
    let answers = computed_answer (dump_view c.args.dump.now) in
    let questions = c.args.questions.now in
    let so_far = c.loop-line in
    let line = c.in-Some.line in
    let way = subst (λ (left : List (ℕ × List ℕ)). IsCounted (line_rows answers) MAX_ANSWER_ROWS (script_lines questions) left so_far.rows) c.in-Some.ensures.steps so_far.invariant in
    let more = counts-more (line_rows answers) MAX_ANSWER_ROWS questions (line.number, line.bytes.now) c.next.new.self so_far.rows way (few-rows (dump_view c.args.dump.now) (line.number, line.bytes.now)) in
    subst (λ (n : ℕ). IsCounted (line_rows answers) MAX_ANSWER_ROWS (script_lines questions) c.next.new.self (so_far.rows + n)) (sym (c.in_ok-rows.ensures line.number)) more

-- no line has more rows than an answer may have, and the numbers of lines fit 32 bits
pub overflow_add-rows : goal.overflow_add-rows
overflow_add-rows c =
    let answers = computed_answer (dump_view c.args.dump.now) in
    let questions = c.args.questions.now in
    let so_far = c.loop-line in
    let line = c.in-Some.line in
    let way = subst (λ (left : List (ℕ × List ℕ)). IsCounted (line_rows answers) MAX_ANSWER_ROWS (script_lines questions) left so_far.rows) c.in-Some.ensures.steps so_far.invariant in
    let few = counts-few (line_rows answers) MAX_ANSWER_ROWS questions (line.number, line.bytes.now) c.next.new.self so_far.rows way (few-rows (dump_view c.args.dump.now) (line.number, line.bytes.now)) in
    let rows = c.in_ok-rows.ensures line.number in
    search (rules, few, rows)
