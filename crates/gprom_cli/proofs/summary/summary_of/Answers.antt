use Rattle.std.proofs.Common.{◌≡◌, ◌≤◌, ℕ, List, length, sym, ap, ap₂, ◌∙◌, subst}
use Rattle.gp_base.specs.Annotated.{unannotated}
use Rattle.gp_syntax.specs.Lines.{script_lines}
use Rattle.gp_machine.specs.Entries.{versions_in}
use Rattle.gp_script.specs.declared.script.TheConstants.{MAX_SCRIPT_LENGTH}
use Rattle.gp_script.specs.Scripts.{final_state}
use Rattle.gp_dump.specs.Dumps.{dump_of}
use Rattle.gp_dump.specs.Views.{dump_view}
use Rattle.gp_ask.specs.Computed.{computed_answer}
use Rattle.gprom_cli.specs.Generated.{generated_questions}
use Rattle.gprom_cli.specs.Summaries.{rows_in}
use Rattle.gprom_cli.proofs.GeneratedLemmas.{short-script}
use Rattle.gprom_cli.proofs.SummaryLemmas.{same-summary, short-questions, summary-is}
use Rattle.gprom_cli.proofs.summary.summary_of.Goals as goal

abbrev IsShort : List ℕ → Type 0
IsShort text = length text ≤ MAX_SCRIPT_LENGTH

pub read_back-requires : goal.read_back-requires
read_back-requires c = subst IsShort (sym (c.deref.ensures.value ∙ c.in_ok-script.ensures)) (short-script c.args.rounds c.requires)

pub count_lines-requires : goal.count_lines-requires
count_lines-requires c = subst IsShort (sym (c.deref-3.ensures.value ∙ c.in_ok-script.ensures)) (short-script c.args.rounds c.requires)

pub count_lines-requires-2 : goal.count_lines-requires-2
count_lines-requires-2 c =
    let entries = (dump_view c.in_ok-dump.dump).entries in
    let asked = c.in_ok-questions.ensures ∙ ap₂ generated_questions (c.deref-2.ensures.value ∙ c.in_ok-committed.ensures) c.commits.ensures in
    subst IsShort (sym (c.deref-4.ensures.value ∙ asked)) (short-questions entries c.in_ok-dump.ensures.rules.few_entries)

pub count_rows-requires-clause-short : goal.count_rows-requires-clause-short
count_rows-requires-clause-short c =
    let entries = (dump_view c.in_ok-dump.dump).entries in
    let asked = c.in_ok-questions.ensures ∙ ap₂ generated_questions (c.deref-2.ensures.value ∙ c.in_ok-committed.ensures) c.commits.ensures in
    subst IsShort (sym (c.deref-5.ensures.value ∙ asked)) (short-questions entries c.in_ok-dump.ensures.rules.few_entries)

pub returns : goal.returns
returns c =
    let script = c.in_ok-script.script.items in
    let dump = dump_view c.in_ok-dump.dump in
    let committed = c.in_ok-committed.committed.items in
    let questions = c.in_ok-questions.questions.items in
    let is_dump : dump ≡ dump_of (final_state unannotated script) = c.in_ok-dump.ensures.dump ∙ ap (λ (text : List ℕ). dump_of (final_state unannotated text)) c.deref.ensures.value in
    let is_questions : questions ≡ generated_questions committed (versions_in dump.entries) = c.in_ok-questions.ensures ∙ ap₂ generated_questions c.deref-2.ensures.value c.commits.ensures in
    same-summary c.args.rounds script dump questions c.count_lines.result c.len.result c.count_lost.result c.count_spans.result c.count_lines-2.result c.in_ok-count_rows.field-0
    (c.count_lines.ensures ∙ ap (λ (text : List ℕ). length (script_lines text)) c.deref-3.ensures.value)
    (c.len.ensures ∙ c.in_ok-committed.committed.ok.0 ∙ ap length c.in_ok-committed.ensures)
    c.count_lost.ensures
    c.count_spans.ensures
    (c.count_lines-2.ensures ∙ ap (λ (text : List ℕ). length (script_lines text)) c.deref-4.ensures.value)
    (c.in_ok-count_rows.ensures ∙ ap (λ (text : List ℕ). rows_in (computed_answer dump) text) c.deref-5.ensures.value)
    ∙ summary-is c.args.rounds script dump committed questions c.in_ok-script.ensures is_dump c.in_ok-committed.ensures is_questions
    (λ asked. c.scripts_have_well_formed_dumps.ensures.rows script asked (subst IsShort (sym c.in_ok-script.ensures) (short-script c.args.rounds c.requires)))
