use Rattle.gp_dumpline.proofs.HeaderLaws as first_line
use Rattle.gp_dumpline.proofs.LogLineLaws as log_line
use Rattle.gp_dumpline.proofs.SaidLaws as said
use Rattle.gp_dumpline.proofs.SpanLaws as span
use Rattle.gp_dumpline.proofs.laws.forms_are_texts.Goals as goal

pub returns-clause-header_again : goal.returns-clause-header_again
returns-clause-header_again c = first_line.header-again

pub returns-clause-header_taken : goal.returns-clause-header_taken
returns-clause-header_taken c = first_line.header-takes

pub returns-clause-count_again : goal.returns-clause-count_again
returns-clause-count_again c = log_line.count-again

pub returns-clause-count_taken : goal.returns-clause-count_taken
returns-clause-count_taken c = log_line.count-takes

pub returns-clause-log_line_again : goal.returns-clause-log_line_again
returns-clause-log_line_again c = log_line.log_line-again

pub returns-clause-log_line_taken : goal.returns-clause-log_line_taken
returns-clause-log_line_taken c = λ text line is.
    let t = log_line.log_line-takes text line is in
    (t.is, t.line.0, t.line.1, t.session.0, t.session.1)

pub returns-clause-said_taken : goal.returns-clause-said_taken
returns-clause-said_taken c = said.said-takes

pub returns-clause-section_again : goal.returns-clause-section_again
returns-clause-section_again c = log_line.section-again

pub returns-clause-section_taken : goal.returns-clause-section_taken
returns-clause-section_taken c = log_line.section-takes

pub returns-clause-span_again : goal.returns-clause-span_again
returns-clause-span_again c = span.span-again

pub returns-clause-span_taken : goal.returns-clause-span_taken
returns-clause-span_taken c = λ text found is from to.
    let t = span.span-takes text found is from to in
    (t.is, t.form)

pub returns-clause-row_again : goal.returns-clause-row_again
returns-clause-row_again c = λ text row is. let read = span.line-span text row is in (read.span, read.is, read.cells)

pub returns-clause-row_taken : goal.returns-clause-row_taken
returns-clause-row_taken c = span.span-line
