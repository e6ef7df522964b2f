-- The laws of single lines, given the lines before them: from the laws of their forms, and from what a log that can be read says of its tables.
use Rattle.gp_dump.proofs.Prelude.{◌≡◌, ℕ, suc, ◌+◌, ◌<◌, ◌≤◌, Bool, true, false, cond, leb, ltb, List, [], ◌∷◌, ◌++◌, length, Option, Some, None, Result, Ok, Err, inl, inr, refl, sym, ap, subst, ◌∙◌, arith, codes, AllByRecursion, list_all, ok_or, option_map, bytes_eq, cases_Bool, false≢true, le-leb, leb-true, lt-ltb, ltb-true, and_parts, Cell, Refusal, Column, Kind, Table, is_user_cell, command_text, Fault, command_of, Command, Statement, Span, MAX_SPANS, allowed, Run, Entry, RolledBack, Lost, Created, Began, Ran, Committed, Ended, line_of, session_of, statement_count, statements_in, transactions_in, versions_in, count_refusal, MAX_ENTRIES, Said, Does, Loses, Flaw, Disorder, command_entry, last_line, next_entry, statement_entry, said_by, transaction_in, tables_in, parameters, LogLine, if_canonical, log_line_of, section_of, span_of, is_said_in, entry_text, said_text, section_text, span_text, command-read, count-again, count-takes, log_line-again, log_line-takes, is-said, said-takes}
use Rattle.gp_base.specs.declared.cell.Cell.TheVariants as cell
use Rattle.gp_base.specs.declared.table.Kind.TheVariants as kind
use Rattle.gp_base.specs.Names.{is_name}
use Rattle.gp_grammar.specs.Syntax as y
use Rattle.gp_machine.specs.ActionForms.{allowed_to}
use Rattle.gp_machine.proofs.EntryCounts.{count-most}
use Rattle.gp_machine.specs.Entries.{is_commit}
use Rattle.gp_log.specs.Discipline.{creation_entry}
use Rattle.gp_dumpline.specs.Numbers.{beyond_versions}
use Rattle.gp_dumpline.specs.Forms.{HasForm, IsVersion, said_of}
use Rattle.gp_dumpline.specs.Rows.{is_readable_cell}
use Rattle.gp_dumpline.specs.Texts.{log_line_text}
use Rattle.gp_dumpline.proofs.LogLineLaws.{section-again as section_form-again, section-takes as section_form-takes}
use Rattle.gp_dumpline.proofs.OneLine.{count-one_line, end-one_line, entry-one_line, header-one_line, section-one_line, span-one_line}
use Rattle.gp_dumpline.proofs.SaidLaws.{command-name}
use Rattle.gp_dumpline.proofs.SpanLaws.{span-again, span-takes}
use Rattle.gp_dump.specs.Dumps.{IsRow, ends_within, fits_columns, is_in_place, is_of_kind}
use Rattle.gp_dump.specs.WholeDumps.{AreReadable}
use Rattle.gp_dump.proofs.PlaceLemmas.{place-end, place-last}
use Rattle.gp_dump.specs.Verdicts.{◌>>=◌, log_rule, row_rule, rule, rule_holds, rule_next, section_rule}
use Rattle.gp_dump.proofs.RoundTrip.{AreLawful, IsEntry, LineLaws, LogsAreLawful, TableLaws}
use Rattle.gp_dump.proofs.FittingTables.{user_cell}

-- ---- the steps of a rule

some-took : {A B : Type 0} (number : ℕ) (o : Option A) (f : A → Result B ℕ) (y : B) → (rule number o >>= f) ≡ Ok y → (x : A) × (o ≡ Some x) × (f x ≡ Ok y)
some-took number None f y e = absurd cc
some-took number (Some x) f y e = (x, refl, e)

test-took : {B : Type 0} (number : ℕ) (b : Bool) (f : Unit {0} → Result B ℕ) (y : B) → (rule_holds number b >>= f) ≡ Ok y → (b ≡ true) × (f tt ≡ Ok y)
test-took number true f y e = (refl, e)
test-took number false f y e = absurd cc

next-took : (r : Result Entry Flaw) (entry : Entry) → rule_next r ≡ Ok entry → r ≡ Ok entry
next-took (Ok x) entry e = cc
next-took (Err flaw) entry e = absurd cc

-- ---- the parts of the next entry

pub record HasParts (line session : ℕ) (said : Said) (entry : Entry) : Type 0 where
  pub line_is : line_of entry ≡ line
  pub session_is : session_of entry ≡ session
  pub said_is : said_by entry ≡ said

module _ (older : List Entry) (line session : ℕ) where
  parts-of : (made entry : Entry) (said : Said) → HasParts line session said made → made ≡ entry → HasParts line session said entry
  parts-of made entry said parts is = subst (HasParts line session said) is parts

  unless-flaw : (b : Bool) (flaw : Flaw) (r : Result Entry Flaw) (entry : Entry) → cond b (Err flaw) r ≡ Ok entry → r ≡ Ok entry
  unless-flaw true flaw r entry e = absurd cc
  unless-flaw false flaw r entry e = e

  creating-parts : (table : Table) (o : Option Refusal) (entry : Entry) → creation_entry parameters older line session table o ≡ Ok entry → HasParts line session (Does (y.create table)) entry
  creating-parts table (Some refusal) entry e = absurd cc
  creating-parts table None entry e = parts-of (Created line session table) entry (Does (y.create table)) (record { line_is = refl; session_is = refl; said_is = refl }) (cc)

  running-parts : (t : ℕ) (command : Command) (o : Option Refusal) (r : Result Statement Refusal) (entry : Entry) → statement_entry parameters older line session t command o r ≡ Ok entry → HasParts line session (Does command) entry
  running-parts t command (Some refusal) r entry e = absurd cc
  running-parts t command None (Err refusal) entry e = absurd cc
  running-parts t command None (Ok statement) entry e = parts-of (Ran line session command t statement) entry (Does command) (record { line_is = refl; session_is = refl; said_is = refl }) (cc)

  create-parts : (table : Table) (active : Option ℕ) (entry : Entry) → command_entry parameters older line session (allowed active (y.create table)) ≡ Ok entry → HasParts line session (Does (y.create table)) entry
  create-parts table None entry e = creating-parts table (parameters.created (tables_in older) table) entry (unless-flaw (leb parameters.tables (length (tables_in older))) Disorder _ entry e)
  create-parts table (Some t) entry e = absurd cc

  begin-parts : (read_committed : Bool) (active : Option ℕ) (entry : Entry) → command_entry parameters older line session (allowed active (y.begin read_committed)) ≡ Ok entry → HasParts line session (Does (y.begin read_committed)) entry
  begin-parts read_committed None entry e =
      let is : Ok (Began line session (suc (transactions_in older)) read_committed) ≡ Ok entry = unless-flaw (leb parameters.transactions (transactions_in older)) Disorder _ entry e in
      parts-of (Began line session (suc (transactions_in older)) read_committed) entry (Does (y.begin read_committed)) (record { line_is = refl; session_is = refl; said_is = refl }) (cc)
  begin-parts read_committed (Some t) entry e = absurd cc

  commit-parts : (active : Option ℕ) (entry : Entry) → command_entry parameters older line session (allowed active y.Command.commit) ≡ Ok entry → HasParts line session (Does y.Command.commit) entry
  commit-parts None entry e = absurd cc
  commit-parts (Some t) entry e = parts-of (Committed line session t) entry (Does y.Command.commit) (record { line_is = refl; session_is = refl; said_is = refl }) (cc)

  rollback-parts : (active : Option ℕ) (entry : Entry) → command_entry parameters older line session (allowed active y.rollback) ≡ Ok entry → HasParts line session (Does y.rollback) entry
  rollback-parts None entry e = absurd cc
  rollback-parts (Some t) entry e = parts-of (Ended line session RolledBack t) entry (Does y.rollback) (record { line_is = refl; session_is = refl; said_is = refl }) (cc)

  run-parts : (command : Command) (active : Option ℕ) (entry : Entry) → command_entry parameters older line session (allowed_to active (Run command)) ≡ Ok entry → HasParts line session (Does command) entry
  run-parts command None entry e = absurd cc
  run-parts command (Some t) entry e = running-parts t command (count_refusal parameters (statement_count t older) (statements_in older)) (parameters.checked (tables_in older) command) entry e

  doing-parts : (command : Command) (active : Option ℕ) (entry : Entry) → command_entry parameters older line session (allowed active command) ≡ Ok entry → HasParts line session (Does command) entry
  doing-parts (y.create table) active entry e = create-parts table active entry e
  doing-parts (y.begin read_committed) active entry e = begin-parts read_committed active entry e
  doing-parts y.Command.commit active entry e = commit-parts active entry e
  doing-parts y.rollback active entry e = rollback-parts active entry e
  doing-parts (y.insert table rows) None entry e = absurd cc
  doing-parts (y.insert table rows) (Some t) entry e = run-parts (y.insert table rows) (Some t) entry e
  doing-parts (y.insert_select table query) None entry e = absurd cc
  doing-parts (y.insert_select table query) (Some t) entry e = run-parts (y.insert_select table query) (Some t) entry e
  doing-parts (y.update table sets condition) None entry e = absurd cc
  doing-parts (y.update table sets condition) (Some t) entry e = run-parts (y.update table sets condition) (Some t) entry e
  doing-parts (y.delete table condition) None entry e = absurd cc
  doing-parts (y.delete table condition) (Some t) entry e = run-parts (y.delete table condition) (Some t) entry e
  doing-parts (y.select query) None entry e = absurd cc
  doing-parts (y.select query) (Some t) entry e = run-parts (y.select query) (Some t) entry e

  losing-parts : (active : Option ℕ) (entry : Entry) → ok_or (option_map (Ended line session Lost) active) Disorder ≡ Ok entry → HasParts line session Loses entry
  losing-parts None entry e = absurd cc
  losing-parts (Some t) entry e = parts-of (Ended line session Lost t) entry Loses (record { line_is = refl; session_is = refl; said_is = refl }) (cc)

  -- the next entry is that of the line, its session and what it says
  pub next-parts : (said : Said) (entry : Entry) → next_entry parameters older line session said ≡ Ok entry → HasParts line session said entry
  next-parts (Does command) entry e = doing-parts command (transaction_in session older) entry e
  next-parts Loses entry e = losing-parts (transaction_in session older) entry e

-- ---- log lines

entry-again : (second : Bool) (log : List Entry) (entry : Entry) → IsEntry second log entry → log_rule second log (entry_text entry) ≡ Ok entry
unfolding log_rule
entry-again second log entry is =
    let form = log_line-again (line_of entry) (session_of entry) (said_text (said_by entry)) (omega (arith, is.next.rises)) is.next.line is.next.first is.next.session in
    let above : ltb (last_line log) (line_of entry) ≡ true = lt-ltb (last_line log) (line_of entry) is.next.rises in
    rw (form, above, is.said, is.format, is.next.follows) refl

-- what a log line that was read says
record TookLine (second : Bool) (log : List Entry) (text : List ℕ) (entry : Entry) : Type 0 where
  l : LogLine
  is : log_line_of text ≡ Some l
  above : ltb (last_line log) l.line ≡ true
  said : Said
  said_is : said_of l.said ≡ Some said
  known : is_said_in second said ≡ true
  follows : next_entry parameters log l.line l.session said ≡ Ok entry

entry-took : (second : Bool) (log : List Entry) (text : List ℕ) (entry : Entry) → log_rule second log text ≡ Ok entry → TookLine second log text entry
unfolding log_rule
entry-took second log text entry e =
    let a = some-took 5 (log_line_of text) _ entry e in
    let b = test-took 6 (ltb (last_line log) a.0.line) _ entry a.2 in
    let c = some-took 7 (said_of a.0.said) _ entry b.1 in
    let f = test-took 7 (is_said_in second c.0) _ entry c.2 in
    let d = next-took (next_entry parameters log a.0.line a.0.session c.0) entry f.1 in
    record { l = a.0; is = a.1; above = b.0; said = c.0; said_is = c.1; known = f.0; follows = d }

entry-taken : (second : Bool) (log : List Entry) (text : List ℕ) (entry : Entry) → log_rule second log text ≡ Ok entry → (text ≡ entry_text entry) × IsEntry second log entry
entry-taken second log text entry e =
    let t = entry-took second log text entry e in
    let form = log_line-takes text t.l t.is in
    let parts = next-parts log t.l.line t.l.session t.said entry t.follows in
    let said-text : t.l.said ≡ said_text (said_by entry) = said-takes t.l.said t.said t.said_is ∙ ap said_text (sym parts.said_is) in
    let said : said_of (said_text (said_by entry)) ≡ Some (said_by entry) = ap said_of (sym said-text) ∙ t.said_is ∙ ap (λ (x : Said). Some x) (sym parts.said_is) in
    let follows : next_entry parameters log (line_of entry) (session_of entry) (said_by entry) ≡ Ok entry =
    (λ i. next_entry parameters log (parts.line_is i) (parts.session_is i) (parts.said_is i)) ∙ t.follows in
    let text-is : text ≡ entry_text entry = form.is ∙ (λ i. log_line_text (sym parts.line_is i) (sym parts.session_is i) (said-text i)) in (
      text-is,
      record {
        next = record {
          follows = follows;
          rises = omega (arith, ltb-true (last_line log) t.l.line t.above, parts.line_is);
          line = omega (arith, form.line.1, parts.line_is);
          first = omega (arith, form.session.0, parts.session_is);
          session = omega (arith, form.session.1, parts.session_is);
        };
        said = said;
        format = ap (is_said_in second) parts.said_is ∙ t.known;
      },
    )

-- ---- the lines of a table

-- a table that CREATE TABLE can make: it has a name, and a column
pub record IsNamed (table : Table) : Type 0 where
  pub name : is_name table.name ≡ true
  pub cols : 1 ≤ length table.cols

readable-cell : (kind : Kind) (c : Cell) → is_of_kind kind c ≡ true → is_readable_cell c ≡ true
readable-cell kind.Int cell.Null is = refl
readable-cell kind.Text cell.Null is = refl
readable-cell kind.Int (cell.Int number) is = is
readable-cell kind.Text (cell.Int number) is = absurd (false≢true is)
readable-cell kind.Int (cell.Text text) is = absurd (false≢true is)
readable-cell kind.Text (cell.Text text) is = refl
readable-cell kind.Int (cell.Id id) is = absurd (false≢true is)
readable-cell kind.Text (cell.Id id) is = absurd (false≢true is)
readable-cell kind.Int (cell.Mark mark) is = absurd (false≢true is)
readable-cell kind.Text (cell.Mark mark) is = absurd (false≢true is)
readable-cell kind.Int (cell.Mono monomial) is = absurd (false≢true is)
readable-cell kind.Text (cell.Mono monomial) is = absurd (false≢true is)

all-cells : (f : Cell → Bool) → ((kind : Kind) (c : Cell) → is_of_kind kind c ≡ true → f c ≡ true) → (cols : List Column) (cells : List Cell) → fits_columns cols cells ≡ true → list_all f cells ≡ true
all-cells f holds [] [] is = refl
all-cells f holds [] (c ∷ cells) is = absurd (false≢true is)
all-cells f holds (col ∷ cols) [] is = absurd (false≢true is)
all-cells f holds (col ∷ cols) (c ∷ cells) is =
    let a = and_parts (is_of_kind col.kind c) (fits_columns cols cells) is in
    rw (holds col.kind c a.0) (all-cells f holds cols cells a.1)

some-cells : (cols : List Column) (cells : List Cell) → fits_columns cols cells ≡ true → 1 ≤ length cols → 1 ≤ length cells
some-cells [] cells is some = absurd (omega (arith, some))
some-cells (col ∷ cols) [] is some = absurd (false≢true is)
some-cells (col ∷ cols) (c ∷ cells) is some = omega arith

ends-at-version : (versions from : ℕ) (to : Option ℕ) → versions ≤ MAX_ENTRIES → ends_within versions from to ≡ true → IsVersion to
ends-at-version versions from None few is = tt
ends-at-version versions from (Some to) few is = omega (arith, few, leb-true to versions (and_parts (ltb from to) (leb to versions) is).1)

begins-at-version : (versions from : ℕ) → versions ≤ MAX_ENTRIES → leb from versions ≡ true → from < beyond_versions
begins-at-version versions from few is = omega (arith, few, leb-true from versions is)

row-form : (table : Table) (versions : ℕ) (before : List Span) (span : Span) → IsNamed table → versions ≤ MAX_ENTRIES → IsRow table.cols versions before span → HasForm span
row-form table versions before span named few is = record {
  identity = is.identity;
  from = begins-at-version versions span.from few (place-last versions before span is.place);
  to = ends-at-version versions span.from span.to few (place-end versions before span is.place);
  some = some-cells table.cols span.row is.cells named.cols;
  cells = all-cells is_readable_cell readable-cell table.cols span.row is.cells;
}

section-again : (table : Table) (before n : ℕ) → before + n ≤ MAX_SPANS → section_rule before table (section_text table.name n) ≡ Ok n
unfolding section_rule
section-again table before n few =
    let form = section_form-again table.name n (omega (arith, few)) in
    let fits : leb (before + n) MAX_SPANS ≡ true = le-leb (before + n) MAX_SPANS few in
    rw (form, fits) refl

abbrev rule_ok : {A : Type 0} → A → Result A ℕ
rule_ok x = Ok x

ok-is : {A : Type 0} (x y : A) → rule_ok x ≡ Ok y → x ≡ y
ok-is x y e = cc

section-taken : (table : Table) (before : ℕ) (text : List ℕ) (n : ℕ) → section_rule before table text ≡ Ok n → (text ≡ section_text table.name n) × (before + n ≤ MAX_SPANS)
unfolding section_rule
section-taken table before text n e =
    let a = some-took 10 (section_of table.name text) _ n e in
    let b = test-took 10 (leb (before + a.0) MAX_SPANS) _ n a.2 in
    let is : a.0 ≡ n = ok-is a.0 n b.1 in
    let form = section_form-takes table.name text a.0 a.1 in
    (form.0 ∙ ap (section_text table.name) is, omega (arith, leb-true (before + a.0) MAX_SPANS b.0, is))

row-again : (table : Table) (versions : ℕ) (before : List Span) (span : Span) → IsNamed table → versions ≤ MAX_ENTRIES → IsRow table.cols versions before span → row_rule table.cols versions before (span_text span) ≡ Ok span
unfolding row_rule
row-again table versions before span named few is =
    rw (span-again span (row-form table versions before span named few is), is.cells, is.place) refl

row-taken : (cols : List Column) (versions : ℕ) (before : List Span) (text : List ℕ) (span : Span) → versions ≤ MAX_ENTRIES → row_rule cols versions before text ≡ Ok span
    → (text ≡ span_text span) × IsRow cols versions before span
unfolding row_rule
row-taken cols versions before text span few e =
    let a = some-took 11 (span_of text) _ span e in
    let b = test-took 12 (fits_columns cols a.0.row) _ span a.2 in
    let c = test-took 13 (is_in_place versions before a.0) _ span b.1 in
    let is : a.0 ≡ span = ok-is a.0 span c.1 in
    let form = span-takes text a.0 a.1 (begins-at-version versions a.0.from few (place-last versions before a.0 c.0)) (ends-at-version versions a.0.from a.0.to few (place-end versions before a.0 c.0)) in
    let row : IsRow cols versions before a.0 = record { identity = form.form.identity; cells = b.0; place = c.0 } in
    (form.is ∙ ap span_text is, subst (λ (x : Span). IsRow cols versions before x) is row)

pub table-laws : (table : Table) (versions : ℕ) → IsNamed table → versions ≤ MAX_ENTRIES → TableLaws table versions
table-laws table versions named few = record {
  section = λ n few-rows. section-one_line table.name n named.name few-rows;
  section_again = section-again table;
  section_taken = section-taken table;
  row = λ before span is. span-one_line span (row-form table versions before span named few is) (all-cells is_user_cell user_cell table.cols span.row is.cells);
  row_again = λ before span. row-again table versions before span named few;
  row_taken = λ before text span. row-taken table.cols versions before text span few;
}

pub line-laws : LineLaws
line-laws = record {
  header = header-one_line;
  end = end-one_line;
  count = count-one_line;
  count_again = count-again;
  count_taken = count-takes;
  entry = λ second log entry is. entry-one_line entry is.next.line is.next.session is.said;
  entry_again = entry-again;
  entry_taken = entry-taken;
}

-- ---- the tables of a log

none-some : (command : Command) → None ≡ Some (Does command) → ⊥
none-some command e = cc

loses-does : (command : Command) → Some Loses ≡ Some (Does command) → ⊥
loses-does command e = cc

some-does : (x command : Command) → Some (Does x) ≡ Some (Does command) → x ≡ command
some-does x command e = cc

canonical-by : (text : List ℕ) (command : Command) (r : Result Command Fault) → command_of text ≡ r → if_canonical text r ≡ Some (Does command) → command_of text ≡ Ok command
canonical-by text command (Err fault) is e = absurd (none-some command e)
canonical-by text command (Ok x) is e = elim (cases_Bool (bytes_eq (command_text x) text)) [
  | inl same ↦ let g = rw same at e in is ∙ ap (λ (z : Command). Ok z) (some-does x command g)
  | inr other ↦ let g = rw other at e in absurd (none-some command g)
]

-- a text that says a command is read as the command
said-command : (text : List ℕ) (command : Command) → said_of text ≡ Some (Does command) → command_of text ≡ Ok command
unfolding said_of
said-command text command e = elim (cases_Bool (bytes_eq text (codes "LOST"))) [
  | inl lost ↦ let g = rw lost at e in absurd (loses-does command g)
  | inr other ↦ let g = rw other at e in canonical-by text command (command_of text) refl g
]

-- a log has no more versions than entries
versions-few : (log : List Entry) → versions_in log ≤ length log
versions-few = count-most is_commit

-- a table that a CREATE TABLE creates has a column
table-columns : (text : List ℕ) (table : Table) → command_of text ≡ Ok (y.create table) → 1 ≤ length table.cols
table-columns text table e = omega (arith, ltb-true 0 (length table.cols) (command-read text (y.create table) e))

named-by : (line session : ℕ) (table : Table) → said_of (said_text (said_by (Created line session table))) ≡ Some (said_by (Created line session table)) → IsNamed table
named-by line session table said =
    let is : command_of (command_text (y.create table)) ≡ Ok (y.create table) = said-command (command_text (y.create table)) (y.create table) said in
    record { name = command-name (command_text (y.create table)) table is; cols = table-columns (command_text (y.create table)) table is }

all-behind : {T : Type 0} (P : T → Type 0) (xs : List T) (x : T) → AllByRecursion P xs → P x → AllByRecursion P (xs ++ x ∷ [])
all-behind P [] x all last = (last, tt)
all-behind P (y ∷ xs) x all last = (all.0, all-behind P xs x all.1 last)

tables-named : (log : List Entry) → AreReadable log → AllByRecursion IsNamed (tables_in log)
tables-named [] are = tt
tables-named (Created line session table ∷ older) are = all-behind IsNamed (tables_in older) table (tables-named older are.1) (named-by line session table (is-said (Does (y.create table)) are.0))
tables-named (Began line session t read_committed ∷ older) are = tables-named older are.1
tables-named (Ran line session ran t statement ∷ older) are = tables-named older are.1
tables-named (Committed line session t ∷ older) are = tables-named older are.1
tables-named (Ended line session end t ∷ older) are = tables-named older are.1

all-lawful : (tables : List Table) (versions : ℕ) → versions ≤ MAX_ENTRIES → AllByRecursion IsNamed tables → AreLawful tables versions
all-lawful [] versions few named = tt
all-lawful (table ∷ tables) versions few named = (table-laws table versions named.0 few, all-lawful tables versions few named.1)

-- the lines of the tables of a log that can be read have laws
pub log-lawful : LogsAreLawful
log-lawful log are few = all-lawful (tables_in log) (versions_in log) (omega (arith, few, versions-few log)) (tables-named log are)
