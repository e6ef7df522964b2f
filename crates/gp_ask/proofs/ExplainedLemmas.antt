-- Every program that questions to a well-formed dump ask for explains its query: that is a fact of the dump and of the questions.
use Rattle.std.proofs.Common.{◌≡◌, ◌≤◌, ◌<◌, ◌+◌, ℕ, zero, suc, Bool, true, false, cond, not, List, [], ◌∷◌, length, map, Option, Some, None, Result, Ok, Err, refl, sym, ap, subst, arith}
use Rattle.std.specs.Prelude.{◌==◌, IfOk, nat_lt}
use Rattle.std.specs.List.{AllByRecursion}
use Rattle.std.specs.Option.{option_or}
use Rattle.std.proofs.lemmas.Bool.{and_from, and_parts, ltb-false, ltb-true}
use Rattle.std.proofs.lemmas.List.{length-map}
use Rattle.gp_base.specs.declared.refusal.Refusal.{Refusal}
use Rattle.gp_base.specs.declared.table.Table.{Table}
use Rattle.gp_base.specs.Names.{is_name}
use Rattle.gp_base.proofs.SmallLemmas.{each_append, some_none}
use Rattle.gp_grammar.specs.declared.limits.TheConstants.{MAX_CHANGES, MAX_COLUMNS}
use Rattle.gp_grammar.specs.Canonical.{command_text}
use Rattle.gp_grammar.specs.Capping.{capped_question}
use Rattle.gp_grammar.specs.Laws.{have_statements}
use Rattle.gp_grammar.specs.Limits.{change_count, change_shape, changes_shape, command_shape, commands_shape, passed_limit, query_shape, question_shape, shape_of_count}
use Rattle.gp_grammar.specs.LineReading.{Fault}
use Rattle.gp_grammar.specs.QuestionGrammar.{IsQuestion}
use Rattle.gp_grammar.specs.QuestionParsing.{question}
use Rattle.gp_grammar.specs.Reading.{question_of, read_lines}
use Rattle.gp_grammar.specs.Syntax as y
use Rattle.gp_grammar.proofs.BothLemmas.{both-within}
use Rattle.gp_grammar.proofs.LineLaws.{lines-read}
use Rattle.gp_grammar.proofs.ParserLaws.{lawful-question}
use Rattle.gp_grammar.proofs.ShapeLemmas.{questions-fair}
use Rattle.gp_syntax.specs.Lines.{script_lines}
use Rattle.gp_algebra.specs.Fitting.{select_fits}
use Rattle.gp_algebra.specs.Statements.{Select, Statement, insert, insert_select, update, delete, read, width_of}
use Rattle.gp_check.specs.Checking.{checked, checked_query}
use Rattle.gp_check.specs.Faults.{first_refusal}
use Rattle.gp_check.specs.Meaning.{select_of, meant_statement}
use Rattle.gp_check.specs.Valid.{changes_are_valid, query_is_valid, table_is_valid, tables_are_valid}
use Rattle.gp_check.proofs.FittingLemmas.{accepted, fits}
use Rattle.gp_check.proofs.ValidLemmas.{command-derived}
use Rattle.gp_machine.specs.Entries.{Entry, Created, Began, Ran, Committed, Ended, line_of, session_of}
use Rattle.gp_machine.specs.Questions.{log_refusal, statement_refusal, transaction_refusal}
use Rattle.gp_log.specs.declared.limit.TheConstants.{MAX_ENTRIES}
use Rattle.gp_log.specs.Discipline.{Does}
use Rattle.gp_log.specs.WholeLogs.{IsLog}
use Rattle.gp_log.specs.LogFacts.{tables_in}
use Rattle.gp_log.specs.LogFitting.{statements_fit}
use Rattle.gp_log.specs.Parameters.{parameters}
use Rattle.gp_log.specs.Sessions.{KeepsSessions}
use Rattle.gp_log.proofs.CheckedEntries.{was_checked}
use Rattle.gp_whatif.specs.Changed.{all_changed, changed, changed_log, dropped_command, dropped_of, dropped_statement, is_at, is_step_of, lines_for, rewritten, spread, steps_refusal, tables_at_end, tables_before, with_added, with_other}
use Rattle.gp_whatif.specs.ChangedForms.{ChecksFit}
use Rattle.gp_whatif.specs.Replays.{IsReplayable}
use Rattle.gp_plantext.specs.Spellable.{table_is_spellable}
use Rattle.gp_explain.specs.Explained.{Explains}
use Rattle.gp_explain.specs.Shapes.{AreNamed}
use Rattle.gp_explain.specs.SmallLogs.{EntryIsSmall, HasFewTables, IsSmall, StatementIsSmall}
use Rattle.gp_explain.proofs.ComposedRanges.{small_explained, small_saw_explained}
use Rattle.gp_explain.proofs.LineLemmas.{spelled_lines}
use Rattle.gp_dumpline.proofs.SaidLaws.{is-said, said-name}
use Rattle.gp_dump.specs.Dumps.{Dump}
use Rattle.gp_dump.specs.Rules.{WellFormed}
use Rattle.gp_dump.specs.WholeDumps.{AreReadable, IsDump}
use Rattle.gp_dump.proofs.FittingTables.{statements_of_dumps}
use Rattle.gp_dump.proofs.LawLemmas.{whole-text}
use Rattle.gp_ask.specs.Answerable.{has_few_items, question_is_valid}
use Rattle.gp_ask.specs.Asking.{asked}
use Rattle.gp_ask.specs.Explained.{AreLinesOf, ExplainsAsk, ExplainsQuestion}
use Rattle.gp_ask.specs.Programs.{explained_text, program_lines}
use Rattle.gp_ask.specs.Questions.{AreQuestions, EachQuestion, ReadQuestion}
use Rattle.gp_ask.specs.Seeing.{seen_refusal}
use Rattle.gp_ask.proofs.FewLemmas.{checked-few, meant-few}
use Rattle.gp_ask.proofs.ReadAnswers.{one-file}
use Rattle.gp_ask.proofs.ReadLemmas.{read-valid, valid-change, valid-parts, within-from}

-- ---- commands within the limits of lines

command_small : (tables : List Table) (command : y.Command) → passed_limit (command_shape command) ≡ None → StatementIsSmall (meant_statement tables command)
command_small tables (y.create table) within = tt
command_small tables (y.begin level) within = tt
command_small tables y.Command.commit within = tt
command_small tables y.rollback within = tt
command_small tables (y.insert table rows) within = tt
command_small tables (y.insert_select table query) within = meant-few tables query (ap not (within-from (query_shape query) within))
command_small tables (y.update table sets c) within = tt
command_small tables (y.Command.delete table c) within = tt
command_small tables (y.select query) within = tt

checked_small : (tables : List Table) (command : y.Command) (statement : Statement) → passed_limit (command_shape command) ≡ None → checked tables command ≡ Ok statement
    → StatementIsSmall statement
checked_small tables command statement within is =
    let a = accepted (first_refusal tables command) (meant_statement tables command) statement is in subst StatementIsSmall a.1 (command_small tables command within)

-- ---- the tables of a log that can be read

pub record IsOrderly (table : Table) : Type 0 where
  pub name : is_name table.name ≡ true
  pub columns : length table.cols ≤ MAX_COLUMNS
  pub valid : table_is_valid table ≡ true

columns_within : (table : Table) → passed_limit (command_shape (y.create table)) ≡ None → length table.cols ≤ MAX_COLUMNS
columns_within table within = go (nat_lt MAX_COLUMNS (length table.cols)) refl within
  where
    go : (b : Bool) → nat_lt MAX_COLUMNS (length table.cols) ≡ b → passed_limit (command_shape (y.create table)) ≡ None → length table.cols ≤ MAX_COLUMNS
    go false is within = ltb-false MAX_COLUMNS (length table.cols) is
    go true is within = let f = rw is at within in absurd cc

tables_orderly : (entries : List Entry) → AreReadable entries → AllByRecursion IsOrderly (tables_in entries)
tables_orderly [] are = tt
tables_orderly (Created line session table ∷ older) are =
    each_append IsOrderly (tables_in older) (table ∷ []) (tables_orderly older are.1) (
      record {
        name = said-name _ table (is-said (Does (y.create table)) are.0);
        columns = columns_within table are.0.within;
        valid = command-derived (command_text (y.create table)) (y.create table) are.0;
      },
      tt,
    )
tables_orderly (Began line session t level ∷ older) are = tables_orderly older are.1
tables_orderly (Ran line session command t statement ∷ older) are = tables_orderly older are.1
tables_orderly (Committed line session t ∷ older) are = tables_orderly older are.1
tables_orderly (Ended line session end t ∷ older) are = tables_orderly older are.1

width_most : (tables : List Table) → AllByRecursion IsOrderly tables → (place : ℕ) → width_of tables place ≤ MAX_COLUMNS
width_most [] are place = omega arith
width_most (table ∷ tables) are zero = are.0.columns
width_most (table ∷ tables) are (suc place) = width_most tables are.1 place

name_at : (tables : List Table) → AllByRecursion IsOrderly tables → (place : ℕ) → place < length tables → table_is_spellable tables place ≡ true
name_at [] are place there = absurd (omega (arith, there))
name_at (table ∷ tables) are zero there = are.0.name
name_at (table ∷ tables) are (suc place) there = name_at tables are.1 place (omega (arith, there))

are_named : (tables : List Table) → AllByRecursion IsOrderly tables → AreNamed tables
are_named tables are = record { named = λ place there. name_at tables are place (ltb-true place (length tables) there) }

are_valid : (tables : List Table) → AllByRecursion IsOrderly tables → tables_are_valid tables ≡ true
are_valid [] are = refl
are_valid (table ∷ tables) are = and_from (table_is_valid table) (tables_are_valid tables) are.0.valid (are_valid tables are.1)

-- ---- the statements of a log

abbrev AreSmall : List Entry → Type 0
AreSmall entries = AllByRecursion EntryIsSmall entries

log_small : (entries : List Entry) → IsLog parameters entries → AreReadable entries → AreSmall entries
log_small [] log are = tt
log_small (Created line session table ∷ older) log are = (tt, log_small older log.1 are.1)
log_small (Began line session t level ∷ older) log are = (tt, log_small older log.1 are.1)
log_small (Ran line session command t statement ∷ older) log are = (
  checked_small (tables_in older) command statement are.0.within (was_checked older line session command t statement log.0.follows).1,
  log_small older log.1 are.1,
)
log_small (Committed line session t ∷ older) log are = (tt, log_small older log.1 are.1)
log_small (Ended line session end t ∷ older) log are = (tt, log_small older log.1 are.1)

-- ---- those of a changed one

spread_small : (times : ℕ) (entries : List Entry) → AreSmall entries → AreSmall (map (spread times) entries)
spread_small times [] small = tt
spread_small times (Created line session table ∷ older) small = (tt, spread_small times older small.1)
spread_small times (Began line session t level ∷ older) small = (tt, spread_small times older small.1)
spread_small times (Ran line session command t statement ∷ older) small = (small.0, spread_small times older small.1)
spread_small times (Committed line session t ∷ older) small = (tt, spread_small times older small.1)
spread_small times (Ended line session end t ∷ older) small = (tt, spread_small times older small.1)

module _ (t k : ℕ) (command : y.Command → y.Command) (statement : Statement → Statement) (stays : (own : Statement) → StatementIsSmall own → StatementIsSmall (statement own)) where
  other_small : (entries : List Entry) → AreSmall entries → AreSmall (with_other t k command statement entries)
  other_small [] small = tt
  other_small (Created line session table ∷ older) small = (tt, other_small older small.1)
  other_small (Began line session u level ∷ older) small = (tt, other_small older small.1)
  other_small (Ran line session own u now ∷ older) small =
      elim (is_at t k u older) as (λ b. AreSmall (cond b (Ran line session (command own) u (statement now) ∷ older) (Ran line session own u now ∷ with_other t k command statement older))) [
        | true ↦ (stays now small.0, small.1)
        | false ↦ (small.0, other_small older small.1)
      ]
  other_small (Committed line session u ∷ older) small = (tt, other_small older small.1)
  other_small (Ended line session end u ∷ older) small = (tt, other_small older small.1)

other_long : (t k : ℕ) (command : y.Command → y.Command) (statement : Statement → Statement) (entries : List Entry) → length (with_other t k command statement entries) ≡ length entries
other_long t k command statement [] = refl
other_long t k command statement (Created line session table ∷ older) = ap (λ n. suc n) (other_long t k command statement older)
other_long t k command statement (Began line session u level ∷ older) = ap (λ n. suc n) (other_long t k command statement older)
other_long t k command statement (Ran line session own u now ∷ older) =
    elim (is_at t k u older) as (λ b. length (cond b (Ran line session (command own) u (statement now) ∷ older) (Ran line session own u now ∷ with_other t k command statement older)) ≡ suc (length older)) [
      | true ↦ refl
      | false ↦ ap (λ n. suc n) (other_long t k command statement older)
    ]
other_long t k command statement (Committed line session u ∷ older) = ap (λ n. suc n) (other_long t k command statement older)
other_long t k command statement (Ended line session end u ∷ older) = ap (λ n. suc n) (other_long t k command statement older)

module _ (t : ℕ) (command : y.Command) (statement : Statement) where
  abbrev Added : Entry → List Entry → Bool → List Entry
  Added entry older here = cond here (Ran (suc (line_of entry)) (session_of entry) command t statement ∷ entry ∷ older) (entry ∷ with_added t command statement older)

  added_small : StatementIsSmall statement → (entries : List Entry) → AreSmall entries → AreSmall (with_added t command statement entries)
  added_small own [] small = tt
  added_small own (entry ∷ older) small =
      elim (is_step_of t entry) as (λ b. AreSmall (Added entry older b)) [ true ↦ (own, small) | false ↦ (small.0, added_small own older small.1) ]

  added_long : (entries : List Entry) → length (with_added t command statement entries) ≤ suc (length entries)
  added_long [] = omega arith
  added_long (entry ∷ older) =
      elim (is_step_of t entry) as (λ b. length (Added entry older b) ≤ suc (suc (length older))) [ true ↦ omega arith | false ↦ let rest = added_long older in omega (arith, rest) ]

-- a statement that is dropped leaves a query
dropped_small : (own : Statement) → StatementIsSmall own → StatementIsSmall (dropped_statement own)
dropped_small (insert table rows) small = tt
dropped_small (insert_select table select) small = tt
dropped_small (update table sets c) small = tt
dropped_small (delete table c) small = tt
dropped_small (read select) small = tt

all_dropped_small : (t : ℕ) (entries : List Entry) → AreSmall entries → AreSmall (map (dropped_of t) entries)
all_dropped_small t [] small = tt
all_dropped_small t (Created line session table ∷ older) small = (tt, all_dropped_small t older small.1)
all_dropped_small t (Began line session u level ∷ older) small = (tt, all_dropped_small t older small.1)
all_dropped_small t (Ran line session command u statement ∷ older) small = (
  elim (u == t) as (λ b. EntryIsSmall (cond b (Ran line session (dropped_command command) u (dropped_statement statement)) (Ran line session command u statement))) [
    | true ↦ dropped_small statement small.0
    | false ↦ small.0
  ],
  all_dropped_small t older small.1,
)
all_dropped_small t (Committed line session u ∷ older) small = (tt, all_dropped_small t older small.1)
all_dropped_small t (Ended line session end u ∷ older) small = (tt, all_dropped_small t older small.1)

abbrev AreSame : Result (List Entry) Refusal → Result (List Entry) Refusal → Type 0
AreSame one other = one ≡ other

same_list : (a b : List Entry) → AreSame (Ok a) (Ok b) → a ≡ b
same_list a b e = cc

-- what holds of each log that a change may put there holds of the changed log
put : {A : Type 0} (entries new : List Entry) (Holds : List Entry → Type 0) (refusal : Option Refusal) (found : Result A Refusal) (make : A → List Entry)
    → rewritten parameters entries refusal found make ≡ Ok new → ((given : A) → found ≡ Ok given → Holds (make given)) → Holds new
put entries new Holds (Some refusal) found make e each = absurd cc
put entries new Holds None (Err refusal) make e each = absurd cc
put entries new Holds None (Ok given) make e each = subst Holds (same_list (make given) new e) (each given refl)

-- a log is small, and at most one line longer than another
abbrev IsLike : List Entry → List Entry → Type 0
IsLike entries new = (length new ≤ suc (length entries)) × AreSmall new

module _ (entries new : List Entry) (small : AreSmall entries) where
  with_other_like : (t k : ℕ) (command : y.Command → y.Command) (statement : Statement → Statement) → ((own : Statement) → StatementIsSmall own → StatementIsSmall (statement own))
      → IsLike entries (with_other t k command statement entries)
  with_other_like t k command statement stays =
      let long = other_long t k command statement entries in (omega (arith, long), other_small t k command statement stays entries small)

  changed_like : (change : y.LogChange) → passed_limit (change_shape change) ≡ None → changed parameters entries change ≡ Ok new → IsLike entries new
  changed_like (y.drop t k) within e =
      put entries new (IsLike entries) (option_or (transaction_refusal t entries) (statement_refusal t k entries)) (Ok (tt {0}))
      (λ nothing. with_other t k dropped_command dropped_statement entries) e
      (λ nothing is. with_other_like t k dropped_command dropped_statement dropped_small)
  changed_like (y.drop_all t) within e =
      put entries new (IsLike entries) (transaction_refusal t entries) (Ok (tt {0})) (λ nothing. map (dropped_of t) entries) e
      (λ nothing is. let long = length-map entries (dropped_of t) in (omega (arith, long), all_dropped_small t entries small))
  changed_like (y.replace t k command) within e =
      put entries new (IsLike entries) (option_or (transaction_refusal t entries) (statement_refusal t k entries)) (checked (tables_before t k entries) command)
      (λ statement. with_other t k (λ own. command) (λ own. statement) entries) e
      (λ statement is. with_other_like t k (λ own. command) (λ own. statement) (λ own given. checked_small (tables_before t k entries) command statement within is))
  changed_like (y.add t command) within e =
      put entries new (IsLike entries) (option_or (transaction_refusal t entries) (steps_refusal parameters entries t)) (checked (tables_at_end t entries) command)
      (λ statement. with_added t command statement entries) e
      (λ statement is.
      let long = added_long t command statement entries in
      (omega (arith, long), added_small t command statement (checked_small (tables_at_end t entries) command statement within is) entries small))

-- one change after another: a log is small, and at most so many lines longer than another
abbrev IsLonger : ℕ → List Entry → List Entry → Type 0
IsLonger more entries new = (length new ≤ length entries + more) × AreSmall new

step_like : (entries new : List Entry) (small : AreSmall entries) (change : y.LogChange) (changes : List y.LogChange) → passed_limit (change_shape change) ≡ None
    → ((own : List Entry) → AreSmall own → all_changed parameters (Ok own) changes ≡ Ok new → IsLonger (length changes) own new)
    → (found : Result (List Entry) Refusal) → changed parameters entries change ≡ found → all_changed parameters found changes ≡ Ok new → IsLonger (suc (length changes)) entries new
step_like entries new small change changes within others (Err refusal) is e = absurd cc
step_like entries new small change changes within others (Ok own) is e =
    let like = changed_like entries own small change within is in
    let rest = others own like.1 e in
    let long = rest.0 in let one = like.0 in (omega (arith, long, one), rest.1)

all_like : (changes : List y.LogChange) (entries new : List Entry) → AreSmall entries → passed_limit (commands_shape changes) ≡ None → all_changed parameters (Ok entries) changes ≡ Ok new
    → IsLonger (length changes) entries new
all_like [] entries new small within e = subst (IsLonger zero entries) (same_list entries new e) (omega arith, small)
all_like (change ∷ changes) entries new small within e =
    let parts = both-within (change_shape change) (commands_shape changes) within in
    step_like entries new small change changes parts.0 (λ own given same. all_like changes own new given parts.1 same) (changed parameters entries change) refl e

-- a WHATIF has few changes
few_changes : (count : ℕ) → passed_limit (shape_of_count count) ≡ None → count ≤ MAX_CHANGES
few_changes count within = go (nat_lt MAX_CHANGES count) refl within
  where
    go : (b : Bool) → nat_lt MAX_CHANGES count ≡ b → cond b (Some change_count) None ≡ None → count ≤ MAX_CHANGES
    go false is e = ltb-false MAX_CHANGES count is
    go true is e = absurd (some_none change_count e)

log_like : (changes : List y.LogChange) (entries new : List Entry) → AreSmall entries → passed_limit (changes_shape changes) ≡ None → changed_log parameters entries changes ≡ Ok new
    → IsLonger MAX_CHANGES entries new
log_like changes entries new small within e =
    let parts = both-within (shape_of_count (length changes)) (commands_shape changes) within in
    let few = few_changes (length changes) parts.0 in
    let like = all_like changes (map (spread (lines_for changes)) entries) new (spread_small (lines_for changes) entries small) parts.1 e in
    let same = length-map entries (spread (lines_for changes)) in
    let long = like.0 in (omega (arith, few, same, long), like.1)

-- ---- a query over a state

-- a log whose programs explain their states
pub record IsExplained (entries : List Entry) : Type 0 where
  pub small : IsSmall entries
  pub named : AreNamed (tables_in entries)
  pub valid : tables_are_valid (tables_in entries) ≡ true
  pub fit : statements_fit (tables_in entries) entries ≡ true

pub query_fits : (tables : List Table) (query : y.Query) (select : Select) → tables_are_valid tables ≡ true → query_is_valid query ≡ true → checked_query tables query ≡ Ok select
    → select_fits tables select ≡ true
query_fits tables query select columns valid is =
    let a = accepted (first_refusal tables (y.select query)) (select_of tables query) select is in
    subst (λ (own : Select). select_fits tables own ≡ true) a.1 (fits tables (y.select query) columns refl valid a.0)

module _ (entries : List Entry) (is : IsExplained entries) (query : y.Query) (valid : query_is_valid query ≡ true) (few : has_few_items query ≡ true) where
  -- by the refusal of the log, where the query that is checked has a text
  asked_explained : (expected : Option Refusal) (prov : Bool) (point : y.Point)
      → (expected ≡ None → (select : Select) → select_fits (tables_in entries) select ≡ true → HasFewTables select → Explains entries point select prov (explained_text entries prov point select))
      → ExplainsAsk program_lines entries expected prov point query
  asked_explained expected prov point says = go expected refl (checked_query (tables_in entries) query) refl
    where
      go : (refusal : Option Refusal) → expected ≡ refusal → (found : Result Select Refusal) → checked_query (tables_in entries) query ≡ found
          → IfOk (asked refusal found) (λ (select : Select). AreLinesOf (Explains entries point select prov) (program_lines entries prov point select))
      go (Some refusal) known found e = tt
      go None known (Err refusal) e = tt
      go None known (Ok select) e =
          let text = explained_text entries prov point select in
          let explains : Explains entries point select prov text =
          says known select (query_fits (tables_in entries) query select is.valid valid e) (checked-few (tables_in entries) query select None few e) in
          (text, spelled_lines (tables_in entries) explains.program text explains.spelled, explains)

  ask_explained : (prov : Bool) (point : y.Point) → ExplainsAsk program_lines entries (log_refusal entries point) prov point query
  ask_explained prov point =
      asked_explained (log_refusal entries point) prov point (λ known select fits short. small_explained entries is.small is.fit prov select fits short is.named point known)

  saw_explained : (t k : ℕ) → ExplainsAsk program_lines entries (seen_refusal t k entries) false (y.after t k) query
  saw_explained t k =
      asked_explained (seen_refusal t k entries) false (y.after t k) (λ known select fits short. small_saw_explained entries t k known is.small is.fit select fits short is.named)

-- ---- questions

module _ (entries : List Entry) (is : IsExplained entries) (few : length entries ≤ MAX_ENTRIES)
    (put_in : (new : List Entry) (changes : List y.LogChange) → have_statements changes ≡ true → changes_are_valid changes ≡ true → changed_log parameters entries changes ≡ Ok new
    → (statements_fit (tables_in new) new ≡ true) × (tables_in new ≡ tables_in entries)) where
  changed_explained : (new : List Entry) (changes : List y.LogChange) → have_statements changes ≡ true → changes_are_valid changes ≡ true → passed_limit (changes_shape changes) ≡ None
      → changed_log parameters entries changes ≡ Ok new → IsExplained new
  changed_explained new changes kind valid within e =
      let own = put_in new changes kind valid e in
      let like = log_like changes entries new is.small.statements within e in
      let long = like.0 in
      record {
        small = record {
          lines = omega (arith, long, few);
          columns = λ table. subst (λ (tables : List Table). width_of tables table ≤ MAX_COLUMNS) (sym own.1) (is.small.columns table);
          statements = like.1;
        };
        named = subst AreNamed (sym own.1) is.named;
        valid = subst (λ (tables : List Table). tables_are_valid tables ≡ true) (sym own.1) is.valid;
        fit = own.0;
      }

  question_explained : (asked : y.Question) → question_is_valid asked ≡ true → passed_limit (question_shape asked) ≡ None → ExplainsQuestion program_lines entries asked
  question_explained (y.ask (y.of_state (y.explain prov) point) query) valid within =
      let parts = valid-parts (y.of_state (y.explain prov) point) query valid in ask_explained entries is query parts.0 parts.1 prov point
  question_explained (y.what_if changes (y.of_state (y.explain prov) point) query) valid within = go (changed_log parameters entries changes) refl
    where
      go : (found : Result (List Entry) Refusal) → changed_log parameters entries changes ≡ found → IfOk found (λ (own : List Entry). ExplainsAsk program_lines own (log_refusal own point) prov point query)
      go (Err refusal) e = tt
      go (Ok own) e =
          let parts = valid-change changes (y.of_state (y.explain prov) point) query valid in
          ask_explained own (changed_explained own changes parts.0 parts.1.0 (both-within (changes_shape changes) (query_shape query) within).0 e) query parts.1.1.0 parts.1.1.1 prov point
  question_explained (y.explain_saw t k query) valid within =
      let parts = and_parts (query_is_valid query) (has_few_items query) valid in saw_explained entries is query parts.0 parts.1 t k
  question_explained asked valid within = tt

  line_explained : (text : List ℕ) → IfOk (question_of text) (ExplainsQuestion program_lines entries)
  line_explained text = go (question_of text) refl
    where
      go : (found : Result y.Question Fault) → question_of text ≡ found → IfOk found (ExplainsQuestion program_lines entries)
      go (Err fault) e = tt
      go (Ok own) e =
          let reads = (lines-read question IsQuestion capped_question question_shape lawful-question questions-fair text own).0 e in
          question_explained own (read-valid text own e) reads.text.within

  file_explained : (lines : List (ℕ × List ℕ)) → EachQuestion (ExplainsQuestion program_lines entries) (read_lines question_of lines)
  file_explained [] = tt
  file_explained (line ∷ lines) = (line_explained line.1, file_explained lines)

-- ---- a well-formed dump

pub dump_explained : (dump : Dump) → IsDump dump → IsExplained dump.entries
dump_explained dump is =
    let few = is.few_entries in
    let orderly = tables_orderly dump.entries is.commands in
    record {
      small = record { lines = omega (arith, few); columns = width_most (tables_in dump.entries) orderly; statements = log_small dump.entries is.log is.commands };
      named = are_named (tables_in dump.entries) orderly;
      valid = are_valid (tables_in dump.entries) orderly;
      fit = statements_of_dumps dump is;
    }

-- the statements of a changed log fit, by the laws of changed logs
pub questions_explained : (bytes file : List ℕ) (dump : Dump) (questions : List ReadQuestion) → WellFormed bytes dump → AreQuestions file questions
    → KeepsSessions dump.entries
    → ((changes : List y.LogChange) → tables_are_valid (tables_in dump.entries) ≡ true → have_statements changes ≡ true → changes_are_valid changes ≡ true → ChecksFit parameters dump.entries changes)
    → ((new : List Entry) (changes : List y.LogChange) → IsReplayable dump.entries → ChecksFit parameters dump.entries changes → changed_log parameters dump.entries changes ≡ Ok new → IsReplayable new)
    → ((new : List Entry) (changes : List y.LogChange) → changed_log parameters dump.entries changes ≡ Ok new → tables_in new ≡ tables_in dump.entries)
    → EachQuestion (ExplainsQuestion program_lines dump.entries) questions
questions_explained bytes file dump questions formed are sessions fitting kept same =
    let is : IsDump dump = (whole-text bytes dump formed).rules in
    let own = dump_explained dump is in
    let replayable : IsReplayable dump.entries = record { sessions = sessions; fits = statements_of_dumps dump is } in
    subst (EachQuestion (ExplainsQuestion program_lines dump.entries)) (sym (one-file file questions are))
    (file_explained dump.entries own is.few_entries
    (λ new changes kind fine e. ((kept new changes replayable (fitting changes own.valid kind fine) e).fits, same new changes e)) (script_lines file))
