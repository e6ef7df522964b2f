-- The promises of a call by its outcome and by laws, and what follows from them.
use Rattle.std.proofs.Common.{◌≡◌, ◌≢◌, ℕ, ◌^◌, ◌<◌, ◌≤◌, ◌⊎◌, inl, inr, Bool, false, true, List, [], ◌∷◌, ◌++◌, length, map, Option, Some, None, Result, Ok, Err, codes, refl, sym, ap, ◌∙◌, subst, ⊎_elim}
use Rattle.std.specs.Prelude.{◌↔◌, AllPairs, Contains, filter, slice_get, unwrap_or}
use Rattle.std.specs.List.{AllByRecursion, flat_map}
use Rattle.std.specs.List.Sorted.{IsPermutation, IsSorted}
use Rattle.gp_base.specs.Annotated.{Annotations, monomials, unannotated}
use Rattle.gp_base.specs.CatalogForms.{HaveDifferentNames}
use Rattle.gp_base.specs.declared.refusal.Refusal.{Refusal}
use Rattle.gp_base.specs.declared.refusal.Refusal.TheVariants.{E27}
use Rattle.gp_base.specs.declared.table.Table.{Table}
use Rattle.gp_base.specs.Order.{row_cmp}
use Rattle.gp_base.specs.Tokens.{Monomial}
use Rattle.gp_grammar.specs.LineReading.{Fault as ReadFault}
use Rattle.gp_grammar.specs.Syntax as y
use Rattle.gp_grammar.proofs.ReadOnce.{questions-once, scripts-once}
use Rattle.gp_algebra.specs.Plain.{PlainProgram}
use Rattle.gp_io.specs.Events.{Event, Replaced, NotReplaced}
use Rattle.gp_io.specs.Sink.{SinkState}
use Rattle.gp_log.specs.LogFacts.{tables_in}
use Rattle.gp_log.specs.Parameters.{parameters}
use Rattle.gp_machine.specs.Entries.{Entry, statement_count, transactions_in}
use Rattle.gp_machine.specs.Event.{Line, after, event}
use Rattle.gp_machine.specs.Questions.{own_stop}
use Rattle.gp_machine.specs.Replayed.{replayed_state}
use Rattle.gp_machine.specs.Precedence.{is_before}
use Rattle.gp_machine.specs.RowChanges.{tables_changes}
use Rattle.gp_machine.specs.State.{State, start}
use Rattle.gp_plantext.specs.Spellable.{is_spellable}
use Rattle.gp_plantext.specs.Spelling.{program_text}
use Rattle.gp_sql.specs.Spelled.{HaveOwnNames, SpellsQuery}
use Rattle.gp_sql.specs.Sql.{With}
use Rattle.gp_replay.specs.Differences.{IsOfHistory, difference}
use Rattle.gp_serial.specs.Anomalies.{cycles}
use Rattle.gp_serial.specs.Graphs.{is_cycle, least_cycle}
use Rattle.gp_serial.specs.LeastCycles.{IsCycleOf}
use Rattle.gp_serial.specs.PairCycles.{pair_cycles}
use Rattle.gp_serial.specs.PairLaws.{ArePairCycles}
use Rattle.gp_serial.specs.Serializing.{by_number}
use Rattle.gp_syntax.specs.Lines.{script_lines}
use Rattle.gp_script.specs.History.{IsScript, ReadLine, has_refusal, last_state, outcome_of, replies_text, replies_to, state_along}
use Rattle.gp_script.specs.Scripts.{final_state, line_if_read, lines_as_read}
use Rattle.gp_script.specs.declared.script.TheConstants.{MAX_SCRIPT_LENGTH}
use Rattle.gp_dump.specs.declared.dump.TheConstants.{MAX_DUMP_LENGTH}
use Rattle.gp_dump.specs.Dumps.{Dump, dump_of, written_text}
use Rattle.gp_dump.specs.WholeDumps.{IsDump}
use Rattle.gp_dump.specs.Rules.{WellFormed}
use Rattle.gp_dump.specs.Verdicts.{Fails, Holds, Verdict, fault_in, verdict_on}
use Rattle.gp_dump.proofs.FaultLemmas.{fault-found, fault-is, kept-found, kept-is}
use Rattle.gp_dump.proofs.LawLemmas as dumps
use Rattle.gp_script.proofs.ReadHistory.{one-script, state-read}
use Rattle.gp_base.specs.declared.cell.Cell.{Cell}
use Rattle.gp_csv.specs.Answers.{csv_text, titled_records}
use Rattle.gp_csv.specs.Faults.{Fault}
use Rattle.gp_csv.specs.Titled.{AreReloadable}
use Rattle.gp_load.specs.Loading.{LoadsText, loaded_of}
use Rattle.gp_load.specs.Reloading.{LoadsAgain}
use Rattle.gp_ask.specs.declared.format.Format.{Format}
use Rattle.gp_ask.specs.AnomalyAnswers.{anomaly_answer}
use Rattle.gp_ask.specs.Answers.{answer_to, held_to}
use Rattle.gp_ask.specs.Asking.{Programs}
use Rattle.gp_ask.specs.Programs.{program_lines, programs_in, sql_lines}
use Rattle.gp_ask.specs.SqlAnswers.{AreStored, AsksQuestion}
use Rattle.gp_ask.specs.declared.answered.Answered as reply
use Rattle.gp_ask.specs.Compared.{AnswersAsMade, compares_histories}
use Rattle.gp_ask.specs.Deltas.{IsDifference, delta}
use Rattle.gp_ask.specs.Explained.{ExplainsQuestion}
use Rattle.gp_ask.specs.Hypothetical.{remaking_refusal, replayed_dump}
use Rattle.gp_ask.specs.Intervals.{has_version, intervals}
use Rattle.gp_ask.specs.Isolated.{IsIsolated, LosesToFirst}
use Rattle.gp_whatif.specs.Changed.{changed_log}
use Rattle.gp_ask.specs.Questions.{AreQuestions, EachQuestion, ReadQuestion, is_refused}
use Rattle.gp_ask.specs.SerialAnswers.{serial_answer}
use Rattle.gp_ask.specs.SerialHistories.{IsTrue, RunsInCycle, RunsSerially}
use Rattle.gp_ask.specs.declared.answered.AnomalyText.{AnomalyText}
use Rattle.gp_ask.specs.declared.answered.Answered.TheVariants.{Anomalies, Lines, Refused}
use Rattle.gp_ask.specs.declared.answered.Heading.TheVariants.{Cycle, Serial}
use Rattle.gprom_cli.specs.declared.load.TheConstants.{MAX_SHEET_LENGTH}
use Rattle.gprom_cli.specs.declared.status.Status.{Status}
use Rattle.gprom_cli.specs.declared.status.Status.TheVariants as exit
use Rattle.gprom_cli.specs.Args.{Command, Run, Ask, Generate, Load}
use Rattle.gprom_cli.specs.Call as c
use Rattle.gprom_cli.specs.Call.{IsWholeLines, Call, ComesTo, HasOutcome, RunsScript, WritesOutput, Shown, answered_status, asked_status, asked_text, history_dump, loaded_message, read_of, rounds_line, sheet_message, usage_text}
use Rattle.gprom_cli.specs.Steps.{script_dump}
use Rattle.gprom_cli.specs.Promises.{IsReadAsDump, Promises}
use Rattle.gprom_cli.specs.Consequences.{AllDone, Consequences, FollowsSteps, HasFailed, HasStopped, IsClean, IsDetermined, IsLast, IsOrFails, IsReplacedAfter, LoadsSheet}
use Rattle.gprom_cli.proofs.WritesLemmas.{IsWritten, expected-is, no-new-failure, nothing-written, or-failed, or-fails}
use Rattle.gprom_cli.proofs.OutcomeLemmas.{dump-read}
use Rattle.gprom_cli.proofs.ToldLemmas.{fails, told, told-is, writes-told, WritesTold}
use Rattle.gprom_cli.proofs.EventLemmas.{Cause, GenerateFollows, LoadFollows, NothingFollows, RunFollows, SheetFollows, cause, end-follows, generate-follows, load-follows, none-stopped, nothing-follows, read-follows, run-follows}

-- ---- a status and its cause

usage-written : IsWritten exit.Usage
usage-written = (λ e. cc, λ e. cc)

absent-written : IsWritten exit.Absent
absent-written = (λ e. cc, λ e. cc)

unreadable-written : IsWritten exit.Unreadable
unreadable-written = (λ e. cc, λ e. cc)

clean-written : (s : Status) → IsClean s → IsWritten s
clean-written s clean = (λ e. subst IsClean e clean, λ e. subst IsClean e clean)

clean-cause : (s : Status) (command : Option Command) (events : List Event) → IsClean s → Cause s command events → AllDone events
clean-cause exit.Done command events clean because = because
clean-cause exit.Refused command events clean because = because
clean-cause exit.Usage command events clean because = because.1
clean-cause exit.Absent command events clean because = absurd clean
clean-cause exit.Unreadable command events clean because = absurd clean
clean-cause exit.Unwritten command events clean because = absurd clean
clean-cause exit.TooLong command events clean because = because
clean-cause exit.Damaged command events clean because = because
clean-cause exit.OutOfMemory command events clean because = absurd clean
clean-cause exit.SheetRefused command events clean because = because

-- a write failed, unless the expected status says that a file was not replaced
claims : (s : Status) (old new : SinkState) (command : Option Command) (events : List Event) → Cause s command events → (s ≡ exit.Unwritten) ⊎ HasFailed old new
    → ((name : List ℕ) × (bytes : List ℕ) × IsLast (NotReplaced name bytes) events) ⊎ HasFailed old new
claims s old new command events because (inl is) = inl (subst (λ (e : Status). Cause e command events) is because)
claims s old new command events because (inr failed) = inr failed

-- ---- the lines that files are read as

module _ (script : List ℕ) (lines : List ReadLine) (are : IsScript script lines) where
  same-lines : lines ≡ lines_as_read script
  same-lines = one-script script lines are

  same-dump : history_dump lines ≡ script_dump script
  same-dump = ap history_dump same-lines ∙ dump-read script

  same-plain : last_state unannotated lines ≡ final_state unannotated script
  same-plain = ap (last_state unannotated) same-lines ∙ state-read unannotated script

-- ---- the lines of a history, read and as the machine takes them

-- those that are read
abbrev taken : List ReadLine → List Line
taken = flat_map (λ (line : ReadLine). line_if_read line.0 line.1)

abbrev read_again : Line → ReadLine
read_again line = (line.number, Ok (record { session = line.session; command = line.command }))

module _ {M : Type 0} (domain : Annotations M) where
  taken-after : (lines : List ReadLine) → ((state : State M) → state_along domain state lines ≡ after domain parameters state (taken lines)) → (state : State M) (number : ℕ) (read : Result y.ScriptLine ReadFault)
      → state_along domain (outcome_of domain state number read).0 lines ≡ after domain parameters state (line_if_read number read ++ taken lines)
  taken-after lines rest state number (Err fault) = rest state
  taken-after lines rest state number (Ok line) = rest (event domain parameters state number line.session line.command).0

  state-taken : (lines : List ReadLine) (state : State M) → state_along domain state lines ≡ after domain parameters state (taken lines)
  state-taken [] state = refl
  state-taken (line ∷ lines) state = taken-after lines (state-taken lines) state line.0 line.1

  state-again : (lines : List Line) (state : State M) → state_along domain state (map read_again lines) ≡ after domain parameters state lines
  state-again [] state = refl
  state-again (line ∷ lines) state = state-again lines (event domain parameters state line.number line.session line.command).0

-- ---- a file as a dump

abbrev reading_by : Verdict → Result Dump (ℕ × ℕ)
reading_by (Holds dump) = Ok dump
reading_by (Fails f line) = Err (f, line)

is-read : (bytes : List ℕ) (v : Verdict) → verdict_on bytes ≡ v → IsReadAsDump bytes (reading_by v)
is-read bytes (Holds dump) is = kept-found bytes dump is
is-read bytes (Fails f line) is = fault-found bytes f line (ap fault_in is)

one-reading : (bytes : List ℕ) (reading : Result Dump (ℕ × ℕ)) → IsReadAsDump bytes reading → reading ≡ reading_by (verdict_on bytes)
one-reading bytes (Ok dump) is = ap reading_by (sym (kept-is bytes dump is))
one-reading bytes (Err fault) is = ap reading_by (sym (fails (verdict_on bytes) fault.0 fault.1 (fault-is bytes fault.0 fault.1 is)))

-- ---- the promises

-- what laws say of the dumps of scripts, of histories, and of programs
pub record DumpLaws : Type 0 where
  pub formed : (script : List ℕ) → length script ≤ MAX_SCRIPT_LENGTH → IsDump (dump_of (final_state unannotated script))
  pub unchanged : (script : List ℕ) → length script ≤ MAX_SCRIPT_LENGTH
      → (remaking_refusal (final_state unannotated script).entries ≡ None) × (replayed_dump (final_state unannotated script).entries ≡ dump_of (final_state unannotated script))
  pub held : (programs : Programs) (lines : List Line) (question : y.Question)
      → answer_to programs (dump_of (after unannotated parameters start lines)) question ≡ held_to programs (after monomials parameters start lines) question
  pub checked : (dump : Dump) → IsDump dump → difference dump ≡ None → IsOfHistory dump
  pub explained : (bytes file : List ℕ) (dump : Dump) (questions : List ReadQuestion) → WellFormed bytes dump → AreQuestions file questions → EachQuestion (ExplainsQuestion program_lines dump.entries) questions
  pub asked : (bytes file : List ℕ) (dump : Dump) (questions : List ReadQuestion) → WellFormed bytes dump → AreQuestions file questions → EachQuestion (AsksQuestion sql_lines dump.entries) questions
  pub stored : (bytes : List ℕ) (dump : Dump) → WellFormed bytes dump → AreStored dump.entries dump.tables
  pub reloaded : (number : ℕ) (titles : List (List ℕ)) (rows : List (List Cell)) → number < 2 ^ 63 → AreReloadable (codes "line" ∷ titles) rows
      → LoadsAgain number (codes "line" ∷ titles) rows (csv_text (titled_records number (codes "line" ∷ titles) rows))
  pub programs : (tables : List Table) (program other : PlainProgram) → HaveDifferentNames tables → is_spellable tables program ≡ true → is_spellable tables other ≡ true
      → program_text tables program ≡ program_text tables other → program ≡ other
  pub queries : (tables : List Table) (text : List ℕ) (query other : With) → HaveOwnNames tables → SpellsQuery tables query text → SpellsQuery tables other text → query ≡ other
  pub compared : (programs : Programs) (dump : Dump) (question : y.Question) → compares_histories question ≡ true → AnswersAsMade programs dump question
  pub isolated : (lines : List Line) → IsIsolated (after monomials parameters start lines)
  pub lost : (lines : List Line) → LosesToFirst (after monomials parameters start lines)
  pub remade : (dump : Dump) → IsDump dump → (changes : List y.LogChange) (entries : List Entry) → changed_log parameters dump.entries changes ≡ Ok entries
      → remaking_refusal entries ≡ None → IsIsolated (replayed_state monomials (tables_in entries) entries)
  pub serial : (lines : List Line) (texts : List (List ℕ)) → serial_answer (dump_of (after unannotated parameters start lines)) ≡ Lines Serial texts
      → RunsSerially (after unannotated parameters start lines) texts
  pub cycle : (lines : List Line) (texts : List (List ℕ)) → serial_answer (dump_of (after unannotated parameters start lines)) ≡ Lines Cycle texts
      → RunsInCycle (after unannotated parameters start lines) texts
  pub changes : (lines : List Line) → AllByRecursion (IsTrue (after unannotated parameters start lines)) (tables_changes 0 (dump_of (after unannotated parameters start lines)).tables)
  pub anomalies : (lines : List Line) (texts : List AnomalyText) → anomaly_answer (dump_of (after unannotated parameters start lines)) ≡ Anomalies texts
      → AllByRecursion (λ (text : AnomalyText). RunsInCycle (after unannotated parameters start lines) text.steps) texts
  pub limited : (lines : List Line) (refusal : Refusal) → anomaly_answer (dump_of (after unannotated parameters start lines)) ≡ Refused refusal → refusal ≡ E27
  pub answered : (lines : List Line) → is_refused (serial_answer (dump_of (after unannotated parameters start lines))) ≡ false
  pub unstopped : (lines : List Line) (t k : ℕ) → 0 < t → t ≤ transactions_in (after monomials parameters start lines).entries
      → k ≤ statement_count t (after monomials parameters start lines).entries
      → own_stop monomials parameters (after monomials parameters start lines).entries (y.after t k) (after monomials parameters start lines).committed ≡ None
  pub versions : (answers : ℕ → List (List Cell)) → ((version : ℕ) → IsSorted row_cmp (answers version)) → (last version : ℕ) → version ≤ last
      → IsPermutation (map (λ interval. interval.row) (filter (has_version version) (intervals answers last))) (answers version)
  pub differences : (rows others : List (List Cell)) → IsSorted row_cmp rows → IsSorted row_cmp others → IsDifference rows others (delta rows others)
  pub shortest : (is_before : ℕ → ℕ → Bool) (all other : List ℕ) → AllPairs (λ a b. a < b) all → least_cycle is_before all ≢ []
      → is_cycle is_before other ≡ true → ((t : ℕ) → Contains other t → Contains all t) → length (least_cycle is_before all) ≤ length other
  pub pairs : (is_before goes_back : ℕ → ℕ → Bool) (all : List ℕ) → AllPairs (λ a b. a < b) all → ArePairCycles is_before all goes_back (pair_cycles is_before all goes_back)
  pub none : (dump : Dump) → IsDump dump → (cycles (tables_in dump.entries) dump.entries (tables_changes 0 dump.tables) ≡ [])
      ↔ ((other : List ℕ) → IsCycleOf (is_before (tables_in dump.entries) dump.entries (tables_changes 0 dump.tables)) (by_number dump.entries) other → ⊥)
  pub least : (dump : Dump) → IsDump dump → least_cycle (is_before (tables_in dump.entries) dump.entries (tables_changes 0 dump.tables)) (by_number dump.entries)
      ≡ unwrap_or (slice_get (cycles (tables_in dump.entries) dump.entries (tables_changes 0 dump.tables)) 0) []

-- of a state of a script, by its lines
by-lines : (P : State (Unit {0}) → Type 0) (script : List ℕ) (lines : List ReadLine) → IsScript script lines → P (final_state unannotated script) → P (last_state unannotated lines)
by-lines P script lines are is = subst P (sym (same-plain script lines are)) is

pub promised : DumpLaws → (call : Call) → HasOutcome programs_in call → Promises call
promised laws call has = record {
  shown = programs_in;
  outcome = has;
  scripts = λ script. scripts-once (script_lines script);
  questions = λ file. questions-once (script_lines file);
  dumps = λ bytes. (reading_by (verdict_on bytes), is-read bytes (verdict_on bytes) refl, one-reading bytes);
  formed = λ script lines short are.
      by-lines (λ (state : State (Unit {0})). WellFormed (written_text (dump_of state)) (dump_of state)) script lines are
      (dumps.written-well-formed (dump_of (final_state unannotated script)) (laws.formed script short));
  unchanged = λ script lines short are.
      by-lines (λ (state : State (Unit {0})). (remaking_refusal state.entries ≡ None) × (replayed_dump state.entries ≡ dump_of state)) script lines are (laws.unchanged script short);
  held = λ format lines question.
      ap (λ (state : State (Unit {0})). answer_to (programs_in format) (dump_of state) question) (state-taken unannotated lines start)
      ∙ laws.held (programs_in format) (taken lines) question
      ∙ ap (λ (state : State Monomial). held_to (programs_in format) state question) (sym (state-taken monomials lines start));
  explained = laws.explained;
  asked = laws.asked;
  stored = laws.stored;
  reloaded = laws.reloaded;
  programs = λ tables text program other different spells also. laws.programs tables program other different spells.spellable also.spellable (spells.is ∙ sym also.is);
  queries = laws.queries;
  checked = λ bytes contents formed none.
      let history = laws.checked contents (dumps.whole-text bytes contents formed).rules none in
      (history, λ format question. ap (λ (own : Dump). answer_to (programs_in format) own question) history.is ∙ laws.held (programs_in format) history.lines question);
  compared = λ format. laws.compared (programs_in format);
  isolated = λ lines. subst IsIsolated (sym (state-taken monomials lines start)) (laws.isolated (taken lines));
  lost = λ lines. subst LosesToFirst (sym (state-taken monomials lines start)) (laws.lost (taken lines));
  remade = λ bytes contents changes entries formed made none. laws.remade contents (dumps.whole-text bytes contents formed).rules changes entries made none;
  serial = λ lines texts. subst (λ (state : State (Unit {0})). serial_answer (dump_of state) ≡ Lines Serial texts → RunsSerially state texts) (sym (state-taken unannotated lines start))
      (laws.serial (taken lines) texts);
  cycle = λ lines texts. subst (λ (state : State (Unit {0})). serial_answer (dump_of state) ≡ Lines Cycle texts → RunsInCycle state texts) (sym (state-taken unannotated lines start))
      (laws.cycle (taken lines) texts);
  changes = λ lines. subst (λ (state : State (Unit {0})). AllByRecursion (IsTrue state) (tables_changes 0 (dump_of state).tables)) (sym (state-taken unannotated lines start)) (laws.changes (taken lines));
  anomalies = λ lines texts. subst (λ (state : State (Unit {0})). anomaly_answer (dump_of state) ≡ Anomalies texts → AllByRecursion (λ (text : AnomalyText). RunsInCycle state text.steps) texts)
      (sym (state-taken unannotated lines start)) (laws.anomalies (taken lines) texts);
  limited = λ lines refusal. subst (λ (state : State (Unit {0})). anomaly_answer (dump_of state) ≡ Refused refusal → refusal ≡ E27) (sym (state-taken unannotated lines start))
      (laws.limited (taken lines) refusal);
  answered = λ lines. subst (λ (state : State (Unit {0})). is_refused (serial_answer (dump_of state)) ≡ false) (sym (state-taken unannotated lines start)) (laws.answered (taken lines));
  unstopped = λ lines t k. subst
      (λ (state : State Monomial). 0 < t → t ≤ transactions_in state.entries → k ≤ statement_count t state.entries → own_stop monomials parameters state.entries (y.after t k) state.committed ≡ None)
      (sym (state-taken monomials lines start)) (laws.unstopped (taken lines) t k);
  versions = laws.versions;
  differences = laws.differences;
  shortest = laws.shortest;
  pairs = laws.pairs;
  none = λ bytes contents formed. laws.none contents (dumps.whole-text bytes contents formed).rules;
  least = λ bytes contents formed. laws.least contents (dumps.whole-text bytes contents formed).rules;
  lengths = refl;
  shapes = refl;
  counts = refl;
}

-- ---- what follows

module _ (call : Call) (promises : Promises call) where
  abbrev programs : Shown
  programs = promises.shown

  steps-of : HasOutcome programs call → FollowsSteps call.command call.events
  steps-of (c.comes_to text status comes writes) = end-follows programs call.command call.events text status comes
  steps-of (c.out_of_memory reads quiet memory) = read-follows call.command call.events reads

  -- the cause of a status that is no failure to write
  cause-at : (wanted : Status) → HasOutcome programs call → call.status ≡ wanted → IsWritten wanted → Cause wanted call.command call.events
  cause-at wanted (c.comes_to text status comes writes) at is =
      subst (λ (s : Status). Cause s call.command call.events) (expected-is status call.status wanted (or-fails text status call.sink call.sink_after call.status writes) at is) (cause programs call.command call.events text status comes)
  cause-at wanted (c.out_of_memory reads quiet memory) at is = absurd (is.1 (sym at ∙ memory))

  unwritten : HasOutcome programs call → call.status ≡ exit.Unwritten → ((name : List ℕ) × (bytes : List ℕ) × IsLast (NotReplaced name bytes) call.events) ⊎ HasFailed call.sink call.sink_after
  unwritten (c.comes_to text status comes writes) at =
      claims status call.sink call.sink_after call.command call.events (cause programs call.command call.events text status comes)
      (or-failed text status call.sink call.sink_after call.status writes at)
  unwritten (c.out_of_memory reads quiet memory) at = absurd (let impossible : exit.Unwritten ≡ exit.OutOfMemory = sym at ∙ memory in cc)

  stopped : HasOutcome programs call → HasStopped call.events → call.status ≡ exit.OutOfMemory
  stopped (c.comes_to text status comes writes) stops = absurd (none-stopped programs call.command call.events text status comes stops)
  stopped (c.out_of_memory reads quiet memory) stops = memory

  no-failures : HasOutcome programs call → IsWritten call.status → call.sink_after.failed ≡ call.sink.failed
  no-failures (c.comes_to text status comes writes) is = no-new-failure text status call.sink call.sink_after call.status writes is
  no-failures (c.out_of_memory reads quiet memory) is = absurd (is.1 memory)

  module _ (has : HasOutcome programs call) where
    clean : IsClean call.status → AllDone call.events × (call.sink_after.failed ≡ call.sink.failed)
    clean is =
        let written = clean-written call.status is in
        (clean-cause call.status call.command call.events is (cause-at call.status has refl written), no-failures has written)

    determined : IsDetermined call.command → (text : List ℕ) (status : Status) → ComesTo programs call.command call.events text status
        → WritesOutput text status call.sink call.sink_after call.status
    determined may text status comes = subst (WritesTold call) (told-is kept-is programs call.command call.events text status comes may) (writes-told kept-is programs call may has)

    -- what such a command comes to, after such events
    determined-as : (command : Option Command) (events : List Event) → IsDetermined command → call.command ≡ command → call.events ≡ events → (text : List ℕ) (status : Status) → ComesTo programs command events text status
        → WritesOutput text status call.sink call.sink_after call.status
    determined-as command events may is made text status comes =
        determined (subst IsDetermined (sym is) may) text status
        (subst (λ (es : List Event). ComesTo programs call.command es text status) (sym made) (subst (λ (o : Option Command). ComesTo programs o events text status) (sym is) comes))

    invalid : call.command ≡ None → IsOrFails exit.Usage call.status
    invalid none =
        let writes = writes-told kept-is programs call (subst IsDetermined (sym none) tt) has in
        or-fails usage_text exit.Usage call.sink call.sink_after call.status (subst (λ (o : Option Command). WritesTold call (told programs o call.events)) none writes)

    generated-by : HasOutcome programs call → (rounds : ℕ) → call.command ≡ Some (Generate rounds)
        → (others : List ℕ) × IsWholeLines others × WritesOutput (rounds_line rounds ++ others) exit.Done call.sink call.sink_after call.status
    generated-by (c.comes_to text status comes writes) rounds generate =
        let follows : GenerateFollows (Some (Generate rounds)) text status =
        subst (λ (o : Option Command). GenerateFollows o text status) generate (generate-follows programs call.command call.events text status comes) in (
          follows.0,
          follows.1,
          subst (λ (t : List ℕ). WritesOutput t exit.Done call.sink call.sink_after call.status) follows.2
              (subst (λ (s : Status). WritesOutput text s call.sink call.sink_after call.status) follows.3 writes),
        )
    generated-by (c.out_of_memory reads quiet memory) rounds generate =
        ([], inl refl, nothing-written (rounds_line rounds ++ []) exit.Done call.sink call.sink_after call.status quiet memory)

    -- ---- `run`

    module _ (name dump script : List ℕ) (made : List Event) (lines : List ReadLine) (run : call.command ≡ Some (Run name dump)) (is : call.events ≡ read_of name MAX_SCRIPT_LENGTH script ∷ made)
        (runs : RunsScript script lines) (small : length (history_dump lines) ≤ MAX_DUMP_LENGTH) where
      abbrev IsReplied : Type 0
      IsReplied = WritesOutput (replies_text (replies_to lines)) (answered_status (has_refusal (replies_to lines))) call.sink call.sink_after call.status
          × IsReplacedAfter (read_of name MAX_SCRIPT_LENGTH script) dump (history_dump lines) call

      same-text : history_dump lines ≡ script_dump script
      same-text = same-dump script lines runs.are

      replied-done : made ≡ Replaced dump (script_dump script) ∷ [] → IsReplied
      replied-done done =
          let events : call.events ≡ read_of name MAX_SCRIPT_LENGTH script ∷ Replaced dump (history_dump lines) ∷ [] =
          is ∙ ap (λ (es : List Event). read_of name MAX_SCRIPT_LENGTH script ∷ es) (done ∙ ap (λ (text : List ℕ). Replaced dump text ∷ []) (sym same-text)) in (
            determined-as (Some (Run name dump)) (read_of name MAX_SCRIPT_LENGTH script ∷ Replaced dump (history_dump lines) ∷ []) tt run events
                (replies_text (replies_to lines)) (answered_status (has_refusal (replies_to lines))) (c.replied name dump script lines runs small),
            inl events,
          )

      replied-by : HasOutcome programs call → AllDone made → IsReplied
      replied-by (c.comes_to text status comes _) all =
          let follows : RunFollows (Some (Run name dump)) call.events =
          subst (λ (o : Option Command). RunFollows o call.events) run (run-follows programs call.command call.events text status comes) in
          ⊎_elim replied-done (λ lost. absurd (subst AllDone lost all))
          (follows name script made is runs.short (subst (λ (t : List ℕ). length t ≤ MAX_DUMP_LENGTH) same-text small))
      replied-by (c.out_of_memory reads quiet memory) all =
          let follows : NothingFollows (Some (Run name dump)) call.events =
          subst (λ (o : Option Command). NothingFollows o call.events) run (nothing-follows call.command call.events reads) in (
            nothing-written (replies_text (replies_to lines)) (answered_status (has_refusal (replies_to lines))) call.sink call.sink_after call.status quiet memory,
            inr (memory, is ∙ ap (λ (es : List Event). read_of name MAX_SCRIPT_LENGTH script ∷ es) (follows (read_of name MAX_SCRIPT_LENGTH script) made is)),
          )

    -- ---- `load`

    module _ (name table script bytes : List ℕ) (made : List Event) (load : call.command ≡ Some (Load name table script)) (is : call.events ≡ read_of name MAX_SHEET_LENGTH bytes ∷ made)
        (short : length bytes ≤ MAX_SHEET_LENGTH) where
      abbrev read : Event
      read = read_of name MAX_SHEET_LENGTH bytes

      loads-after : (result : Result (List ℕ × ℕ) Fault) → loaded_of table bytes ≡ result → AllDone made → SheetFollows table script bytes made result → LoadsSheet name table script bytes call result
      loads-after (Ok load_made) loads all follows =
          ⊎_elim
          (λ (done : (made ≡ Replaced script load_made.0 ∷ []) × LoadsText table bytes load_made.0).
          let events : call.events ≡ read ∷ Replaced script load_made.0 ∷ [] = is ∙ ap (λ (es : List Event). read ∷ es) done.0 in (
            determined-as (Some (Load name table script)) (read ∷ Replaced script load_made.0 ∷ []) tt load events (loaded_message load_made.1) exit.Done
                (c.loaded name table script bytes load_made.0 load_made.1 short loads done.1),
            inl events,
            inl done.1,
          ))
          (λ lost. absurd (subst AllDone lost all))
          follows
      loads-after (Err fault) loads all follows =
          let events : call.events ≡ read ∷ [] = is ∙ ap (λ (es : List Event). read ∷ es) follows in (
            determined-as (Some (Load name table script)) (read ∷ []) tt load events (sheet_message fault.c fault.number) exit.SheetRefused
                (c.faulty_sheet name table script bytes fault.c fault.number short loads),
            events,
          )

      loads-nothing : call.sink_after ≡ call.sink → call.status ≡ exit.OutOfMemory → made ≡ [] → (result : Result (List ℕ × ℕ) Fault) → LoadsSheet name table script bytes call result
      loads-nothing quiet memory none (Ok load_made) = (
        nothing-written (loaded_message load_made.1) exit.Done call.sink call.sink_after call.status quiet memory,
        inr (memory, is ∙ ap (λ (es : List Event). read ∷ es) none),
        inr memory,
      )
      loads-nothing quiet memory none (Err fault) = (
        nothing-written (sheet_message fault.c fault.number) exit.SheetRefused call.sink call.sink_after call.status quiet memory,
        is ∙ ap (λ (es : List Event). read ∷ es) none,
      )

      loaded-by : HasOutcome programs call → AllDone made → LoadsSheet name table script bytes call (loaded_of table bytes)
      loaded-by (c.comes_to text status comes _) all =
          let follows : LoadFollows (Some (Load name table script)) call.events =
          subst (λ (o : Option Command). LoadFollows o call.events) load (load-follows programs call.command call.events text status comes) in
          loads-after (loaded_of table bytes) refl all (follows name bytes made is short)
      loaded-by (c.out_of_memory reads quiet memory) all =
          let follows : NothingFollows (Some (Load name table script)) call.events =
          subst (λ (o : Option Command). NothingFollows o call.events) load (nothing-follows call.command call.events reads) in
          loads-nothing quiet memory (follows read made is) (loaded_of table bytes)

    -- ---- `ask`

    module _ (format : Format) (dump name bytes asked : List ℕ) (contents : Dump) (questions : List ReadQuestion) (ask : call.command ≡ Some (Ask format dump name))
        (is : call.events ≡ read_of dump MAX_DUMP_LENGTH bytes ∷ read_of name MAX_SCRIPT_LENGTH asked ∷ []) (few : length bytes ≤ MAX_DUMP_LENGTH) (short : length asked ≤ MAX_SCRIPT_LENGTH)
        (formed : WellFormed bytes contents) (are : AreQuestions asked questions) where
      -- the answers to questions, from a dump that is well formed
      answers-from : WritesOutput (asked_text format contents (answer_to (programs format) contents) questions) (asked_status format contents (answer_to (programs format) contents) questions) call.sink call.sink_after call.status
      answers-from =
          determined-as (Some (Ask format dump name)) (read_of dump MAX_DUMP_LENGTH bytes ∷ read_of name MAX_SCRIPT_LENGTH asked ∷ []) tt ask is
          (asked_text format contents (answer_to (programs format) contents) questions) (asked_status format contents (answer_to (programs format) contents) questions)
          (c.answered format dump name bytes asked contents questions few short formed are)

      -- by other answers that are the same
      answers-by : (answers : y.Question → reply.Answered) → ((question : y.Question) → answer_to (programs format) contents question ≡ answers question)
          → WritesOutput (asked_text format contents answers questions) (asked_status format contents answers questions) call.sink call.sink_after call.status
      answers-by answers same =
          subst (λ (given : y.Question → reply.Answered). WritesOutput (asked_text format contents given questions) (asked_status format contents given questions) call.sink call.sink_after call.status)
          (λ i question. same question i) answers-from

    recorded : (format : Format) (dump name bytes asked : List ℕ) (contents : Dump) (lines : List Line) (questions : List ReadQuestion) → call.command ≡ Some (Ask format dump name)
        → call.events ≡ read_of dump MAX_DUMP_LENGTH bytes ∷ read_of name MAX_SCRIPT_LENGTH asked ∷ [] → length bytes ≤ MAX_DUMP_LENGTH → length asked ≤ MAX_SCRIPT_LENGTH
        → WellFormed bytes contents → contents ≡ dump_of (after unannotated parameters start lines) → AreQuestions asked questions
        → WritesOutput (asked_text format contents (held_to (programs format) (after monomials parameters start lines)) questions)
        (asked_status format contents (held_to (programs format) (after monomials parameters start lines)) questions) call.sink call.sink_after call.status
    recorded format dump name bytes asked contents lines questions ask is few short formed made are =
        answers-by format dump name bytes asked contents questions ask is few short formed are (held_to (programs format) (after monomials parameters start lines))
        (λ question.
        ap (λ (own : Dump). answer_to (programs format) own question) (made ∙ ap dump_of (sym (state-again unannotated lines start)))
        ∙ promises.held format (map read_again lines) question
        ∙ ap (λ (state : State Monomial). held_to (programs format) state question) (state-again monomials lines start))

    held : (format : Format) (dump name script asked : List ℕ) (lines : List ReadLine) (questions : List ReadQuestion) → call.command ≡ Some (Ask format dump name)
        → call.events ≡ read_of dump MAX_DUMP_LENGTH (history_dump lines) ∷ read_of name MAX_SCRIPT_LENGTH asked ∷ [] → RunsScript script lines
        → length (history_dump lines) ≤ MAX_DUMP_LENGTH → length asked ≤ MAX_SCRIPT_LENGTH → AreQuestions asked questions
        → WritesOutput (asked_text format (dump_of (last_state unannotated lines)) (held_to (programs format) (last_state monomials lines)) questions) (asked_status format (dump_of (last_state unannotated lines)) (held_to (programs format) (last_state monomials lines)) questions)
        call.sink call.sink_after call.status
    held format dump name script asked lines questions ask is runs few short are =
        answers-by format dump name (history_dump lines) asked (dump_of (last_state unannotated lines)) questions ask is few short (promises.formed script lines runs.short runs.are) are
        (held_to (programs format) (last_state monomials lines)) (promises.held format lines)

    all-follow : Consequences programs call
    all-follow = record {
      steps = steps-of has;
      determined = determined;
      replied = λ name dump script made lines run is all runs small. replied-by name dump script made lines run is runs small has all;
      held = held;
      answered = answers-from;
      recorded = recorded;
      generated = generated-by has;
      loaded = λ name table script bytes made load is all short. loaded-by name table script bytes made load is short has all;
      usage = λ at. (cause-at exit.Usage has at usage-written).0;
      invalid = invalid;
      absent = λ at. cause-at exit.Absent has at absent-written;
      unreadable = λ at. cause-at exit.Unreadable has at unreadable-written;
      stopped = stopped has;
      unwritten = unwritten has;
      clean = clean;
    }

  pub consequences : Consequences programs call
  consequences = all-follow promises.outcome
