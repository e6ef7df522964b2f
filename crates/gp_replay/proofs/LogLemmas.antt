-- The lines of a log that keeps the rules are lines of a script, and an engine can be given each of them.
use Rattle.std.proofs.Common.{◌≡◌, ◌≤◌, ℕ, zero, suc, List, [], ◌∷◌, ◌++◌, map, reverse, Some, Ok, refl, sym, ap, subst, ◌∙◌}
use Rattle.std.specs.Prelude.{slice_get}
use Rattle.std.specs.List.{AllByRecursion}
use Rattle.std.proofs.lemmas.List.{map-append, reverse-append}
use Rattle.gp_grammar.specs.Canonical.{command_text}
use Rattle.gp_grammar.specs.Capping.{capped_command}
use Rattle.gp_grammar.specs.CommandGrammar.{IsCommand}
use Rattle.gp_grammar.specs.CommandParsing.{command as parser}
use Rattle.gp_grammar.specs.Limits.{command_shape}
use Rattle.gp_grammar.specs.Reading.{command_of}
use Rattle.gp_grammar.specs.Syntax as y
use Rattle.gp_grammar.specs.declared.limits.TheConstants.{MAX_SESSION}
use Rattle.gp_grammar.proofs.LineLaws.{texts-read}
use Rattle.gp_grammar.proofs.ParserLaws.{lawful-command}
use Rattle.gp_grammar.proofs.ShapeLemmas.{commands-fair}
use Rattle.gp_check.proofs.ValidLemmas.{command-read}
use Rattle.gp_machine.specs.Entries as m
use Rattle.gp_machine.specs.Entries.{session_of}
use Rattle.gp_machine.specs.Event.{Line}
use Rattle.gp_log.specs.Discipline.{Said, Does, Loses, last_line, said_by}
use Rattle.gp_log.specs.WholeLogs.{IsLog}
use Rattle.gp_log.specs.Logs.{entry_view, log_view}
use Rattle.gp_log.specs.Parameters.{parameters}
use Rattle.gp_log.specs.ScriptLines.{AreLinesAfter, AreScriptLines, IsLineAfter}
use Rattle.gp_log.specs.declared.entry.Entry.{Entry}
use Rattle.gp_log.proofs.LineCommands.{parsed-reads}
use Rattle.gp_dumpline.specs.Said.{IsSaid}
use Rattle.gp_dumpline.proofs.SaidLaws.{commit-said, said-command}
use Rattle.gp_dump.specs.WholeDumps.{AreReadable}
use Rattle.gp_replay.specs.Differences.{command_in, line_in, lines_in}
use Rattle.gp_replay.specs.Running.{CanRun, CanRunAll}

-- ---- lines of a script

read-back : (said : Said) → IsSaid said → command_of (command_text (command_in said)) ≡ Ok (command_in said)
read-back (Does command) is = (texts-read parser IsCommand capped_command command_shape lawful-command commands-fair (command_text command) command).1 is
read-back Loses is = said-command y.Command.commit commit-said

-- the number of the last of these lines, which follow a line of this number
abbrev newest : ℕ → List Line → ℕ
newest last [] = last
newest last (line ∷ lines) = newest line.number lines

newest-last : (last : ℕ) (lines : List Line) (line : Line) → newest last (lines ++ line ∷ []) ≡ line.number
newest-last last [] line = refl
newest-last last (first ∷ lines) line = newest-last first.number lines line

newest-line : (entries : List m.Entry) → newest zero (lines_in entries) ≡ last_line entries
newest-line [] = refl
newest-line (entry ∷ older) = newest-last zero (lines_in older) (line_in entry)

one-more : (last : ℕ) (lines : List Line) (line : Line) → AreLinesAfter last lines → IsLineAfter (newest last lines) line → AreLinesAfter last (lines ++ line ∷ [])
one-more last [] line are is = (is, tt)
one-more last (first ∷ lines) line are is = (are.0, one-more first.number lines line are.1 is)

pub log-lines : (entries : List m.Entry) → IsLog parameters entries → AreReadable entries → AreScriptLines (lines_in entries)
log-lines [] log readable = tt
log-lines (entry ∷ older) log readable =
    one-more zero (lines_in older) (line_in entry) (log-lines older log.1 readable.1)
    (subst (λ (last : ℕ). IsLineAfter last (line_in entry)) (sym (newest-line older)) (record {
      rises = log.0.rises;
      number = log.0.line;
      first = log.0.first;
      session = log.0.session;
      command = parsed-reads (command_text (command_in (said_by entry))) (command_in (said_by entry)) (read-back (said_by entry) readable.0);
    }))

-- ---- an engine can be given them

can-run : (entry : m.Entry) → 1 ≤ session_of entry → session_of entry ≤ MAX_SESSION → IsSaid (said_by entry) → CanRun entry
can-run entry first last said =
    let command = command_in (said_by entry) in
    record { first = first; last = last; valid = command-read (command_text command) command (read-back (said_by entry) said) }

all-run : (entries : List m.Entry) → IsLog parameters entries → AreReadable entries → AllByRecursion CanRun entries
all-run [] log readable = tt
all-run (entry ∷ older) log readable = (can-run entry log.0.first log.0.session readable.0, all-run older log.1 readable.1)

split-last : (P : m.Entry → Type 0) (entries : List m.Entry) (last : m.Entry) → AllByRecursion P (entries ++ last ∷ []) → AllByRecursion P entries × P last
split-last P [] last all = (tt, all.0)
split-last P (entry ∷ entries) last all = let rest = split-last P entries last all.1 in ((all.0, rest.0), rest.1)

oldest-last : (entry : Entry) (entries : List Entry) → log_view (entry ∷ entries) ≡ log_view entries ++ entry_view entry ∷ []
oldest-last entry entries = ap (map entry_view) (reverse-append (entry ∷ []) entries) ∙ map-append entry_view (reverse entries) (entry ∷ [])

at-place : (P : m.Entry → Type 0) (entries : List Entry) → AllByRecursion P (log_view entries) → (place : ℕ) (entry : Entry) → slice_get entries place ≡ Some entry → P (entry_view entry)
at-place P [] all place entry found = absurd cc
at-place P (first ∷ entries) all zero entry found =
    let same : first ≡ entry = cc in
    subst (λ (e : Entry). P (entry_view e)) same (split-last P (log_view entries) (entry_view first) (subst (AllByRecursion P) (oldest-last first entries) all)).1
at-place P (first ∷ entries) all (suc place) entry found =
    at-place P entries (split-last P (log_view entries) (entry_view first) (subst (AllByRecursion P) (oldest-last first entries) all)).0 place entry found

pub can-run-all : (entries : List Entry) → IsLog parameters (log_view entries) → AreReadable (log_view entries) → CanRunAll entries
can-run-all entries log readable place entry found = at-place CanRun entries (all-run (log_view entries) log readable) place entry found
