-- Machinery: the history of a script as a function of its bytes, by the parser: the one of the lines that the script is read as.
use Rattle.std.specs.Prelude.{ℕ, List, [], ◌∷◌, Result, Ok, Err}
use Rattle.std.specs.List.{flat_map}
use Rattle.gp_base.specs.Annotated.{Annotations}
use Rattle.gp_grammar.specs.LineReading.{Fault}
use Rattle.gp_grammar.specs.Reading.{read_lines, script_line_of}
use Rattle.gp_grammar.specs.Syntax.{ScriptLine}
use Rattle.gp_syntax.specs.Lines.{script_lines}
use Rattle.gp_machine.specs.declared.reply.Reply.{Reply}
use Rattle.gp_machine.specs.Event.{Line}
use Rattle.gp_machine.specs.State.{State}
use Rattle.gp_script.specs.History.{NumberedReply, ReadLine, last_state, outcome_of, replies_along, replies_to, state_along}

-- the lines that a script is read as
abbrev pub lines_as_read : List ℕ → List ReadLine
lines_as_read script = read_lines script_line_of (script_lines script)

module _ {M : Type 0} (domain : Annotations M) where
  -- the outcome of a line: its number, and its bytes
  abbrev pub line_outcome : State M → ℕ × List ℕ → State M × Reply
  line_outcome state line = outcome_of domain state line.0 (script_line_of line.1)

  -- the replies to these lines, and the state that they leave
  abbrev pub replies_from : State M → List (ℕ × List ℕ) → List NumberedReply
  replies_from state lines = replies_along domain state (read_lines script_line_of lines)

  abbrev pub state_after : State M → List (ℕ × List ℕ) → State M
  state_after state lines = state_along domain state (read_lines script_line_of lines)

  -- the state that a script leaves
  abbrev pub final_state : List ℕ → State M
  final_state script = last_state domain (lines_as_read script)

abbrev pub line_if_read : ℕ → Result ScriptLine Fault → List Line
line_if_read number (Err fault) = []
line_if_read number (Ok line) = record { number = number; session = line.session; command = line.command } ∷ []

abbrev pub lines_if_read : List (ℕ × List ℕ) → List Line
lines_if_read lines = flat_map (λ (line : ℕ × List ℕ). line_if_read line.0 (script_line_of line.1)) lines

-- the replies to the lines of a script, in order
abbrev pub replies_of : List ℕ → List NumberedReply
replies_of script = replies_to (lines_as_read script)
