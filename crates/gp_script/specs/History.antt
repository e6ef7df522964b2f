-- Part of the statement: the history of a script. Each of its lines is answered from the state that the lines before it left: by the command that it is
-- read as, or with the fault that it is refused for. Past transactions are later replayed over this history (Arab and others, A Generic Provenance
-- Middleware, TaPP 2014). Rows may have annotations of any kind, which no reply depends on.
use Rattle.std.specs.Prelude.{ℕ, Bool, List, [], ◌∷◌, Result, Ok, Err}
use Rattle.std.specs.List.{flat_map, list_any}
use Rattle.gp_base.specs.declared.table.Table.{Table}
use Rattle.gp_base.specs.Annotated.{Annotations, unannotated}
use Rattle.gp_grammar.specs.CommandGrammar.{IsScriptLine}
use Rattle.gp_grammar.specs.Limits.{line_shape}
use Rattle.gp_grammar.specs.LineReading.{Fault, AreReadAs}
use Rattle.gp_grammar.specs.Syntax.{ScriptLine}
use Rattle.gp_syntax.specs.Lines.{script_lines}
use Rattle.gp_syntax.specs.Refusals.{refusal_of_fault}
use Rattle.gp_machine.specs.declared.reply.Reply.{Reply}
use Rattle.gp_machine.specs.declared.reply.Reply.TheVariants as reply
use Rattle.gp_machine.specs.Event.{event}
use Rattle.gp_machine.specs.Replies.{is_refusal}
use Rattle.gp_machine.specs.State.{State, start}
use Rattle.gp_log.specs.Parameters.{parameters}
use Rattle.gp_script.specs.Replies.{line_text}

-- a line that gets a reply: its number, and the command that it is read as, or the fault that it is refused for
abbrev pub ReadLine : Type 0
ReadLine = ℕ × Result ScriptLine Fault

-- these are the lines of the script. Every script has exactly one such list, by the law `lines_are_read_once` of the grammar.
abbrev pub IsScript : List ℕ → List ReadLine → Type 0
IsScript script lines = AreReadAs IsScriptLine line_shape (script_lines script) lines

-- a reply, with the number of its line and the tables after that line
pub record NumberedReply : Type 0 where
  pub number : ℕ
  pub tables : List Table
  pub reply : Reply

module _ {M : Type 0} (domain : Annotations M) where
  -- the outcome of a line; a fault in its text leaves the state unchanged
  abbrev pub outcome_of : State M → ℕ → Result ScriptLine Fault → State M × Reply
  outcome_of state number (Err fault) = (state, reply.Refused (refusal_of_fault fault))
  outcome_of state number (Ok line) = event domain parameters state number line.session line.command

  -- the replies to these lines, and the state that they leave
  abbrev pub replies_along : State M → List ReadLine → List NumberedReply
  replies_along state [] = []
  replies_along state (line ∷ lines) =
      let next = outcome_of state line.0 line.1 in
      record { number = line.0; tables = next.0.catalogue; reply = next.1 } ∷ replies_along next.0 lines

  abbrev pub state_along : State M → List ReadLine → State M
  state_along state [] = state
  state_along state (line ∷ lines) = state_along (outcome_of state line.0 line.1).0 lines

  -- the last state of a history
  abbrev pub last_state : List ReadLine → State M
  last_state lines = state_along start lines

-- the replies of a history, in order
abbrev pub replies_to : List ReadLine → List NumberedReply
replies_to lines = replies_along unannotated start lines

-- the text of a reply, with the number of its line
abbrev pub numbered_text : NumberedReply → List ℕ
numbered_text numbered = line_text numbered.number numbered.tables numbered.reply

-- the texts of the replies, one after another
abbrev pub replies_text : List NumberedReply → List ℕ
replies_text replies = flat_map numbered_text replies

-- whether some line is refused
abbrev pub has_refusal : List NumberedReply → Bool
has_refusal replies = list_any (λ (numbered : NumberedReply). is_refusal numbered.reply) replies
