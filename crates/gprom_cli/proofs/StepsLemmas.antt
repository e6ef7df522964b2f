-- How the steps of a call make its end.
use Rattle.std.proofs.Common.{◌≡◌, ℕ, ◌≤◌, List, [], ◌∷◌, ◌++◌, length, Option, Some, refl, sym, ap, ◌∙◌, subst, append_assoc, append-nil, codes}
use Rattle.gp_io.specs.Events.{Event, Missing, Unreadable, Stopped}
use Rattle.gp_io.specs.Sink.{SinkState}
use Rattle.gp_script.specs.declared.script.TheConstants.{MAX_SCRIPT_LENGTH}
use Rattle.gp_dump.specs.declared.dump.TheConstants.{MAX_DUMP_LENGTH}
use Rattle.gp_ask.specs.declared.format.Format.{Format}
use Rattle.gp_ask.specs.Answers.{answer_to}
use Rattle.gp_ask.specs.Programs.{programs_in}
use Rattle.gprom_cli.specs.declared.status.Status.{Status}
use Rattle.gprom_cli.specs.declared.status.Status.TheVariants as exit
use Rattle.gprom_cli.specs.Args.{Command, Ask}
use Rattle.gprom_cli.specs.Call as c
use Rattle.gprom_cli.specs.Call.{IsReadBy, WritesOutput, asked_status, asked_text, damage_message, message, read_of}
use Rattle.gprom_cli.specs.Steps.{Answers, Ends, StopsReading, is_absent, is_unreadable, is_long, no_memory, is_damaged, is_answered, no_answer}
use Rattle.gprom_cli.proofs.OutcomeLemmas.{grows-twice}

grows-last : (start before after read : List Event) (last : Event) → before ≡ start ++ read → after ≡ before ++ last ∷ [] → after ≡ start ++ (read ++ last ∷ [])
grows-last start before after read last there grown = grown ∙ ap (λ (events : List Event). events ++ last ∷ []) there ∙ append_assoc start read (last ∷ [])

-- a file was not read
module _ (command : Command) (start before after read : List Event) (name : List ℕ) (most : ℕ) (reads : IsReadBy command read name most) (there : before ≡ start ++ read)
    (sink sink' : SinkState) (s : Status) where
  pub stopped : StopsReading name most before after sink sink' s → Ends (Some command) start after sink sink' s
  stopped (is_absent grown writes) = record {
    events = read ++ Missing name ∷ [];
    grown = grows-last start before after read (Missing name) there grown;
    outcome = c.comes_to (message (codes "absent") name) exit.Absent (c.absent command read name most reads) writes;
  }
  stopped (is_unreadable grown writes) = record {
    events = read ++ Unreadable name ∷ [];
    grown = grows-last start before after read (Unreadable name) there grown;
    outcome = c.comes_to (message (codes "cannot read") name) exit.Unreadable (c.unreadable command read name most reads) writes;
  }
  stopped (is_long bytes grown long writes) = record {
    events = read ++ read_of name most bytes ∷ [];
    grown = grows-last start before after read (read_of name most bytes) there grown;
    outcome = c.comes_to (message (codes "too long") name) exit.TooLong (c.too_long command read name most bytes reads long) writes;
  }
  stopped (no_memory grown quiet memory) = record {
    events = read ++ Stopped name ∷ [];
    grown = grows-last start before after read (Stopped name) there grown;
    outcome = c.out_of_memory (c.stopped command read name most reads) quiet memory;
  }

-- the first file was not read
pub stopped-first : (command : Command) (before after : List Event) (name : List ℕ) (most : ℕ) → IsReadBy command [] name most → (sink sink' : SinkState) (s : Status)
    → StopsReading name most before after sink sink' s → Ends (Some command) before after sink sink' s
stopped-first command before after name most reads sink sink' s stops = stopped command before before after [] name most reads (sym (append-nil before)) sink sink' s stops

-- a call that goes on where the output is as before
pub goes-on : (command : Option Command) (before after : List Event) (sink sink' sink'' : SinkState) (s : Status) → sink' ≡ sink
    → Ends command before after sink' sink'' s → Ends command before after sink sink'' s
goes-on command before after sink sink' sink'' s quiet ends = subst (λ (k : SinkState). Ends command before after k sink'' s) quiet ends

-- the dump and the questions were read
pub ask-answered : (format : Format) (dump questions bytes asked : List ℕ) (start before after : List Event) (sink sink' : SinkState) (s : Status)
    → before ≡ start ++ read_of dump MAX_DUMP_LENGTH bytes ∷ [] → after ≡ before ++ read_of questions MAX_SCRIPT_LENGTH asked ∷ []
    → length bytes ≤ MAX_DUMP_LENGTH → length asked ≤ MAX_SCRIPT_LENGTH → Answers format bytes asked sink sink' s
    → Ends (Some (Ask format dump questions)) start after sink sink' s
ask-answered format dump questions bytes asked start before after sink sink' s there grown few short (is_damaged f line fault writes) = record {
  events = read_of dump MAX_DUMP_LENGTH bytes ∷ read_of questions MAX_SCRIPT_LENGTH asked ∷ [];
  grown = grows-twice start before after (read_of dump MAX_DUMP_LENGTH bytes) (read_of questions MAX_SCRIPT_LENGTH asked) there grown;
  outcome = c.comes_to (damage_message f line) exit.Damaged (c.damaged format dump questions bytes asked f line few short fault) writes;
}
ask-answered format dump questions bytes asked start before after sink sink' s there grown few short (is_answered contents lines formed are writes) = record {
  events = read_of dump MAX_DUMP_LENGTH bytes ∷ read_of questions MAX_SCRIPT_LENGTH asked ∷ [];
  grown = grows-twice start before after (read_of dump MAX_DUMP_LENGTH bytes) (read_of questions MAX_SCRIPT_LENGTH asked) there grown;
  outcome = c.comes_to (asked_text format contents (answer_to (programs_in format) contents) lines) (asked_status format contents (answer_to (programs_in format) contents) lines)
      (c.answered format dump questions bytes asked contents lines few short formed are) writes;
}
ask-answered format dump questions bytes asked start before after sink sink' s there grown few short (no_answer quiet memory) = record {
  events = read_of dump MAX_DUMP_LENGTH bytes ∷ read_of questions MAX_SCRIPT_LENGTH asked ∷ [];
  grown = grows-twice start before after (read_of dump MAX_DUMP_LENGTH bytes) (read_of questions MAX_SCRIPT_LENGTH asked) there grown;
  outcome = c.out_of_memory (c.files (Ask format dump questions) (read_of dump MAX_DUMP_LENGTH bytes ∷ []) questions MAX_SCRIPT_LENGTH asked (c.reads_questions format dump questions bytes few) short) quiet memory;
}

-- nothing was read or replaced
pub quiet-end : (command : Option Command) (events : List Event) (sink sink' : SinkState) (s : Status) (text : List ℕ) (expected : Status) → c.ComesTo programs_in command [] text expected
    → WritesOutput text expected sink sink' s → Ends command events events sink sink' s
quiet-end command events sink sink' s text expected comes writes = record { events = []; grown = sym (append-nil events); outcome = c.comes_to text expected comes writes }

-- memory ran out before anything was read or written
pub out-of-memory : (command : Option Command) (events : List Event) (sink : SinkState) → Ends command events events sink sink exit.OutOfMemory
out-of-memory command events sink = record { events = []; grown = sym (append-nil events); outcome = c.out_of_memory (c.nothing command) refl refl }
