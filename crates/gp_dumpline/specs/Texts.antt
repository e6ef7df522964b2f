-- Part of the statement: the text of each line of a dump, without the line feed that ends it.
use Rattle.std.specs.Prelude.{ℕ, Bool, true, false, List, [], ◌∷◌, Option, codes}
use Rattle.std.specs.Option.{option_map_or}
use Rattle.std.specs.Fmt.{decimal}
use Rattle.std.specs.List.{concat}
use Rattle.gp_base.specs.Identities.{identity_text}
use Rattle.gp_base.specs.Texts.{row_text}
use Rattle.gp_grammar.specs.Canonical.{command_text}
use Rattle.gp_versions.specs.declared.span.Span.{Span}
use Rattle.gp_machine.specs.Entries.{Entry, line_of, session_of}
use Rattle.gp_log.specs.Discipline.{Said, Does, Loses, said_by}

-- the first line, which names one of two formats; in the second one the log may have BEGIN READ COMMITTED
abbrev pub header : Bool → List ℕ
header false = codes "gprom-dump 1"
header true = codes "gprom-dump 2"

-- the number of log lines
abbrev pub count_text : ℕ → List ℕ
count_text lines = concat (codes "log " ∷ decimal lines ∷ [])

-- the canonical text of a command, or that a COMMIT was lost
abbrev pub said_text : Said → List ℕ
said_text (Does command) = command_text command
said_text Loses = codes "LOST"

-- a log line: the number of the line, its session, and what it says
abbrev pub log_line_text : ℕ → ℕ → List ℕ → List ℕ
log_line_text line session said = concat (decimal line ∷ codes " s" ∷ decimal session ∷ codes " " ∷ said ∷ [])

abbrev pub entry_text : Entry → List ℕ
entry_text entry = log_line_text (line_of entry) (session_of entry) (said_text (said_by entry))

-- the beginning of a table: its name, and the number of its row lines
abbrev pub section_text : List ℕ → ℕ → List ℕ
section_text name rows = concat (codes "table " ∷ name ∷ codes " " ∷ decimal rows ∷ [])

-- the version at which a span ends, or a hyphen where it has not ended
abbrev pub to_text : Option ℕ → List ℕ
to_text to = option_map_or decimal to (codes "-")

-- a row line: the identity of a row, the version that its span begins with, the one at which it ends, and its cells
abbrev pub span_text : Span → List ℕ
span_text span = concat (identity_text span.id ∷ codes " " ∷ decimal span.from ∷ codes " " ∷ to_text span.to ∷ codes " " ∷ row_text span.row ∷ [])

-- the last line
abbrev pub end_text : List ℕ
end_text = codes "end"
