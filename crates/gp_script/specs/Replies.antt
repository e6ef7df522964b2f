-- Part of the statement: the texts of replies. Each is one line, and the rows of a SELECT follow it, one line each.
use Rattle.std.specs.Prelude.{ℕ, List, [], ◌∷◌, codes}
use Rattle.std.specs.List.{concat}
use Rattle.std.specs.Fmt.{decimal}
use Rattle.gp_base.specs.declared.table.Table.{Table}
use Rattle.gp_base.specs.Numbered.{newline, numbered, refused_text, rows_text}
use Rattle.gp_machine.specs.Event.{name_at}
use Rattle.gp_machine.specs.declared.reply.Reply.{Reply}
use Rattle.gp_machine.specs.declared.reply.Reply.TheVariants.{Created, Began, Wrote, Rows, Committed, RolledBack, Refused}

-- The text of a reply without the number of its line, given the tables after the line. Rows are in row order, and each is printed as often
-- as it occurs.
abbrev pub reply_text : List Table → Reply → List ℕ
reply_text tables (Created table) = concat (codes "created " ∷ name_at table tables ∷ newline ∷ [])
reply_text tables (Began t version) = concat (codes "begin " ∷ decimal t ∷ codes " at " ∷ decimal version ∷ newline ∷ [])
reply_text tables (Wrote rows) = concat (codes "wrote " ∷ decimal rows ∷ newline ∷ [])
reply_text tables (Rows rows) = rows_text rows
reply_text tables (Committed t version) = concat (codes "committed " ∷ decimal t ∷ codes " as " ∷ decimal version ∷ newline ∷ [])
reply_text tables (RolledBack t) = concat (codes "rolled back " ∷ decimal t ∷ newline ∷ [])
reply_text tables (Refused refusal) = refused_text refusal

-- the text of the reply to a line, which begins with the line's number
abbrev pub line_text : ℕ → List Table → Reply → List ℕ
line_text number tables reply = numbered number (reply_text tables reply)
