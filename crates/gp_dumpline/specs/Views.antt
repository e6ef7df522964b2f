-- Of the contracts of `parse_log_line` and `parse_said`: lines and what they say, as the code has them.
use Rattle.std.specs.Prelude.{◌≡◌, true}
use Rattle.gp_syntax.specs.Views.{command_view}
use Rattle.gp_check.specs.Valid.{is_valid}
use Rattle.gp_log.specs.Discipline as d
use Rattle.gp_dumpline.specs.declared.log_line.LogLine.{LogLine}
use Rattle.gp_dumpline.specs.declared.span.RowLine.{RowLine}
use Rattle.gp_dumpline.specs.declared.said.Said.{Said}
use Rattle.gp_dumpline.specs.declared.said.Said.TheVariants.{Does, Loses}
use Rattle.gp_dumpline.specs.Forms as form

abbrev pub said_view : Said → d.Said
said_view (Does command) = d.Does (command_view command)
said_view Loses = d.Loses

-- a command that is said is valid
abbrev pub IsValid : Said → Type 0
IsValid (Does command) = is_valid (command_view command) ≡ true
IsValid Loses = Unit {0}

abbrev pub line_view : LogLine → form.LogLine
line_view line = record { line = line.line; session = line.session; said = line.said.now }

abbrev pub row_line_view : RowLine → form.RowLine
row_line_view line = record { id = line.id.now; from = line.from; to = line.to; cells = line.cells.now }
