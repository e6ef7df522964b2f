-- Part of the statement: the exit statuses of the program, and their numbers. As POSIX asks, 0 means success and any other number that
-- something was not done.
use Rattle.std.specs.Prelude.{ℕ}
use Rattle.gprom_cli.specs.declared.status.Status.{Status}
use Rattle.gprom_cli.specs.declared.status.Status.TheVariants.{Done, Refused, Usage, Absent, Unreadable, Unwritten, TooLong, Damaged, OutOfMemory, SheetRefused}

abbrev pub exit_number : Status → ℕ
exit_number Done = 0
exit_number Refused = 1
exit_number Usage = 2
exit_number Absent = 3
exit_number Unreadable = 4
exit_number Unwritten = 5
exit_number TooLong = 6
exit_number Damaged = 7
exit_number OutOfMemory = 8
exit_number SheetRefused = 9
