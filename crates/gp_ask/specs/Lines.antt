-- Machinery: the log of a transaction, and its lines among entries of the code.
use Rattle.std.specs.Prelude.{ℕ, List, map, filter, reverse, if◌then◌else◌}
use Rattle.gp_base.specs.declared.refusal.Refusal.TheVariants.{E20}
use Rattle.gp_log.specs.declared.entry.Entry.{Entry}
use Rattle.gp_machine.specs.Entries.{is_of}
use Rattle.gp_log.specs.Logs.{entry_view}
use Rattle.gp_machine.specs.Entries as m
use Rattle.gp_machine.specs.Questions.{is_known}
use Rattle.gp_dumpline.specs.Texts.{entry_text}
use Rattle.gp_ask.specs.declared.answered.Answered.{Answered}
use Rattle.gp_ask.specs.declared.answered.Answered.TheVariants.{Lines, Refused}
use Rattle.gp_ask.specs.declared.answered.Heading.TheVariants.{Log}

-- the oldest first
abbrev pub entries_of : ℕ → List m.Entry → List m.Entry
entries_of t entries = filter (is_of t) (reverse entries)

abbrev pub log_answer : ℕ → List m.Entry → Answered
log_answer t entries = if is_known t entries then Lines Log (map entry_text (entries_of t entries)) else Refused (E20 t)

abbrev pub transaction_lines : ℕ → List Entry → List (List ℕ)
transaction_lines t entries = map entry_text (filter (is_of t) (map entry_view entries))
