-- Part of the statement: whether the rows of a dump are those that its log makes. Else there is a refusal: of the first commit that cannot be made again, or of the
-- least version whose rows are others than the ones that are made, with its first such table.
use Rattle.std.specs.Prelude.{ℕ, zero, suc, List, length, Option, None}
use Rattle.std.specs.Option.{option_or}
use Rattle.gp_base.specs.declared.refusal.Refusal.{Refusal}
use Rattle.gp_base.specs.declared.table.Table.{Table}
use Rattle.gp_base.specs.Annotated.{Database, Environment, unannotated}
use Rattle.gp_log.specs.LogFacts.{tables_in}
use Rattle.gp_log.specs.Parameters.{parameters}
use Rattle.gp_machine.specs.Entries.{versions_in}
use Rattle.gp_machine.specs.HistorySpans.{as_of}
use Rattle.gp_machine.specs.Questions.{difference_refusal}
use Rattle.gp_history.specs.Agreement.{agree}
use Rattle.gp_dump.specs.Dumps.{Dump}
use Rattle.gp_ask.specs.Asking.{table_spans}
use Rattle.gp_ask.specs.Hypothetical.{remaking_refusal, replayed_dump}

-- a version in which the rows of a table are others, by its first such table
abbrev pub version_refusal : List Table → ℕ → Database (Unit {0}) → Database (Unit {0}) → Option Refusal
version_refusal tables version rows others = difference_refusal unannotated parameters agree tables version (length tables) rows others

-- the first of the versions up to this one
abbrev pub differing_refusal : List Table → ℕ → Environment (Unit {0}) → Environment (Unit {0}) → Option Refusal
differing_refusal tables zero rows others = None
differing_refusal tables (suc version) rows others =
    option_or (differing_refusal tables version rows others) (version_refusal tables (suc version) (rows (suc version)) (others (suc version)))

abbrev pub unmade_refusal : Dump → Option Refusal
unmade_refusal dump =
    option_or (remaking_refusal dump.entries)
    (differing_refusal (tables_in dump.entries) (versions_in dump.entries) (as_of unannotated (table_spans dump.tables))
    (as_of unannotated (table_spans (replayed_dump dump.entries).tables)))
