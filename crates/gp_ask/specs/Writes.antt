-- Machinery: the statements that write, of transactions that committed, by the entries of the code, which number them; and their lines, in their places.
use Rattle.std.specs.Prelude.{◌≡◌, ◌<◌, ◌≤◌, ℕ, List, [], ◌∷◌, length, Option, Some, None, slice_get, if◌then◌else◌}
use Rattle.gp_algebra.specs.Statements.{Statement}
use Rattle.gp_algebra.specs.Views.{statement_view}
use Rattle.gp_compose.specs.Seen.{writes}
use Rattle.gp_dump.specs.Views.{dump_view}
use Rattle.gp_log.specs.declared.entry.Entry as code
use Rattle.gp_log.specs.declared.entry.What.{What}
use Rattle.gp_log.specs.declared.entry.What.TheVariants as what
use Rattle.gp_machine.specs.Entries.{Entry, version_of}
use Rattle.gp_syntax.specs.Views.{query_view, subject_view}
use Rattle.gp_ask.specs.declared.causes.Asked.{Asked}
use Rattle.gp_ask.specs.declared.causes.Write.{Write}
use Rattle.gp_ask.specs.DifferenceForms.{without_in}
use Rattle.gp_ask.specs.Differences.{cause_of, rows_in}
use Rattle.gp_ask.specs.Computed.{what_if_answer}

abbrev pub write_view : Write → ℕ × ℕ
write_view write = (write.t, write.k)

abbrev pub made_by : ℕ → ℕ → Option ℕ → Option Write
made_by t k None = None
made_by t k (Some version) = Some (record { t = t; k = k; version = version })

-- a statement, if it writes and its transaction committed
abbrev pub write_of : List Entry → ℕ → ℕ → Statement → Option Write
write_of entries t k statement = if writes statement then made_by t k (version_of t entries) else None

abbrev pub write_in : List Entry → ℕ → What → Option Write
write_in entries t (what.Statement k command stmt) = write_of entries t k (statement_view stmt.value)
write_in entries t other = None

-- the statement of an entry, if it writes and its transaction committed
abbrev pub committed_write : List Entry → code.Entry → Option Write
committed_write entries entry = write_in entries entry.t entry.what

-- each has the version of its transaction
abbrev pub AreWrites : List Entry → List Write → Type 0
AreWrites entries writes = (place : ℕ) (write : Write) → slice_get writes place ≡ Some write → version_of write.t entries ≡ Some write.version

-- a line that is there or not, as a list
abbrev pub listed_line : Option (List ℕ) → List (List ℕ)
listed_line None = []
listed_line (Some line) = line ∷ []

-- the line of a statement, if the answer would be another one without it
abbrev pub IsLine : Asked → Write → Option (List ℕ) → Type 0
IsLine asked write line =
    listed_line line
    ≡ cause_of asked.rows.now (write_view write) (rows_in (without_in (what_if_answer (dump_view asked.dump.now).entries) (subject_view asked.subject.now) (query_view asked.query.read.now) (write_view write)))

-- there is a place for each statement, and the lines of those of the first versions, this many, are put there
pub record ArePut (asked : Asked) (writes : List Write) (versions : ℕ) (lines : List (Option (List ℕ))) : Type 0 where
  pub places : length lines ≡ length writes
  pub put : (place : ℕ) (write : Write) → slice_get writes place ≡ Some write → write.version ≤ versions → (line : Option (List ℕ)) → slice_get lines place ≡ Some line → IsLine asked write line

-- and those of the first statements, this many, that are of the versions up to a limit
pub record ArePutUpto (asked : Asked) (writes : List Write) (versions limit upto : ℕ) (lines : List (Option (List ℕ))) : Type 0 where
  pub before : ArePut asked writes versions lines
  pub more : (place : ℕ) (write : Write) → slice_get writes place ≡ Some write → place < upto → write.version ≤ limit → (line : Option (List ℕ)) → slice_get lines place ≡ Some line → IsLine asked write line
