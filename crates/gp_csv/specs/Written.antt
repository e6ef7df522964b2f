-- Machinery: what a writer to memory has written, and that it stands between two records.
use Rattle.std.specs.Prelude.{◌≡◌, ℕ, List, ◌++◌, Vec, true, false}
use Rattle.std.specs.declared.alloc.Global.{Global}
use Rattle.csv.specs.Writing.{default_writer, fields_written, has_written, with_flexible, writer_pending, writer_setup, writer_under}
use Rattle.csv.specs.declared.writer.Writer.{Writer}
use Rattle.csv.specs.declared.writer.WriterBuilder.{WriterBuilder}

-- the default writer, of records of any lengths
abbrev pub flexible_writer : WriterBuilder
flexible_writer = with_flexible default_writer true

unfoldable pub written : Writer (Vec ℕ Global) → List ℕ
written w = (writer_under w).items ++ writer_pending w

unfoldable pub IsBetween : Writer (Vec ℕ Global) → Type 0
IsBetween w = (writer_setup w ≡ flexible_writer) × (fields_written w ≡ 0) × (has_written w ≡ false)
