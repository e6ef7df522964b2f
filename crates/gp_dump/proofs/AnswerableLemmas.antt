-- A well-formed dump keeps the invariant of dumps: it has a log and row versions that go together.
use Rattle.std.proofs.Common.{◌≡◌, ℕ, suc, List, [], ◌∷◌, length, refl, ap}
use Rattle.gp_base.specs.declared.table.Table.{Table}
use Rattle.gp_log.specs.Parameters.{parameters}
use Rattle.gp_log.specs.LogFacts.{tables_in}
use Rattle.gp_log.proofs.LoggedSessions.{sessions_kept}
use Rattle.gp_machine.specs.Entries.{versions_in}
use Rattle.gp_versions.specs.declared.span.Span.{Span}
use Rattle.gp_dump.specs.Answerable.{IsAnswerable}
use Rattle.gp_dump.specs.Dumps.{Dump}
use Rattle.gp_dump.specs.WholeDumps.{AreOfTables, IsDump}
use Rattle.gp_dump.specs.Verdicts.{Holds, verdict_on}
use Rattle.gp_dump.proofs.FittingTables.{spans_of_dumps, statements_of_dumps}
use Rattle.gp_dump.proofs.LawLemmas.{read-text}

as-many : (tables : List Table) (versions : ℕ) (spans : List (List Span)) → AreOfTables tables versions spans → length spans ≡ length tables
as-many [] versions [] are = refl
as-many [] versions (own ∷ others) are = absurd are
as-many (table ∷ tables) versions [] are = absurd are
as-many (table ∷ tables) versions (own ∷ others) are = ap suc (as-many tables versions others are.1)

pub answerable : (dump : Dump) → IsDump dump → IsAnswerable dump
answerable dump rules = record {
  sessions = sessions_kept parameters dump.entries rules.log;
  statements = statements_of_dumps dump rules;
  tables = as-many (tables_in dump.entries) (versions_in dump.entries) dump.tables rules.spans;
  spans = spans_of_dumps dump rules;
}

-- so does one that was read
pub read-answerable : (bytes : List ℕ) (dump : Dump) → verdict_on bytes ≡ Holds dump → IsAnswerable dump
read-answerable bytes dump is = answerable dump (read-text bytes dump is).rules
