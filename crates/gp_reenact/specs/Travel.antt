-- Of the contract of `env_at` and of the law `asked_scans_suffice`: the past versions of all tables as an environment.
use Rattle.std.specs.Prelude.{List, [], map, slice_index_or}
use Rattle.gp_base.specs.Annotated.{Annotations, Environment, unannotated}
use Rattle.gp_algebra.specs.declared.plain.ScanAt.{ScanAt}
use Rattle.gp_exec.specs.declared.env.Scanned.{Scanned}
use Rattle.gp_versions.specs.Spans.{Versions, rows_at}
use Rattle.gp_reenact.specs.Encoding.{encoded}

-- a table that is not there has no spans
abbrev pub no_table : Versions
no_table = record { spans = []; spare = 0 }

-- the rows of each table in each version: those of the spans that hold it, in the order in which they began. No transaction has written them.
abbrev pub past_environment : {M : Type 0} → Annotations M → List Versions → Environment M
past_environment domain versions version table = rows_at domain version (slice_index_or versions table no_table).spans

-- a table in a version, with its rows
abbrev pub scanned : List Versions → ScanAt → Scanned
scanned versions at = record { at = at; rows = encoded (past_environment unannotated versions) at.version at.table }

abbrev pub scans_at : List Versions → List ScanAt → List Scanned
scans_at versions scans = map (scanned versions) scans
