-- Machinery: how many row versions there are, and how many a commit leaves.
use Rattle.std.specs.Prelude.{ℕ, zero, suc, ◌+◌, List, length}
use Rattle.gp_base.specs.Annotated.{unannotated}
use Rattle.gp_versions.specs.declared.span.Write.{Write}
use Rattle.gp_versions.specs.Commits.{live_rows}
use Rattle.gp_versions.specs.Spans.{Versions}
use Rattle.gp_txn.specs.Transactions.{table_at}

-- the spans of the first tables, given their number
abbrev pub count_spans : List Versions → ℕ → ℕ
count_spans versions zero = 0
count_spans versions (suc place) = count_spans versions place + length (table_at place versions).spans

-- the rows that the writes of the first tables leave
abbrev pub count_rows : (ℕ → List Write) → ℕ → ℕ
count_rows writes zero = 0
count_rows writes (suc place) = count_rows writes place + length (live_rows unannotated (writes place))

-- the spans once a commit has begun one for each of these rows
abbrev pub spans_after : List Versions → (ℕ → List Write) → ℕ → ℕ
spans_after versions writes count = count_spans versions count + count_rows writes count
