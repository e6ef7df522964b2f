-- Machinery: what applying a statement to a running transaction answers.
use Rattle.std.specs.Prelude.{◌≡◌, ℕ, ◌<◌, ◌≤◌, ◌^◌, Bool, true, false, ◌&&◌, nat_lt, List, length, Result, Ok, Err}
use Rattle.std.specs.List.{list_all}
use Rattle.gp_base.specs.declared.cell.Cell.{Cell}
use Rattle.gp_base.specs.declared.row_id.TheConstants.{MAX_NODES}
use Rattle.gp_base.specs.Annotated.{unannotated}
use Rattle.gp_expr.specs.ExpressionForms.{is_simple, cond_is_simple}
use Rattle.gp_algebra.specs.Statements.{SetExpr, Branch, Select, Statement, insert, insert_select, update, delete, read}
use Rattle.gp_algebra.specs.Simple.{select_is_simple}
use Rattle.gp_algebra.specs.Effects.{wrote, is_over_rows, is_over_nodes}
use Rattle.gp_algebra.specs.Answers.{Element, cells_of}
use Rattle.gp_exec.specs.declared.error.ChooseStop.{ChooseStop}
use Rattle.gp_exec.specs.declared.error.ChooseStop.TheVariants.{TooMany}
use Rattle.gp_exec.specs.declared.error.ChooseStop.TheVariants as choose
use Rattle.gp_base.specs.declared.limit.TheConstants.{MAX_TABLE_ROWS}
use Rattle.gp_versions.specs.Spans.{Versions}
use Rattle.gp_txn.specs.declared.error.StmtStop.{StmtStop}
use Rattle.gp_txn.specs.declared.error.StmtStop.TheVariants.{Rows, Ancestry, NoMemory}
use Rattle.gp_txn.specs.Transactions.{Writes, Applied, view_at}

-- ---- statements that can be applied

-- it reads only tables below this number
abbrev pub reads_below : ℕ → Select → Bool
reads_below count select = list_all (λ (branch : Branch). list_all (λ place. nat_lt place count) branch.from) select

-- the query is simple, and reads only tables below this number
abbrev pub is_readable : ℕ → Select → Bool
is_readable count select = select_is_simple select && reads_below count select

-- the statement writes, its tables are below this number, its expressions are simple, and its rows and branches can be numbered by 32 bits
abbrev pub is_applicable : ℕ → Statement → Bool
is_applicable count (insert table rows) = nat_lt table count && nat_lt (length rows) (2 ^ 32)
is_applicable count (insert_select table select) = nat_lt table count && is_readable count select
is_applicable count (update table sets cond) = nat_lt table count && (list_all (λ (set : SetExpr). is_simple set.expr) sets && cond_is_simple cond)
is_applicable count (delete table cond) = nat_lt table count && cond_is_simple cond
is_applicable count (read select) = false

-- ---- answers

abbrev pub has_too_many_rows : ℕ → ℕ → Statement → List Versions → Writes → Bool
has_too_many_rows k version statement versions old = is_over_rows unannotated MAX_TABLE_ROWS old.t k statement (view_at old.tables versions version)

abbrev pub has_too_many_nodes : ℕ → ℕ → Statement → List Versions → Writes → Bool
has_too_many_nodes k version statement versions old = is_over_nodes unannotated MAX_NODES old.t k statement (view_at old.tables versions version)

-- it was applied, and this is the number of rows that it wrote
pub record Wrote (k version : ℕ) (statement : Statement) (versions : List Versions) (old new : Writes) (count : ℕ) : Type 0 where
  pub applied : Applied k version statement versions old new
  pub number : count ≡ length (wrote unannotated old.t k statement (view_at old.tables versions version))
  pub few_rows : has_too_many_rows k version statement versions old ≡ false
  pub few_nodes : has_too_many_nodes k version statement versions old ≡ false

-- The limit of rows comes before that of nodes, and each is tested over the whole statement. Where the statement is refused, and where memory ran
-- out, nothing is changed.
abbrev pub Applies : Result ℕ StmtStop → ℕ → ℕ → Statement → List Versions → Writes → Writes → Type 0
Applies (Ok count) k version statement versions old new = Wrote k version statement versions old new count
Applies (Err Rows) k version statement versions old new = (new ≡ old) × (has_too_many_rows k version statement versions old ≡ true)
Applies (Err Ancestry) k version statement versions old new =
    (new ≡ old) × (has_too_many_rows k version statement versions old ≡ false) × (has_too_many_nodes k version statement versions old ≡ true)
Applies (Err NoMemory) k version statement versions old new = new ≡ old

-- what a SELECT answers: the rows of the answer, unless there are more than `most`; running out of memory says nothing
abbrev pub Selects : Result (List (List Cell)) ChooseStop → ℕ → List (Element (Unit {0})) → Type 0
Selects (Ok rows) most elements = (rows ≡ cells_of elements) × (length elements ≤ most)
Selects (Err TooMany) most elements = most < length elements
Selects (Err choose.NoMemory) most elements = Unit {0}
