-- Part of the statement: transactions that run one after another, with the statements that they have in a log; and when what they do so is what they did.
use Rattle.std.specs.Prelude.{ℕ, zero, suc, ◌==◌, ◌&&◌, ◌||◌, not, Bool, true, List, [], ◌∷◌, ◌++◌, filter, length, map, get_or, is_none, if◌then◌else◌}
use Rattle.std.specs.Cmp.Lexicographic.{slice_cmp}
use Rattle.std.specs.List.{list_all}
use Rattle.std.specs.Option.{option_map_or}
use Rattle.std.specs.Ordering.{is_eq}
use Rattle.gp_base.specs.declared.cell.Cell.{Cell}
use Rattle.gp_base.specs.declared.cell.Cell.TheVariants as cell
use Rattle.gp_base.specs.Annotated.{Annotated, Annotations, Database, Environment, unannotated}
use Rattle.gp_base.specs.IdentityParts.{identity_statement, identity_transaction}
use Rattle.gp_base.specs.Order.{row_cmp, sorted_by}
use Rattle.gp_expr.specs.Values.{passes}
use Rattle.gp_algebra.specs.Answers.{answer, cells_of}
use Rattle.gp_algebra.specs.Effects.{step}
use Rattle.gp_algebra.specs.Statements.{Statement, insert, insert_select, update, delete, read}
use Rattle.gp_machine.specs.Entries.{Log}
use Rattle.gp_machine.specs.Event.{is_over_answer}
use Rattle.gp_machine.specs.Parameters.{Parameters}
use Rattle.gp_machine.specs.Replaying.{Replay, replay_stop, replayed}
use Rattle.gp_machine.specs.Runs.{run_before}

-- ---- one after another

-- how many of these are before this one
abbrev pub place_in : ℕ → List ℕ → ℕ
place_in t [] = zero
place_in t (other ∷ others) = if other == t then zero else suc (place_in t others)

-- the one that makes a version
abbrev pub maker_in : List ℕ → ℕ → ℕ
maker_in order zero = zero
maker_in order (suc version) = get_or order version zero

-- The log in which these transactions run one after another, each from its BEGIN to its COMMIT, and no other: each reads the version that the one before it
-- made. They keep their numbers, and so the identities of their rows.
abbrev pub serial_log : List ℕ → Log → Log
serial_log order log = record {
  versions = length order;
  committer = maker_in order;
  version = λ t k. place_in t order;
  statement_count = log.statement_count;
  statement = log.statement;
}

abbrev pub serial_replay : {M : Type 0} → Annotations M → List ℕ → Log → ℕ → Replay M
serial_replay domain order log tables = replayed domain (serial_log order log) tables (length order)

-- ---- what a statement does

-- a row with its identity behind its cells
abbrev pub row_cells : Annotated (Unit {0}) → List Cell
row_cells row = row.cells ++ cell.Id row.identity ∷ []

-- of the rows that an INSERT leaves, those with an identity that it made
abbrev pub made_rows : ℕ → ℕ → List (Annotated (Unit {0})) → List (List Cell)
made_rows t k rows = map row_cells (filter (λ row. (identity_transaction row.identity == t) && (identity_statement row.identity == k)) rows)

-- The rows that a query answers, or that another statement changes: inserted ones as they are after it, others as they were before it. What an UPDATE makes of
-- a row depends on its cells alone.
abbrev pub shown : ℕ → ℕ → Statement → Database (Unit {0}) → List (List Cell)
shown t k (insert table rows) db = made_rows t k (step unannotated t k (insert table rows) db table)
shown t k (insert_select table select) db = made_rows t k (step unannotated t k (insert_select table select) db table)
shown t k (update table sets c) db = map row_cells (filter (λ row. passes c row.cells) (db table))
shown t k (delete table c) db = map row_cells (filter (λ row. passes c row.cells) (db table))
shown t k (read select) db = cells_of (answer unannotated select db)

-- the same rows, each as often, in whatever order
abbrev pub are_same : List (List Cell) → List (List Cell) → Bool
are_same rows others = is_eq (slice_cmp row_cmp (sorted_by row_cmp rows) (sorted_by row_cmp others))

-- ---- what the transactions do one after another is what they did over these versions

module _ (parameters : Parameters) (log : Log) (tables : ℕ) (versions : Environment (Unit {0})) (order : List ℕ) where
  abbrev pub serial_versions : Environment (Unit {0})
  serial_versions = (serial_replay unannotated order log tables).committed

  -- a statement over what its transaction read, and over what it reads now; an answer with too many rows is none
  abbrev pub does_same : ℕ → ℕ → Statement → Bool
  does_same t k statement =
      let before = run_before unannotated log t k versions in
      let now = run_before unannotated (serial_log order log) t k serial_versions in
      not (is_over_answer unannotated parameters.answer statement before || is_over_answer unannotated parameters.answer statement now)
      && are_same (shown t (suc k) statement before) (shown t (suc k) statement now)

  -- its first statements, this many
  abbrev pub first_do_same : ℕ → ℕ → Bool
  first_do_same t zero = true
  first_do_same t (suc k) = first_do_same t k && option_map_or (does_same t k) (log.statement t (suc k)) true

  -- the last versions have the same rows in the first tables, this many
  abbrev pub ends_same : ℕ → Bool
  ends_same zero = true
  ends_same (suc table) =
      ends_same table && are_same (map row_cells (versions log.versions table)) (map row_cells (serial_versions (length order) table))

  abbrev pub is_serial : Bool
  is_serial =
      is_none (replay_stop unannotated (serial_log order log) parameters tables (length order))
      && (list_all (λ t. first_do_same t (log.statement_count t)) order && ends_same tables)
