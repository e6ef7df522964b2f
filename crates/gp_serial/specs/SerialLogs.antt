-- Of the contract of `serial_log`: its entries, the newest first. Nothing but `log_of` of them is used, and their replay is that of the log in which the transactions
-- run one after another (`serial_log` of gp_machine).
use Rattle.std.specs.Prelude.{◌≡◌, ℕ, zero, suc, ◌+◌, ◌<◌, ◌≤◌, ◌^◌, ◌==◌, true, List, [], ◌∷◌, length, map, reverse}
use Rattle.std.specs.List.{AllByRecursion}
use Rattle.std.specs.Option.{option_map_or}
use Rattle.gp_base.specs.declared.table.Table.{Table}
use Rattle.gp_grammar.specs.Syntax as y
use Rattle.gp_machine.specs.Entries.{Entry, Created, Began, Ran, Committed, statement_at, statement_count, transactions_in}
use Rattle.gp_machine.specs.Questions.{is_known}
use Rattle.gp_machine.specs.SeenRows.{AreDistinct}

abbrev pub IsEmpty : List Entry → Type 0
IsEmpty entries = entries ≡ []

abbrev pub created : List Table → List Entry
created tables = map (Created 0 0) (reverse tables)

-- the first transactions, this many, behind other entries
abbrev pub begun : ℕ → List Entry → List Entry
begun zero entries = entries
begun (suc t) entries = Began 0 (suc t) (suc t) true ∷ begun t entries

module _ (log : List Entry) (t : ℕ) where
  abbrev pub with_statement : ℕ → List Entry → List Entry
  with_statement k entries = option_map_or (λ statement. Ran 0 t y.Command.commit t statement ∷ entries) (statement_at t k log) entries

  abbrev pub with_statements : ℕ → List Entry → List Entry
  with_statements zero entries = entries
  with_statements (suc k) entries = with_statement (suc k) (with_statements k entries)

  abbrev pub with_transaction : List Entry → List Entry
  with_transaction entries = Committed 0 t t ∷ with_statements (statement_count t log) entries

abbrev pub with_transactions : List Entry → List ℕ → List Entry → List Entry
with_transactions log [] entries = entries
with_transactions log (t ∷ order) entries = with_transactions log order (with_transaction log t entries)

abbrev pub serial_entries : List Table → List Entry → List ℕ → List Entry
serial_entries tables log order = with_transactions log order (begun (transactions_in log) (created tables))

-- transactions of the log, each of them once, and few enough for the entries to be numbered by 32 bits
pub record AreFew (log : List Entry) (order : List ℕ) : Type 0 where
  pub once : AreDistinct (λ (t u : ℕ). t == u) order
  pub known : AllByRecursion (λ t. is_known t log ≡ true) order
  pub most : length order ≤ length log
  pub few : length log + length log < 2 ^ 32
