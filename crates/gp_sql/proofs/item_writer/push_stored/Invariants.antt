use Rattle.std.proofs.Common.{◌≡◌, ◌++◌, drop}
use Rattle.gp_sql.specs.ItemTexts.{stored_text}
use Rattle.gp_sql.proofs.item_writer.push_stored.Given as goal

-- what was appended and the columns that remain are all columns
abbrev pub invariant-loop-n : goal.invariant-loop-n
invariant-loop-n l = l.out.items ++ stored_text l.n (drop l.n l.columns) ≡ l.initial.out.items ++ stored_text 0 l.columns
