use Rattle.std.proofs.Common.{◌≡◌, ◌+◌, ◌++◌, suc, drop, length}
use Rattle.gp_sql.specs.ItemTexts.{columns_text}
use Rattle.gp_sql.proofs.item_writer.push_columns.Given as goal

-- what was appended and the columns that remain are all columns
abbrev pub invariant-loop-others : goal.invariant-loop-others
invariant-loop-others l =
    record {
      number : l.n ≡ l.before + l.others;
      text : l.out.items ++ columns_text l.prefix l.n (suc l.others) (length (drop l.others l.types)) ≡ l.initial.out.items ++ columns_text l.prefix l.before 1 (length l.types);
    }
