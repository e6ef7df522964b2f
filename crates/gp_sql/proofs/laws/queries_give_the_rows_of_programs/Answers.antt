use Rattle.std.proofs.Common.{sym}
use Rattle.gp_base.proofs.Bags.{through, mapped, same_from}
use Rattle.gp_base.proofs.Permutations.{permuted, unpermuted}
use Rattle.gp_algebra.proofs.PlainBags.{program_meaning_same}
use Rattle.gp_sql.proofs.TermLemmas.{sql_row}
use Rattle.gp_sql.proofs.NamedLemmas.{program-value}
use Rattle.gp_sql.proofs.laws.queries_give_the_rows_of_programs.Goals as goal

pub returns : goal.returns
returns c = record {
  listed = λ tables spans program fit typed. program-value tables spans fit program typed;
  bags = λ tables spans env program fit typed scans.
      permuted _ _
      (through (mapped sql_row (program_meaning_same env _ program (λ scan among. unpermuted _ _ (scans scan among))))
      (same_from _ _ (sym (program-value tables spans fit program typed))));
}
