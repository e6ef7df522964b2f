use Rattle.gp_csv.proofs.FullLemmas.{line-full}
use Rattle.gp_csv.proofs.LineLemmas.{lines-hold-all}
use Rattle.gp_csv.proofs.laws.batches_hold_the_rows.Goals as goal

pub returns : goal.returns
returns c = record {
  kept = λ name rows lines e. (lines-hold-all name rows lines e).kept;
  few = λ name rows lines e. (lines-hold-all name rows lines e).few;
  counted = λ name rows lines e. (lines-hold-all name rows lines e).counted;
  fit = λ name rows lines e. (lines-hold-all name rows lines e).fit;
  full = line-full;
}
