use Rattle.gp_base.specs.Order.{row_cmp}
use Rattle.gp_base.specs.Tokens.{greatest_count}
use Rattle.gp_base.specs.RowOrder.{exact_rows, row_cmp_total}
use Rattle.gp_kexec.proofs.CountLemmas.{counted_up_to, listed_again}
use Rattle.gp_kexec.proofs.deletion_laws.counted_rows_remain.Goals as goal

pub returns : goal.returns
returns g c = record {
  rows = λ has pairs small. listed_again row_cmp row_cmp_total exact_rows greatest_count has pairs small;
  number = λ has pairs. counted_up_to row_cmp row_cmp_total exact_rows greatest_count has pairs;
}
