use Rattle.std.proofs.lemmas.Option.{IfSome_then}
use Rattle.gp_txn.proofs.EquatingLemmas.{right-Equates}
use Rattle.gp_txn.proofs.equality.compared.Goals as goal

pub returns-in-None : goal.returns-in-None
returns-in-None c = IfSome_then c.column_and_constant-in-None.result c.column_and_constant-in-None.ensures (λ found is. right-Equates _ _ is)
