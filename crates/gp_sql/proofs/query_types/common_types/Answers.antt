use Rattle.std.proofs.Common.{sym}
use Rattle.gp_sql.proofs.CodeLemmas.{common-lengths}
use Rattle.gp_sql.proofs.query_types.common_types.Goals as goal

pub returns-then-left-right : goal.returns-then-left-right
returns-then-left-right c = sym (common-lengths c.args.left.now c.args.right.now c.if-left-right.true)
