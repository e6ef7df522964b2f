use Rattle.std.proofs.lemmas.Result.{IfOk-weaker}
use Rattle.gp_script.proofs.display.line_text.Goals as goal

pub returns-in-Began : goal.returns-in-Began
returns-in-Began c = rw c.in-Began.is (IfOk-weaker c.began_text.result _ _ (λ text is. is c.args.catalog.now) c.began_text.ensures)

pub returns-in-Wrote : goal.returns-in-Wrote
returns-in-Wrote c = rw c.in-Wrote.is (IfOk-weaker c.wrote_text.result _ _ (λ text is. is c.args.catalog.now) c.wrote_text.ensures)

pub returns-in-Committed : goal.returns-in-Committed
returns-in-Committed c = rw c.in-Committed.is (IfOk-weaker c.committed_text.result _ _ (λ text is. is c.args.catalog.now) c.committed_text.ensures)

pub returns-in-RolledBack : goal.returns-in-RolledBack
returns-in-RolledBack c = rw c.in-RolledBack.is (IfOk-weaker c.rolled_back_text.result _ _ (λ text is. is c.args.catalog.now) c.rolled_back_text.ensures)
