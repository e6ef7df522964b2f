use Rattle.std.proofs.Common.{suc}
use Rattle.gp_base.specs.Annotated.{unannotated}
use Rattle.gp_machine.specs.HistorySpans.{as_of}
use Rattle.gp_ask.specs.Asking.{table_spans}
use Rattle.gp_ask.specs.Hypothetical.{replayed_dump}
use Rattle.gp_ask.proofs.MadeRows.{made-rows}
use Rattle.gp_ask.proofs.laws.compared_rows_are_made.Goals as goal

pub returns : goal.returns
returns c = λ dump none version table below listed.
    c.agreement_is_having_the_same_rows.ensures.same (as_of unannotated (table_spans dump.tables) (suc version) table)
    (as_of unannotated (table_spans (replayed_dump dump.entries).tables) (suc version) table) (made-rows dump none version table below listed)
