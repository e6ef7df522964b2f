-- Machinery: why an INSERT stops where its query does.
use Rattle.gp_exec.specs.declared.error.ChooseStop as exec
use Rattle.gp_exec.specs.declared.error.ChooseStop.TheVariants as choose
use Rattle.gp_txn.specs.declared.error.StmtStop.{StmtStop}
use Rattle.gp_txn.specs.declared.error.StmtStop.TheVariants.{Rows, NoMemory}

abbrev pub stop_of : exec.ChooseStop → StmtStop
stop_of choose.TooMany = Rows
stop_of choose.NoMemory = NoMemory
