-- Part of the statement: the state that the commits of a log, made again, lead to. It is that of a history of its own: its versions are the ones that
-- were made, and a transaction read after each of its statements what its run over them gives.
use Rattle.std.specs.Prelude.{List, length, None}
use Rattle.gp_base.specs.declared.table.Table.{Table}
use Rattle.gp_base.specs.Annotated.{Annotations}
use Rattle.gp_machine.specs.Entries.{Entry, log_of, versions_in}
use Rattle.gp_machine.specs.Replaying.{replayed}
use Rattle.gp_machine.specs.Runs.{run}
use Rattle.gp_machine.specs.State.{State}

-- no transaction is running
abbrev pub replayed_state : {M : Type 0} → Annotations M → List Table → List Entry → State M
replayed_state domain catalogue entries =
    let made = replayed domain (log_of entries) (length catalogue) (versions_in entries) in
    record {
      catalogue = catalogue;
      entries = entries;
      committed = made.committed;
      written = made.written;
      rows = made.rows;
      views = λ t k. run domain (log_of entries) t k made.committed;
      active = λ session. None;
    }
