-- Of the contracts of `MemShelf` and `MemSink`: which calls of a shelf or a sink in memory fail, by their numbers from 1 on.
use Rattle.std.specs.Prelude.{ℕ, List, Result, Ok, Err}
use Rattle.gp_io.specs.declared.error.ShelfStop.{ShelfStop}
use Rattle.gp_io.specs.declared.error.ShelfStop.TheVariants.{Absent, Failed, NoMemory}
use Rattle.gp_io.specs.declared.mem.MemShelf.{MemShelf}
use Rattle.gp_io.specs.declared.mem.MemSink.{MemSink}

-- the number of calls made
abbrev pub shelf_calls : MemShelf → ℕ
shelf_calls shelf = shelf.plan.made

-- the numbers of the calls that fail
abbrev pub shelf_fails_at : MemShelf → List ℕ
shelf_fails_at shelf = shelf.plan.fail_at.items

-- the number of calls made
abbrev pub sink_calls : MemSink → ℕ
sink_calls sink = sink.plan.made

-- the numbers of the calls that fail
abbrev pub sink_fails_at : MemSink → List ℕ
sink_fails_at sink = sink.plan.fail_at.items

-- the answer Failed comes exactly where the call is planned to fail; running out of memory may come in its place, and without it
abbrev pub FailsAsPlanned : {T : Type 0} → Result T ShelfStop → Type 0 → Type 0
FailsAsPlanned (Ok value) Planned = ¬ Planned
FailsAsPlanned (Err Failed) Planned = Planned
FailsAsPlanned (Err Absent) Planned = ¬ Planned
FailsAsPlanned (Err NoMemory) Planned = Unit {0}
