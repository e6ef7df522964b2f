-- Of the contract of a `Sink`: how a call to a sink stops.
use Rattle.std.specs.Prelude.{◌≡◌, ℕ, List}
use Rattle.gp_io.specs.declared.error.SinkStop.{SinkStop}
use Rattle.gp_io.specs.declared.error.SinkStop.TheVariants.{Failed, NoMemory}
use Rattle.gp_io.specs.Sink.{SinkState, after_failure}

-- a write that failed is noted, and one for which memory ran out is not: nothing of it was written
abbrev pub WriteStops : List ℕ → SinkState → SinkState → SinkStop → Type 0
WriteStops bytes old new Failed = new ≡ after_failure bytes old
WriteStops bytes old new NoMemory = new ≡ old
