-- Of the contract of `unserialized`: the refusal of SERIAL.
use Rattle.std.specs.Prelude.{◌≡◌, IsErr, Result, Ok}
use Rattle.gp_serial.specs.declared.error.SerialStop.{SerialStop}
use Rattle.gp_serial.specs.declared.error.SerialStop.TheVariants as stop
use Rattle.gp_ask.specs.declared.answered.Answered.{Answered}
use Rattle.gp_ask.specs.declared.answered.Answered.TheVariants as answered

abbrev pub IsUnserialized : {E : Type 0} → SerialStop → Result Answered E → Type 0
IsUnserialized (stop.Refused refusal) result = result ≡ Ok (answered.Refused refusal)
IsUnserialized stop.NoMemory result = IsErr result
