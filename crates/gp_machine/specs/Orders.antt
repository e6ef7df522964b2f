-- Of the law `serial_orders_are_histories`: lists of transactions.
use Rattle.std.specs.Prelude.{◌≡◌, ℕ, ◌<◌, List, length, get_or}

-- no number has two places
abbrev pub AreOnce : List ℕ → Type 0
AreOnce list = (u v : ℕ) → u < length list → v < length list → get_or list u 0 ≡ get_or list v 0 → u ≡ v
