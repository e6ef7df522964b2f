-- The transactions of the sessions.
use Rattle.std.proofs.Common.{◌≡◌, ℕ, zero, suc, ◌<◌, List, [], ◌∷◌, length, Option, Some, None, get_or, refl, ap, arith}
use Rattle.std.specs.Prelude.{slice_set}
use Rattle.gp_engine.specs.Engine.{count_running}
use Rattle.gp_engine.specs.declared.running.Running.{Running}

-- ---- how many sessions have a transaction

pub count-none : (sessions : List (Option Running)) → ((place : ℕ) → get_or sessions place None ≡ None) → count_running sessions ≡ 0
count-none [] none = refl
count-none (None ∷ sessions) none = count-none sessions (λ place. none (suc place))
count-none (Some running ∷ sessions) none = let first = none 0 in absurd cc

-- one less, where one has ended
pub count-cleared : (sessions : List (Option Running)) (place : ℕ) (running : Running) → get_or sessions place None ≡ Some running
    → count_running sessions ≡ suc (count_running (slice_set sessions place None))
count-cleared [] place running at = absurd cc
count-cleared (None ∷ sessions) zero running at = absurd cc
count-cleared (Some first ∷ sessions) zero running at = refl
count-cleared (None ∷ sessions) (suc place) running at = count-cleared sessions place running at
count-cleared (Some first ∷ sessions) (suc place) running at = ap suc (count-cleared sessions place running at)

-- one more, where one has begun
pub count-taken : (sessions : List (Option Running)) (place : ℕ) (running : Running) → place < length sessions → get_or sessions place None ≡ None
    → count_running (slice_set sessions place (Some running)) ≡ suc (count_running sessions)
count-taken [] place running within at = absurd (omega (arith, within))
count-taken (None ∷ sessions) zero running within at = refl
count-taken (Some first ∷ sessions) zero running within at = absurd cc
count-taken (None ∷ sessions) (suc place) running within at = count-taken sessions place running (omega (arith, within)) at
count-taken (Some first ∷ sessions) (suc place) running within at = ap suc (count-taken sessions place running (omega (arith, within)) at)

-- as many, where one goes on
pub count-replaced : (sessions : List (Option Running)) (place : ℕ) (running after : Running) → get_or sessions place None ≡ Some running
    → count_running (slice_set sessions place (Some after)) ≡ count_running sessions
count-replaced [] place running after at = absurd cc
count-replaced (None ∷ sessions) zero running after at = absurd cc
count-replaced (Some first ∷ sessions) zero running after at = refl
count-replaced (None ∷ sessions) (suc place) running after at = count-replaced sessions place running after at
count-replaced (Some first ∷ sessions) (suc place) running after at = ap suc (count-replaced sessions place running after at)
