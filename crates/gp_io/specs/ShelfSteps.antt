-- Of the contract of a `Shelf`: how a call to a shelf stops, by the events before it and after it. Where a replacement fails, this says nothing of that one
-- file, as after a write to a device that fails (IEEE Std 1003.1, write). Of a regular file `DiskShelf::replace` says more.
use Rattle.std.specs.Prelude.{◌≡◌, ℕ, List, [], ◌∷◌, ◌++◌}
use Rattle.gp_io.specs.declared.error.ShelfStop.{ShelfStop}
use Rattle.gp_io.specs.declared.error.ShelfStop.TheVariants.{Absent, Failed, NoMemory}
use Rattle.gp_io.specs.Events.{Event, Missing, Unreadable, Stopped, NotReplaced}

-- the event of a read that stopped
abbrev pub ReadStops : List ℕ → List Event → List Event → ShelfStop → Type 0
ReadStops name old new Absent = new ≡ old ++ Missing name ∷ []
ReadStops name old new Failed = new ≡ old ++ Unreadable name ∷ []
ReadStops name old new NoMemory = new ≡ old ++ Stopped name ∷ []

-- the event of a replacement that stopped; it never stops at a file that does not exist
abbrev pub ReplaceStops : List ℕ → List ℕ → List Event → List Event → ShelfStop → Type 0
ReplaceStops name bytes old new Absent = ⊥
ReplaceStops name bytes old new Failed = new ≡ old ++ NotReplaced name bytes ∷ []
ReplaceStops name bytes old new NoMemory = new ≡ old
