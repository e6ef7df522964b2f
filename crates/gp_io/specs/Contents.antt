-- Of the law `events_lead_to_files`: what the calls of a shelf in memory do to its files, by their events.
use Rattle.std.specs.Prelude.{◌≡◌, ℕ, List, [], ◌∷◌, ◌++◌, take, Option, None, Some, bytes_eq, if◌then◌else◌}
use Rattle.std.specs.Option.{option_map}
use Rattle.gp_io.specs.Events.{Event, Read, Missing, Unreadable, Stopped, Replaced, NotReplaced}
use Rattle.gp_io.specs.Files.{Files, content}

-- what the file of each name has, where there is one
abbrev pub Contents : Type 0
Contents = List ℕ → Option (List ℕ)

abbrev pub no_files : Contents
no_files name = None

abbrev pub contents_of : Files → Contents
contents_of files name = content name files

-- the file of this name has these bytes, and every other one has what it had
abbrev pub replaced_by : List ℕ → List ℕ → Contents → Contents
replaced_by name bytes files other = if bytes_eq name other then Some bytes else files other

abbrev pub HaveSame : Contents → Contents → Type 0
HaveSame old new = (name : List ℕ) → new name ≡ old name

-- These calls, one after another, lead from the first files to the last ones: each read gives what the file then has, what is replaced is in the files, and
-- a call that fails changes none.
abbrev pub Leads : Contents → List Event → Contents → Type 0
Leads old [] new = HaveSame old new
Leads old (Read name most bytes ∷ events) new = (option_map (take most) (old name) ≡ Some bytes) × Leads old events new
Leads old (Missing name ∷ events) new = (old name ≡ None) × Leads old events new
Leads old (Unreadable name ∷ events) new = Leads old events new
Leads old (Stopped name ∷ events) new = Leads old events new
Leads old (Replaced name bytes ∷ events) new = Leads (replaced_by name bytes old) events new
Leads old (NotReplaced name bytes ∷ events) new = Leads old events new

-- the events that lead from no files to these: of two files with one name the first counts, so it is put last
abbrev pub events_of : Files → List Event
events_of [] = []
events_of (file ∷ files) = events_of files ++ Replaced file.0 file.1 ∷ []
