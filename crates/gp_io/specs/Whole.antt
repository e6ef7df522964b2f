-- Of the contract of `DiskShelf::replace`: by which steps a file is replaced whole or not at all. `old` are the steps before the call and `new` those after it.
-- `files_are_replaced_whole` says what they do to files.
use Rattle.std.specs.Prelude.{◌≡◌, ◌⊎◌, ℕ, List, [], ◌∷◌, ◌++◌, Option, Some, None, codes, Result, Ok, Err}
use Rattle.std.specs.Path.{path_parent}
use Rattle.gp_io.specs.Steps.{Open, Store, Rename, Sync, Remove, Overwrite, Step, IsFree, IsPlain, IsOther, Did, DidNot}
use Rattle.gp_io.specs.declared.error.ShelfStop.{ShelfStop}
use Rattle.gp_io.specs.declared.error.ShelfStop.TheVariants.{Absent, Failed, NoMemory}

-- the name of a temporary file beside the target: longer than the target's, so another one
abbrev pub IsBeside : List ℕ → List ℕ → Type 0
IsBeside target temporary = (suffix : List ℕ) × (temporary ≡ (target ++ codes ".new") ++ suffix)

abbrev pub or_here : Option (List ℕ) → List ℕ
or_here None = codes "."
or_here (Some []) = codes "."
or_here (Some (byte ∷ bytes)) = byte ∷ bytes

-- the folder in which a file of this name is
abbrev pub folder_of : List ℕ → List ℕ
folder_of name = or_here (path_parent name)

-- the temporary file was to be removed; whether it was, the system's answer says
abbrev pub IsRemoval : List ℕ → Step → Type 0
IsRemoval temporary step = (step ≡ Did (Remove temporary)) ⊎ (step ≡ DidNot (Remove temporary))

-- the folder was to be synced
abbrev pub IsSync : List ℕ → Step → Type 0
IsSync target step = (step ≡ Did (Sync (folder_of target))) ⊎ (step ≡ DidNot (Sync (folder_of target)))

-- The bytes were stored in a new file of this mode beside the target, which then got its name. Last the folder was to be synced.
abbrev pub IsRenamed : List ℕ → Option ℕ → List ℕ → Step → List Step → List Step → Type 0
IsRenamed target mode bytes last old new = (temporary : List ℕ) × IsBeside target temporary
    × (new ≡ old ++ Did (Store temporary mode bytes) ∷ Did (Rename temporary target) ∷ last ∷ [])

-- No step but the last of a whole replacement, the rename, names the target, and that one was not done. What was made was to be removed.
abbrev pub IsLeft : List ℕ → Option ℕ → List ℕ → List Step → List Step → Type 0
IsLeft target mode bytes old new = (new ≡ old) ⊎ ((temporary : List ℕ) × (removal : Step) × IsBeside target temporary × IsRemoval temporary removal
    × ((new ≡ old ++ DidNot (Store temporary mode bytes) ∷ removal ∷ []) ⊎ (new ≡ old ++ Did (Store temporary mode bytes) ∷ DidNot (Rename temporary target) ∷ removal ∷ [])))

-- what follows where the target is free or a file that may be written: it has the bytes, whole, also where only the sync of the folder failed
abbrev pub Replaces : List ℕ → Option ℕ → List ℕ → List Step → List Step → Result (Unit {0}) ShelfStop → Type 0
Replaces target mode bytes old new (Ok done) = IsRenamed target mode bytes (Did (Sync (folder_of target))) old new
Replaces target mode bytes old new (Err Failed) = IsLeft target mode bytes old new ⊎ IsRenamed target mode bytes (DidNot (Sync (folder_of target))) old new
Replaces target mode bytes old new (Err NoMemory) = new ≡ old
Replaces target mode bytes old new (Err Absent) = ⊥

-- nothing more was asked for
abbrev pub Stops : List Step → List Step → Result (Unit {0}) ShelfStop → Type 0
Stops old new (Ok done) = ⊥
Stops old new (Err Failed) = new ≡ old
Stops old new (Err NoMemory) = new ≡ old
Stops old new (Err Absent) = ⊥

-- what follows where a regular file is the target: one that may not be written stays, and a new one gets its mode
abbrev pub ReplacesPlain : List ℕ → ℕ → List ℕ → List Step → List Step → Result (Unit {0}) ShelfStop → Type 0
ReplacesPlain target mode bytes old new result = Stops (old ++ DidNot (Open target) ∷ []) new result ⊎ Replaces target (Some mode) bytes (old ++ Did (Open target) ∷ []) new result

-- what follows where something else stands there: it takes the bytes as they come, since it has no content to keep
abbrev pub Overwrites : List ℕ → List ℕ → List Step → List Step → Result (Unit {0}) ShelfStop → Type 0
Overwrites name bytes old new (Ok done) = new ≡ old ++ Did (Overwrite name bytes) ∷ []
Overwrites name bytes old new (Err Failed) = new ≡ old ++ DidNot (Overwrite name bytes) ∷ []
Overwrites name bytes old new (Err NoMemory) = ⊥
Overwrites name bytes old new (Err Absent) = ⊥

-- by what stands there; nothing is asked for where that is not known
abbrev pub ReplacesWhole : List ℕ → List ℕ → List Step → List Step → Result (Unit {0}) ShelfStop → Type 0
ReplacesWhole name bytes old new result = Stops old new result
    ⊎ (Replaces name None bytes (old ++ IsFree name ∷ []) new result
    ⊎ (((target : List ℕ) × (mode : ℕ) × ReplacesPlain target mode bytes (old ++ IsPlain name target mode ∷ []) new result)
    ⊎ Overwrites name bytes (old ++ IsOther name ∷ []) new result))

-- after a store: the file gets the target's name, or was to be removed
abbrev pub Renames : List ℕ → List ℕ → List Step → List Step → Result (Unit {0}) ShelfStop → Type 0
Renames temporary target old new (Ok done) = new ≡ old ++ Did (Rename temporary target) ∷ Did (Sync (folder_of target)) ∷ []
Renames temporary target old new (Err Failed) = ((removal : Step) × IsRemoval temporary removal × (new ≡ old ++ DidNot (Rename temporary target) ∷ removal ∷ []))
    ⊎ (new ≡ old ++ Did (Rename temporary target) ∷ DidNot (Sync (folder_of target)) ∷ [])
Renames temporary target old new (Err NoMemory) = ⊥
Renames temporary target old new (Err Absent) = ⊥
