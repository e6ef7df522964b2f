-- Of the law `files_are_replaced_whole`: what files have after each step of a replacement, where each call does what POSIX says of it (IEEE Std 1003.1: open with
-- O_CREAT and O_EXCL, write, fsync, rename, unlink) and nobody else changes them. Of a rename that fails POSIX says that the file is unaffected, but for EIO.
use Rattle.std.specs.Prelude.{◌≡◌, ◌≢◌, ◌⊎◌, ℕ, List, [], ◌∷◌, None, Some}
use Rattle.gp_io.specs.Contents.{Contents, HaveSame}
use Rattle.gp_io.specs.Steps.{Call, Open, Store, Rename, Sync, Remove, Overwrite, Step, IsFree, IsPlain, IsOther, Did, DidNot}

abbrev pub AllBut : List ℕ → Contents → Contents → Type 0
AllBut name old new = (other : List ℕ) → other ≢ name → new other ≡ old other

abbrev pub AllButTwo : List ℕ → List ℕ → Contents → Contents → Type 0
AllButTwo name also old new = (other : List ℕ) → other ≢ name → other ≢ also → new other ≡ old other

abbrev pub Does : Call → Contents → Contents → Type 0
Does (Open name) old new = HaveSame old new
Does (Store name mode bytes) old new = (old name ≡ None) × (new name ≡ Some bytes) × AllBut name old new
Does (Rename from to) old new = (new to ≡ old from) × (new from ≡ None) × AllButTwo from to old new
Does (Sync name) old new = HaveSame old new
Does (Remove name) old new = (new name ≡ None) × AllBut name old new
Does (Overwrite name bytes) old new = (new name ≡ Some bytes) × AllBut name old new

-- a store that fails may leave anything under the new name, and an overwrite under the old one
abbrev pub DoesNot : Call → Contents → Contents → Type 0
DoesNot (Open name) old new = HaveSame old new
DoesNot (Store name mode bytes) old new = (old name ≡ None) × AllBut name old new
DoesNot (Rename from to) old new = HaveSame old new
DoesNot (Sync name) old new = HaveSame old new
DoesNot (Remove name) old new = HaveSame old new
DoesNot (Overwrite name bytes) old new = AllBut name old new

abbrev pub Leaves : Step → Contents → Contents → Type 0
Leaves (IsFree name) old new = HaveSame old new
Leaves (IsPlain name target mode) old new = HaveSame old new
Leaves (IsOther name) old new = HaveSame old new
Leaves (Did call) old new = Does call old new
Leaves (DidNot call) old new = DoesNot call old new

-- it holds of the files before these steps, and after each
abbrev pub AtEachMoment : (Contents → Type 0) → List Step → Contents → Type 0
AtEachMoment P [] files = P files
AtEachMoment P (step ∷ steps) files = P files × ((next : Contents) → Leaves step files next → AtEachMoment P steps next)

-- it holds of the files after these steps
abbrev pub AtTheEnd : (Contents → Type 0) → List Step → Contents → Type 0
AtTheEnd P [] files = P files
AtTheEnd P (step ∷ steps) files = (next : Contents) → Leaves step files next → AtTheEnd P steps next

-- the file has what it had, or these bytes, and every other one but the temporary one has what it had
abbrev pub IsOldOrNew : List ℕ → List ℕ → List ℕ → Contents → Contents → Type 0
IsOldOrNew target temporary bytes old files = ((files target ≡ old target) ⊎ (files target ≡ Some bytes)) × AllButTwo temporary target old files

-- the file has these bytes, and every other one what it had
abbrev pub IsNew : List ℕ → List ℕ → Contents → Contents → Type 0
IsNew target bytes old files = (files target ≡ Some bytes) × AllBut target old files

-- every file but the temporary one has what it had
abbrev pub IsOld : List ℕ → List ℕ → Contents → Contents → Type 0
IsOld target temporary old files = (files target ≡ old target) × AllButTwo temporary target old files
