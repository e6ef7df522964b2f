-- Of the contract of `classify`: what stands under a name, by what the system answers. `entry` is of what has the name and `file` of that to which it leads.
use Rattle.std.specs.Prelude.{ℕ, Bool, ◌||◌, List, length, take, codes, Result, Ok, Err}
use Rattle.std.specs.Str.{bytes_eq}
use Rattle.std.specs.Fs.{file_type, IsFile, IsSymlink}
use Rattle.std.specs.declared.fs.attrs.Metadata.{Metadata}

-- it is a regular file, or leads to one
abbrev pub IsRegular : {E : Type 0} → Result Metadata E → Type 0
IsRegular (Ok file) = IsFile (file_type file)
IsRegular (Err error) = ⊥

abbrev pub IsLink : {E : Type 0} → Result Metadata E → Type 0
IsLink (Ok entry) = IsSymlink (file_type entry)
IsLink (Err error) = ⊥

abbrev pub begins_with : List ℕ → List ℕ → Bool
begins_with words text = bytes_eq words (take (length words) text)

-- a link of this name leads to a file that a process has open, as /dev/stdout does
abbrev pub is_lent : List ℕ → Bool
is_lent name = begins_with (codes "/dev/") name || begins_with (codes "/proc/") name
