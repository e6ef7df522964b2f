-- Of the contracts of `CalmShelf::new` and `MemShelf::new`: the files that a list of named files is.
use Rattle.std.specs.Prelude.{List, map, string_bytes}
use Rattle.gp_io.specs.declared.named_file.NamedFile.{NamedFile}
use Rattle.gp_io.specs.Files.{Files}

-- the names with the bytes of their files
abbrev pub files_of : List NamedFile → Files
files_of files = map (λ (file : NamedFile). (string_bytes file.name, file.bytes.items)) files
