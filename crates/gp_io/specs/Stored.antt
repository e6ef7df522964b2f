-- Machinery: how a file is found.
use Rattle.std.specs.Prelude.{ℕ, Bool, List, string_bytes, bytes_eq}
use Rattle.gp_io.specs.declared.named_file.NamedFile.{NamedFile}

abbrev pub has_name : List ℕ → NamedFile → Bool
has_name name file = bytes_eq (string_bytes file.name) name
