use Rattle.std.proofs.Common.{◌≡◌, drop}
use Rattle.gp_io.specs.Files.{content}
use Rattle.gp_io.specs.NamedFile.{files_of}
use Rattle.gp_io.proofs.file_list.bytes_of.Given as goal

abbrev pub invariant-loop-file : goal.invariant-loop-file
invariant-loop-file l = content l.name (files_of (drop l.file-index l.files)) ≡ content l.name (files_of l.initial.files)
