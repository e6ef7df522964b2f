-- Machinery: the files of the shelves in memory.
use Rattle.gp_io.specs.declared.calm.CalmShelf.{CalmShelf}
use Rattle.gp_io.specs.declared.mem.MemShelf.{MemShelf}
use Rattle.gp_io.specs.Files.{Files}
use Rattle.gp_io.specs.NamedFile.{files_of}

abbrev pub calm_files : CalmShelf → Files
calm_files shelf = files_of shelf.files.items

abbrev pub mem_files : MemShelf → Files
mem_files shelf = calm_files shelf.calm
