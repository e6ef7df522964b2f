-- Of the contract of `write_query`: the parts of a SCAN and of a PUBLISH that are written by themselves.
use Rattle.std.specs.Prelude.{ℕ, true, pos}
use Rattle.gp_expr.specs.declared.expr.Cmp.TheVariants.{Eq, Le, Lt}
use Rattle.gp_sql.specs.NamedQueries.{from, is_marked, is_missing}
use Rattle.gp_sql.specs.Sql as s

abbrev pub begun : ℕ → s.Test
begun version = s.compare Le (s.column s.no_alias s.begins) (s.number (pos version))

abbrev pub before_end : ℕ → s.Test
before_end version = s.compare Lt (s.number (pos version)) (s.column s.no_alias s.ends)

abbrev pub unended : ℕ → s.Test
unended version = s.bracket (s.or (s.is_null (s.column s.no_alias s.ends) true) (before_end version))

abbrev pub same_identities : ℕ → s.Test
same_identities at = s.compare Eq (s.column s.y (s.numbered at)) (s.column s.x (s.numbered at))

abbrev pub found_block : ℕ → s.Source → s.Block
found_block at source = s.select (s.single (s.number (pos 1))) (from s.y source) (s.passing (same_identities at))

abbrev pub marked_ids : ℕ → s.Source → s.Block
marked_ids at mine = s.select (s.single (s.column s.no_alias (s.numbered at))) (from s.no_alias mine) (s.passing (is_marked at))

abbrev pub missing_ids : ℕ → s.Source → s.Source → s.Block
missing_ids at base mine = s.select (s.single (s.column s.x (s.numbered at))) (from s.x base) (s.passing (is_missing at mine))

abbrev pub unwritten_rows : ℕ → s.Source → s.Source → s.Block
unwritten_rows at written later = s.select s.all (from s.x later) (s.passing (is_missing at written))

abbrev pub marked_rows : ℕ → s.Source → s.Block
marked_rows at mine = s.select s.all (from s.no_alias mine) (s.passing (is_marked at))
