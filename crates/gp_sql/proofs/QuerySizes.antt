-- The number of nodes of a plain query, by which the recursions over it end.
use Rattle.std.proofs.Common.{ℕ, ◌+◌}
use Rattle.gp_algebra.specs.Plain.{Plain, scan, step, select, project, product, union, given, publish}

abbrev pub query_size : Plain → ℕ
query_size (scan table version) = 1
query_size (step j) = 1
query_size (select query c) = 1 + query_size query
query_size (project query exprs) = 1 + query_size query
query_size (product left right) = 1 + (query_size left + query_size right)
query_size (union left right) = 1 + (query_size left + query_size right)
query_size (given rows) = 1
query_size (publish at base mine later) = 1 + (query_size base + (query_size mine + query_size later))
