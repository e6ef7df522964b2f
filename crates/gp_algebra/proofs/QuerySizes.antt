-- The number of nodes of a query, annotated or plain, by which recursions over queries end.
use Rattle.std.proofs.Common.{ℕ, ◌+◌}
use Rattle.gp_algebra.specs.AnnotatedQueries as a
use Rattle.gp_algebra.specs.AnnotatedQueries.{Query}
use Rattle.gp_algebra.specs.Plain.{Plain, scan, step, select, project, product, union, given, publish}

abbrev pub query_size : Query → ℕ
query_size (a.scan table version) = 1
query_size (a.step j) = 1
query_size (a.select query c) = 1 + query_size query
query_size (a.project query exprs change) = 1 + query_size query
query_size (a.product left right) = 1 + (query_size left + query_size right)
query_size (a.union left right) = 1 + (query_size left + query_size right)
query_size (a.given t k rows) = 1
query_size (a.new_rows t k b query) = 1 + query_size query
query_size (a.publish base mine later) = 1 + (query_size base + (query_size mine + query_size later))

abbrev pub plain_size : Plain → ℕ
plain_size (scan table version) = 1
plain_size (step j) = 1
plain_size (select query c) = 1 + plain_size query
plain_size (project query exprs) = 1 + plain_size query
plain_size (product left right) = 1 + (plain_size left + plain_size right)
plain_size (union left right) = 1 + (plain_size left + plain_size right)
plain_size (given rows) = 1
plain_size (publish at base mine later) = 1 + (plain_size base + (plain_size mine + plain_size later))
