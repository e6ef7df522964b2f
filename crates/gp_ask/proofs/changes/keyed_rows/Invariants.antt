use Rattle.std.proofs.Common.{◌≡◌, ◌++◌, drop}
use Rattle.gp_algebra.specs.Views.{statement_view}
use Rattle.gp_ask.specs.Keyed.{keyed_from}
use Rattle.gp_ask.proofs.changes.keyed_rows.Given as goal

-- the rows that remain give the others
abbrev pub invariant-loop-place : goal.invariant-loop-place
invariant-loop-place l = l.keyed.items ++ keyed_from l.t l.k (statement_view l.stmt) l.place (drop l.place l.rows) ≡ keyed_from l.t l.k (statement_view l.stmt) 0 l.rows
