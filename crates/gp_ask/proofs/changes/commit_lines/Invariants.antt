use Rattle.std.proofs.Common.{◌≡◌, ◌++◌, drop}
use Rattle.gp_dump.specs.Views.{dump_view, tables_view}
use Rattle.gp_log.specs.LogFacts.{tables_in}
use Rattle.gp_ask.specs.ChangeForms.{tables_texts}
use Rattle.gp_ask.proofs.changes.commit_lines.Given as goal

-- the tables that remain give the other lines
abbrev pub invariant-loop-place : goal.invariant-loop-place
invariant-loop-place l =
    let tables = tables_in (dump_view l.dump).entries in
    l.lines ++ tables_texts l.version (drop l.place tables) (tables_view (drop l.place l.dump.versions)) ≡ tables_texts l.version tables (dump_view l.dump).tables
