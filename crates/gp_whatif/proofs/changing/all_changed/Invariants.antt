use Rattle.std.proofs.Common.{◌≡◌, true, Ok, drop}
use Rattle.gp_grammar.specs.Laws.{have_statements}
use Rattle.gp_log.specs.Logs.{log_view}
use Rattle.gp_log.specs.Parameters.{parameters}
use Rattle.gp_syntax.specs.Views.{changes_view}
use Rattle.gp_whatif.specs.Changed.{all_changed}
use Rattle.gp_whatif.proofs.changing.all_changed.Given as goal

-- all changes are those that are left, of the log so far
abbrev pub invariant-loop-change : goal.invariant-loop-change
invariant-loop-change l = record {
  rest : all_changed parameters (Ok (log_view l.initial.new.entries)) (changes_view l.changes) ≡ all_changed parameters (Ok (log_view l.new.entries)) (changes_view (drop l.change-index l.changes));
  statements : have_statements (changes_view (drop l.change-index l.changes)) ≡ true;
}
