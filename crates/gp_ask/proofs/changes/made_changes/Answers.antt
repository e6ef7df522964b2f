use Rattle.std.proofs.Common.{◌∙◌, ap}
use Rattle.gp_dump.specs.Dumps.{Dump}
use Rattle.gp_dump.specs.Views.{dump_view}
use Rattle.gp_log.specs.LogFacts.{tables_in}
use Rattle.gp_ask.specs.declared.answered.Answered.TheVariants.{Lines}
use Rattle.gp_ask.specs.declared.answered.Heading.TheVariants.{Changes}
use Rattle.gp_ask.specs.ChangeForms.{version_changes}
use Rattle.gp_ask.proofs.CommitTexts.{commits-told}
use Rattle.gp_ask.proofs.changes.made_changes.Goals as goal

pub returns-in_ok-commit_lines-in-Some : goal.returns-in_ok-commit_lines-in-Some
returns-in_ok-commit_lines-in-Some c =
    let dump : Dump = dump_view c.args.dump.now in
    ap (Lines Changes) c.in_ok-commit_lines-in-Some.ensures ∙ commits-told (tables_in dump.entries) dump.tables c.in-Some.version ∙ ap (version_changes dump) c.in-Some.ensures

pub returns-in-None : goal.returns-in-None
returns-in-None c = ap (Lines Changes) c.new.ensures ∙ ap (version_changes (dump_view c.args.dump.now)) c.in-None.ensures
