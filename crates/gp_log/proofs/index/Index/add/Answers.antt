use Rattle.std.proofs.Common.{◌∙◌, ◌∷◌, refl, sym, ap, subst}
use Rattle.gp_algebra.specs.Views.{statement_view}
use Rattle.gp_syntax.specs.Views.{command_view}
use Rattle.gp_machine.specs.Entries as m
use Rattle.gp_machine.specs.Entries.{versions_in}
use Rattle.gp_log.specs.Indexing.{HasReads, IsIndex, Knows}
use Rattle.gp_log.specs.Kinds.{HasNextNumber}
use Rattle.gp_log.specs.Logs.{what_view}
use Rattle.gp_log.specs.declared.entry.What.{What}
use Rattle.gp_log.proofs.SteadyLemmas.{steady_created}
use Rattle.gp_log.proofs.index.Index.add.Goals as goal

pub returns-in-Create-clause-index : goal.returns-in-Create-clause-index
returns-in-Create-clause-index c log line session counted next old complete =
    let knows = old complete in
    subst (λ (what : What). Knows c.args.self.now.transactions.items c.args.self.now.committers.items (what_view line session c.args.t what ∷ log)) (sym c.in-Create.is)
    (record { transactions = knows.transactions; committers = knows.committers; steady = steady_created line session _ log knows.steady })

pub returns-in-Begin-clause-index : goal.returns-in-Begin-clause-index
returns-in-Begin-clause-index c log line session counted next old =
    subst (λ (what : What). IsIndex c.begin.new.self (what_view line session c.args.t what ∷ log)) (sym c.in-Begin.is)
    (c.begin.ensures.index log line session (counted ∙ ap (λ (what : What). versions_in (what_view line session c.args.t what ∷ log)) c.in-Begin.is) old)

pub returns-in-Statement-clause-index : goal.returns-in-Statement-clause-index
returns-in-Statement-clause-index c log line session counted next old =
    subst (λ (what : What). IsIndex c.run.new.self (what_view line session c.args.t what ∷ log)) (sym c.in-Statement.is)
    (c.run.ensures.index log line session (command_view c.in-Statement.command.value) (statement_view c.in-Statement.stmt.value) (subst (λ (what : What). HasNextNumber log c.args.t what) c.in-Statement.is next) (c.note_read.ensures.index log old))

pub returns-in-Commit-clause-index : goal.returns-in-Commit-clause-index
returns-in-Commit-clause-index c log line session counted next old =
    subst (λ (what : What). IsIndex c.commit.new.self (what_view line session c.args.t what ∷ log)) (sym c.in-Commit.is)
    (c.commit.ensures.index log line session (counted ∙ ap (λ (what : What). versions_in (what_view line session c.args.t what ∷ log)) c.in-Commit.is) old)

pub returns-in-Lost-clause-index : goal.returns-in-Lost-clause-index
returns-in-Lost-clause-index c log line session counted next old =
    subst (λ (what : What). IsIndex c.end.new.self (what_view line session c.args.t what ∷ log)) (sym c.in-Lost.is) (c.end.ensures.index log line session m.Lost refl old)

pub returns-in-Rollback-clause-index : goal.returns-in-Rollback-clause-index
returns-in-Rollback-clause-index c log line session counted next old =
    subst (λ (what : What). IsIndex c.end-in-Rollback.new.self (what_view line session c.args.t what ∷ log)) (sym c.in-Rollback.is) (c.end-in-Rollback.ensures.index log line session m.RolledBack refl old)

-- ---- the versions that statements read

pub returns-in-Create-clause-reads : goal.returns-in-Create-clause-reads
returns-in-Create-clause-reads c log line session counted next old reads =
    subst (λ (what : What). HasReads c.args.self.now (what_view line session c.args.t what ∷ log)) (sym c.in-Create.is) reads

pub returns-in-Begin-clause-reads : goal.returns-in-Begin-clause-reads
returns-in-Begin-clause-reads c log line session counted next old reads =
    subst (λ (what : What). HasReads c.begin.new.self (what_view line session c.args.t what ∷ log)) (sym c.in-Begin.is) (c.begin.ensures.reads log line session reads)

pub returns-in-Statement-clause-reads : goal.returns-in-Statement-clause-reads
returns-in-Statement-clause-reads c log line session counted next old reads =
    let command = command_view c.in-Statement.command.value in
    let statement = statement_view c.in-Statement.stmt.value in
    subst (λ (what : What). HasReads c.run.new.self (what_view line session c.args.t what ∷ log)) (sym c.in-Statement.is)
    (c.run.ensures.reads (m.Ran line session command c.args.t statement ∷ log)
    (c.note_read.ensures.reads log line session command statement (counted ∙ ap (λ (what : What). versions_in (what_view line session c.args.t what ∷ log)) c.in-Statement.is)
    (subst (λ (what : What). HasNextNumber log c.args.t what) c.in-Statement.is next) old reads))

pub returns-in-Commit-clause-reads : goal.returns-in-Commit-clause-reads
returns-in-Commit-clause-reads c log line session counted next old reads =
    subst (λ (what : What). HasReads c.commit.new.self (what_view line session c.args.t what ∷ log)) (sym c.in-Commit.is) (c.commit.ensures.reads log reads)

pub returns-in-Lost-clause-reads : goal.returns-in-Lost-clause-reads
returns-in-Lost-clause-reads c log line session counted next old reads =
    subst (λ (what : What). HasReads c.end.new.self (what_view line session c.args.t what ∷ log)) (sym c.in-Lost.is) (c.end.ensures.reads log reads)

pub returns-in-Rollback-clause-reads : goal.returns-in-Rollback-clause-reads
returns-in-Rollback-clause-reads c log line session counted next old reads =
    subst (λ (what : What). HasReads c.end-in-Rollback.new.self (what_view line session c.args.t what ∷ log)) (sym c.in-Rollback.is) (c.end-in-Rollback.ensures.reads log reads)
