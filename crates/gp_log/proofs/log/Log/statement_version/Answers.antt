use Rattle.std.proofs.Common.{◌≡◌, ◌∙◌, Some, false, sym, ap, subst}
use Rattle.std.specs.Option.{option_map}
use Rattle.gp_algebra.specs.Statements.{Statement}
use Rattle.gp_machine.specs.Entries.{is_read_committed, statement_at, statement_version}
use Rattle.gp_log.specs.Indexing.{known_of}
use Rattle.gp_log.specs.LogCounts.{numbered}
use Rattle.gp_log.specs.Logs.{Logged, log_view}
use Rattle.gp_log.specs.declared.index.Known.{Known}
use Rattle.gp_log.proofs.VersionLemmas.{steady_read, version_read_is}
use Rattle.gp_log.proofs.log.Log.statement_version.Goals as goal

pub returns-in-Some : goal.returns-in-Some
returns-in-Some c =
    let log = log_view c.self.inside.entries.items in
    let is : c.in-Some.known ≡ known_of c.args.t log = c.in-Some.ensures.known log c.self.invariant.6 in
    let kind : is_read_committed c.args.t log ≡ false = sym (ap (λ (known : Known). known.read_committed) is) ∙ c.if-not-known.true in
    subst (λ (l : Logged). c.steady_version.result ≡ option_map (λ (s : Statement). statement_version c.args.t c.args.k (log_view l.entries)) (statement_at c.args.t c.args.k (log_view l.entries))) c.self.view_is
    (c.steady_version.ensures ∙ (ap (λ (known : Known). numbered c.args.k known.ran known.begin) is ∙ steady_read c.args.t c.args.k log (c.in-Some.ensures.steady log c.self.invariant.6) kind))

pub returns-in-Some-read : goal.returns-in-Some-read
returns-in-Some-read c =
    let log = log_view c.self.inside.entries.items in
    subst (λ (l : Logged). Some c.in-Some-read.version ≡ option_map (λ (s : Statement). statement_version c.args.t c.args.k (log_view l.entries)) (statement_at c.args.t c.args.k (log_view l.entries))) c.self.view_is
    (sym (c.in-Some-read.ensures log c.self.invariant.9) ∙ version_read_is c.args.t c.args.k log)
