use Rattle.std.proofs.Common.{List, arith, suc, ◌+◌, ◌≡◌}
use Rattle.gp_log.specs.LogFacts.{tables_in}
use Rattle.gp_log.specs.Logs.{log_view}
use Rattle.gp_machine.specs.Entries.{log_of}
use Rattle.gp_reenact.specs.Reenacting.{spans_of}
use Rattle.gp_history.specs.Keeping.{GoesOn}
use Rattle.gp_history.specs.SpanAnnotations.{AreAnnotated}
use Rattle.gp_history.proofs.CommitLemmas.{stop_stays}
use Rattle.gp_history.proofs.KeepingLemmas.{kept_more}
use Rattle.gp_history.proofs.kept.next_kept.Goals as goal

pub returns-in-Ok : goal.returns-in-Ok
returns-in-Ok g c =
    let domain = g.N.Annotator.domain c.args.annotator.now in
    let entries = log_view c.args.log.now.entries in
    let spans = spans_of c.args.versions.now in
    let next : c.args.kept.version + 1 ≡ suc c.args.kept.version = omega arith in
    kept_more domain entries spans c.args.kept (record { version = c.args.kept.version + 1; annotated = c.in-Ok.annotated; finders = c.enter_commit.new.finders }) c.requires.kept c.enter_commit.ensures c.requires.more next c.in-Ok.ensures.1 c.in-Ok.ensures.0

pub returns-in-Err : goal.returns-in-Err
returns-in-Err g c =
    let domain = g.N.Annotator.domain c.args.annotator.now in
    let entries = log_view c.args.log.now.entries in
    let spans = spans_of c.args.versions.now in
    let before = c.args.kept.version in
    stop_stays domain (tables_in entries) (log_of entries) spans (λ (all : List (List g.row.A.Denot)). AreAnnotated domain (log_of entries) spans (suc before) all) (GoesOn domain entries spans before) before (suc before)
    c.in-Err.stop (omega arith) c.requires.kept.unstopped c.in-Err.ensures
