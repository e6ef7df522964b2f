-- The row versions of commits made again fit the tables of their log: so a dump of them can be asked.
use Rattle.std.proofs.Common.{◌≡◌, ℕ, List, length, sym, ◌∙◌, subst}
use Rattle.std.specs.List.{AllByRecursion}
use Rattle.std.proofs.Math.ListN.{get_or-map}
use Rattle.std.proofs.lemmas.List.{length-map}
use Rattle.gp_base.specs.Annotated.{unannotated}
use Rattle.gp_algebra.specs.Statements.{width_of}
use Rattle.gp_versions.specs.declared.span.Span.{Span}
use Rattle.gp_versions.specs.Spans.{Versions}
use Rattle.gp_machine.specs.Entries.{Entry, log_of, versions_in}
use Rattle.gp_machine.specs.ReplayForms.{replayed_spans}
use Rattle.gp_log.specs.LogFacts.{tables_in}
use Rattle.gp_log.specs.LogFitting.{SpanFits}
use Rattle.gp_reenact.specs.Travel.{no_table}
use Rattle.gp_whatif.specs.Replays.{IsMade, IsReplayable}
use Rattle.gp_serial.proofs.FittingReplays.{spans_made_fit}
use Rattle.gp_dump.specs.Answerable.{IsAnswerable}
use Rattle.gp_dump.specs.Views.{tables_view}
use Rattle.gp_ask.specs.Asking.{table_spans}
use Rattle.gp_ask.specs.Replays.{dump_in}

-- the dump of a log and of what its replay made
pub replay_answerable : (entries : List Entry) → IsReplayable entries → (versions : List Versions) → IsMade entries (versions_in entries) versions → IsAnswerable (dump_in entries (tables_view versions))
replay_answerable entries is versions made = record {
  sessions = is.sessions;
  statements = is.fits;
  tables = length-map versions (λ (table : Versions). table.spans) ∙ made.count;
  spans = λ place. subst (λ (spans : List Span). AllByRecursion (SpanFits (width_of (tables_in entries) place)) spans)
      (sym (get_or-map (λ (table : Versions). table.spans) versions place no_table ∙ made.spans place))
      (spans_made_fit entries is.fits (length (tables_in entries)) (versions_in entries) made.unstopped place);
}

-- they are the ones of the replay
pub replay_spans : (entries : List Entry) (versions : List Versions) → IsMade entries (versions_in entries) versions → (place : ℕ)
    → table_spans (tables_view versions) place ≡ replayed_spans unannotated (log_of entries) (length (tables_in entries)) (versions_in entries) place
replay_spans entries versions made place = get_or-map (λ (table : Versions). table.spans) versions place no_table ∙ made.spans place
