use Rattle.std.proofs.Common.{◌≡◌, ◌∙◌, List, ap, length, subst, sym}
use Rattle.gp_base.specs.Annotated.{unannotated}
use Rattle.gp_dump.specs.Views.{dump_view}
use Rattle.gp_dump.specs.declared.dump.Dump as code
use Rattle.gp_log.specs.LogFacts.{tables_in}
use Rattle.gp_machine.specs.Entries.{versions_in}
use Rattle.gp_machine.specs.HistorySpans.{as_of}
use Rattle.gp_reenact.specs.Reenacting.{spans_of}
use Rattle.gp_versions.specs.Spans.{Versions}
use Rattle.gp_whatif.specs.Replays.{IsMade}
use Rattle.gp_ask.specs.Made as m
use Rattle.gp_ask.specs.MadeForms.{AreDiffering}
use Rattle.gp_ask.proofs.MadeRows.{has-made, unmade-is}
use Rattle.gp_ask.proofs.ProvenanceLemmas.{sound, spans-are}
use Rattle.gp_ask.proofs.made.decided.Goals as goal

-- what is compared decides
module _ (dump : code.Dump) (own made : List Versions) (same : own ≡ dump.versions) (is : IsMade (dump_view dump).entries (versions_in (dump_view dump).entries) made) where
  decides : m.differing_refusal (tables_in (dump_view dump).entries) (versions_in (dump_view dump).entries) (as_of unannotated (spans_of own)) (as_of unannotated (spans_of made))
      ≡ m.unmade_refusal (dump_view dump)
  decides =
      (λ i. m.differing_refusal (tables_in (dump_view dump).entries) (versions_in (dump_view dump).entries) (as_of unannotated (spans-are dump own same i)) (as_of unannotated (spans_of made)))
      ∙ unmade-is (dump_view dump).entries made is (dump_view dump).tables

pub differing_refusal-requires-clause-tables : goal.differing_refusal-requires-clause-tables
differing_refusal-requires-clause-tables c = record {
  own = ap length c.as_slice.ensures ∙ (sound c.args.dump.now).tables;
  other = c.requires.made.count;
  few = c.bounds.ensures.tables;
}

pub differing_refusal-requires-clause-flags : goal.differing_refusal-requires-clause-flags
differing_refusal-requires-clause-flags c = subst (λ (own : List Versions). AreDiffering own c.args.made.now c.args.flags.now) (sym c.as_slice.ensures) c.requires.flags

pub returns-in-Some-clause-refusal : goal.returns-in-Some-clause-refusal
returns-in-Some-clause-refusal c =
    sym c.in-Some.is ∙ c.in_ok-refusal.ensures ∙ decides c.args.dump.now c.as_slice.result.now c.args.made.now c.as_slice.ensures c.requires.made

pub returns-in-None-clause-refusal : goal.returns-in-None-clause-refusal
returns-in-None-clause-refusal c =
    sym c.in-None.is ∙ c.in_ok-refusal.ensures ∙ decides c.args.dump.now c.as_slice.result.now c.args.made.now c.as_slice.ensures c.requires.made

pub returns-in-None-clause-kept : goal.returns-in-None-clause-kept
returns-in-None-clause-kept c = (
  sym (decides c.args.dump.now c.as_slice.result.now c.args.made.now c.as_slice.ensures c.requires.made) ∙ sym c.in_ok-refusal.ensures ∙ c.in-None.is,
  λ yes. has-made c.args.dump.now c.args.made.now c.requires.made c.args.flags.now c.requires.flags (sym c.has_none.ensures ∙ yes),
)
