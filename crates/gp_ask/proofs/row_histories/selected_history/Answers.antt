use Rattle.std.proofs.Common.{◌≡◌, ◌∙◌, Bool, Global, List, Vec, ap, subst, ℕ}
use Rattle.std.specs.BTreeMap.{get}
use Rattle.std.specs.List.{list_any}
use Rattle.std.specs.Option.{is_some}
use Rattle.std.specs.Prelude.{IfOk}
use Rattle.gp_base.specs.declared.row.Row.{Row}
use Rattle.gp_base.specs.Identities.{Identity, identity_cmp}
use Rattle.gp_algebra.specs.Views.{select_view}
use Rattle.gp_dump.specs.Dumps.{Dump}
use Rattle.gp_dump.specs.Views.{dump_view}
use Rattle.gp_log.specs.LogFacts.{tables_in}
use Rattle.gp_machine.specs.Entries.{versions_in}
use Rattle.gp_reenact.specs.Reenacting.{spans_of}
use Rattle.gp_versions.specs.declared.span.Span.{Span}
use Rattle.gp_ask.specs.declared.answered.Answered.{Answered}
use Rattle.gp_ask.specs.declared.answered.Answered.TheVariants.{Refused}
use Rattle.gp_ask.specs.HistoryForms.{dump_asked, narrowed, span_asks, stop_upto}
use Rattle.gp_ask.proofs.HistoryLines.{found-history, refused-history, simple-select}
use Rattle.gp_ask.proofs.ReenactedLemmas.{dump-spans}
use Rattle.gp_ask.proofs.row_histories.selected_history.Goals as goal

pub asked_rows-requires : goal.asked_rows-requires
asked_rows-requires c = simple-select (tables_in (dump_view c.args.dump.now).entries) (select_view c.args.select.now) c.requires.fits

pub history_lines-requires : goal.history_lines-requires
history_lines-requires c =
    let asked : Identity → Bool = λ (id : Identity). is_some (get identity_cmp c.in_ok-asked.asked id) in
    record {
      narrow = ap spans_of c.deref.ensures.value ∙ c.in_ok-narrow.ensures
          ∙ ap (λ (spans : ℕ → List Span). narrowed spans c.args.table asked) (ap spans_of c.as_slice.ensures ∙ dump-spans c.args.dump.now.versions);
    }

pub returns-in-Ok : goal.returns-in-Ok
returns-in-Ok c =
    let dump : Dump = dump_view c.args.dump.now in
    let select = select_view c.args.select.now in
    let asked : Identity → Bool = λ (id : Identity). is_some (get identity_cmp c.in_ok-asked.asked id) in
    let same : (id : Identity) → asked id ≡ dump_asked dump c.args.table select id = λ id. c.in_ok-asked.ensures id ∙ ap (list_any (span_asks select id)) c.spans_of.ensures in
    let is = found-history dump c.args.table select asked same (stop_upto dump (versions_in dump.entries)) (λ (lines : Vec Row Global). lines.items) c.in-Ok.lines c.in-Ok.ensures in
    subst (λ (own : Answered). IfOk c.listed.result (λ answered. answered ≡ own)) is c.listed.ensures

pub returns-in-Err-Refused : goal.returns-in-Err-Refused
returns-in-Err-Refused c =
    let dump : Dump = dump_view c.args.dump.now in
    let select = select_view c.args.select.now in
    let asked : Identity → Bool = λ (id : Identity). is_some (get identity_cmp c.in_ok-asked.asked id) in
    let same : (id : Identity) → asked id ≡ dump_asked dump c.args.table select id = λ id. c.in_ok-asked.ensures id ∙ ap (list_any (span_asks select id)) c.spans_of.ensures in
    ap Refused c.in-Err-Refused.refusal-is
    ∙ refused-history dump c.args.table select asked same (stop_upto dump (versions_in dump.entries)) (λ (lines : Vec Row Global). lines.items) c.in-Err-Refused.refusal (rw c.in-Err-Refused.field-0-is at c.in-Err-Refused.ensures)
