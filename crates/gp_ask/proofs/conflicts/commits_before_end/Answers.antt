use Rattle.std.proofs.Common.{◌∙◌, List, ap, arith}
use Rattle.std.proofs.lemmas.List.{take_all}
use Rattle.std.specs.Option.{unwrap_or}
use Rattle.gp_log.proofs.CountLemmas.{commits-before}
use Rattle.gp_log.specs.Logs.{entry_view, log_view}
use Rattle.gp_log.specs.declared.entry.Entry.{Entry}
use Rattle.gp_machine.specs.Entries.{versions_in}
use Rattle.gp_ask.specs.ConflictForms.{counted, found_at, found_before}
use Rattle.gp_ask.proofs.EndLemmas.{end-found, next-counted, next-found}
use Rattle.gp_ask.proofs.conflicts.commits_before_end.Goals as goal

pub counted-commits-requires : goal.counted-commits-requires
counted-commits-requires c = omega (arith, c.loop-place.invariant.0, commits-before c.loop-place.place c.args.log.now.entries, c.loop-place-test.true)

pub loop-place-preserved : goal.loop-place-preserved
loop-place-preserved c =
    let entries = c.args.log.now.entries in
    let place = c.loop-place.place in
    let own = c.entry-entry.result.now in (
      c.counted-commits.ensures ∙ ap (counted (entry_view own)) c.loop-place.invariant.0 ∙ next-counted entries place own c.entry-entry.ensures.entry,
      c.before_end-found.ensures ∙ (λ i. found_at c.args.t (c.loop-place.invariant.0 i) (entry_view own) (c.loop-place.invariant.1 i)) ∙ next-found c.args.t entries place own c.entry-entry.ensures.entry,
    )

pub returns : goal.returns
returns c =
    let entries = c.args.log.now.entries in
    let all = take_all c.loop-place.place entries (omega (arith, c.len-place-end.ensures, c.loop-place-test.false)) in
    c.unwrap_or.ensures
    ∙ (λ i. unwrap_or (c.loop-place.invariant.1 i) (c.loop-place.invariant.0 i))
    ∙ ap (λ (own : List Entry). unwrap_or (found_before c.args.t (log_view own)) (versions_in (log_view own))) all
    ∙ end-found c.args.t (log_view entries)
