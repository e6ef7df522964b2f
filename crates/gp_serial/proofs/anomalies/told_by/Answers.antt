use Rattle.std.proofs.Common.{◌≡◌, ◌<◌, ◌+◌, ◌∙◌, ℕ, ap, arith, filter, map, subst, sym}
use Rattle.std.proofs.lemmas.Result.{IfOk-weaker}
use Rattle.std.specs.Prelude.{Vec}
use Rattle.std.specs.declared.alloc.Global.{Global}
use Rattle.gp_log.specs.Contents.{entries, tables}
use Rattle.gp_machine.specs.Entries.{transactions_in}
use Rattle.gp_serial.specs.declared.anomaly.Anomaly.{Anomaly}
use Rattle.gp_serial.specs.Anomalies as s
use Rattle.gp_serial.specs.AnomalyViews.{anomaly_view}
use Rattle.gp_serial.specs.Changes.{change_view}
use Rattle.gp_serial.specs.NameForms.{AreByTransaction, changes_at, facts_of, is_by}
use Rattle.gp_serial.specs.PathForms.{numbers_of}
use Rattle.gp_serial.proofs.AnomalyLemmas.{lists_whole}
use Rattle.gp_serial.proofs.NameLemmas.{facts_are, lists_made}
use Rattle.gp_serial.proofs.anomalies.told_by.Goals as goal

pub told-requires-clause-made : goal.told-requires-clause-made
told-requires-clause-made c =
    let log = entries c.args.log.now in
    let changes = c.args.changes.now in
    let most : transactions_in log < c.transactions.result + 1 = omega (arith, c.transactions.ensures) in
    lists_made (tables c.args.log.now) log changes c.requires.made c.deref.result.now
    (lists_whole log c.requires.sessions changes c.deref.result.now (c.transactions.result + 1) c.requires.made most
    (subst (AreByTransaction changes (c.transactions.result + 1)) (sym c.deref.ensures.value) c.in_ok-lists.ensures))

pub returns : goal.returns
returns c =
    let all = tables c.args.log.now in
    let log = entries c.args.log.now in
    let changes = c.args.changes.now in
    let lists = c.deref.result.now in
    let cycles = numbers_of c.args.cycles.now.keys in
    let most : transactions_in log < c.transactions.result + 1 = omega (arith, c.transactions.ensures) in
    let whole : (t : ℕ) → changes_at lists t ≡ filter (is_by t) changes =
    lists_whole log c.requires.sessions changes lists (c.transactions.result + 1) c.requires.made most
    (subst (AreByTransaction changes (c.transactions.result + 1)) (sym c.deref.ensures.value) c.in_ok-lists.ensures) in
    IfOk-weaker c.told.result (λ (found : Vec Anomaly Global). map anomaly_view found.items ≡ map (s.anomaly_of (facts_of all log lists)) cycles)
    (λ (found : Vec Anomaly Global). map anomaly_view found.items ≡ map (s.anomaly_of (s.facts all log (map change_view changes))) cycles)
    (λ found is. is ∙ ap (λ (own : s.Facts). map (s.anomaly_of own) cycles) (facts_are all log changes c.requires.made lists whole)) c.told.ensures
