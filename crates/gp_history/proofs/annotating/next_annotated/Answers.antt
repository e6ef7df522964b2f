use Rattle.std.proofs.Common.{List, Option, [], arith, length, subst, suc, ℕ, ◌+◌, ◌≡◌, ◌≤◌}
use Rattle.std.specs.Prelude.{slice_get, slice_index_or}
use Rattle.std.specs.BTreeMap.{BTreeMap}
use Rattle.gp_base.specs.Identities.{Identity}
use Rattle.gp_log.specs.Logs.{log_view}
use Rattle.gp_machine.specs.Entries.{log_of}
use Rattle.gp_reenact.specs.Reenacting.{spans_of}
use Rattle.gp_history.specs.Changes.{renewed_by}
use Rattle.gp_history.proofs.SpanLemmas.{next_are}
use Rattle.gp_history.proofs.StartLemmas.{beyond, ended}
use Rattle.gp_history.proofs.annotating.next_annotated.Goals as goal

pub returns : goal.returns
returns g c =
    let domain = g.N.Annotator.domain c.args.annotator.now in
    let entries = log_view c.args.log.now.entries in
    let versions = c.args.versions.now in
    let spans = spans_of versions in
    let changes = c.in_ok-changes.changes.items in
    let new = c.in_ok-renewed.field-0 in
    let next : c.args.before + 1 ≡ suc c.args.before = omega arith in
    let told = c.in_ok-changes.ensures in
    let renews =
    subst (λ (n : ℕ). (table : ℕ) → slice_index_or new table [] ≡ renewed_by domain.one n (slice_get changes table) (spans table) (slice_index_or c.args.known table [])) next
    (subst (λ (given : List (Option (BTreeMap Identity g.row.A.Denot))). (table : ℕ) → slice_index_or new table [] ≡ renewed_by domain.one (c.args.before + 1) (slice_get given table) (spans table) (slice_index_or c.args.known table []))
    c.deref.ensures.value c.in_ok-renewed.ensures) in (
      told.0,
      next_are domain (log_of entries) spans c.args.before changes c.args.known new told.1.each
          (λ table none. let few : length changes ≤ table = ended changes table none in let many = told.1.many in beyond entries versions c.requires.sound table (omega arith))
          c.requires.known renews,
    )
