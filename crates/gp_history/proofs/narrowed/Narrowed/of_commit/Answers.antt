use Rattle.std.proofs.Common.{List, ap, arith, length, map, subst, suc, sym, ℕ, [], ◌+◌, ◌++◌, ◌≤◌, ◌∙◌, ◌∷◌, ◌≡◌}
use Rattle.std.specs.Prelude.{IfSome, slice_get, slice_index_or}
use Rattle.gp_algebra.specs.Views.{statement_view}
use Rattle.gp_log.specs.LogFacts.{tables_in}
use Rattle.gp_log.specs.Logs.{log_view}
use Rattle.gp_machine.specs.Entries.{log_of}
use Rattle.gp_reenact.specs.Reenacting.{spans_of}
use Rattle.gp_versions.specs.declared.span.Span.{Span}
use Rattle.gp_versions.specs.Finding.{IsFinder}
use Rattle.gp_history.specs.Narrowing.{IsPart, part_annotations, part_spans}
use Rattle.gp_history.specs.declared.narrowed.Part.{Part}
use Rattle.gp_history.proofs.NarrowedLemmas.{ArePartly, partly_all, partly_more}
use Rattle.gp_history.proofs.ReachLemmas.{part_next, parts_end, tests_simple}
use Rattle.gp_history.proofs.SeekingLemmas.{finder-at}
use Rattle.gp_history.proofs.narrowed.Narrowed.of_commit.Goals as goal

pub narrow-requires-clause-each : goal.narrow-requires-clause-each
narrow-requires-clause-each g c = ap length c.annotations.ensures ∙ c.requires.known c.loop-table.table ∙ sym (ap length c.spans_in.ensures.spans)

pub narrow-requires-clause-simple : goal.narrow-requires-clause-simple
narrow-requires-clause-simple g c =
    let entries = log_view c.args.log.now.entries in
    tests_simple entries c.args.t (map (λ stmt. statement_view stmt.now) c.args.statements.now) c.requires.statements (tables_in entries) c.requires.sound.statements

pub narrow-requires-clause-finder : goal.narrow-requires-clause-finder
narrow-requires-clause-finder g c =
    subst (λ (spans : List Span). IfSome (slice_get c.args.finders.now c.loop-table.table) (IsFinder spans)) (sym c.spans_in.ensures.spans)
    (finder-at (spans_of c.args.versions.now) c.args.finders.now c.loop-table.table c.requires.finders)

pub loop-table-preserved : goal.loop-table-preserved
loop-table-preserved g c =
    let entries = log_view c.args.log.now.entries in
    let versions = c.args.versions.now in
    let table = c.loop-table.table in
    let part = c.in_ok-part.part in
    let less = c.room-most.result in
    let next : suc table ≡ table + 1 = omega arith in
    let own : IsPart (log_of entries) c.args.t c.args.before less table (spans_of versions table) (slice_index_or c.args.known.now table []) (part_spans part) (part_annotations part) =
    subst (λ (spans : List Span). IsPart (log_of entries) c.args.t c.args.before less table spans (slice_index_or c.args.known.now table []) (part_spans part) (part_annotations part)) c.spans_in.ensures.spans
    (subst (λ (annotations : List g.row.A.Denot). IsPart (log_of entries) c.args.t c.args.before less table c.spans_in.result.now annotations (part_spans part) (part_annotations part)) c.annotations.ensures
    (part_next entries c.args.t (map (λ stmt. statement_view stmt.now) c.args.statements.now) c.requires.statements
    c.args.before table less c.spans_in.result.now c.annotations.result.now c.reach_of-reach.result part c.insert_into.result c.reach_of-reach.ensures c.in_ok-part.ensures c.insert_into.ensures c.room-most.ensures.room c.spans_in.ensures.apart c.spans_in.ensures.whole)) in
    subst (λ (parts : List (Part g.row.A.Denot)). ArePartly (log_of entries) c.args.t c.args.before (spans_of versions) c.args.known.now (table + 1) less parts) (sym c.in_ok-push.ensures.items)
    (subst (λ (n : ℕ). ArePartly (log_of entries) c.args.t c.args.before (spans_of versions) c.args.known.now n less (c.loop-table.parts.items ++ part ∷ [])) next
    (partly_more (log_of entries) c.args.t c.args.before (spans_of versions) c.args.known.now table c.loop-table.most less c.loop-table.parts.items part c.room-most.ensures.less own c.loop-table.invariant))

pub returns : goal.returns
returns g c =
    let entries = log_view c.args.log.now.entries in
    let versions = c.args.versions.now in
    let few : length versions ≤ c.loop-table.table =
    omega (arith, c.loop-table-test.false, c.loop-table.auto.table-end, c.len-table-end.ensures.len, ap length c.catalog.ensures, c.requires.sound.tables) in
    partly_all (log_of entries) c.args.t c.args.before (spans_of versions) c.args.known.now c.loop-table.table (record { parts = c.loop-table.parts; none = c.new.result; most = c.loop-table.most }) c.loop-table.invariant
    c.new.ensures.spans c.new.ensures.annotations (parts_end versions c.loop-table.parts.items c.loop-table.table c.loop-table.invariant.many few)
