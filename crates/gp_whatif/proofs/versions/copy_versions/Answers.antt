use Rattle.std.proofs.Common.{List, ap, map, slice_index_or, sym, ◌++◌, ◌∙◌, ◌≡◌}
use Rattle.std.proofs.Math.ListN.{get_or-map}
use Rattle.std.proofs.lemmas.List.{append-nil, drop_all}
use Rattle.gp_txn.specs.Transactions.{no_table}
use Rattle.gp_versions.specs.Spans.{Versions}
use Rattle.gp_versions.specs.declared.span.Span.{Span}
use Rattle.gp_whatif.proofs.versions.copy_versions.Goals as goal

pub returns-clause-spans : goal.returns-clause-spans
returns-clause-spans c = λ place.
    let copies = c.loop-table.copies.items in
    let versions = c.args.versions.now in
    let spans : Versions → List Span = λ table. table.spans in
    let rest : map spans versions ≡ map spans copies =
    sym c.loop-table.invariant ∙ ap (λ (tables : List Versions). map spans copies ++ map spans tables) (drop_all c.loop-table.table-index versions c.loop-table-test.false) ∙ append-nil (map spans copies) in
    sym (get_or-map spans copies place no_table) ∙ ap (λ (all : List (List Span)). slice_index_or all place no_table.spans) (sym rest) ∙ get_or-map spans versions place no_table
