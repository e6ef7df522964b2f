use Rattle.std.proofs.Common.{IsSomeAnd, slice_get, ◌≡◌, List, subst}
use Rattle.gp_versions.specs.declared.columns.ColumnIndex.{ColumnIndex}
use Rattle.gp_versions.proofs.ColumnLemmas.{index-entered}
use Rattle.gp_versions.proofs.columns.enter_column.Goals as goal

pub returns : goal.returns
returns c =
    let has = subst (λ (list : List ColumnIndex). IsSomeAnd (slice_get list c.in-Some.place) (λ (index : ColumnIndex). index.column ≡ c.args.column)) c.deref.ensures.value c.in-Some.ensures in
    index-entered c.args.indexes.now.items c.args.spans.now c.in-Some.place c.args.column c.index_mut.result.now c.enter.new.self c.index_mut.ensures.value has c.requires c.enter.ensures.chained
