use Rattle.std.proofs.Common.{◌≡◌, ◌<◌, ◌≤◌, length, refl, ap, slice_set, sym, ◌∙◌, subst, arith}
use Rattle.std.proofs.lemmas.List.{get_or_read_under, length-set}
use Rattle.gp_base.specs.declared.catalog.TheConstants.{MAX_TABLES}
use Rattle.gp_txn.specs.Changes.{change_view}
use Rattle.gp_txn.specs.Overlay.{no_writes, overlay_of, rows_below, view_rows}
use Rattle.gp_txn.specs.Rebasing.{or_writes, writes_over}
use Rattle.gp_txn.specs.declared.overlay.TableWrites.{TableWrites}
use Rattle.gp_txn.specs.Slots.{changed_table, count_touched, put_table}
use Rattle.gp_txn.specs.Transactions.{KeepsOwn, Writes, writes_at}
use Rattle.gp_txn.proofs.AppliedLemmas.{keeps-set}
use Rattle.gp_txn.proofs.OwnLemmas.{keeps-changed}
use Rattle.gp_txn.proofs.RebaseLemmas.{keeps-over, moved-is}
use Rattle.gp_txn.proofs.active.Active.change_rows.Goals as goal

pub invariant_of-self-2 : goal.invariant_of-self-2
invariant_of-self-2 c =
    let old = c.args.self.now in
    let inside = c.self.inside in
    let change = change_view c.args.change.now in
    let spans = c.args.spans.now in
    let table = writes_at c.args.table old.tables in
    let count : length inside.tables ≡ MAX_TABLES = c.self.invariant.0 in
    let within : c.args.table < length inside.tables = omega (arith, c.requires.table, count) in
    let later : inside.last ≤ c.args.k = subst (λ (w : Writes). w.last ≤ c.args.k) (sym c.self.view_is) c.requires.later in
    let before : c.index-self-table.result ≡ table =
    get_or_read_under inside.tables c.args.table (length inside.tables) c.index-self-table.result (no_writes 0) c.index-self-table.is within refl ∙ ap (λ (w : Writes). writes_at c.args.table w.tables) c.self.view_is in
    let is = rw c.writes.ensures.writes at c.in_ok-moved.ensures.moved in
    let own = rw c.writes.ensures.writes at c.writes.ensures.own in
    let moved : or_writes c.in_ok-moved.moved table ≡ writes_over c.args.version spans table = moved-is c.args.version table spans c.in_ok-moved.moved is in
    let now : c.change_over.new.writes ≡ changed_table change spans (writes_over c.args.version spans table) =
    c.in_ok-count.ensures.exact ∙ ap (λ (w : TableWrites). changed_table change spans (or_writes c.in_ok-moved.moved w)) (sym c.index-self-table.is ∙ before) ∙ ap (changed_table change spans) moved in
    let keeps : KeepsOwn old.t c.args.k c.change_over.new.writes =
    subst (KeepsOwn old.t c.args.k) (sym now) (keeps-changed old.t old.last c.args.k change spans (writes_over c.args.version spans table) c.requires.later (keeps-over c.args.version table spans old.t old.last c.requires.apart c.requires.others own)) in (
      length-set inside.tables c.args.table c.change_over.new.writes ∙ count,
      keeps-set inside.t inside.last c.args.k c.args.table inside.tables c.change_over.new.writes within later c.self.invariant.1 (rw (sym c.self.view_is) at keeps),
    )

pub returns-clause-ok : goal.returns-clause-ok
returns-clause-ok c =
    let old = c.args.self.now in
    let inside = c.self.inside in
    let change = change_view c.args.change.now in
    let spans = c.args.spans.now in
    let table = writes_at c.args.table old.tables in
    let count : length inside.tables ≡ MAX_TABLES = c.self.invariant.0 in
    let within : c.args.table < length inside.tables = omega (arith, c.requires.table, count) in
    let before : c.index-self-table.result ≡ table =
    get_or_read_under inside.tables c.args.table (length inside.tables) c.index-self-table.result (no_writes 0) c.index-self-table.is within refl ∙ ap (λ (w : Writes). writes_at c.args.table w.tables) c.self.view_is in
    let is = rw c.writes.ensures.writes at c.in_ok-moved.ensures.moved in
    let now : c.change_over.new.writes ≡ changed_table change spans (writes_over c.args.version spans table) =
    c.in_ok-count.ensures.exact ∙ ap (λ (w : TableWrites). changed_table change spans (or_writes c.in_ok-moved.moved w)) (sym c.index-self-table.is ∙ before)
    ∙ ap (changed_table change spans) (moved-is c.args.version table spans c.in_ok-moved.moved is) in
    ap (λ (w : Writes). record { t = w.t; read_committed = w.read_committed; begin = w.begin; last = c.args.k; tables = slice_set w.tables c.args.table c.change_over.new.writes }) c.self.view_is
    ∙ ap (λ (new : TableWrites). put_table c.args.k c.args.table new old) now

pub returns-clause-count : goal.returns-clause-count
returns-clause-count c =
    let old = c.args.self.now in
    let inside = c.self.inside in
    let change = change_view c.args.change.now in
    let spans = c.args.spans.now in
    let table = writes_at c.args.table old.tables in
    let count : length inside.tables ≡ MAX_TABLES = c.self.invariant.0 in
    let within : c.args.table < length inside.tables = omega (arith, c.requires.table, count) in
    let before : c.index-self-table.result ≡ table =
    get_or_read_under inside.tables c.args.table (length inside.tables) c.index-self-table.result (no_writes 0) c.index-self-table.is within refl ∙ ap (λ (w : Writes). writes_at c.args.table w.tables) c.self.view_is in
    c.in_ok-count.ensures.count
    ∙ ap (λ (w : TableWrites). count_touched change (view_rows (overlay_of spans (or_writes c.in_ok-moved.moved w)) (rows_below (overlay_of spans (or_writes c.in_ok-moved.moved w)) spans))) (sym c.index-self-table.is ∙ before)
    ∙ ap (count_touched change) (rw c.writes.ensures.writes at c.in_ok-moved.ensures.view)
