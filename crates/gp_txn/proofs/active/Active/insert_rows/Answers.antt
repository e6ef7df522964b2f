use Rattle.std.proofs.Common.{◌≡◌, ◌<◌, ◌≤◌, length, refl, ap, slice_set, sym, ◌∙◌, subst, arith}
use Rattle.std.proofs.lemmas.List.{get_or_read_under, length-set}
use Rattle.gp_base.specs.declared.catalog.TheConstants.{MAX_TABLES}
use Rattle.gp_txn.specs.Overlay.{no_writes}
use Rattle.gp_txn.specs.declared.overlay.TableWrites.{TableWrites}
use Rattle.gp_txn.specs.Slots.{put_table}
use Rattle.gp_txn.specs.Transactions.{Writes, writes_at}
use Rattle.gp_txn.proofs.AppliedLemmas.{inserted-is, inserted-keeps, keeps-set}
use Rattle.gp_txn.proofs.active.Active.insert_rows.Goals as goal

pub invariant_of-self-2 : goal.invariant_of-self-2
invariant_of-self-2 c =
    let old = c.args.self.now in
    let inside = c.self.inside in
    let count : length inside.tables ≡ MAX_TABLES = c.self.invariant.0 in
    let within : c.args.table < length inside.tables = omega (arith, c.requires.table, count) in
    let later : inside.last ≤ c.args.k = subst (λ (w : Writes). w.last ≤ c.args.k) (sym c.self.view_is) c.requires.later in
    let before : c.index-self-table.result ≡ writes_at c.args.table old.tables =
    get_or_read_under inside.tables c.args.table (length inside.tables) c.index-self-table.result (no_writes 0) c.index-self-table.is within refl ∙ ap (λ (w : Writes). writes_at c.args.table w.tables) c.self.view_is in
    let is = rw c.writes.ensures.writes at c.in_ok-moved.ensures.moved in
    let own = rw c.writes.ensures.writes at c.writes.ensures.own in
    let keeps = inserted-keeps old.t old.last c.args.k c.args.version (writes_at c.args.table old.tables) _ c.append_own.new.writes c.in_ok-moved.moved c.args.spans.now c.args.new c.requires.later c.requires.apart c.requires.others own is
    (sym c.index-self-table.is ∙ before) c.in_ok-append_own.ensures.ok c.requires.own in (
      length-set inside.tables c.args.table c.append_own.new.writes ∙ count,
      keeps-set inside.t inside.last c.args.k c.args.table inside.tables c.append_own.new.writes within later c.self.invariant.1 (rw (sym c.self.view_is) at keeps),
    )

pub returns-clause-ok : goal.returns-clause-ok
returns-clause-ok c =
    let old = c.args.self.now in
    let inside = c.self.inside in
    let count : length inside.tables ≡ MAX_TABLES = c.self.invariant.0 in
    let within : c.args.table < length inside.tables = omega (arith, c.requires.table, count) in
    let before : c.index-self-table.result ≡ writes_at c.args.table old.tables =
    get_or_read_under inside.tables c.args.table (length inside.tables) c.index-self-table.result (no_writes 0) c.index-self-table.is within refl ∙ ap (λ (w : Writes). writes_at c.args.table w.tables) c.self.view_is in
    let is = rw c.writes.ensures.writes at c.in_ok-moved.ensures.moved in
    ap (λ (w : Writes). record { t = w.t; read_committed = w.read_committed; begin = w.begin; last = c.args.k; tables = slice_set w.tables c.args.table c.append_own.new.writes }) c.self.view_is
    ∙ ap (λ (table : TableWrites). put_table c.args.k c.args.table table old)
    (inserted-is c.args.version (writes_at c.args.table old.tables) _ c.append_own.new.writes c.in_ok-moved.moved c.args.spans.now c.args.new is (sym c.index-self-table.is ∙ before) c.in_ok-append_own.ensures.ok)
