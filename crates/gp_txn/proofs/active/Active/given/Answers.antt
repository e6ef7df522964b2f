use Rattle.std.proofs.Common.{true, false, length, ap, sym, ◌∙◌}
use Rattle.gp_txn.specs.Inserting.{are_many}
use Rattle.gp_txn.specs.Transactions.{view_at, writes_at}
use Rattle.gp_txn.proofs.InsertLemmas.{given-small, given-length, given-new, not-is}
use Rattle.gp_txn.proofs.OwnLemmas.{own-inserted}
use Rattle.gp_txn.proofs.active.Active.given.Goals as goal

pub returns-then-not-has_room-clause-rows : goal.returns-then-not-has_room-clause-rows
returns-then-not-has_room-clause-rows c =
    ap (are_many (length (view_at c.args.self.now.tables c.args.versions.now c.args.version c.args.table))) (given-length c.args.self.now.t c.args.k 1 c.args.rows.now)
    ∙ not-is _ false (sym c.in_ok-has_room.ensures ∙ c.if-not-has_room.true)

pub returns-clause-own : goal.returns-clause-own
returns-clause-own c =
    own-inserted c.args.self.now.t c.args.self.now.last c.args.k (writes_at c.args.table c.args.self.now.tables).own c.in_ok-given_rows.field-0 c.requires.later
    (c.t.ensures.own c.args.table).own
    (given-new c.args.self.now.t c.args.k c.args.rows.now c.in_ok-given_rows.field-0 (rw c.t.ensures.t at c.in_ok-given_rows.ensures))

pub returns-clause-rows : goal.returns-clause-rows
returns-clause-rows c = (
  ap (are_many (length (view_at c.args.self.now.tables c.args.versions.now c.args.version c.args.table))) (given-length c.args.self.now.t c.args.k 1 c.args.rows.now)
      ∙ not-is _ true (sym c.in_ok-has_room.ensures ∙ c.if-not-has_room.false),
  rw c.t.ensures.t at c.in_ok-given_rows.ensures,
  given-small c.args.self.now.t c.args.k 1 c.args.rows.now,
)
