use Rattle.std.proofs.Common.{◌++◌, List, map}
use Rattle.gp_base.specs.declared.stored.Stored.{Stored}
use Rattle.gp_base.specs.Annotated.{unannotated}
use Rattle.gp_algebra.specs.Answers.{answer}
use Rattle.gp_algebra.specs.Effects.{made}
use Rattle.gp_algebra.specs.Views.{select_view}
use Rattle.gp_txn.specs.Transactions.{AreOwn, view_at, writes_at}
use Rattle.gp_txn.proofs.InsertLemmas.{made-new, when-made}
use Rattle.gp_txn.proofs.OwnLemmas.{own-inserted}
use Rattle.gp_txn.proofs.active.Active.made_within.Goals as goal

pub returns-clause-own : goal.returns-clause-own
returns-clause-own c =
    let t = c.args.self.now.t in
    let select = select_view c.args.select.now in
    let own = (writes_at c.args.table c.args.self.now.tables).own in
    let rows = rw (c.t.ensures.t, c.in_ok-chosen.ensures.rows.0) at c.made_rows.ensures in
    when-made (λ (new : List Stored). AreOwn t c.args.k (own ++ new)) c.made_rows.result (map (made unannotated t c.args.k) (answer unannotated select (view_at c.args.self.now.tables c.args.versions.now c.args.version))) rows
    (λ new are. own-inserted t c.args.self.now.last c.args.k own new c.requires.later (c.t.ensures.own c.args.table).own
    (made-new c.args.k c.args.version select c.args.self.now c.args.versions.now new c.t.ensures.own c.requires.others c.in_ok-chosen.ensures.apart are))
