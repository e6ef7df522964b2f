use Rattle.std.proofs.Common.{◌≡◌, ◌+◌, ◌∙◌, suc, List, length, sym, ap, subst, arith}
use Rattle.std.specs.Prelude.{Option, Some}
use Rattle.std.proofs.lemmas.Result.{on_ok_weaker}
use Rattle.gp_base.specs.declared.table.Table.{Table}
use Rattle.gp_algebra.specs.Statements.{width_of}
use Rattle.gp_algebra.specs.Statements.{Statement}
use Rattle.gp_algebra.specs.Views.{statement_view}
use Rattle.gp_machine.specs.Entries.{log_of, statement_at, statement_version}
use Rattle.gp_log.specs.LogFacts.{tables_in}
use Rattle.gp_log.specs.Logs.{entry_view, log_view}
use Rattle.gp_compose.specs.Composition.{IsComposed, IsMoved, own_statement, ran_more}
use Rattle.gp_compose.specs.Views.{parts_view}
use Rattle.gp_compose.proofs.steps.Parts.pass.Goals as goal

pub returns-in_ok-move_to-in-Some : goal.returns-in_ok-move_to-in-Some
returns-in_ok-move_to-in-Some c =
    let old = c.args.self.now in
    let entries = log_view c.args.log.now.entries in
    let log = log_of entries in
    let tables = tables_in entries in
    let t = c.args.t in
    let statement = statement_view c.in-Some.stmt.now in
    let next : old.ran + 1 ≡ suc old.ran = omega arith in
    let found : own_statement t (entry_view c.args.entry.now) ≡ Some statement = sym c.in-Some.ensures in
    let here : statement_at t (suc old.ran) entries ≡ Some statement = c.requires.here statement found in
    let now : c.version_read_by-now.result ≡ statement_version t (suc old.ran) entries = c.version_read_by-now.ensures ∙ ap (λ k. statement_version t k entries) next in
    let moved : IsMoved (width_of tables) log t old.ran (length tables) (parts_view c.move_to.new.self) =
    c.in_ok-move_to-in-Some.ensures.moved (width_of tables) log t (length tables) now c.requires.composed in
    let ran : c.move_to.new.self.ran ≡ old.ran = c.in_ok-move_to-in-Some.ensures.ran in
    on_ok_weaker c.add.result
    (λ adds.
    subst (λ k. IsComposed (width_of tables) log t k (length tables) (parts_view c.add.new.self)) (ap suc ran ∙ ap (λ (o : Option Statement). ran_more o old.ran) (sym found))
    (subst (λ (list : List Table). IsComposed (width_of list) log t (suc c.move_to.new.self.ran) (length list) (parts_view c.add.new.self)) c.catalog.ensures
    (adds log (ap (λ k. statement_at t (suc k) entries) ran ∙ here)
    (subst (λ (list : List Table). IsMoved (width_of list) log t c.move_to.new.self.ran (length list) (parts_view c.move_to.new.self)) (sym c.catalog.ensures)
    (subst (λ k. IsMoved (width_of tables) log t k (length tables) (parts_view c.move_to.new.self)) (sym ran) moved)))))
    c.add.ensures
