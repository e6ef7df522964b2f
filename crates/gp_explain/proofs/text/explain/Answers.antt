use Rattle.gp_explain.proofs.Prelude.{ℕ, subst, sym, PlainProgram, tables_in, log_refusal, merged_at, Explains, IsShaped}
use Rattle.std.proofs.Common.{Global, Vec}
use Rattle.gp_syntax.specs.Views.{point_view}
use Rattle.gp_algebra.specs.Views.{select_view}
use Rattle.gp_log.specs.Logs.{log_view}
use Rattle.gp_explain.proofs.ComposedShapes.{merged_at_shaped}
use Rattle.gp_explain.proofs.ExplainLemmas.{explains_by, explains_what}
use Rattle.gp_explain.proofs.MeaningLemmas.{spelled_explains}
use Rattle.gp_explain.proofs.text.explain.Goals as goal

pub written-requires : goal.written-requires
written-requires c =
    let entries = log_view c.args.log.now.entries in
    let planned = c.in_ok-program.ensures in
    subst (λ (program : PlainProgram). IsShaped (tables_in entries) program) (sym planned.1)
    (record { shaped = λ are. merged_at_shaped entries are.named c.requires.statements c.args.with_prov (select_view c.args.select.now) c.requires.fits (point_view c.args.state) planned.0 })

pub returns-clause-text : goal.returns-clause-text
returns-clause-text c =
    let entries = log_view c.args.log.now.entries in
    let planned = c.in_ok-program.ensures in
    explains_by (λ (text : Vec ℕ Global). text.items) c.written.result (log_refusal entries (point_view c.args.state)) (tables_in entries) _ _ planned.0 planned.1 c.written.ensures

pub returns-clause-meaning : goal.returns-clause-meaning
returns-clause-meaning c =
    let entries = log_view c.args.log.now.entries in
    let select = select_view c.args.select.now in
    let planned = c.in_ok-program.ensures in
    explains_what (λ (text : Vec ℕ Global). text.items) (Explains entries (point_view c.args.state) select c.args.with_prov) c.written.result (log_refusal entries (point_view c.args.state)) (tables_in entries)
    (merged_at c.args.with_prov entries (point_view c.args.state) select)
    (λ text spells. spelled_explains entries select c.requires.statements c.requires.fits (point_view c.args.state) c.args.with_prov planned.0 text spells)
    (explains_by (λ (text : Vec ℕ Global). text.items) c.written.result (log_refusal entries (point_view c.args.state)) (tables_in entries) _ _ planned.0 planned.1 c.written.ensures)
