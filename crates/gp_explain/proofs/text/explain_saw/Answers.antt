use Rattle.gp_explain.proofs.Prelude.{ℕ, false, subst, sym, PlainProgram, tables_in, merged_at, Explains, IsShaped}
use Rattle.std.proofs.Common.{Global, Vec}
use Rattle.gp_algebra.specs.Views.{select_view}
use Rattle.gp_compose.specs.Seen.{saw_refusal}
use Rattle.gp_grammar.specs.Syntax as y
use Rattle.gp_log.specs.Logs.{log_view}
use Rattle.gp_explain.proofs.ComposedShapes.{seen_shaped}
use Rattle.gp_explain.proofs.ExplainLemmas.{explains_by, explains_what}
use Rattle.gp_explain.proofs.MeaningLemmas.{spelled_saw}
use Rattle.gp_explain.proofs.text.explain_saw.Goals as goal

pub written-requires : goal.written-requires
written-requires c =
    let entries = log_view c.args.log.now.entries in
    let planned = c.in_ok-program.ensures in
    subst (λ (program : PlainProgram). IsShaped (tables_in entries) program) (sym planned.1)
    (record { shaped = λ are. seen_shaped entries are.named c.requires.statements (select_view c.args.select.now) c.requires.fits c.args.t c.args.k planned.0 })

pub returns-clause-text : goal.returns-clause-text
returns-clause-text c =
    let entries = log_view c.args.log.now.entries in
    let planned = c.in_ok-program.ensures in
    explains_by (λ (text : Vec ℕ Global). text.items) c.written.result (saw_refusal c.args.t c.args.k entries) (tables_in entries) _ _ planned.0 planned.1 c.written.ensures

pub returns-clause-meaning : goal.returns-clause-meaning
returns-clause-meaning c =
    let entries = log_view c.args.log.now.entries in
    let select = select_view c.args.select.now in
    let planned = c.in_ok-program.ensures in
    explains_what (λ (text : Vec ℕ Global). text.items) (Explains entries (y.after c.args.t c.args.k) select false) c.written.result (saw_refusal c.args.t c.args.k entries) (tables_in entries)
    (merged_at false entries (y.after c.args.t c.args.k) select)
    (λ text spells. spelled_saw entries select c.requires.statements c.requires.fits c.args.t c.args.k planned.0 text spells)
    (explains_by (λ (text : Vec ℕ Global). text.items) c.written.result (saw_refusal c.args.t c.args.k entries) (tables_in entries) _ _ planned.0 planned.1 c.written.ensures)
