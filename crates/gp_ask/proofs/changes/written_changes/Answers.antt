use Rattle.std.proofs.Common.{◌≡◌, ◌∙◌, ◌-◌, ◌<◌, ℕ, suc, true, Err, Global, List, [], Ok, Option, Some, Vec, ap, length, subst, sym, arith}
use Rattle.std.specs.List.{slice_get}
use Rattle.std.specs.Option.{option_map_or}
use Rattle.gp_algebra.specs.Fitting.{statement_fits}
use Rattle.gp_algebra.specs.Statements.{Statement}
use Rattle.gp_algebra.specs.Views.{statement_view}
use Rattle.gp_base.specs.declared.row.Row.{Row}
use Rattle.gp_base.specs.declared.table.Table.{Table}
use Rattle.gp_dump.specs.Views.{tables_view}
use Rattle.gp_log.specs.LogFacts.{tables_in}
use Rattle.gp_log.specs.LogFitting.{statements_fit}
use Rattle.gp_log.specs.Logs.{log_view}
use Rattle.gp_log.specs.Parameters.{parameters}
use Rattle.gp_machine.specs.Entries.{Entry, statement_at}
use Rattle.gp_reenact.proofs.HeldLemmas.{FitsIfSome, logged_fits}
use Rattle.gp_reenact.specs.LookingForms.{Looks, looked_answer}
use Rattle.gp_reenact.specs.Reenacting.{spans_of}
use Rattle.gp_base.specs.declared.stop.Stop.TheVariants as stop
use Rattle.gp_versions.specs.declared.span.Span.{Span}
use Rattle.gp_ask.specs.declared.answered.Answered.TheVariants.{Lines, Refused}
use Rattle.gp_ask.specs.declared.answered.Heading.TheVariants.{Changes}
use Rattle.gp_ask.specs.Keyed.{shown_texts}
use Rattle.gp_ask.proofs.ChangesLemmas.{found-is, refused-is, sets-simple, writes-target}
use Rattle.gp_ask.proofs.ProvenanceLemmas.{sound-versions}
use Rattle.gp_ask.proofs.ReenactedLemmas.{dump-spans}
use Rattle.gp_ask.proofs.changes.written_changes.Goals as goal
use Rattle.gp_compose.proofs.PartsLemmas.{target-there}

pub looked-requires-clause-statement : goal.looked-requires-clause-statement
looked-requires-clause-statement c =
    let first = c.requires.first in
    let most = c.requires.most in
    let next : c.args.k ≡ suc (c.args.k - 1) = omega arith in
    record {
      known = c.requires.known;
      most = omega arith;
      here = subst (λ n. statement_at c.args.t n (log_view c.args.dump.now.log.entries) ≡ Some (statement_view c.args.stmt.now)) next c.requires.here;
      statements = c.args.dump.now.answerable.statements;
    }

pub looked-requires-clause-writes : goal.looked-requires-clause-writes
looked-requires-clause-writes c = writes-target (statement_view c.args.stmt.now) c.args.table c.requires.target

pub looked-requires-clause-spans : goal.looked-requires-clause-spans
looked-requires-clause-spans c = (sound-versions c.args.dump.now c.as_slice.result.now c.as_slice.ensures).spans

-- the statement fits the tables
fits : (entries : List Entry) (t k : ℕ) (statement : Statement) → statements_fit (tables_in entries) entries ≡ true → statement_at t k entries ≡ Some statement
    → statement_fits (tables_in entries) statement ≡ true
fits entries t k statement all here = subst (FitsIfSome (tables_in entries)) here (logged_fits (tables_in entries) t k entries all)

pub table-requires : goal.table-requires
table-requires c =
    let entries = log_view c.args.dump.now.log.entries in
    let statement = statement_view c.args.stmt.now in
    subst (λ (tables : List Table). c.args.table < length tables) (sym c.catalog.ensures)
    (target-there (tables_in entries) statement c.args.table (fits entries c.args.t c.args.k statement c.args.dump.now.answerable.statements c.requires.here) c.requires.target)

pub shown_lines-requires : goal.shown_lines-requires
shown_lines-requires c =
    let entries = log_view c.args.dump.now.log.entries in
    let statement = statement_view c.args.stmt.now in
    record { fits = sets-simple (tables_in entries) statement (fits entries c.args.t c.args.k statement c.args.dump.now.answerable.statements c.requires.here) }

pub returns-in_ok-lines-in-Ok : goal.returns-in_ok-lines-in-Ok
returns-in_ok-lines-in-Ok c =
    let dump = c.args.dump.now in
    let entries = log_view dump.log.entries in
    let statement = statement_view c.args.stmt.now in
    let name = c.table.result.now.name in
    let there : slice_get (tables_in entries) c.args.table ≡ Some c.table.result.now = subst (λ (tables : List Table). slice_get tables c.args.table ≡ Some c.table.result.now) c.catalog.ensures c.table.ensures in
    let looks = subst (λ (spans : ℕ → List Span). Looks (λ (rows : Vec Row Global). rows.items) (Ok c.in-Ok.rows) (looked_answer parameters entries spans c.args.t (c.args.k - 1) statement))
    (ap spans_of c.as_slice.ensures ∙ dump-spans dump.versions) c.in-Ok.ensures in
    ap (Lines Changes) (c.in_ok-lines-in-Ok.ensures ∙ ap (shown_texts name c.args.t c.args.k statement) c.deref.ensures.value)
    ∙ found-is entries (tables_view dump.versions) c.args.t c.args.k c.requires.first statement c.args.table c.requires.target (λ (rows : Vec Row Global). rows.items) c.in-Ok.rows name
    (sym (ap (λ (found : Option Table). option_map_or (λ (table : Table). table.name) found []) there)) looks

pub returns-in-Err-Refused : goal.returns-in-Err-Refused
returns-in-Err-Refused c =
    let dump = c.args.dump.now in
    let entries = log_view dump.log.entries in
    let statement = statement_view c.args.stmt.now in
    let refusal = c.in-Err-Refused.refusal in
    ap Refused c.in-Err-Refused.refusal-is
    ∙ refused-is entries (tables_view dump.versions) c.args.t c.args.k c.requires.first statement c.args.table c.requires.target (λ (rows : Vec Row Global). rows.items) refusal
    (subst (λ (spans : ℕ → List Span). Looks (λ (rows : Vec Row Global). rows.items) (Err (stop.Refused refusal)) (looked_answer parameters entries spans c.args.t (c.args.k - 1) statement))
    (ap spans_of c.as_slice.ensures ∙ dump-spans dump.versions) (rw c.in-Err-Refused.field-0-is at c.in-Err-Refused.ensures))
