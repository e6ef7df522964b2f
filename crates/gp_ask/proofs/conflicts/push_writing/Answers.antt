use Rattle.std.proofs.Common.{◌≡◌, ◌∙◌, ◌++◌, [], List, Option, Some, ap, false, length, map, subst, sym}
use Rattle.std.proofs.lemmas.List.{append-nil}
use Rattle.std.specs.BTreeMap.{get}
use Rattle.std.specs.List.{slice_get}
use Rattle.std.specs.Option.{option_map_or}
use Rattle.std.specs.Prelude.{OnOk}
use Rattle.gp_base.specs.declared.table.Table.{Table}
use Rattle.gp_base.specs.Identities.{Identity, identity_cmp}
use Rattle.gp_algebra.specs.Views.{statement_view}
use Rattle.gp_dump.specs.Dumps.{Dump}
use Rattle.gp_dump.specs.Views.{dump_view}
use Rattle.gp_log.specs.LogFacts.{tables_in}
use Rattle.gp_machine.specs.Entries.{statement_version}
use Rattle.gp_machine.specs.Event.{name_at}
use Rattle.gp_reenact.specs.LookingForms.{system_row}
use Rattle.gp_ask.specs.Asking.{table_spans}
use Rattle.gp_ask.specs.ConflictForms as f
use Rattle.gp_ask.specs.Looked.{rows_of}
use Rattle.gp_ask.specs.RowLines.{RowLine, keyed_from}
use Rattle.gp_ask.proofs.MetLemmas.{none-met, rows-unmet}
use Rattle.gp_ask.proofs.conflicts.push_writing.Goals as goal

pub returns-then-not-any_met : goal.returns-then-not-any_met
returns-then-not-any_met c =
    let dump : Dump = dump_view c.args.dump.now in
    let own = c.args.statement.now in
    let statement = statement_view own.stmt.now in
    let old = c.args.lines.now.items in
    let upto = c.args.upto in
    let base = statement_version own.t own.k dump.entries in
    let spans = table_spans dump.tables own.table in
    let none : f.any_met base upto spans ≡ false = (λ i. f.any_met (sym c.version_read_by-base.ensures i) upto (sym c.spans_of-spans.ensures i)) ∙ sym c.any_met.ensures ∙ c.if-not-any_met.true in
    sym (append-nil old)
    ∙ ap (λ (lines : List RowLine). old ++ keyed_from (length old) lines)
    (sym (rows-unmet dump.entries (name_at own.table (tables_in dump.entries)) (λ id. f.met_in base upto id spans) base own.t own.k statement own.table (λ id. none-met base upto id spans none)
    (map system_row (rows_of dump own.t own.k statement))))

pub returns : goal.returns
returns c =
    let dump : Dump = dump_view c.args.dump.now in
    let own = c.args.statement.now in
    let statement = statement_view own.stmt.now in
    let old = c.args.lines.now.items in
    let upto = c.args.upto in
    let base = statement_version own.t own.k dump.entries in
    let spans = table_spans dump.tables own.table in
    let there : slice_get (tables_in dump.entries) own.table ≡ Some c.table.result.now = subst (λ (tables : List Table). slice_get tables own.table ≡ Some c.table.result.now) c.catalog.ensures c.table.ensures in
    let named : c.table.result.now.name ≡ name_at own.table (tables_in dump.entries) = sym (ap (λ (found : Option Table). option_map_or (λ (table : Table). table.name) found []) there) in
    let met : (id : Identity) → get identity_cmp c.in_ok-met.met id ≡ f.met_in base upto id spans = λ id. c.in_ok-met.ensures id ∙ (λ i. f.met_in (c.version_read_by-base.ensures i) upto id (c.spans_of-spans.ensures i)) in
    let rows = c.deref.ensures.value ∙ c.in_ok-rows.ensures in
    let same : f.rows_conflicts dump.entries c.table.result.now.name (get identity_cmp c.in_ok-met.met) c.version_read_by-base.result own.t own.k statement own.table c.deref.result.now
    ≡ f.writing_conflicts dump upto own.t own.k statement own.table =
    (λ i. f.rows_conflicts dump.entries (named i) (λ id. met id i) (c.version_read_by-base.ensures i) own.t own.k statement own.table (rows i)) in
    subst (λ (lines : List RowLine). OnOk c.push_rows.result (c.push_rows.new.lines.items ≡ old ++ keyed_from (length old) lines)) same c.push_rows.ensures
