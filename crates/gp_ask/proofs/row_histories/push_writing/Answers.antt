use Rattle.std.proofs.Common.{◌≡◌, ◌∙◌, Bool, List, ap, subst, true}
use Rattle.std.specs.BTreeMap.{get}
use Rattle.std.specs.Option.{is_some}
use Rattle.std.specs.Prelude.{OnOk}
use Rattle.gp_base.specs.Identities.{Identity, identity_cmp}
use Rattle.gp_algebra.specs.Fitting.{statement_fits}
use Rattle.gp_algebra.specs.Views.{statement_view}
use Rattle.gp_dump.specs.Dumps.{Dump}
use Rattle.gp_dump.specs.Views.{dump_view}
use Rattle.gp_log.specs.LogFacts.{tables_in}
use Rattle.gp_reenact.proofs.HeldLemmas.{FitsIfSome, logged_fits}
use Rattle.gp_ask.specs.HistoryForms as f
use Rattle.gp_ask.specs.RowLines.{RowLine}
use Rattle.gp_ask.proofs.ChangesLemmas.{sets-simple}
use Rattle.gp_ask.proofs.HistoryLines.{own-changes}
use Rattle.gp_ask.proofs.row_histories.push_writing.Goals as goal

pub push_rows-requires : goal.push_rows-requires
push_rows-requires c =
    let dump : Dump = dump_view c.args.dump.now in
    let own = c.args.changing.now.own in
    let statement = statement_view own.stmt.now in
    let fits : statement_fits (tables_in dump.entries) statement ≡ true = subst (FitsIfSome (tables_in dump.entries)) c.requires.logged.here (logged_fits (tables_in dump.entries) own.t own.k dump.entries c.args.dump.now.answerable.statements) in
    record { fits = sets-simple (tables_in dump.entries) statement fits }

pub returns : goal.returns
returns c =
    let dump : Dump = dump_view c.args.dump.now in
    let changing = c.args.changing.now in
    let own = changing.own in
    let statement = statement_view own.stmt.now in
    let asked : Identity → Bool = λ (id : Identity). is_some (get identity_cmp changing.asked.now id) in
    let same = ap (f.rows_changes asked changing.version own.t own.k statement own.table) c.deref.ensures.value ∙ c.in_ok-rows.ensures ∙ own-changes dump own.table asked changing.version own.t own.k statement c.requires.logged.target in
    subst (λ (more : List RowLine). OnOk c.push_rows.result (f.Pushes more c.args.lines.now.items c.push_rows.new.lines.items)) same c.push_rows.ensures
