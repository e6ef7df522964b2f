use Rattle.std.proofs.Common.{◌∙◌, List, None, Option, ap, arith, sym}
use Rattle.gp_base.specs.declared.cell.Cell.{Cell}
use Rattle.gp_base.specs.declared.refusal.Refusal.{Refusal}
use Rattle.gp_base.specs.Order.{row_cmp, sorted_by}
use Rattle.gp_dump.specs.Dumps.{Dump}
use Rattle.gp_dump.specs.Views.{dump_view}
use Rattle.gp_log.specs.LogFacts.{tables_in}
use Rattle.gp_machine.specs.Entries.{statement_count}
use Rattle.gp_ask.specs.declared.answered.Answered.TheVariants.{Lines}
use Rattle.gp_ask.specs.declared.answered.Heading.TheVariants.{Conflicts}
use Rattle.gp_ask.specs.ConflictForms as f
use Rattle.gp_ask.specs.RowConflicts as s
use Rattle.gp_ask.specs.RowLines.{first_texts, keyed_from}
use Rattle.gp_ask.specs.Values.{unless_refused}
use Rattle.gp_ask.proofs.ConflictLemmas.{texts-are}
use Rattle.gp_ask.proofs.conflicts.conflicts_of.Goals as goal

pub returns : goal.returns
returns c =
    let dump : Dump = dump_view c.args.dump.now in
    let t = c.args.t in
    let count = statement_count t dump.entries in
    let upto = s.commits_before_end t dump.entries in
    ap (Lines Conflicts)
    (c.in_ok-first_texts.ensures
    ∙ ap (λ (rows : List (List Cell)). first_texts None (sorted_by row_cmp rows)) (c.in_ok-lines.ensures ∙ ap (λ n. keyed_from 0 (f.first_conflicts dump n t count)) c.commits_before_end-upto.ensures)
    ∙ texts-are dump t upto c.args.dump.now.answerable.sessions count (omega arith))
    ∙ ap (λ (stop : Option Refusal). unless_refused stop (s.conflicts_of dump.entries (tables_in dump.entries) (f.dump_wrote dump) t (s.firsts (s.dump_written dump t count)))) (sym c.requires.runs)
