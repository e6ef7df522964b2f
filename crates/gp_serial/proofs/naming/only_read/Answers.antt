use Rattle.std.proofs.Common.{◌≡◌, ◌∙◌, false, true, map, ap, sym, ℕ}
use Rattle.std.specs.Prelude.{is_none}
use Rattle.gp_log.specs.Contents.{entries, tables}
use Rattle.gp_serial.specs.Changes.{change_view}
use Rattle.gp_serial.specs.Reasons.{first_reading, first_write, reason_view}
use Rattle.gp_serial.specs.declared.changes.RowChange as code
use Rattle.gp_serial.proofs.NameLemmas.{alone, none_by, none_mapped}
use Rattle.gp_serial.proofs.naming.only_read.Goals as goal

pub returns-then-is_none : goal.returns-then-is_none
returns-then-is_none c =
    let unread : true ≡ is_none (first_reading (tables c.args.log.now) (entries c.args.log.now) c.args.b c.args.a (map change_view c.args.changes.now) false) =
    sym c.if-is_none.true ∙ none_by c.in_ok-read.read c.is_none.result c.is_none.ensures ∙ sym (none_mapped (λ (pair : ℕ × code.RowChange). (pair.0, change_view pair.1)) c.in_ok-read.read) ∙ ap is_none c.in_ok-read.ensures in
    let unwritten : c.is_none-then-is_none.result ≡ is_none (first_write c.args.a c.args.b c.args.changes.now c.args.changes.now) =
    none_by c.first_write.result c.is_none-then-is_none.result c.is_none-then-is_none.ensures ∙ sym (none_mapped reason_view c.first_write.result) ∙ ap is_none c.first_write.ensures in
    alone (tables c.args.log.now) (entries c.args.log.now) c.args.a c.args.b c.args.changes.now c.requires.made true c.is_none-then-is_none.result unread unwritten

pub returns-else-is_none : goal.returns-else-is_none
returns-else-is_none c =
    let unread : false ≡ is_none (first_reading (tables c.args.log.now) (entries c.args.log.now) c.args.b c.args.a (map change_view c.args.changes.now) false) =
    sym c.if-is_none.false ∙ none_by c.in_ok-read.read c.is_none.result c.is_none.ensures ∙ sym (none_mapped (λ (pair : ℕ × code.RowChange). (pair.0, change_view pair.1)) c.in_ok-read.read) ∙ ap is_none c.in_ok-read.ensures in
    c.if-is_none.false
    ∙ alone (tables c.args.log.now) (entries c.args.log.now) c.args.a c.args.b c.args.changes.now c.requires.made false (is_none (first_write c.args.a c.args.b c.args.changes.now c.args.changes.now)) unread (λ i. is_none (first_write c.args.a c.args.b c.args.changes.now c.args.changes.now))
