use Rattle.std.proofs.Common.{◌∙◌, Bool, ℕ, List, ◌++◌, ap}
use Rattle.std.specs.List.{flat_map}
use Rattle.gp_base.specs.declared.table.Table.{Table}
use Rattle.gp_dumpline.specs.Texts.{count_text, end_text, header}
use Rattle.gp_log.specs.LogFacts.{tables_in}
use Rattle.gp_log.specs.Logs.{log_view}
use Rattle.gp_dump.specs.Dumps.{dump_text, with_newline, sections_texts}
use Rattle.gp_dump.specs.WholeDumps.{dump_with}
use Rattle.gp_dump.specs.Views.{tables_view}
use Rattle.gp_dump.specs.Writing.{log_line_text, ordered}
use Rattle.gp_dump.proofs.WriteLemmas.{whole-text}
use Rattle.gp_dump.proofs.write.write_dump.Goals as goal

pub returns : goal.returns
returns c =
    let entries = c.args.log.now.entries in
    let versions = c.args.versions.now in
    let log : List ℕ = flat_map log_line_text entries in
    let sections : List ℕ = flat_map with_newline (sections_texts (tables_in (log_view entries)) (ordered versions)) in
    let last : List ℕ = with_newline end_text in
    let head = c.in_ok-write_head.ensures.ok ∙ ap (λ (text : List ℕ). text ++ (with_newline (header c.has_read_committed.result) ++ with_newline (count_text c.len.result))) c.new-out.ensures.items
    ∙ ap (λ (n : ℕ). with_newline (header c.has_read_committed.result) ++ with_newline (count_text n)) c.len.ensures in
    let with-log = c.in_ok-write_log.ensures.ok ∙ ap (λ (text : List ℕ). text ++ log) head in
    let with-tables = c.in_ok-write_tables.ensures.ok ∙ ap (λ (tables : List Table). c.write_log.new.out.items ++ flat_map with_newline (sections_texts tables (ordered versions))) c.catalog.ensures ∙ ap (λ (text : List ℕ). text ++ sections) with-log in
    record {
      text = c.in_ok-write_end.ensures.ok ∙ ap (λ (text : List ℕ). text ++ last) with-tables ∙ whole-text c.has_read_committed.result entries versions
          ∙ ap (λ (second : Bool). dump_text second (dump_with (log_view entries) (tables_view versions))) c.has_read_committed.ensures;
    }
