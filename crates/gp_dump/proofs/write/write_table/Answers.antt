use Rattle.std.proofs.Common.{◌∙◌, List, ℕ, ◌++◌, ◌∷◌, [], ap, rules}
use Rattle.std.specs.List.{flat_map}
use Rattle.gp_base.specs.Order.{sorted_by}
use Rattle.gp_versions.specs.Spans.{span_cmp}
use Rattle.gp_dumpline.specs.Texts.{section_text}
use Rattle.gp_dump.specs.Writing.{row_line_text}
use Rattle.gp_dump.proofs.WriteLemmas.{section-text}
use Rattle.gp_dump.proofs.write.write_table.Goals as goal

pub returns : goal.returns
returns c =
    let spans = c.args.versions.now.spans in
    let lines = flat_map row_line_text (sorted_by span_cmp spans) in
    let rows = c.in-Ok.rows in
    let section = c.in_ok-write_section.ensures.ok ∙ ap (λ (name : List ℕ). c.args.out.now.items ++ section_text name rows) c.as_bytes.ensures.bytes in
    record {
      ok =
          c.in_ok-write_rows.ensures.ok
          ∙ ap (λ (text : List ℕ). text ++ lines) (c.in_ok-push.ensures.items ∙ ap (λ (text : List ℕ). text ++ 10 ∷ []) section)
          ∙ section-text c.args.out.now.items c.args.table.now spans rows (search rules);
    }
