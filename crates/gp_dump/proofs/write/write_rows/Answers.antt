use Rattle.std.proofs.Common.{◌∙◌, ◌<◌, List, ℕ, ◌++◌, length, ap, sym, subst}
use Rattle.std.specs.List.{All, flat_map}
use Rattle.gp_dump.specs.Writing.{place_text}
use Rattle.gp_dump.proofs.SortLemmas.{places-within}
use Rattle.gp_dump.proofs.WriteLemmas.{rows-text}
use Rattle.gp_dump.proofs.write.write_rows.Goals as goal

pub write_row_lines-requires : goal.write_row_lines-requires
write_row_lines-requires c =
    let spans = c.args.versions.now.spans in
    record {
      within = subst (λ (places : List ℕ). All (λ place. place < length spans) places) (sym c.deref.ensures.value) (places-within spans c.in_ok-places.places.items c.in_ok-places.ensures.places);
    }

pub returns : goal.returns
returns c =
    let spans = c.args.versions.now.spans in
    let text = rows-text spans c.in_ok-places.places.items c.as_slice-spans.ensures.apart c.as_slice-spans.ensures.whole c.in_ok-places.ensures.places c.in_ok-places.ensures.sorted in
    record {
      ok =
          c.in_ok-write_row_lines.ensures.ok ∙ ap (λ (places : List ℕ). c.args.out.now.items ++ flat_map (place_text spans) places) c.deref.ensures.value ∙ ap (λ (rest : List ℕ). c.args.out.now.items ++ rest) text;
    }
