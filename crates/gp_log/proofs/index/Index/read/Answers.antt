use Rattle.std.proofs.Common.{◌≡◌, ◌<◌, List, ℕ, [], Some, ap, arith, get_or, length, refl, sym, ◌∙◌}
use Rattle.std.specs.Prelude.{slice_get}
use Rattle.std.proofs.lemmas.List.{get_or_read_under}
use Rattle.std.proofs.lemmas.Option.{slice_get-get_or}
use Rattle.gp_log.specs.LogCounts.{version_read}
use Rattle.gp_log.proofs.index.Index.read.Goals as goal

pub returns : goal.returns
returns c log reads =
    let lists = c.args.self.now.reads.items in
    let place = c.in_ok-place_of.field-0 in
    let j = c.in_ok-place.place in
    let list : c.index-reads.result.now ≡ get_or lists place [] =
    get_or_read_under lists place (length lists) c.index-reads.result.now [] c.index-reads.ensures (omega (arith, c.in_ok-place_of.ensures.1, c.len.ensures, c.args.self.now.reads.ok)) refl in
    let same : c.as_slice-2.result.now ≡ get_or lists place [] = c.as_slice-2.ensures ∙ list in
    let within : j < length (get_or lists place []) = omega (arith, c.in_ok-place.ensures.1, ap length (c.as_slice.ensures ∙ list)) in
    let at : slice_get (get_or lists place []) j ≡ Some (get_or c.as_slice-2.result.now j 0) =
    slice_get-get_or (get_or lists place []) j 0 within ∙ ap (λ (some : List ℕ). Some (get_or some j 0)) (sym same) in
    (λ i. version_read (sym c.in_ok-place_of.ensures.0 i) (sym c.in_ok-place.ensures.0 i) log) ∙ reads c.if-not-self.false place j (get_or c.as_slice-2.result.now j 0) at
