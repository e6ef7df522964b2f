use Rattle.std.proofs.Common.{◌≡◌, [], ◌∷◌, ◌++◌, ◌+◌, ◌∙◌, ◌&&◌, ◌||◌, Bool, List, false, ap, map, sym, take}
use Rattle.std.proofs.Math.Bool.{and-true}
use Rattle.std.proofs.lemmas.List.{map-append, take_more}
use Rattle.std.proofs.lemmas.List.Folds.{list_any-append}
use Rattle.gp_base.specs.Identities.{no_sources, same_identity, same_sources, source}
use Rattle.gp_exec.specs.Publishing.{lists, lists_marked}
use Rattle.gp_exec.specs.declared.writing.RowMark.{RowMark}
use Rattle.gp_kexec.specs.Publishing.{stands_in, stands_marked_in}
use Rattle.gp_kexec.specs.Rows.{held_view}
use Rattle.gp_kexec.proofs.publication.marks_of.Goals as goal

pub loop-row-preserved : goal.loop-row-preserved
loop-row-preserved g c =
    let rows = c.args.rows.now in
    let n = c.loop-row.row-index in
    let row = c.row-item.result in
    let marks = c.loop-row.marks.items in
    let seen = map held_view (take n rows) in
    let next : map held_view (take (n + 1) rows) ≡ seen ++ held_view row ∷ [] =
    ap (map held_view) (take_more rows n row c.loop-row-test.true ∙ ap (λ x. take n rows ++ x ∷ []) (sym c.row-item.is)) ∙ map-append held_view (take n rows) (row ∷ []) in
    record {
      ids = λ id.
          let ids = source id no_sources in
          ap (λ (items : List RowMark). lists items id) c.in_ok-push.ensures.items
          ∙ list_any-append (λ (mark : RowMark). same_identity mark.id.now id) marks _
          ∙ ap (λ (b : Bool). b || (same_identity row.id id || false)) (c.loop-row.invariant.ids id)
          ∙ ap (λ (b : Bool). stands_in ids seen || (b || false)) (sym (and-true (same_identity row.id id)))
          ∙ sym (list_any-append (λ row. same_sources row.sources ids) seen (held_view row ∷ []))
          ∙ ap (stands_in ids) (sym next);
      marked = λ id.
          let ids = source id no_sources in
          ap (λ (items : List RowMark). lists_marked items id) c.in_ok-push.ensures.items
          ∙ list_any-append (λ (mark : RowMark). mark.is_marked && same_identity mark.id.now id) marks _
          ∙ ap (λ (b : Bool). b || ((row.is_marked && same_identity row.id id) || false)) (c.loop-row.invariant.marked id)
          ∙ ap (λ (b : Bool). stands_marked_in ids seen || ((row.is_marked && b) || false)) (sym (and-true (same_identity row.id id)))
          ∙ sym (list_any-append (λ row. row.mark && same_sources row.sources ids) seen (held_view row ∷ []))
          ∙ ap (stands_marked_in ids) (sym next);
    }
