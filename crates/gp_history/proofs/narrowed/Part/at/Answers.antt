use Rattle.std.proofs.Common.{List, length, map, ℕ, ◌≡◌, ◌∙◌}
use Rattle.std.specs.Prelude.{slice_index_or}
use Rattle.gp_algebra.specs.Statements.{Statement}
use Rattle.gp_algebra.specs.Views.{statement_view}
use Rattle.gp_history.specs.Narrowing.{is_left}
use Rattle.gp_history.proofs.SeekingLemmas.{behind-next, looked-all, looked-first, looked-next, looked-past, read}
use Rattle.gp_history.proofs.narrowed.Part.at.Goals as goal

pub loop-place-init : goal.loop-place-init
loop-place-init g c =
    let statements : List Statement = map (λ stmt. statement_view stmt.now) c.args.statements.now in
    looked-first (is_left c.args.reach c.args.t statements c.args.table) c.args.spans.now c.args.annotations.now c.requires.each c.args.places.now c.requires.found c.new-part.result c.new-part.ensures.spans
    c.new-part.ensures.annotations c.new-part.ensures.left_out

pub loop-place-preserved-in_default : goal.loop-place-preserved-in_default
loop-place-preserved-in_default g c =
    let places = c.args.places.now in
    let index = c.loop-place.place-index in
    let place : ℕ = slice_index_or places index 0 in
    let statements : List Statement = map (λ stmt. statement_view stmt.now) c.args.statements.now in
    looked-past (is_left c.args.reach c.args.t statements c.args.table) c.args.spans.now c.args.annotations.now c.requires.each c.args.places.now c.requires.found c.loop-place.part c.loop-place.next c.loop-place.place-index
    place c.loop-place-test.true (read places index 0 place c.loop-place-test.true) (behind-next place c.loop-place.next (length c.args.spans.now) c.in_default.ensures) c.loop-place.invariant

pub loop-place-preserved : goal.loop-place-preserved
loop-place-preserved g c =
    let statements : List Statement = map (λ stmt. statement_view stmt.now) c.args.statements.now in
    let places = c.args.places.now in
    let index = c.loop-place.place-index in
    let here : c.in-Some.i ≡ slice_index_or places index c.in-Some.i = c.in-Some.ensures.0 ∙ read places index 0 c.in-Some.i c.loop-place-test.true in
    looked-next (is_left c.args.reach c.args.t statements c.args.table) c.args.spans.now c.args.annotations.now c.requires.each c.args.places.now c.requires.found c.loop-place.part c.push_if.new.self c.loop-place.next
    c.loop-place.place-index c.in-Some.i c.index-spans-i.result c.index-annotations-i.result c.is_left-left.result c.requires.ascending c.loop-place-test.true here c.in-Some.ensures.1.0 c.in-Some.ensures.1.1
    c.index-spans-i.is c.index-annotations-i.is c.is_left-left.ensures c.in_ok-push_if.ensures.spans c.in_ok-push_if.ensures.annotations c.push_if.ensures.left_out c.loop-place.invariant

pub returns : goal.returns
returns g c =
    let statements : List Statement = map (λ stmt. statement_view stmt.now) c.args.statements.now in
    looked-all (is_left c.args.reach c.args.t statements c.args.table) c.args.spans.now c.args.annotations.now c.requires.each c.args.places.now c.requires.found c.loop-place.part c.loop-place.next c.loop-place.place-index
    c.loop-place-test.false c.loop-place.invariant
