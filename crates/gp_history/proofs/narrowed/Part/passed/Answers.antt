use Rattle.std.proofs.Common.{List, arith, false, map, not, ◌≤◌}
use Rattle.gp_base.specs.declared.limit.TheConstants.{MAX_TABLE_ROWS}
use Rattle.gp_algebra.specs.Statements.{Statement}
use Rattle.gp_algebra.specs.Views.{statement_view}
use Rattle.gp_history.proofs.NarrowedLemmas.{untested_few}
use Rattle.gp_history.proofs.narrowed.Part.passed.Goals as goal

pub returns-then-part-le-MAX_TABLE_ROWS : goal.returns-then-part-le-MAX_TABLE_ROWS
returns-then-part-le-MAX_TABLE_ROWS g c = record {
  tested = not c.are_swept-tested.result;
  spans_are = c.in_ok-part.ensures.spans_are;
  annotations_are = c.in_ok-part.ensures.annotations_are;
  count = λ any. c.in_ok-part.ensures.count;
  few = omega (arith, c.if-part-le-MAX_TABLE_ROWS.true);
}

pub returns : goal.returns
returns g c =
    let statements : List Statement = map (λ stmt. statement_view stmt.now) c.args.statements.now in
    record {
      tested = false;
      spans_are = c.in_ok-left.ensures.spans_are;
      annotations_are = c.in_ok-left.ensures.annotations_are;
      count = λ any. c.in_ok-left.ensures.count;
      few = untested_few c.args.reach c.args.t statements c.args.table c.args.spans.now c.args.annotations.now c.in_ok-left.field-0 c.in_ok-left.ensures;
    }
