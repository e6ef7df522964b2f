use Rattle.std.proofs.Common.{◌≡◌, ◌+◌, drop}
use Rattle.gp_expr.specs.SizeForms as s
use Rattle.gp_expr.specs.SizeForms.{up_to_greatest}
use Rattle.gp_expr.specs.Views.{parts_of}
use Rattle.gp_expr.proofs.sizes.+sizes.Given as goal

-- the sizes so far and those that remain are all
abbrev pub invariant-parts_size-loop-part : goal.invariant-parts_size-loop-part
invariant-parts_size-loop-part l =
    record {
      all : up_to_greatest (l.total + s.parts_size (parts_of (drop l.part-index l.parts))) ≡ up_to_greatest (s.parts_size (parts_of l.parts));
      fits : up_to_greatest l.total ≡ l.total;
    }
