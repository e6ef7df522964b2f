use Rattle.std.proofs.Common.{refl}
use Rattle.gp_csv.specs.Written.{IsBetween, written}
use Rattle.gp_csv.proofs.answer.new_writer.Goals as goal

pub returns : goal.returns
unfolding IsBetween written
returns c =
    let from = c.from_writer.ensures in
    record {
      between = (rw (c.flexible.ensures, c.new.ensures) at from.cfg, from.fields, from.wrote);
      empty = rw (from.wtr, c.new-2.ensures.items, from.empty) refl;
    }
