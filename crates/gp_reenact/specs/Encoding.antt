-- Of the contract of `env_at` and of the law `annotations_are_left_out`: annotated rows as rows of the plain algebra, without their annotations.
use Rattle.std.specs.Prelude.{List, []}
use Rattle.gp_base.specs.declared.cell.Cell.{Cell}
use Rattle.gp_base.specs.Annotated.{Annotated, Environment}
use Rattle.gp_algebra.specs.Encoding as a
use Rattle.gp_algebra.specs.Plain.{PlainEnvironment}

abbrev pub encoded_row : {M : Type 0} → Annotated M → List Cell
encoded_row row = a.encoded_row (λ annotation. []) row

abbrev pub encoded : {M : Type 0} → Environment M → PlainEnvironment
encoded env version table = a.encoded (λ annotation. []) env version table
