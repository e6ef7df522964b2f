-- Of the contract of `write_query`: the types of the steps that come before a query, as a list.
use Rattle.std.specs.Prelude.{List, [], ◌∷◌}
use Rattle.gp_sql.specs.declared.query_types.StepType.{StepType}
use Rattle.gp_sql.specs.Types.{StepTypes, with_types}

abbrev pub types_after : List StepType → StepTypes → StepTypes
types_after [] types = types
types_after (first ∷ others) types = types_after others (with_types first.j first.types types)
