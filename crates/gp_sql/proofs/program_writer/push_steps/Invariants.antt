use Rattle.std.proofs.Common.{◌≡◌, ◌++◌, map, drop}
use Rattle.std.specs.Prelude.{flat_map}
use Rattle.gp_algebra.specs.PlainViews.{step_view}
use Rattle.gp_sql.specs.NamedQueries.{translated_steps}
use Rattle.gp_sql.specs.Spelling.{other_expression}
use Rattle.gp_sql.specs.StepLists.{types_after}
use Rattle.gp_sql.specs.Types.{no_types, steps_types}
use Rattle.gp_sql.proofs.program_writer.push_steps.Given as goal

-- what was found and appended, and what the steps that remain give, are what all steps give
abbrev pub invariant-loop-step : goal.invariant-loop-step
invariant-loop-step l =
    record {
      types :
          steps_types l.catalog (map step_view (drop l.step-index l.steps)) (types_after l.known no_types) ≡ steps_types l.catalog (map step_view l.steps) no_types;
      number :
          (translated_steps l.catalog (types_after l.known no_types) (map step_view (drop l.step-index l.steps)) l.n).next ≡ (translated_steps l.catalog no_types (map step_view l.steps) 1).next;
      named :
          l.before.items ++ flat_map (other_expression l.catalog) (translated_steps l.catalog (types_after l.known no_types) (map step_view (drop l.step-index l.steps)) l.n).before
          ≡ l.initial.before.items ++ flat_map (other_expression l.catalog) (translated_steps l.catalog no_types (map step_view l.steps) 1).before;
    }
