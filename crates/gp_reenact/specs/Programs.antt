-- Of the contract of `explain` (gp_explain) and of the law `texts_explain_states` (gp_explain): the program of a state.
use Rattle.std.specs.Prelude.{Bool, List}
use Rattle.gp_grammar.specs.Syntax as y
use Rattle.gp_algebra.specs.Statements.{width_of, Select}
use Rattle.gp_algebra.specs.Plain.{PlainProgram}
use Rattle.gp_compose.specs.Composed.{program_at}
use Rattle.gp_log.specs.LogFacts.{tables_in}
use Rattle.gp_machine.specs.Entries.{Entry}
use Rattle.gp_merge.specs.Merging.{merged}
use Rattle.gp_prov.specs.ToPlain.{plain_program}

-- the program of a query over a state; with provenance, its rows end in their monomials
abbrev pub merged_at : Bool → List Entry → y.Point → Select → PlainProgram
merged_at prov entries point select = merged (plain_program (width_of (tables_in entries)) prov (program_at (width_of (tables_in entries)) entries point select))
