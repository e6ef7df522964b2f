use Rattle.gp_ask.proofs.programs.selected_saw_program.Goals as goal

pub explain_saw-requires : goal.explain_saw-requires
explain_saw-requires c = record { fits = c.requires.fits; statements = c.requires.statements }
