use Rattle.gp_ask.proofs.programs.selected_program.Goals as goal

pub explain-requires : goal.explain-requires
explain-requires c = record { fits = c.requires.fits; statements = c.requires.statements }
