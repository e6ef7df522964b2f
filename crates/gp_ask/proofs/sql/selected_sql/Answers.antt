use Rattle.gp_ask.proofs.sql.selected_sql.Goals as goal

pub planned-requires : goal.planned-requires
planned-requires c = record { fits = c.requires.fits; statements = c.requires.statements }
