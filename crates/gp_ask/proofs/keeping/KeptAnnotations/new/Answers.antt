use Rattle.gp_ask.proofs.keeping.KeptAnnotations.new.Goals as goal

pub returns : goal.returns
returns c = λ dump. record { own = c.new.ensures dump; is_made = tt; changed = tt }
