use Rattle.gp_dumpline.proofs.identity.+identity.Given as goal

abbrev pub decreases-identity_at : goal.decreases-identity_at
decreases-identity_at l = l.steps

abbrev pub decreases-sources_at : goal.decreases-sources_at
decreases-sources_at l = l.steps

abbrev pub decreases-others_at : goal.decreases-others_at
decreases-others_at l = l.steps
