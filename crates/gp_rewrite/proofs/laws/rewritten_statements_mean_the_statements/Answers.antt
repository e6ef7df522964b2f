use Rattle.gp_rewrite.proofs.MeaningLemmas.{query_is, rewritten_is}
use Rattle.gp_rewrite.proofs.WidthLemmas.{step_wide}
use Rattle.gp_rewrite.proofs.laws.rewritten_statements_mean_the_statements.Goals as goal

pub returns-clause-statements : goal.returns-clause-statements
returns-clause-statements g c kind monoid catalogue t k table statement fits written steps env tables db wide are =
    rewritten_is kind monoid steps env tables db are catalogue wide t k table statement fits written

pub returns-clause-widths : goal.returns-clause-widths
returns-clause-widths g c kind catalogue t k statement fits db wide = step_wide kind catalogue t k statement db fits wide

pub returns-clause-queries : goal.returns-clause-queries
returns-clause-queries g c kind monoid catalogue select fits steps env tables db are = query_is kind monoid steps env tables db are catalogue select fits
