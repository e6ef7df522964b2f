use Rattle.std.proofs.Common.{sym, ◌∙◌}
use Rattle.gp_grammar.specs.declared.limits.TheConstants.{MAX_FROM}
use Rattle.gp_syntax.proofs.LimitLemmas.{tables-above}
use Rattle.gp_syntax.proofs.limits.have_many_tables.Goals as goal

pub returns : goal.returns
returns c = c.any_has_many_tables.ensures ∙ sym (tables-above MAX_FROM c.args.blocks.now)
