use Rattle.std.proofs.Common.{sym, ◌∙◌}
use Rattle.gp_grammar.specs.declared.limits.TheConstants.{MAX_COLUMNS}
use Rattle.gp_syntax.proofs.LimitLemmas.{columns-above}
use Rattle.gp_syntax.proofs.limits.have_many_columns.Goals as goal

pub returns : goal.returns
returns c = c.any_lists_many.ensures ∙ sym (columns-above MAX_COLUMNS c.args.blocks.now)
