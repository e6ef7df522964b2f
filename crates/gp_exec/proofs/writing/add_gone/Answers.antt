use Rattle.gp_exec.proofs.WritingLemmas.{gone_keys, none_gone}
use Rattle.gp_exec.proofs.writing.add_gone.Goals as goal

pub returns-then-have_same_ids : goal.returns-then-have_same_ids
returns-then-have_same_ids c = none_gone c.args.base.now c.args.mine.now c.args.ids.now (c.have_same_ids.ensures c.if-have_same_ids.true)

pub returns : goal.returns
returns c = gone_keys c.args.base.now c.args.mine.now c.in_ok-own.own c.args.ids.now c.add_others.new.ids c.in_ok-own.ensures c.in_ok-add_others.ensures
