use Rattle.gp_exec.proofs.WritingLemmas.{written_keys}
use Rattle.gp_exec.proofs.writing.written.Goals as goal

pub returns : goal.returns
returns c =
    written_keys c.args.base.now c.args.mine.now c.new-ids.result c.add_marked.new.ids c.add_gone.new.ids c.new-ids.ensures.empty c.in_ok-add_marked.ensures c.in_ok-add_gone.ensures
