use Rattle.std.proofs.Common.{ap, sym, ◌∙◌}
use Rattle.gp_io.proofs.FileListLemmas.{Replaced-set, Replaced-push}
use Rattle.gp_io.proofs.file_list.put.Goals as goal

pub returns-in-Some-clause-ok : goal.returns-in-Some-clause-ok
returns-in-Some-clause-ok c =
    Replaced-set c.args.name.now c.args.bytes.now c.args.files.now.items _ c.index_mut.result.now c.in-Some.position (rw (← c.deref.ensures.value) (sym c.position_of.ensures ∙ c.in-Some.is)) (ap (λ file. file.name.bytes.items) c.index_mut.ensures.value) c.in_ok-bytes.ensures.items

pub returns-in_ok-push-in-None-clause-ok : goal.returns-in_ok-push-in-None-clause-ok
returns-in_ok-push-in-None-clause-ok c =
    rw c.in_ok-push-in-None.ensures.items (Replaced-push c.args.name.now c.args.bytes.now c.args.files.now.items _ (rw (← c.deref.ensures.value) (sym c.position_of.ensures ∙ c.in-None.is)) c.in_ok-name-in-None.ensures.ok c.in_ok-bytes.ensures.items)
