use Rattle.gp_whatif.proofs.replaying.make_version.Goals as goal

pub commit_again-requires-clause-next : goal.commit_again-requires-clause-next
commit_again-requires-clause-next c = rw c.run_again.ensures.unchanged c.requires.next

pub commit_again-requires-clause-ran : goal.commit_again-requires-clause-ran
commit_again-requires-clause-ran c = rw c.run_again.ensures.unchanged c.in_ok-active.ensures.ran
