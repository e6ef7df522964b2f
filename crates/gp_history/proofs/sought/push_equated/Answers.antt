use Rattle.std.proofs.Common.{Contains, List, subst, sym}
use Rattle.gp_versions.specs.declared.places.InColumn.{InColumn}
use Rattle.gp_history.specs.Seeking.{HasOne}
use Rattle.gp_history.proofs.SeekingLemmas.{grows-pushed, one-pushed}
use Rattle.gp_history.proofs.sought.push_equated.Goals as goal

pub returns-in_ok-push-in-Some-clause-kept : goal.returns-in_ok-push-in-Some-clause-kept
returns-in_ok-push-in-Some-clause-kept c = λ own there. subst (λ (cells : List InColumn). Contains cells own) (sym c.in_ok-push-in-Some.ensures.items) (grows-pushed c.args.cells.now.items _ own there)

pub returns-in_ok-push-in-Some-clause-sought : goal.returns-in_ok-push-in-Some-clause-sought
returns-in_ok-push-in-Some-clause-sought c = λ known row passes. subst (HasOne row) (sym c.in_ok-push-in-Some.ensures.items) (one-pushed row c.args.cells.now.items _ (c.in-Some.ensures.equal row passes))
