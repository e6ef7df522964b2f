use Rattle.std.proofs.Common.{[], ◌∷◌, ◌++◌, ap, sym, ◌∙◌}
use Rattle.gp_semiring.proofs.MergeLemmas.{join-one, stand-one}
use Rattle.gp_semiring.proofs.terms.push_joined.Goals as goal

pub returns-in_ok-push-in-Some : goal.returns-in_ok-push-in-Some
returns-in_ok-push-in-Some c =
    let own = c.args.own in
    let done = c.args.done.now.items in
    join-one c.args.terms.now c.args.next c.in-Some.term.now own c.requires.sorted (sym c.in-Some.ensures) done c.push.new.self.items
    (c.in_ok-push-in-Some.ensures.items ∙ ap (λ n. done ++ (own.0, n) ∷ []) c.saturating_add.ensures)

pub returns-in_ok-push-in-None : goal.returns-in_ok-push-in-None
returns-in_ok-push-in-None c =
    stand-one c.args.terms.now c.args.next c.args.own c.requires.sorted c.requires.within c.requires.behind (sym c.in-None.ensures) c.args.done.now.items c.push-in-None.new.self.items
    c.in_ok-push-in-None.ensures.items
