use Rattle.std.proofs.Common.{◌≡◌, true, false, refl, sym, rules}
use Rattle.std.specs.Option.{is_some}
use Rattle.gp_base.specs.declared.refusal.Refusal.TheVariants.{E09}
use Rattle.gp_machine.specs.declared.reply.Reply.TheVariants as reply
use Rattle.gp_engine.proofs.InvariantLemmas.{few-entries, looked}
use Rattle.gp_engine.proofs.LineLemmas.{begun-inside, begun-outside, unchanged_same}
use Rattle.gp_engine.proofs.state.State.begin.Goals as goal

pub append-requires-clause-few : goal.append-requires-clause-few
append-requires-clause-few c = few-entries c.args.self.now c.requires.engine

pub returns-then-is_some-clause-ok : goal.returns-then-is_some-clause-ok
returns-then-is_some-clause-ok c =
    let old = c.args.self.now in
    let found = c.index-self-place.result in
    let at = looked c.args.self.now _ c.args.place found found c.requires.engine c.requires.place c.self.view_is c.index-self-place.is (sym c.index-self-place.is) in
    let some : is_some found ≡ true = cc in
    begun-inside old old (reply.Refused E09) c.args.line c.args.place found at c.args.read_committed some (unchanged_same old, refl)

pub returns-then-begun-ge-MAX_TRANSACTIONS-clause-ok : goal.returns-then-begun-ge-MAX_TRANSACTIONS-clause-ok
returns-then-begun-ge-MAX_TRANSACTIONS-clause-ok c =
    let found = c.index-self-place.result in
    let at = looked c.args.self.now _ c.args.place found found c.requires.engine c.requires.place c.self.view_is c.index-self-place.is (sym c.index-self-place.is) in
    let none : is_some found ≡ false = cc in
    begun-outside c.args.self.now _ _ c.args.line c.args.place found at c.args.read_committed _ none refl (search rules)

pub returns-clause-ok : goal.returns-clause-ok
returns-clause-ok c =
    let found = c.index-self-place.result in
    let at = looked c.args.self.now _ c.args.place found found c.requires.engine c.requires.place c.self.view_is c.index-self-place.is (sym c.index-self-place.is) in
    let none : is_some found ≡ false = cc in
    begun-outside c.args.self.now _ _ c.args.line c.args.place found at c.args.read_committed _ none refl (search rules)
