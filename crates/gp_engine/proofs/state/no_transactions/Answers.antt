use Rattle.std.proofs.Common.{inl, inr, None, rules}
use Rattle.std.proofs.lemmas.Bool.{cases_lt}
use Rattle.std.proofs.lemmas.List.{get_or_past}
use Rattle.gp_engine.proofs.state.no_transactions.Goals as goal

pub returns : goal.returns
returns c place = elim (cases_lt place 64) [
  | inl below ↦ let called = (c.from_fn.ensures.items.at place None below).2 in let met = called.met in search rules
  | inr beyond ↦ get_or_past c.from_fn.result place None (rw c.from_fn.ensures.items.long beyond)
]
