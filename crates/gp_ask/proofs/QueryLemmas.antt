-- A query is answered alike by what answers checked queries alike.
use Rattle.std.proofs.Common.{◌≡◌, Option, Some, None, Result, Ok, Err, refl}
use Rattle.gp_base.specs.declared.refusal.Refusal.{Refusal}
use Rattle.gp_algebra.specs.Statements.{Select}
use Rattle.gp_ask.specs.declared.answered.Answered.{Answered}
use Rattle.gp_ask.specs.Asking.{query_answer}
use Rattle.gp_ask.specs.Values.{or_refused}

module _ (found other : Select → Answered) (same : (select : Select) → found select ≡ other select) where
  checked-same : (checked : Result Select Refusal) → or_refused found checked ≡ or_refused other checked
  checked-same (Ok select) = same select
  checked-same (Err refusal) = refl

  pub query-same : (refusal : Option Refusal) (checked : Result Select Refusal) → query_answer found refusal checked ≡ query_answer other refusal checked
  query-same None checked = checked-same checked
  query-same (Some refusal) checked = refl
