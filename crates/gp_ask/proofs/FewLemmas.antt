-- What the check makes of a query has as many items in each FROM.
use Rattle.std.proofs.Common.{◌≡◌, ◌≤◌, true, false, not, ltb, List, [], ◌∷◌, length, Option, Some, None, Ok, sym, ap, subst}
use Rattle.std.specs.Result.{result_unwrap_or}
use Rattle.std.proofs.lemmas.Bool.{ltb-false, not-true, or_parts}
use Rattle.std.proofs.lemmas.List.{length-map}
use Rattle.gp_base.specs.declared.refusal.Refusal.{Refusal}
use Rattle.gp_base.specs.declared.table.Table.{Table}
use Rattle.gp_grammar.specs.declared.limits.TheConstants.{MAX_FROM}
use Rattle.gp_grammar.specs.Limits.{query_shape, some_above}
use Rattle.gp_grammar.specs.Syntax as y
use Rattle.gp_algebra.specs.Statements.{Select}
use Rattle.gp_check.specs.Checking.{checked_query, refused_by}
use Rattle.gp_check.specs.Faults.{first_refusal}
use Rattle.gp_check.specs.Meaning.{branch_of, number_of_table, select_of}
use Rattle.gp_history.specs.Values.{HasFewItems}
use Rattle.gp_ask.specs.Answerable.{has_few_items}
use Rattle.gp_ask.specs.Asking.{asked}

pub meant-few : (tables : List Table) (query : y.Query) → has_few_items query ≡ true → HasFewItems (select_of tables query)
unfolding branch_of
meant-few tables [] few = tt
meant-few tables (block ∷ blocks) few =
    let parts : (ltb MAX_FROM (length block.from) ≡ false) × (some_above MAX_FROM (query_shape blocks).from ≡ false) =
    or_parts (ltb MAX_FROM (length block.from)) (some_above MAX_FROM (query_shape blocks).from) (not-true (some_above MAX_FROM (query_shape (block ∷ blocks)).from) few) in (
      subst (λ n. n ≤ MAX_FROM) (sym (length-map block.from (λ (item : y.Item). number_of_table tables item.table))) (ltb-false MAX_FROM (length block.from) parts.0),
      meant-few tables blocks (ap not parts.1),
    )

-- a query that is not refused means this
passed-few : (meaning select : Select) (expected : Option Refusal) → HasFewItems meaning → refused_by expected meaning ≡ Ok select → HasFewItems select
passed-few meaning select None few is = subst HasFewItems (ap (λ r. result_unwrap_or r meaning) is) few
passed-few meaning select (Some refusal) few is = absurd cc

pub checked-few : (tables : List Table) (query : y.Query) (select : Select) (refusal : Option Refusal) → has_few_items query ≡ true
    → asked refusal (checked_query tables query) ≡ Ok select → HasFewItems select
checked-few tables query select None few is = passed-few (select_of tables query) select (first_refusal tables (y.select query)) (meant-few tables query few) is
checked-few tables query select (Some refusal) few is = absurd cc
