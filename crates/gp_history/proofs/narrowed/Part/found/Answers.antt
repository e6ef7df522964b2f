use Rattle.std.proofs.Common.{List, arith, false, map, refl, subst, sym, true, ℕ, ◌≡◌, ◌≤◌, ◌∙◌}
use Rattle.std.proofs.lemmas.Bool.{false≢true}
use Rattle.std.specs.List.{list_all}
use Rattle.gp_base.specs.declared.cell.Cell.{Cell}
use Rattle.gp_base.specs.declared.limit.TheConstants.{MAX_TABLE_ROWS}
use Rattle.gp_algebra.specs.Statements.{Statement}
use Rattle.gp_algebra.specs.Views.{statement_view}
use Rattle.gp_versions.specs.declared.places.InColumn.{InColumn}
use Rattle.gp_versions.specs.Finding.{HasThose}
use Rattle.gp_history.specs.Narrowing.{is_left, leaves}
use Rattle.gp_history.specs.Seeking.{HasOne}
use Rattle.gp_history.proofs.SeekingLemmas.{left-found}
use Rattle.gp_history.proofs.narrowed.Part.found.Goals as goal

pub at-requires-clause-found : goal.at-requires-clause-found
at-requires-clause-found g c =
    let statements : List Statement = map (λ stmt. statement_view stmt.now) c.args.statements.now in
    let seeks = λ (row : List Cell) (refused : list_all (leaves c.args.table row) statements ≡ false). subst (HasOne row) (sym c.deref.ensures.value) ((rw c.in-Some.is at c.in_ok-cells.ensures) row refused) in
    subst (λ (places : List ℕ). HasThose (λ span. is_left c.args.reach c.args.t statements c.args.table span ≡ true) c.args.spans.now places) (sym c.deref-2.ensures.value)
    (left-found c.args.reach c.args.t statements c.args.table c.args.spans.now _ _ refl refl refl seeks (rw c.in-Some-2.is at c.in_ok-places.ensures).found)

pub returns : goal.returns
returns g c = record {
  tested = true;
  spans_are = c.in_ok-at.ensures.spans_are;
  annotations_are = c.in_ok-at.ensures.annotations_are;
  count = λ any. absurd (false≢true (sym c.if-insert_into.false ∙ c.insert_into.ensures ∙ any));
  few = subst (λ n. n ≤ MAX_TABLE_ROWS) (sym c.in_ok-at.ensures.none) (omega arith);
}
