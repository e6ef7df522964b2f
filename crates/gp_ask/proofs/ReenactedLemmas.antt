-- The rows that reenactment gives, in row order, are the answer.
use Rattle.std.proofs.Common.{◌≡◌, List, Result, Ok, Err, sym, ap}
use Rattle.std.specs.List.Sorted.{IsPermutation}
use Rattle.std.proofs.Math.ListN.{get_or-map}
use Rattle.std.proofs.lemmas.List.Sorted.{IsPermutation-sym, IsPermutation-trans}
use Rattle.gp_base.specs.declared.cell.Cell.{Cell}
use Rattle.gp_base.specs.declared.refusal.Refusal.{Refusal}
use Rattle.gp_base.specs.Order.{row_cmp, sorted_by}
use Rattle.gp_base.proofs.OrderLemmas.{rows_permuted, rows_sorted, sorted_rows_unique}
use Rattle.gp_algebra.specs.Answers.{Element, cells_of}
use Rattle.gp_reenact.specs.Travel.{no_table}
use Rattle.gp_versions.specs.Spans.{Versions}
use Rattle.gp_base.specs.declared.stop.Stop.TheVariants as stop
use Rattle.gp_reenact.specs.Reenacting.{Reenacts, spans_of}
use Rattle.gp_dump.specs.Views.{tables_view}
use Rattle.gp_ask.specs.declared.answered.Answered.TheVariants.{Refused, Rows}
use Rattle.gp_ask.specs.Asking.{of_elements, table_spans}
use Rattle.gp_serial.proofs.RunningLemmas.{sorted_same}

-- the row versions of the tables of a dump
pub dump-spans : (versions : List Versions) → spans_of versions ≡ table_spans (tables_view versions)
dump-spans versions = λ i place. sym (get_or-map (λ (table : Versions). table.spans) versions place no_table) i

pub in-order : {X M : Type 0} (view : X → List (List Cell)) (found : X) (expected : Result (List (Element M)) Refusal) → Reenacts view (Ok found) expected
    → Rows (sorted_by row_cmp (view found)) ≡ of_elements expected
in-order view found (Ok elements) moved = ap Rows (sorted_same (view found) (cells_of elements) moved)
in-order view found (Err refusal) none = absurd none

pub refused : {X M : Type 0} (view : X → List (List Cell)) (refusal : Refusal) (expected : Result (List (Element M)) Refusal) → Reenacts view (Err (stop.Refused refusal)) expected
    → Refused refusal ≡ of_elements expected
refused view refusal (Ok elements) none = absurd none
refused view refusal (Err expected) same = ap Refused same
