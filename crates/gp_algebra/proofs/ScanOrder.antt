-- The order of scans is total, with ties between equal scans only; the scans that the code finds are those of the program.
use Rattle.std.proofs.Common.{◌≡◌, Bool, true, ◌++◌, refl, sym, ap, ◌∙◌, subst}
use Rattle.std.specs.Prelude.{◌&&◌, ◌==◌}
use Rattle.std.specs.List.{flat_map}
use Rattle.std.specs.Ordering.{nat_cmp, eq_by_cmp, is_eq, ordering_then}
use Rattle.std.specs.Cmp.{IsTotalOrder, IsEquivalence, on_total, then_total, nat_cmp_total, eq_by_cmp_equiv, unsigned_ties, first_so, second_so}
use Rattle.std.specs.declared.cmp.Ordering.{Ordering}
use Rattle.std.specs.declared.cmp.Ordering.TheVariants.{Less, Equal, Greater}
use Rattle.gp_algebra.specs.declared.plain.ScanAt.{ScanAt}
use Rattle.gp_algebra.specs.declared.plain.PQuery.{PQuery}
use Rattle.gp_algebra.specs.declared.program.Program.{Program}
use Rattle.gp_algebra.specs.PlainViews.{query_view, step_view, program_view}
use Rattle.gp_algebra.specs.declared.annotated.AQuery.{AQuery}
use Rattle.gp_algebra.specs.AnnotatedQueries.{QueryStep}
use Rattle.gp_algebra.specs.QueryViews.{annotated_view, annotated_step_view, annotated_program_view}
use Rattle.gp_algebra.specs.Scans.{scan_cmp, query_scans, program_scans, annotated_query_scans, annotated_program_scans}
use Rattle.std.proofs.lemmas.Bool.{eqb-true}
use Rattle.gp_base.proofs.SmallLemmas.{flat_map-map}

pub scan_cmp_total : IsTotalOrder scan_cmp
scan_cmp_total = then_total (on_total (λ (scan : ScanAt). scan.table) nat_cmp_total) (on_total (λ (scan : ScanAt). scan.version) nat_cmp_total)

abbrev pub same_scan : ScanAt → ScanAt → Bool
same_scan one other = (one.table == other.table) && (one.version == other.version)

ties_then : (o q : Ordering) → (is_eq o && is_eq q) ≡ is_eq (ordering_then o q)
ties_then Less q = refl
ties_then Equal q = refl
ties_then Greater q = refl

pub scan_ties : (one other : ScanAt) → same_scan one other ≡ eq_by_cmp scan_cmp one other
scan_ties one other =
    (λ i. unsigned_ties one.table other.table i && unsigned_ties one.version other.version i) ∙ ties_then (nat_cmp one.table other.table) (nat_cmp one.version other.version)

pub same_scan_equivalence : IsEquivalence same_scan
same_scan_equivalence = subst IsEquivalence (λ i one other. sym (scan_ties one other) i) (eq_by_cmp_equiv scan_cmp_total)

pub same_scan-exact : (one other : ScanAt) → same_scan one other ≡ true → one ≡ other
same_scan-exact one other e =
    let t : one.table ≡ other.table = eqb-true one.table other.table (first_so (one.table == other.table) (one.version == other.version) e) in
    let v : one.version ≡ other.version = eqb-true one.version other.version (second_so (one.table == other.table) (one.version == other.version) e) in
    λ i. record { table = t i; version = v i }

-- the scans of a program of the code
pub program_scans-view : (program : Program PQuery) → program_scans (program_view program) ≡ flat_map (λ step. query_scans (query_view step.query)) program.steps ++ query_scans (query_view program.last)
program_scans-view program = ap (λ scans. scans ++ query_scans (query_view program.last)) (flat_map-map (λ step. query_scans step.query) step_view program.steps)

pub annotated_program_scans-view : (program : Program AQuery) →
    annotated_program_scans (annotated_program_view program) ≡ flat_map (λ step. annotated_query_scans (annotated_view step.query)) program.steps
    ++ annotated_query_scans (annotated_view program.last)
annotated_program_scans-view program =
    ap (λ scans. scans ++ annotated_query_scans (annotated_view program.last)) (flat_map-map (λ (step : QueryStep). annotated_query_scans step.query) annotated_step_view program.steps)
