use Rattle.std.proofs.Common.{sym, subst, Contains}
use Rattle.std.proofs.lemmas.List.Filters.{dedup_is}
use Rattle.std.proofs.lemmas.List.Kept.{Contains-dedup, Contains-from_dedup, IsStrictlySortedBy-dedup}
use Rattle.std.proofs.lemmas.List.Sorted.{Contains-permutation, IsPermutation-sym}
use Rattle.gp_algebra.proofs.ScanOrder.{scan_cmp_total, scan_ties, same_scan, same_scan_equivalence, same_scan-exact}
use Rattle.gp_algebra.proofs.scan.each_once.Goals as goal

pub returns-clause-ascending : goal.returns-clause-ascending
returns-clause-ascending c = rw (dedup_is _ _ _ c.dedup.ensures.filtered) (IsStrictlySortedBy-dedup scan_cmp_total scan_ties _ c.sort_unstable.ensures.sorted)

pub returns-clause-same : goal.returns-clause-same
returns-clause-same c scan =
    let kept = dedup_is same_scan _ _ c.dedup.ensures.filtered in
    let moved = c.sort_unstable.ensures.permutation in (
      λ among. Contains-permutation _ _ scan (IsPermutation-sym _ _ moved) (Contains-from_dedup same_scan _ scan (subst (λ scans. Contains scans scan) kept among)),
      λ among. subst (λ scans. Contains scans scan) (sym kept) (Contains-dedup same_scan_equivalence same_scan-exact _ scan (Contains-permutation _ _ scan moved among)),
    )
