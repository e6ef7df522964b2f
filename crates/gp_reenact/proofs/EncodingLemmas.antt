-- The rows of past versions do not depend on annotations, and scans that are asked are found.
use Rattle.std.proofs.Common.{◌≡◌, ℕ, zero, suc, ◌==◌, ◌&&◌, true, false, cond, List, [], ◌∷◌, map, refl, ap, sym, ◌∙◌, arith}
use Rattle.std.proofs.lemmas.Bool.{and_parts, eqb-true, eq-eqb}
use Rattle.gp_base.specs.declared.cell.Cell.{Cell}
use Rattle.gp_base.specs.Annotated.{Annotations, unannotated}
use Rattle.gp_algebra.specs.declared.plain.ScanAt.{ScanAt}
use Rattle.gp_algebra.specs.Scans.{AgreeOn}
use Rattle.gp_exec.specs.Running.{scanned_rows}
use Rattle.gp_versions.specs.declared.span.Span.{Span}
use Rattle.gp_versions.specs.Spans.{Versions, row_of}
use Rattle.gp_reenact.specs.Encoding.{encoded, encoded_row}
use Rattle.gp_reenact.specs.Travel.{past_environment, scans_at}

pub rows-plain : {M : Type 0} → (domain : Annotations M) (spans : List Span) → map encoded_row (map (row_of domain) spans) ≡ map encoded_row (map (row_of unannotated) spans)
rows-plain domain [] = refl
rows-plain domain (span ∷ spans) = ap (λ (rows : List (List Cell)). encoded_row (row_of unannotated span) ∷ rows) (rows-plain domain spans)

module _ (versions : List Versions) where
  abbrev rows_in : ℕ → ℕ → List (List Cell)
  rows_in = encoded (past_environment unannotated versions)

  found-first : (at : ScanAt) (others : List ScanAt) → scanned_rows (scans_at versions (at ∷ others)) at.version at.table ≡ rows_in at.version at.table
  found-first at others = rw (eq-eqb at.version at.version refl, eq-eqb at.table at.table refl) refl

  -- the first scan of a table in a version has its rows
  pub found : (scans : List ScanAt) → AgreeOn scans (scanned_rows (scans_at versions scans)) rows_in
  found [] scan (k, within, is) = absurd (omega arith)
  found (at ∷ others) scan (zero, within, is) = rw (sym is) (found-first at others)
  found (at ∷ others) scan (suc k, within, is) =
      elim ((at.version == scan.version) && (at.table == scan.table)) as (λ c. ((at.version == scan.version) && (at.table == scan.table)) ≡ c → cond c (rows_in at.version at.table) (scanned_rows (scans_at versions others) scan.version scan.table) ≡ rows_in scan.version scan.table) [
        | true ↦ λ same.
            let parts = and_parts (at.version == scan.version) (at.table == scan.table) same in
            ap (λ (version : ℕ). rows_in version at.table) (eqb-true at.version scan.version parts.0) ∙ ap (λ (table : ℕ). rows_in scan.version table) (eqb-true at.table scan.table parts.1)
        | false ↦ λ other. found others scan (k, omega arith, is)
      ] refl
