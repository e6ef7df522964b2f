-- Machinery: tables of versions are stored as pairs, so that contracts can tell them apart.
use Rattle.std.specs.Prelude.{ℕ, List, refl}
use Rattle.std.specs.Coded.{Coded, code_by, coded×, coded_list, coded_ℕ}
use Rattle.gp_versions.specs.contracts.span.Span as span
use Rattle.gp_versions.specs.declared.span.Span.{Span}
use Rattle.gp_versions.specs.Spans.{Versions}

abbrev pub versions_code : Coded Versions
versions_code =
    code_by (List Span × ℕ) (coded× (coded_list span.the_row.coded) coded_ℕ) (λ v. (v.spans, v.spare)) (λ p. record { spans = p.0; spare = p.1 }) (λ _. refl)
