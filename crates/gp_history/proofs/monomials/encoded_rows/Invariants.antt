use Rattle.std.proofs.Common.{◌≡◌, ◌++◌, drop, map, true}
use Rattle.gp_prov.specs.Encoding.{encoded_row}
use Rattle.gp_history.specs.SpanAnnotations.{span_rows}
use Rattle.gp_history.proofs.monomials.encoded_rows.Given as goal

-- the spans that remain give the other rows
abbrev pub invariant-loop-i : goal.invariant-loop-i
invariant-loop-i l =
    l.rows ++ map (encoded_row true) (span_rows l.version (map (λ span. span.now) (drop l.i l.spans)) (map (λ monomial. monomial.now) (drop l.i l.monomials)))
    ≡ map (encoded_row true) (span_rows l.version (map (λ span. span.now) l.spans) (map (λ monomial. monomial.now) l.monomials))
