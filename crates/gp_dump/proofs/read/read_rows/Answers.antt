use Rattle.std.proofs.Common.{◌≡◌, ◌+◌, ◌-◌, ◌∷◌, ℕ, List, arith, sym, ◌∙◌, ap, reverse}
use Rattle.std.proofs.lemmas.List.{reverse-reverse}
use Rattle.gp_versions.specs.declared.span.Span.{Span}
use Rattle.gp_dump.specs.Reading.{verdict_from}
use Rattle.gp_dump.specs.Rules.{Rows, Sections}
use Rattle.gp_dump.proofs.ReadLemmas.{continues-err, rows-done}
use Rattle.gp_dump.proofs.read.read_rows.Goals as goal

pub returns-in_err-span-clause-verdict : goal.returns-in_err-span-clause-verdict
returns-in_err-span-clause-verdict c log tables due =
    let by_one : c.loop-left.left ≡ (c.loop-left.left - 1) + 1 = omega (arith, c.loop-left-test.true) in
    let here =
    c.loop-left.invariant.told log tables due
    ∙ ap (λ (rows : List Span). verdict_from c.loop-left.rest.bytes.now (Rows c.loop-left.left log tables (reverse rows)) c.loop-left.rest.number) (sym c.deref.ensures.value) in
    continues-err c.from_residual.result _ c.in_err-span.field-0.0 _ _ c.from_residual.ensures.1 here (c.in_err-span.ensures.verdict c.loop-left.left (c.loop-left.left - 1) log tables by_one due)

pub returns-clause-verdict : goal.returns-clause-verdict
returns-clause-verdict c log tables due =
    let none : c.loop-left.left ≡ 0 = omega (arith, c.loop-left-test.false) in
    c.loop-left.invariant.told log tables due
    ∙ ap (λ (n : ℕ). verdict_from c.loop-left.rest.bytes.now (Rows n log tables (reverse c.loop-left.spans.items)) c.loop-left.rest.number) none
    ∙ rows-done c.loop-left.rest.bytes.now log tables (reverse c.loop-left.spans.items) c.loop-left.rest.number
    ∙ ap (λ (rows : List Span). verdict_from c.loop-left.rest.bytes.now (Sections log (rows ∷ tables)) c.loop-left.rest.number) (reverse-reverse c.loop-left.spans.items)
