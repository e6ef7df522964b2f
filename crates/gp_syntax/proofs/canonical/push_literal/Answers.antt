use Rattle.std.proofs.Common.{◌≡◌, ℕ, pos, ◌^◌, ◌<ℤ◌, ◌≤ℤ◌, unsigned_abs, OnOk, cond, eqb, arith, ap, subst, ◌∙◌}
use Rattle.std.proofs.lemmas.Int.{ints, to_z-of_z}
use Rattle.gp_lexer.specs.declared.lexeme.Symbol.TheVariants as s
use Rattle.gp_lexer.specs.declared.lexeme.Lexeme.TheVariants.{Symbol as Sign, Number, Big}
use Rattle.gp_lexer.specs.Layout.{Page, put}
use Rattle.gp_syntax.proofs.CanonicalLemmas.{literal-negative, literal-positive}
use Rattle.gp_syntax.proofs.canonical.push_literal.Goals as goal

pub returns-then-number-lt0 : goal.returns-then-number-lt0
returns-then-number-lt0 c =
    let below : c.args.number <ℤ pos 0 = grind (arith, ints) in
    let value : c.unsigned_abs.result ≡ unsigned_abs c.args.number = grind (arith, to_z-of_z) in
    let P : Page → Type 0 = λ page. OnOk c.push_negative.result (c.push_negative.new.layout ≡ page) in
    subst P (ap (λ (m : ℕ). put (put c.args.layout.now (Sign s.Minus)) (cond (eqb m (2 ^ 63)) Big (Number m))) value
    ∙ literal-negative c.args.layout.now c.args.number below) c.push_negative.ensures

pub returns-else-number-lt0 : goal.returns-else-number-lt0
returns-else-number-lt0 c =
    let above : pos 0 ≤ℤ c.args.number = grind (arith, ints) in
    let value : c.unsigned_abs-else-number-lt0.result ≡ unsigned_abs c.args.number = grind (arith, to_z-of_z) in
    let P : Page → Type 0 = λ page. OnOk c.push_magnitude.result (c.push_magnitude.new.layout ≡ page) in
    subst P (ap (λ (m : ℕ). put c.args.layout.now (cond (eqb m (2 ^ 63)) Big (Number m))) value
    ∙ literal-positive c.args.layout.now c.args.number above) c.push_magnitude.ensures
