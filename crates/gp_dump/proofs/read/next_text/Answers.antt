use Rattle.std.proofs.Common.{◌≡◌, ◌∷◌, refl, sym, ◌∙◌, subst, false, Err, arith}
use Rattle.std.specs.Str.{is_utf8}
use Rattle.gp_dump.specs.declared.lines.DumpLine as code
use Rattle.gp_dump.specs.Lines.{lines_of, Whole, Cut, Missing}
use Rattle.gp_dump.specs.Reading.{behind, line_view}
use Rattle.gp_dump.specs.Verdicts.{text_of}
use Rattle.gp_dump.proofs.ReadLemmas.{text-whole, text-bad}
use Rattle.gp_dump.proofs.read.next_text.Goals as goal

pub returns-then-is_utf8-clause-verdict : goal.returns-then-is_utf8-clause-verdict
returns-then-is_utf8-clause-verdict c due takes =
    let lines = subst (λ (p : code.DumpLine). lines_of c.args.rest.bytes.now ≡ line_view p ∷ behind (line_view p) c.first_line.result.1.now) c.in-Whole.is c.first_line.ensures.lines in
    text-whole c.args.rest.bytes.now due c.in-Whole.text.now c.first_line.result.1.now c.args.rest.number lines takes (sym c.is_utf8.ensures.utf8 ∙ c.if-is_utf8.true)

pub returns-else-is_utf8-clause-verdict : goal.returns-else-is_utf8-clause-verdict
returns-else-is_utf8-clause-verdict c due takes =
    let lines = subst (λ (p : code.DumpLine). lines_of c.args.rest.bytes.now ≡ line_view p ∷ behind (line_view p) c.first_line.result.1.now) c.in-Whole.is c.first_line.ensures.lines in
    let no : is_utf8 c.in-Whole.text.now ≡ false = sym c.is_utf8.ensures.utf8 ∙ c.if-is_utf8.false in
    let bad : text_of (Whole c.in-Whole.text.now) ≡ Err 1 = rw no refl in
    text-bad c.args.rest.bytes.now due (Whole c.in-Whole.text.now) _ c.args.rest.number 1 lines bad takes

pub returns-after-is_utf8-2-clause-verdict : goal.returns-after-is_utf8-2-clause-verdict
returns-after-is_utf8-2-clause-verdict c due takes =
    let lines = subst (λ (p : code.DumpLine). lines_of c.args.rest.bytes.now ≡ line_view p ∷ behind (line_view p) c.first_line.result.1.now) c.in-Cut.is c.first_line.ensures.lines in
    let bad : text_of (Cut c.in-Cut.text.now) ≡ Err c.if-is_utf8-2.result = grind arith in
    text-bad c.args.rest.bytes.now due (Cut c.in-Cut.text.now) _ c.args.rest.number c.if-is_utf8-2.result lines bad takes

pub returns-in-Missing-clause-verdict : goal.returns-in-Missing-clause-verdict
returns-in-Missing-clause-verdict c due takes =
    let lines = subst (λ (p : code.DumpLine). lines_of c.args.rest.bytes.now ≡ line_view p ∷ behind (line_view p) c.first_line.result.1.now) c.in-Missing.is c.first_line.ensures.lines in
    text-bad c.args.rest.bytes.now due Missing _ c.args.rest.number 3 lines refl takes
