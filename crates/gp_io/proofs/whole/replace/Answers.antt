use Rattle.std.proofs.Common.{List, string_bytes, inl, inr, subst}
use Rattle.gp_io.specs.Steps.{Step}
use Rattle.gp_io.specs.Whole.{ReplacesPlain}
use Rattle.gp_io.proofs.whole.replace.Goals as goal

pub returns-in-Ok-Plain-clause-whole : goal.returns-in-Ok-Plain-clause-whole
returns-in-Ok-Plain-clause-whole g c =
    let noted = rw c.in-Ok-Plain.field-0-is at c.in-Ok-Plain.ensures.noted in
    let target = string_bytes c.in-Ok-Plain.target in
    let mode = c.in-Ok-Plain.mode in
    let new = (g.C.Calls.trace c.replace_plain.new.calls).steps in
    let plain : ReplacesPlain target mode c.args.bytes.now (g.C.Calls.trace c.look.new.self).steps new c.replace_plain.result = rw c.deref.ensures at c.replace_plain.ensures.plain in
    inr (inr (inl (target, mode, subst (λ (steps : List Step). ReplacesPlain target mode c.args.bytes.now steps new c.replace_plain.result) noted.0 plain)))
