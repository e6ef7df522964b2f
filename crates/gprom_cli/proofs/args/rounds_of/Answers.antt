use Rattle.std.proofs.Common.{◌≡◌, ℕ, List, Some, None, sym, subst, ◌∙◌}
use Rattle.std.specs.Str.Parse.{ParsesUnsigned}
use Rattle.gprom_cli.specs.Args.{rounds_of}
use Rattle.gprom_cli.proofs.RoundsLemmas.{word-none, word-some}
use Rattle.gprom_cli.proofs.args.rounds_of.Goals as goal

pub returns-in-Ok : goal.returns-in-Ok
returns-in-Ok c =
    let bytes = c.as_bytes.result.now in
    let parses = subst (λ (word : List ℕ). ParsesUnsigned 32 10 word c.parse.result) (sym c.as_bytes.ensures.value) c.parse.ensures.value.0 in
    subst (λ (word : List ℕ). Some c.in-Ok.rounds ≡ rounds_of word) c.as_bytes.ensures.value
    (word-some bytes c.parse.result c.in-len1-up.len_at_least c.if-first-eq48.false c.if-first-eq43.false parses c.in-Ok.rounds c.in-Ok.is (sym c.are_few.ensures ∙ c.if-are_few.true))

pub returns-in_default-parse-2 : goal.returns-in_default-parse-2
returns-in_default-parse-2 c =
    let bytes = c.as_bytes.result.now in
    let parses = subst (λ (word : List ℕ). ParsesUnsigned 32 10 word c.parse.result) (sym c.as_bytes.ensures.value) c.parse.ensures.value.0 in
    subst (λ (word : List ℕ). None ≡ rounds_of word) c.as_bytes.ensures.value
    (word-none bytes c.parse.result c.in-len1-up.len_at_least c.if-first-eq48.false c.if-first-eq43.false parses c.in_default-parse.field-0 c.in_default-parse.is)
