use Rattle.std.proofs.Common.{Global, Vec, ◌≡◌, ◌∙◌, ℕ, [], ◌∷◌, ap}
use Rattle.std.specs.Prelude.{codes}
use Rattle.std.specs.Fmt.{decimal}
use Rattle.std.specs.List.{concat}
use Rattle.std.proofs.lemmas.Result.{IfOk-weaker}
use Rattle.gp_log.specs.Contents.{entries, tables}
use Rattle.gp_serial.specs.Changes.{change_view}
use Rattle.gp_ask.specs.SerialAnswers as s
use Rattle.gp_ask.proofs.serial.reading_text.Goals as goal

pub returns : goal.returns
returns c =
    let reader = c.as_bytes.ensures.value ∙ c.in_ok-reader.ensures.ok in
    let k = c.as_bytes-2.ensures.value ∙ c.in_ok-k.ensures.ok in
    let row = c.deref.ensures.value ∙ c.in_ok-row.ensures in
    let version = c.as_bytes-3.ensures.value ∙ c.in_ok-version.ensures.ok ∙ ap decimal c.version_read_by.ensures in
    let writer = c.as_bytes-4.ensures.value ∙ c.in_ok-writer.ensures.ok in
    let made = c.as_bytes-5.ensures.value ∙ c.in_ok-made.ensures.ok in
    IfOk-weaker c.text_of_pieces.result
    (λ (text : Vec ℕ Global). text.items ≡ concat (c.as_bytes.result.now ∷ codes "." ∷ c.as_bytes-2.result.now ∷ codes " read " ∷ c.deref.result.now ∷ codes " at " ∷ c.as_bytes-3.result.now ∷ codes ", "
    ∷ c.as_bytes-4.result.now ∷ codes " wrote it as " ∷ c.as_bytes-5.result.now ∷ []))
    (λ (text : Vec ℕ Global). text.items ≡ s.reading_text (tables c.args.log.now) (entries c.args.log.now) c.args.reader c.args.k c.args.writer (change_view c.args.change.now))
    (λ text is. is ∙ (λ i. concat (reader i ∷ codes "." ∷ k i ∷ codes " read " ∷ row i ∷ codes " at " ∷ version i ∷ codes ", " ∷ writer i ∷ codes " wrote it as " ∷ made i ∷ [])))
    c.text_of_pieces.ensures
