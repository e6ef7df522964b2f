use Rattle.std.proofs.Common.{◌≡◌, ◌++◌, ◌∷◌, [], OnOk, OnErr, ℕ, List, sym, ap, ◌∙◌, subst}
use Rattle.std.specs.List.{flat_map}
use Rattle.gp_base.specs.Texts.{quoted_byte}
use Rattle.gp_base.specs.DirectWriting.{AppendsPrefix}
use Rattle.gp_base.specs.declared.display.TheConstants.{QUOTE}
use Rattle.gp_base.proofs.TextLemmas.{unquoted}
use Rattle.gp_base.proofs.display.write_quoted.Goals as goal

pub returns-clause-ok : goal.returns-clause-ok
returns-clause-ok c =
    let bytes = c.as_bytes-bytes.ensures in
    let same : flat_map quoted_byte c.args.text.now ≡ c.as_bytes-bytes.result.now =
    ap (flat_map quoted_byte) (sym bytes) ∙ unquoted c.as_bytes-bytes.result.now (sym c.contains.ensures.value ∙ c.if-contains.false) in
    subst (λ (inside : List ℕ). OnOk c.append_all-2.result (c.append_all-2.new.out.items ≡ c.args.out.now.items ++ QUOTE ∷ (inside ++ QUOTE ∷ []))) (sym same) c.append_all-2.ensures.ok

pub returns-clause-err : goal.returns-clause-err
returns-clause-err c =
    let bytes = c.as_bytes-bytes.ensures in
    let same : flat_map quoted_byte c.args.text.now ≡ c.as_bytes-bytes.result.now =
    ap (flat_map quoted_byte) (sym bytes) ∙ unquoted c.as_bytes-bytes.result.now (sym c.contains.ensures.value ∙ c.if-contains.false) in
    subst (λ (inside : List ℕ). OnErr c.append_all-2.result (AppendsPrefix c.args.out.now.items c.append_all-2.new.out.items (QUOTE ∷ (inside ++ QUOTE ∷ [])))) (sym same) c.append_all-2.ensures.err
