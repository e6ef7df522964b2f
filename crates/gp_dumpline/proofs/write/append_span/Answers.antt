use Rattle.std.proofs.Common.{◌≡◌, [], ◌++◌, List, ℕ, ap, ◌∙◌, append_assoc}
use Rattle.std.proofs.lemmas.List.{append-nil}
use Rattle.std.proofs.lemmas.Result.{err_from_is_err_and}
use Rattle.gp_base.specs.Identities.{identity_text}
use Rattle.gp_base.specs.Texts.{row_text}
use Rattle.gp_base.proofs.WritingLemmas.{AppendsPrefix-after, AppendsPrefix-first}
use Rattle.gp_versions.specs.declared.span.Span.{Span}
use Rattle.gp_dumpline.specs.Texts.{span_text}
use Rattle.gp_dumpline.specs.Writing.{versions_text}
use Rattle.gp_dumpline.proofs.write.append_span.Goals as goal

-- the versions and the cells behind an identity
behind-id : (span : Span) → span_text span ≡ identity_text span.id ++ (versions_text span.from span.to ++ row_text span.row)
behind-id span = simp (append_assoc, append-nil)

-- the cells behind both
behind-versions : (span : Span) → span_text span ≡ (identity_text span.id ++ versions_text span.from span.to) ++ (row_text span.row ++ [])
behind-versions span = simp (append_assoc, append-nil)

pub returns-in_err-append_id-clause-err : goal.returns-in_err-append_id-clause-err
returns-in_err-append_id-clause-err c =
    let p = err_from_is_err_and c.from_residual.result c.from_residual.ensures.1 in
    rw p.1 (AppendsPrefix-first c.args.out.now.items c.append_id.new.out.items (identity_text c.args.span.now.id) _ c.in_err-append_id.ensures.err)

pub returns-in_err-append_versions-clause-err : goal.returns-in_err-append_versions-clause-err
returns-in_err-append_versions-clause-err c =
    let p = err_from_is_err_and c.from_residual-in_err-append_versions.result c.from_residual-in_err-append_versions.ensures.1 in
    let span = c.args.span.now in
    rw p.1 (AppendsPrefix-after c.args.out.now.items c.append_id.new.out.items c.append_versions.new.out.items (span_text span)
    (identity_text span.id) (versions_text span.from span.to) (row_text span.row)
    c.in_ok-append_id.ensures.ok c.in_err-append_versions.ensures.err (behind-id span))

pub returns-in_err-write_row-clause-err : goal.returns-in_err-write_row-clause-err
returns-in_err-write_row-clause-err c =
    let p = err_from_is_err_and c.from_residual-in_err-write_row.result c.from_residual-in_err-write_row.ensures.1 in
    let span = c.args.span.now in
    let versions : List ℕ = versions_text span.from span.to in
    rw p.1 (AppendsPrefix-after c.args.out.now.items c.append_versions.new.out.items c.write_row.new.out.items (span_text span)
    (identity_text span.id ++ versions) (row_text span.row) []
    (c.in_ok-append_versions.ensures.ok ∙ ap (λ (t : List ℕ). t ++ versions) c.in_ok-append_id.ensures.ok ∙ append_assoc c.args.out.now.items (identity_text span.id) versions)
    c.in_err-write_row.ensures.err (behind-versions span))
