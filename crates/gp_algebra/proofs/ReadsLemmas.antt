-- A query means the same over the same rows of the steps that it reads.
use Rattle.std.proofs.Common.{◌≡◌, ℕ, true, ◌||◌, List, ◌++◌, map, filter, refl, ap, ◌∙◌}
use Rattle.std.specs.List.{flat_map}
use Rattle.std.proofs.lemmas.Bool.{or_left, or_right}
use Rattle.gp_base.specs.Annotated.{Annotations, Environment}
use Rattle.gp_base.specs.declared.cell.Cell.{Cell}
use Rattle.gp_base.proofs.SmallLemmas.{eq_from_same}
use Rattle.gp_expr.specs.Values.{passes}
use Rattle.gp_algebra.specs.AnnotatedMeaning as qm
use Rattle.gp_algebra.specs.AnnotatedMeaning.{Derived}
use Rattle.gp_algebra.specs.AnnotatedQueries as q
use Rattle.gp_algebra.specs.AnnotatedQueries.{Query}
use Rattle.gp_algebra.specs.Answers.{values}
use Rattle.gp_algebra.specs.Plain as p
use Rattle.gp_algebra.specs.Plain.{Plain, PlainEnvironment, StepRows, meaning, published_onto}
use Rattle.gp_algebra.specs.Reads.{annotated_reads, reads}

pub meaning_agrees : (env : PlainEnvironment) (query : Plain) (known others : StepRows) → ((j : ℕ) → reads j query ≡ true → known j ≡ others j) → meaning known env query ≡ meaning others env query
meaning_agrees env (p.scan table version) known others agree = refl
meaning_agrees env (p.step j) known others agree = agree j (eq_from_same j j refl)
meaning_agrees env (p.select query c) known others agree = ap (λ (rows : List (List Cell)). filter (passes c) rows) (meaning_agrees env query known others agree)
meaning_agrees env (p.project query exprs) known others agree = ap (λ (rows : List (List Cell)). map (values exprs) rows) (meaning_agrees env query known others agree)
meaning_agrees env (p.product left right) known others agree =
    let first = meaning_agrees env left known others (λ j read. agree j (or_left (reads j left) (reads j right) read)) in
    let second = meaning_agrees env right known others (λ j read. agree j (or_right (reads j left) (reads j right) read)) in
    ap (λ (rows : List (List Cell)). flat_map (λ row. map (λ other. row ++ other) rows) (meaning known env left)) second
    ∙ ap (λ (rows : List (List Cell)). flat_map (λ row. map (λ other. row ++ other) (meaning others env right)) rows) first
meaning_agrees env (p.union left right) known others agree =
    let first = meaning_agrees env left known others (λ j read. agree j (or_left (reads j left) (reads j right) read)) in
    let second = meaning_agrees env right known others (λ j read. agree j (or_right (reads j left) (reads j right) read)) in
    ap (λ (rows : List (List Cell)). rows ++ meaning known env right) first ∙ ap (λ (rows : List (List Cell)). meaning others env left ++ rows) second
meaning_agrees env (p.given rows) known others agree = refl
meaning_agrees env (p.publish at base mine later) known others agree =
    let inner = λ (j : ℕ). reads j mine || reads j later in
    let first = meaning_agrees env base known others (λ j read. agree j (or_left (reads j base) (inner j) read)) in
    let second = meaning_agrees env mine known others (λ j read. agree j (or_right (reads j base) (inner j) (or_left (reads j mine) (reads j later) read))) in
    let third = meaning_agrees env later known others (λ j read. agree j (or_right (reads j base) (inner j) (or_right (reads j mine) (reads j later) read))) in
    ap (λ (rows : List (List Cell)). published_onto at rows (meaning known env mine) (meaning known env later)) first
    ∙ (ap (λ (rows : List (List Cell)). published_onto at (meaning others env base) rows (meaning known env later)) second
    ∙ ap (λ (rows : List (List Cell)). published_onto at (meaning others env base) (meaning others env mine) rows) third)

module _ {M : Type 0} (domain : Annotations M) (env : Environment M) where
  abbrev Rows : Type 0
  Rows = List (Derived M)

  pub annotated_meaning_agrees : (query : Query) (known others : ℕ → Rows) → ((j : ℕ) → annotated_reads j query ≡ true → known j ≡ others j) → qm.meaning domain known env query ≡ qm.meaning domain others env query
  annotated_meaning_agrees (q.scan table version) known others agree = refl
  annotated_meaning_agrees (q.step j) known others agree = agree j (eq_from_same j j refl)
  annotated_meaning_agrees (q.select query c) known others agree = ap (λ (rows : Rows). filter (λ (row : Derived M). passes c row.cells) rows) (annotated_meaning_agrees query known others agree)
  annotated_meaning_agrees (q.project query exprs change) known others agree = ap (λ (rows : Rows). map (qm.projected domain exprs change) rows) (annotated_meaning_agrees query known others agree)
  annotated_meaning_agrees (q.product left right) known others agree =
      let first = annotated_meaning_agrees left known others (λ j read. agree j (or_left (annotated_reads j left) (annotated_reads j right) read)) in
      let second = annotated_meaning_agrees right known others (λ j read. agree j (or_right (annotated_reads j left) (annotated_reads j right) read)) in
      ap (λ (rows : Rows). flat_map (λ row. map (qm.crossed domain row) rows) (qm.meaning domain known env left)) second
      ∙ ap (λ (rows : Rows). flat_map (λ row. map (qm.crossed domain row) (qm.meaning domain others env right)) rows) first
  annotated_meaning_agrees (q.union left right) known others agree =
      let first = annotated_meaning_agrees left known others (λ j read. agree j (or_left (annotated_reads j left) (annotated_reads j right) read)) in
      let second = annotated_meaning_agrees right known others (λ j read. agree j (or_right (annotated_reads j left) (annotated_reads j right) read)) in
      ap (λ (rows : Rows). rows ++ qm.meaning domain known env right) first ∙ ap (λ (rows : Rows). qm.meaning domain others env left ++ rows) second
  annotated_meaning_agrees (q.given t k rows) known others agree = refl
  annotated_meaning_agrees (q.new_rows t k b query) known others agree = ap (λ (rows : Rows). map (qm.renewed domain t k b) rows) (annotated_meaning_agrees query known others agree)
  annotated_meaning_agrees (q.publish base mine later) known others agree =
      let inner = λ (j : ℕ). annotated_reads j mine || annotated_reads j later in
      let first = annotated_meaning_agrees base known others (λ j read. agree j (or_left (annotated_reads j base) (inner j) read)) in
      let second = annotated_meaning_agrees mine known others (λ j read. agree j (or_right (annotated_reads j base) (inner j) (or_left (annotated_reads j mine) (annotated_reads j later) read))) in
      let third = annotated_meaning_agrees later known others (λ j read. agree j (or_right (annotated_reads j base) (inner j) (or_right (annotated_reads j mine) (annotated_reads j later) read))) in
      ap (λ (rows : Rows). qm.published_onto domain rows (qm.meaning domain known env mine) (qm.meaning domain known env later)) first
      ∙ (ap (λ (rows : Rows). qm.published_onto domain (qm.meaning domain others env base) rows (qm.meaning domain known env later)) second
      ∙ ap (λ (rows : Rows). qm.published_onto domain (qm.meaning domain others env base) (qm.meaning domain others env mine) rows) third)
