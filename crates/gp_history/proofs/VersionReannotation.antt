-- A homomorphism of annotations commutes with the annotated versions of a log and its spans, and with the elements and refusals of an answer.
use Rattle.std.proofs.Common.{◌≡◌, ℕ, zero, suc, Bool, true, false, cond, List, [], ◌∷◌, length, refl, sym, ap, ◌∙◌, map, Option, Some, None}
use Rattle.std.specs.Prelude.{◌==◌}
use Rattle.std.specs.Option.{option_map, option_or}
use Rattle.gp_base.specs.declared.refusal.Refusal.{Refusal}
use Rattle.gp_base.specs.declared.refusal.Refusal.TheVariants.{E24}
use Rattle.gp_base.specs.declared.table.Table.{Table}
use Rattle.gp_base.specs.Annotated.{Annotations, Annotated, Database, Environment}
use Rattle.gp_base.specs.Identities.{Identity, same_identity}
use Rattle.gp_grammar.specs.Syntax as y
use Rattle.gp_versions.specs.declared.span.Span.{Span}
use Rattle.gp_versions.specs.Spans.{row_of, spans_at}
use Rattle.gp_algebra.specs.Answers.{Element, answer}
use Rattle.gp_algebra.specs.Reannotation.{IsHomomorphism, element_reannotated, reannotated}
use Rattle.gp_algebra.specs.Statements.{Select}
use Rattle.gp_algebra.proofs.Erasure.{Reannotates, answer_reannotated}
use Rattle.gp_machine.specs.Annotating.{annotated, annotated_row, annotated_versions, annotation_of, computed}
use Rattle.gp_machine.specs.Committed.{cleared}
use Rattle.gp_machine.specs.Entries.{Entry, Log, log_of, statement_count, versions_in}
use Rattle.gp_machine.specs.Event.{name_at}
use Rattle.gp_machine.specs.HistorySpans.{as_of}
use Rattle.gp_machine.specs.Parameters.{Parameters}
use Rattle.gp_machine.specs.Points.{at_point}
use Rattle.gp_machine.specs.Runs.{at_commit}
use Rattle.gp_machine.specs.Questions.{annotation_stop, difference_refusal, given, log_refusal, needed_version, own_stop, stop_refusal}
use Rattle.gp_history.specs.ValueAnswers.{all_elements, history_refusal}
use Rattle.gp_history.specs.AnswerForms.{carried}
use Rattle.gp_machine.proofs.PointReannotation.{VersionsReannotate, at_commit_reannotated, at_point_reannotated, cleared_reannotated, run_stop_reannotated}
use Rattle.gp_base.proofs.SmallLemmas.{map-map, map_agree}

module _ {M N : Type 0} (domain : Annotations M) (other : Annotations N) (h : M → N) (keeps : IsHomomorphism domain other h) where
  annotation_reannotated : (id : Identity) (rows : List (Annotated M)) → annotation_of other id (map (reannotated h) rows) ≡ h (annotation_of domain id rows)
  annotation_reannotated id [] = sym keeps.one
  annotation_reannotated id (row ∷ rows) =
      elim (same_identity row.identity id) as (λ b. cond b (h row.annotation) (annotation_of other id (map (reannotated h) rows)) ≡ h (cond b row.annotation (annotation_of domain id rows))) [
        | true ↦ refl
        | false ↦ annotation_reannotated id rows
      ]

  module _ (spans : ℕ → List Span) where
    pub annotated_reannotated : (a : Environment M) (b : Environment N) → VersionsReannotate h a b → VersionsReannotate h (annotated domain spans a) (annotated other spans b)
    annotated_reannotated a b are version table =
        map_agree (annotated_row other b table) (λ span. reannotated h (annotated_row domain a table span)) each (spans_at version (spans table))
        ∙ sym (map-map (reannotated h) (annotated_row domain a table) (spans_at version (spans table)))
      where
        each : (span : Span) → annotated_row other b table span ≡ reannotated h (annotated_row domain a table span)
        each span = ap (λ m. record { identity = span.id; cells = span.row; mark = false; annotation = m }) (ap (annotation_of other span.id) (are span.from table) ∙ annotation_reannotated span.id (a span.from table))

    -- what the commit after these versions makes
    abbrev next : {L : Type 0} → Annotations L → Log → ℕ → Environment L → Database L
    next some log u known = cleared (at_commit some log (log.committer (suc u)) u (annotated some spans known))

    pub computed_reannotated : (log : Log) (u : ℕ) → VersionsReannotate h (computed domain log spans u) (computed other log spans u)
    computed_reannotated log zero version table = refl
    computed_reannotated log (suc u) version table =
        elim (version == suc u) as (λ b. (cond b (next other log u (computed other log spans u)) (computed other log spans u version)) table ≡ map (reannotated h) ((cond b (next domain log u (computed domain log spans u)) (computed domain log spans u version)) table)) [
          | true ↦ made (computed_reannotated log u)
          | false ↦ computed_reannotated log u version table
        ]
      where
        made : VersionsReannotate h (computed domain log spans u) (computed other log spans u) → next other log u (computed other log spans u) table ≡ map (reannotated h) (next domain log u (computed domain log spans u) table)
        made before =
            cleared_reannotated h (at_commit domain log (log.committer (suc u)) u (annotated domain spans (computed domain log spans u))) (at_commit other log (log.committer (suc u)) u (annotated other spans (computed other log spans u)))
            (at_commit_reannotated domain other h keeps (annotated domain spans (computed domain log spans u)) (annotated other spans (computed other log spans u))
            (annotated_reannotated (computed domain log spans u) (computed other log spans u) before) log (log.committer (suc u)) u) table

    pub versions_reannotated : (entries : List Entry) → VersionsReannotate h (annotated_versions domain entries spans) (annotated_versions other entries spans)
    versions_reannotated entries =
        annotated_reannotated (computed domain (log_of entries) spans (versions_in entries)) (computed other (log_of entries) spans (versions_in entries)) (computed_reannotated (log_of entries) (versions_in entries))

    rows_reannotated : VersionsReannotate h (as_of domain spans) (as_of other spans)
    rows_reannotated version table =
        map_agree (row_of other) (λ span. reannotated h (row_of domain span)) (λ span. ap (λ m. record { identity = span.id; cells = span.row; mark = false; annotation = m }) (sym keeps.one)) (spans_at version (spans table))
        ∙ sym (map-map (reannotated h) (row_of domain) (spans_at version (spans table)))

    -- ---- where the versions stop

    module _ (parameters : Parameters) (agree : List (Annotated M) → List (Annotated M) → Bool) (alike : List (Annotated N) → List (Annotated N) → Bool)
        (natural : (rows others : List (Annotated M)) → alike (map (reannotated h) rows) (map (reannotated h) others) ≡ agree rows others) (catalogue : List Table) where
      difference_reannotated : (version tables : ℕ) (db past : Database M) (db' past' : Database N) → Reannotates h db db' → Reannotates h past past'
          → difference_refusal other parameters alike catalogue version tables db' past' ≡ difference_refusal domain parameters agree catalogue version tables db past
      difference_reannotated version zero db past db' past' same same' = refl
      difference_reannotated version (suc table) db past db' past' same same' =
          λ i. option_or (difference_reannotated version table db past db' past' same same' i) (cond (here i) None (Some (E24 version (name_at table catalogue))))
        where
          here : alike (db' table) (past' table) ≡ agree (db table) (past table)
          here = ap (λ rows. alike rows (past' table)) (same table) ∙ ap (alike (map (reannotated h) (db table))) (same' table) ∙ natural (db table) (past table)

      pub annotation_stop_reannotated : (log : Log) (u : ℕ) → annotation_stop other parameters alike catalogue log spans u ≡ annotation_stop domain parameters agree catalogue log spans u
      annotation_stop_reannotated log zero = refl
      annotation_stop_reannotated log (suc u) =
          let before = annotation_stop_reannotated log u in
          let known = annotated_reannotated (computed domain log spans u) (computed other log spans u) (computed_reannotated log u) in
          let own = run_stop_reannotated domain other h keeps (annotated domain spans (computed domain log spans u)) (annotated other spans (computed other log spans u)) known parameters log (log.committer (suc u)) (log.statement_count (log.committer (suc u))) in
          let last = difference_reannotated (suc u) (length catalogue) (computed domain log spans (suc u) (suc u)) (as_of domain spans (suc u)) (computed other log spans (suc u) (suc u)) (as_of other spans (suc u))
          (computed_reannotated log (suc u) (suc u)) (rows_reannotated (suc u)) in
          λ i. option_or (before i) (option_or (option_map stop_refusal (own i)) (last i))

      own_stop_reannotated : (entries : List Entry) (point : y.Point) → own_stop other parameters entries point (annotated_versions other entries spans) ≡ own_stop domain parameters entries point (annotated_versions domain entries spans)
      own_stop_reannotated entries (y.as_of version) = refl
      own_stop_reannotated entries (y.after t k) =
          ap (option_map stop_refusal) (run_stop_reannotated domain other h keeps (annotated_versions domain entries spans) (annotated_versions other entries spans) (versions_reannotated entries) parameters (log_of entries) t k)
      own_stop_reannotated entries (y.Point.commit t) =
          ap (option_map stop_refusal) (run_stop_reannotated domain other h keeps (annotated_versions domain entries spans) (annotated_versions other entries spans) (versions_reannotated entries) parameters (log_of entries) t (statement_count t entries))

      module _ (entries : List Entry) (point : y.Point) where
        -- a question is refused alike over both annotations
        pub refusal_reannotated : history_refusal other parameters alike catalogue entries spans point ≡ history_refusal domain parameters agree catalogue entries spans point
        refusal_reannotated =
            λ i. option_or (log_refusal entries point) (option_or (annotation_stop_reannotated (log_of entries) (needed_version entries point) i) (own_stop_reannotated entries point i))

        -- and the same elements with other annotations
        pub answer_reannotated_at : (query : Select) → answer other query (at_point other entries point (annotated_versions other entries spans)) ≡ map (element_reannotated h) (answer domain query (at_point domain entries point (annotated_versions domain entries spans)))
        answer_reannotated_at query =
            answer_reannotated domain other h keeps query (at_point domain entries point (annotated_versions domain entries spans)) (at_point other entries point (annotated_versions other entries spans))
            (at_point_reannotated domain other h keeps (annotated_versions domain entries spans) (annotated_versions other entries spans) (versions_reannotated entries) entries point)

        pub elements_reannotated : (query : Select) → all_elements other parameters alike catalogue entries spans point query ≡ carried h (all_elements domain parameters agree catalogue entries spans point query)
        elements_reannotated query =
            ap (λ refusal. given refusal (answer other query (at_point other entries point (annotated_versions other entries spans)))) refusal_reannotated
            ∙ ap (given (history_refusal domain parameters agree catalogue entries spans point)) (answer_reannotated_at query)
            ∙ inside (history_refusal domain parameters agree catalogue entries spans point) (answer domain query (at_point domain entries point (annotated_versions domain entries spans)))
          where
            inside : (refusal : Option Refusal) (elements : List (Element M)) → given refusal (map (element_reannotated h) elements) ≡ carried h (given refusal elements)
            inside None elements = refl
            inside (Some refusal) elements = refl
