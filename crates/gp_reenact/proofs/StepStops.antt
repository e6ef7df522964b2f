-- The steps of a transaction, over the row versions of a log, stop where its run does.
use Rattle.std.proofs.Common.{◌≡◌, ℕ, true, false, List, [], ◌∷◌, map, refl, sym, ap, ◌∙◌}
use Rattle.std.specs.List.{AllByRecursion}
use Rattle.std.specs.Option.{option_map}
use Rattle.gp_base.specs.declared.row_id.TheConstants.{MAX_NODES}
use Rattle.gp_base.specs.Annotated.{Environment, monomials, unannotated}
use Rattle.gp_base.specs.Tokens.{Monomial}
use Rattle.gp_base.proofs.ProductLaws.{times-associative, times-one}
use Rattle.gp_algebra.specs.AnnotatedQueries as q
use Rattle.gp_algebra.specs.AnnotatedQueries.{step_table}
use Rattle.gp_algebra.specs.QueryForms.{HasSteps}
use Rattle.gp_algebra.specs.Reannotation.{IsHomomorphism, forgotten, reannotated}
use Rattle.gp_algebra.specs.Statements.{width_of}
use Rattle.gp_algebra.specs.Stops.{program_stop}
use Rattle.gp_base.specs.declared.limit.TheConstants.{MAX_TABLE_ROWS}
use Rattle.gp_machine.specs.Entries.{Entry, log_of}
use Rattle.gp_machine.specs.HistorySpans as machine
use Rattle.gp_machine.specs.Points.{run_stop}
use Rattle.gp_log.specs.Parameters.{parameters}
use Rattle.gp_log.specs.LogFacts.{tables_in}
use Rattle.gp_log.specs.LogFitting.{SpansFit, statements_fit}
use Rattle.gp_versions.specs.declared.span.Span.{Span}
use Rattle.gp_versions.specs.Spans.{Versions, row_of, spans_at}
use Rattle.gp_rewrite.specs.Meaning.{AreAsWide, IsMonoid}
use Rattle.gp_compose.specs.Composed.{composed}
use Rattle.gp_compose.proofs.ProgramLemmas.{composed_step_is}
use Rattle.gp_prov.specs.Encoding as enc
use Rattle.gp_prov.specs.ToPlain.{plain_program}
use Rattle.gp_prov.proofs.MeaningLemmas.{HaveWidths, rows_between, steps_are}
use Rattle.gp_reenact.specs.Encoding as travel
use Rattle.gp_reenact.specs.Travel as travels
use Rattle.gp_reenact.proofs.EncodingLemmas.{rows-plain}
use Rattle.gp_reenact.specs.Reenacting.{spans_of}
use Rattle.gp_machine.proofs.PointReannotation.{VersionsReannotate, run_stop_reannotated}
use Rattle.gp_reenact.proofs.HeldLemmas.{held_rows, wide_rows}
use Rattle.gp_reenact.proofs.StopLemmas.{gives_run, program_stops, step_stop}
use Rattle.gp_base.proofs.SmallLemmas.{map-map}

-- ---- past versions

module _ (versions : List Versions) where
  -- the two encodings agree where there is no provenance
  pub env_is : travel.encoded (travels.past_environment unannotated versions) ≡ enc.encoded false (machine.as_of monomials (spans_of versions))
  env_is = λ i. λ version table. sym (rows-plain monomials (spans_at version (spans_of versions table))) i

  pub forgets : VersionsReannotate forgotten (machine.as_of monomials (spans_of versions)) (machine.as_of unannotated (spans_of versions))
  forgets version table = sym (map-map (reannotated forgotten) (row_of monomials) (spans_at version (spans_of versions table)))

  -- no transaction has written a past version
  pub none_marked : (version table : ℕ) → AllByRecursion (λ row. row.mark ≡ false) (machine.as_of monomials (spans_of versions) version table)
  none_marked version table = go (spans_at version (spans_of versions table))
    where
      go : (spans : List Span) → AllByRecursion (λ row. row.mark ≡ false) (map (row_of monomials) spans)
      go [] = tt
      go (span ∷ spans) = (refl, go spans)

pub monoid : IsMonoid monomials
monoid = record { right_one = times-one; associative = times-associative }

pub forgetting : IsHomomorphism monomials unannotated forgotten
forgetting = record { one = refl; times = λ a b. refl; token = λ token. refl }

module _ (entries : List Entry) (versions : List Versions) (fit : statements_fit (tables_in entries) entries ≡ true) (spans_fit : SpansFit (tables_in entries) (spans_of versions)) where
  pub past_wide : (version : ℕ) → AreAsWide (width_of (tables_in entries)) (machine.as_of monomials (spans_of versions) version)
  past_wide version = wide_rows monomials (tables_in entries) (spans_of versions) spans_fit version

  pub past_widths : HaveWidths (width_of (tables_in entries)) (machine.as_of monomials (spans_of versions))
  past_widths version table = past_wide version table

  -- the steps of a transaction stop where its run does
  pub steps_stop_is : (t k : ℕ) (last : q.Query) → HasSteps (width_of (tables_in entries)) (record { steps = composed (width_of (tables_in entries)) (log_of entries) t k; last = last })
      → program_stop MAX_TABLE_ROWS MAX_NODES (travel.encoded (travels.past_environment unannotated versions)) (plain_program (width_of (tables_in entries)) false (record { steps = composed (width_of (tables_in entries)) (log_of entries) t k; last = last }))
      ≡ option_map step_stop (run_stop unannotated parameters (log_of entries) t k (machine.as_of unannotated (spans_of versions)))
  steps_stop_is t k last has =
      let columns : ℕ → ℕ = width_of (tables_in entries) in
      let past : Environment Monomial = machine.as_of monomials (spans_of versions) in
      let steps : List q.QueryStep = composed columns (log_of entries) t k in
      ap (λ env. program_stop MAX_TABLE_ROWS MAX_NODES env (plain_program columns false (record { steps = steps; last = last }))) (env_is versions)
      ∙ program_stops false parameters (tables_in entries) entries t k past last fit
      (held_rows monomials (tables_in entries) (spans_of versions) spans_fit)
      (gives_run false columns (step_table steps) (log_of entries) t past k
      (λ j table statement within is writes_it. composed_step_is monomials monoid (tables_in entries) entries fit past past_wide (none_marked versions) t k j table statement within is writes_it)
      (λ j. rows_between false (columns (step_table steps j)) (steps_are columns false past past_widths (record { steps = steps; last = last }) has j)))
      ∙ ap (option_map step_stop) (sym (run_stop_reannotated monomials unannotated forgotten forgetting past (machine.as_of unannotated (spans_of versions)) (forgets versions) parameters (log_of entries) t k))
