-- Annotations that lists of tokens stand for: programs over annotated versions give what their runs give and stop where these stop, since they do so over lists of
-- tokens.
use Rattle.std.proofs.Common.{◌≡◌, ℕ, true, false, List, [], ◌∷◌, map, refl, sym, ap, ◌∙◌, Option, Some, None}
use Rattle.std.specs.List.{AllByRecursion}
use Rattle.std.specs.Option.{option_map}
use Rattle.std.proofs.lemmas.List.{append-nil, append_assoc}
use Rattle.gp_base.specs.declared.row_id.TheConstants.{MAX_NODES}
use Rattle.gp_base.specs.declared.token.Token.{Token}
use Rattle.gp_base.specs.Annotated.{Annotated, Annotations, Environment}
use Rattle.gp_algebra.specs.AnnotatedMeaning as qm
use Rattle.gp_algebra.specs.AnnotatedQueries.{Program, Query}
use Rattle.gp_algebra.specs.AnnotatedMeaning.{scanned}
use Rattle.gp_algebra.specs.Statements.{width_of}
use Rattle.gp_algebra.specs.Plain.{no_steps}
use Rattle.gp_algebra.specs.Reannotation.{reannotated}
use Rattle.gp_compose.specs.Composed.{composed, current, last_write, onto}
use Rattle.gp_compose.specs.Composing.{published_table}
use Rattle.gp_compose.proofs.ProgramLemmas.{composed_step_is, published_table_gives}
use Rattle.gp_kexec.specs.AnnotatedStops.{program_stop}
use Rattle.gp_kexec.specs.SemiringForms.{derived_reannotated, environment_reannotated, words}
use Rattle.gp_kexec.proofs.CarryLemmas.{program_carried, program_stop_carried}
use Rattle.gp_log.specs.LogFacts.{tables_in}
use Rattle.gp_log.specs.LogFitting.{SpansFit, statements_fit}
use Rattle.gp_machine.specs.Annotating.{annotated, computed}
use Rattle.gp_machine.specs.Entries.{Entry, Log, log_of, statement_count}
use Rattle.gp_machine.specs.Parameters.{Parameters}
use Rattle.gp_machine.specs.Points.{run_stop}
use Rattle.gp_machine.specs.Runs.{at_commit}
use Rattle.gp_machine.proofs.PointReannotation.{VersionsReannotate, at_commit_reannotated, run_stop_reannotated}
use Rattle.gp_reenact.proofs.StopLemmas.{scanned_once, step_stop}
use Rattle.gp_rewrite.specs.Meaning.{AreAsWide, IsMonoid}
use Rattle.gp_history.proofs.VersionReannotation.{annotated_reannotated, computed_reannotated}
use Rattle.gp_versions.specs.declared.span.Span.{Span}
use Rattle.gp_history.specs.Changes.{limited_to}
use Rattle.gp_history.specs.Images.{IsImage}
use Rattle.gp_history.proofs.StopLemmas.{program_stops}
use Rattle.gp_history.proofs.TableLemmas.{held_rows, none_marked, wide_rows}

pub word_monoid : IsMonoid words
word_monoid = record { right_one = append-nil; associative = append_assoc }

-- ---- versions

module _ {M : Type 0} (domain : Annotations M) (image : IsImage domain) (log : Log) (spans few : ℕ → List Span) (n : ℕ) where
  abbrev pub env : Environment M
  env = annotated domain few (computed domain log spans n)

  abbrev pub word_env : Environment (List Token)
  word_env = annotated words few (computed words log spans n)

  pub env_carried : VersionsReannotate image.image word_env env
  env_carried = annotated_reannotated words domain image.image image.keeps few (computed words log spans n) (computed domain log spans n) (computed_reannotated words domain image.image image.keeps spans log n)

  env_is : environment_reannotated image.image word_env ≡ env
  env_is = λ i. λ version table. sym (env_carried version table) i

  -- the rows and the stop of a program
  pub meaning_carried : (program : Program) → qm.program_meaning domain env program ≡ map (derived_reannotated image.image) (qm.program_meaning words word_env program)
  meaning_carried program = ap (λ e. qm.program_meaning domain e program) (sym env_is) ∙ program_carried words domain image.image image.keeps word_env program

  pub stop_carried : (most_rows most_nodes : ℕ) (program : Program) → program_stop domain most_rows most_nodes env program ≡ program_stop words most_rows most_nodes word_env program
  stop_carried most_rows most_nodes program =
      ap (λ e. program_stop domain most_rows most_nodes e program) (sym env_is) ∙ program_stop_carried words domain image.image image.keeps word_env most_rows most_nodes program

  -- the stop of a run
  pub run_carried : (limits : Parameters) (t k : ℕ) → run_stop domain limits log t k env ≡ run_stop words limits log t k word_env
  run_carried limits t k = run_stop_reannotated words domain image.image image.keeps word_env env env_carried limits log t k

-- rows of tables, scanned
scanned_carried : {M N : Type 0} (domain : Annotations M) (other : Annotations N) (h : M → N) (rows : List (Annotated M)) → map (derived_reannotated h) (map (scanned domain) rows) ≡ map (scanned other) (map (reannotated h) rows)
scanned_carried domain other h [] = refl
scanned_carried domain other h (row ∷ rows) = ap (λ rest. scanned other (reannotated h row) ∷ rest) (scanned_carried domain other h rows)

-- ---- programs of a log

module _ {M : Type 0} (domain : Annotations M) (image : IsImage domain) (entries : List Entry) (spans few : ℕ → List Span) (fit : statements_fit (tables_in entries) entries ≡ true) (few_fit : SpansFit (tables_in entries) few) (n : ℕ) where
  abbrev columns : ℕ → ℕ
  columns = width_of (tables_in entries)

  abbrev past : Environment M
  past = env domain image (log_of entries) spans few n

  abbrev word_past : Environment (List Token)
  word_past = word_env domain image (log_of entries) spans few n

  word_wide : (version : ℕ) → AreAsWide columns (word_past version)
  word_wide = wide_rows words (tables_in entries) few few_fit (computed words (log_of entries) spans n)

  word_unmarked : (version table : ℕ) → AllByRecursion (λ row. row.mark ≡ false) (word_past version table)
  word_unmarked = none_marked words (tables_in entries) few few_fit (computed words (log_of entries) spans n)

  -- a program with the steps of a transaction stops where its run does, if an INSERT may leave this many rows
  pub steps_stop_is : (most t k : ℕ) (last : Query)
      → program_stop domain most MAX_NODES past (record { steps = composed columns (log_of entries) t k; last = last })
      ≡ option_map step_stop (run_stop domain (limited_to most) (log_of entries) t k past)
  steps_stop_is most t k last =
      stop_carried domain image (log_of entries) spans few n most MAX_NODES (record { steps = composed columns (log_of entries) t k; last = last })
      ∙ program_stops words (limited_to most) (tables_in entries) entries t k word_past last fit
      (held_rows words (tables_in entries) few few_fit (computed words (log_of entries) spans n))
      (λ j table statement within is writes_it. composed_step_is words word_monoid (tables_in entries) entries fit word_past word_wide word_unmarked t k j table statement within is writes_it)
      ∙ ap (option_map step_stop) (sym (run_carried domain image (log_of entries) spans few n (limited_to most) t k))

  module _ (t before table : ℕ) where
    abbrev pub program : Program
    program = published_table columns (log_of entries) t before table

    -- the program of a table that a transaction published gives it
    pub published_means : qm.program_meaning domain past program ≡ map (scanned domain) (at_commit domain (log_of entries) t before past table)
    published_means =
        meaning_carried domain image (log_of entries) spans few n program
        ∙ ap (map (derived_reannotated image.image)) (published_table_gives words word_monoid (tables_in entries) entries fit word_past word_wide word_unmarked t before table)
        ∙ scanned_carried words domain image.image (at_commit words (log_of entries) t before word_past table)
        ∙ ap (map (scanned domain)) (sym (at_commit_reannotated words domain image.image image.keeps word_past past (env_carried domain image (log_of entries) spans few n) (log_of entries) t before table))

    -- and stops where its run does
    pub published_stops : (most : ℕ) → program_stop domain most MAX_NODES past program ≡ option_map step_stop (run_stop domain (limited_to most) (log_of entries) t (statement_count t entries) past)
    published_stops most = steps_stop_is most t (statement_count t entries) program.last

    -- the query of the table, by the statement that wrote it last
    abbrev published_by : Option ℕ → Query
    published_by write =
        let count = statement_count t entries in
        onto ((log_of entries).version t count) before table write (current (log_of entries) t count table)

    -- a table without a statement on it is as in the version before
    pub kept_is : last_write (log_of entries) t (statement_count t entries) table ≡ None → at_commit domain (log_of entries) t before past table ≡ past before table
    kept_is none =
        scanned_once domain (at_commit domain (log_of entries) t before past table) (past before table)
        (sym published_means ∙ ap (λ o. qm.meaning domain (qm.steps_meaning domain past program.steps no_steps) past (published_by o)) none)
