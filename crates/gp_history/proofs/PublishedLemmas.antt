-- The plain program of a table that a transaction published gives the table with monomials.
use Rattle.std.proofs.Common.{◌≡◌, ℕ, ◌<◌, true, List, map, refl, sym, ap, ◌∙◌, subst, None, Ok, Err, Result}
use Rattle.std.specs.List.Sorted.{IsPermutation}
use Rattle.std.specs.Option.{option_map}
use Rattle.gp_base.proofs.Permutations.{permuted, unpermuted}
use Rattle.gp_algebra.specs.AnnotatedQueries as q
use Rattle.gp_algebra.specs.Stops as step
use Rattle.gp_algebra.specs.Stops.{program_stop}
use Rattle.gp_algebra.specs.WellBuilt.{is_well_built}
use Rattle.gp_base.specs.declared.cell.Cell.{Cell}
use Rattle.gp_base.specs.declared.row_id.TheConstants.{MAX_NODES}
use Rattle.gp_base.specs.Annotated.{Annotated, Environment, monomials}
use Rattle.gp_base.specs.Tokens.{Monomial}
use Rattle.gp_compose.specs.Composing.{published_table}
use Rattle.gp_exec.specs.declared.error.ExecStop.{ExecStop}
use Rattle.gp_exec.specs.declared.error.ExecStop.TheVariants as exec
use Rattle.gp_machine.specs.Annotating.{computed}
use Rattle.gp_log.specs.LogFacts.{tables_in}
use Rattle.gp_log.specs.LogFitting.{SpansFit}
use Rattle.gp_machine.specs.Entries.{Entry, Log, log_of, versions_in}
use Rattle.gp_prov.specs.Encoding.{encoded, encoded_row}
use Rattle.gp_prov.specs.ToPlain.{plain_program}
use Rattle.gp_reenact.proofs.StopLemmas.{step_stop}
use Rattle.gp_reenact.specs.Reenacting.{spans_of}
use Rattle.gp_versions.specs.declared.span.Span.{Span}
use Rattle.gp_versions.specs.Spans.{Versions}
use Rattle.gp_history.specs.Changes.{Publishes, maker_program, past_of, published_of, stop_within}
use Rattle.gp_history.specs.Decoded.{decoded}
use Rattle.gp_history.specs.Running.{RunsTableOver}
use Rattle.gp_history.specs.Sound.{IsSound}
use Rattle.gp_history.proofs.ChangeLemmas.{columns, program_same, some, t}
use Rattle.gp_history.proofs.CommitLemmas.{stop_none, stops_change}
use Rattle.gp_history.proofs.DecodedLemmas.{rows_decoded, unmapped}
use Rattle.gp_history.proofs.TableLemmas.{plain_is_built, rows_are, stop_is}

module _ (entries : List Entry) (versions : List Versions) (sound : IsSound entries versions) (before : ℕ) (within : before < versions_in entries) (table : ℕ) where
  abbrev spans : ℕ → List Span
  spans = spans_of versions

  abbrev log : Log
  log = log_of entries

  abbrev own : ℕ
  own = t entries versions sound before within table

  abbrev known_versions : Environment Monomial
  known_versions = computed monomials log spans before

  -- whatever spans it is run over
  pub asked_is_built : is_well_built (plain_program (columns entries versions sound before within table) true (maker_program entries before table)) ≡ true
  asked_is_built =
      ap (λ (program : q.Program). is_well_built (plain_program (columns entries versions sound before within table) true program)) (program_same entries versions sound before within table)
      ∙ plain_is_built entries spans sound.statements sound.spans known_versions own before table (some entries versions sound before within table)

  module _ (few : ℕ → List Span) (few_fit : SpansFit (tables_in entries) few) (most : ℕ) (known : Environment Monomial) (are : (version own_table : ℕ) → known version own_table ≡ past_of monomials log spans before few version own_table) where
    over : {X : Type 0} (view : X → List (List Cell)) (result : Result X ExecStop)
        → RunsTableOver most view result (encoded true known) (plain_program (columns entries versions sound before within table) true (maker_program entries before table))
        → RunsTableOver most view result (encoded true (past_of monomials log spans before few))
        (plain_program (columns entries versions sound before within table) true (published_table (columns entries versions sound before within table) log own before table))
    over view result runs =
        subst (λ (program : q.Program). RunsTableOver most view result (encoded true (past_of monomials log spans before few)) (plain_program (columns entries versions sound before within table) true program))
        (program_same entries versions sound before within table)
        (subst (λ (env : Environment Monomial). RunsTableOver most view result (encoded true env) (plain_program (columns entries versions sound before within table) true (maker_program entries before table)))
        (λ i. λ version own_table. are version own_table i) runs)

    stops : program_stop most MAX_NODES (encoded true (past_of monomials log spans before few))
        (plain_program (columns entries versions sound before within table) true (published_table (columns entries versions sound before within table) log own before table))
        ≡ option_map step_stop (stop_within monomials log spans before few most)
    stops = stop_is entries few sound.statements few_fit known_versions own before table (some entries versions sound before within table) most

    -- the rows that its rows stand for
    pub found_published : {X : Type 0} (view : X → List (List Cell)) (found : X) (rows : List (Annotated Monomial)) → rows ≡ decoded (view found)
        → RunsTableOver most view (Ok found) (encoded true known) (plain_program (columns entries versions sound before within table) true (maker_program entries before table))
        → (stop_within monomials log spans before few most ≡ None) × IsPermutation rows (published_of monomials log spans before few table)
    found_published view found rows is runs =
        let ran = over view (Ok found) runs in
        let moved : IsPermutation (view found) (map (encoded_row true) (published_of monomials log spans before few table)) =
        subst (λ (all : List (List Cell)). IsPermutation (view found) all) (rows_are entries few sound.statements few_fit known_versions own before table (some entries versions sound before within table)) ran.1 in
        let same = unmapped (encoded_row true) (unpermuted (view found) (map (encoded_row true) (published_of monomials log spans before few table)) moved) (published_of monomials log spans before few table) refl in (
          stop_none (stop_within monomials log spans before few most) (sym stops ∙ ran.0),
          subst (λ (all : List (Annotated Monomial)). IsPermutation all (published_of monomials log spans before few table)) (sym (is ∙ ap decoded same.1 ∙ rows_decoded same.0))
              (permuted same.0 (published_of monomials log spans before few table) same.2),
        )

    -- its stop
    pub stop_published : {X Y : Type 0} (view : X → List (List Cell)) (shown : Y → List (Annotated Monomial)) (stop : ExecStop)
        → RunsTableOver most view (Err stop) (encoded true known) (plain_program (columns entries versions sound before within table) true (maker_program entries before table))
        → Publishes monomials log spans before few most shown table (Err stop)
    stop_published view shown stop runs = by stop (over view (Err stop) runs)
      where
        by : (stop : ExecStop)
            → RunsTableOver most view (Err stop) (encoded true (past_of monomials log spans before few))
            (plain_program (columns entries versions sound before within table) true (published_table (columns entries versions sound before within table) log own before table))
            → Publishes monomials log spans before few most shown table (Err stop)
        by (exec.Rows j) ran =
            stops_change monomials entries spans before few most (step.rows j) (sym stops ∙ ran)
        by (exec.Ancestry j) ran =
            stops_change monomials entries spans before few most (step.ancestry j) (sym stops ∙ ran)
        by exec.Answer ran = absurd ran
        by exec.NoMemory ran = tt
