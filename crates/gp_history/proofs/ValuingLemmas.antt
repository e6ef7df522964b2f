-- What asking for values answers, from the sums that the program of the state gave over the versions that it needs.
use Rattle.std.proofs.Common.{◌≡◌, ℕ, ◌<◌, ◌≤◌, [], ◌∷◌, ◌++◌, true, false, cond, List, length, map, refl, sym, ap, ◌∙◌, subst, arith, Option, Some, None, Result, Ok, Err, nat_lt}
use Rattle.std.specs.Option.{option_map, option_or}
use Rattle.std.proofs.lemmas.Bool.Decides.{nat_tests}
use Rattle.gp_algebra.specs.AnnotatedQueries.{Program}
use Rattle.gp_algebra.specs.AnnotatedMeaning.{Derived, program_meaning}
use Rattle.gp_algebra.specs.Answers as a
use Rattle.gp_algebra.specs.Answers.{Element, answer}
use Rattle.gp_algebra.specs.Fitting.{select_fits}
use Rattle.gp_algebra.specs.Statements.{width_of}
use Rattle.gp_algebra.specs.Reannotation.{element_reannotated, reannotated}
use Rattle.gp_algebra.specs.Scans.{annotated_program_scans}
use Rattle.gp_algebra.specs.Statements.{Select}
use Rattle.gp_algebra.specs.Stops as s
use Rattle.gp_algebra.specs.Stops.{Stop}
use Rattle.gp_algebra.proofs.Erasure.{answer_reannotated}
use Rattle.gp_base.specs.declared.cell.Cell.{Cell}
use Rattle.gp_base.specs.declared.cell.Cell.TheVariants as cell
use Rattle.gp_base.specs.declared.refusal.Refusal.{Refusal}
use Rattle.gp_base.specs.declared.refusal.Refusal.TheVariants.{E27}
use Rattle.gp_base.specs.declared.row_id.TheConstants.{MAX_NODES}
use Rattle.gp_base.specs.declared.token.Token.{Token}
use Rattle.gp_base.specs.Annotated.{Annotated, Annotations, Environment, monomials}
use Rattle.gp_base.specs.Identities.{Identity, nodes}
use Rattle.gp_base.specs.Order.{row_cmp}
use Rattle.gp_compose.specs.Composed.{program_at}
use Rattle.gp_compose.proofs.ProgramLemmas.{asked_program_is_built, program_is}
use Rattle.gp_compose.proofs.ScanLemmas.{scans_are_needed}
use Rattle.gp_exec.specs.declared.error.ExecStop.{ExecStop}
use Rattle.gp_exec.specs.declared.error.ExecStop.TheVariants as exec
use Rattle.gp_base.specs.declared.limit.TheConstants.{MAX_ANSWER_ROWS, MAX_TABLE_ROWS}
use Rattle.gp_grammar.specs.declared.limits.TheConstants.{MAX_FROM}
use Rattle.gp_grammar.specs.Syntax as y
use Rattle.gp_kexec.specs.AnnotatedStops.{program_stop}
use Rattle.gp_kexec.specs.SemiringForms.{derived_reannotated, words}
use Rattle.gp_kexec.specs.Rows as k
use Rattle.gp_kexec.specs.Running.{IsSomeProgram}
use Rattle.gp_log.specs.Parameters.{parameters}
use Rattle.gp_log.specs.LogFacts.{tables_in}
use Rattle.gp_log.specs.LogFitting.{SpanFits}
use Rattle.gp_machine.specs.Annotating.{computed}
use Rattle.gp_machine.specs.QuestionForms.{identified}
use Rattle.gp_machine.specs.Entries.{Entry, log_of, statement_count, versions_in}
use Rattle.gp_machine.specs.Points.{at_point}
use Rattle.gp_machine.specs.Questions.{annotation_stop, given, log_refusal, needed_version, own_stop}
use Rattle.gp_machine.proofs.Distinct.{each_weaker}
use Rattle.gp_machine.proofs.PointReannotation.{at_point_reannotated}
use Rattle.gp_base.specs.declared.stop.Stop.TheVariants.{NoMemory}
use Rattle.gp_reenact.specs.Reenacting.{spans_of, stopped, transaction_at}
use Rattle.gp_reenact.proofs.ReplayLemmas.{refusal_at, run_refused}
use Rattle.gp_rewrite.specs.Meaning.{row_of_element, unmarked}
use Rattle.gp_semiring.specs.Sums.{summed}
use Rattle.gp_history.specs.Room.{HasRoom}
use Rattle.gp_history.specs.ValueAnswers.{limited}
use Rattle.gp_history.specs.AnswerForms.{IgnoreAnnotations, summed_answer, sums_of}
use Rattle.gp_history.proofs.RoomLemmas.{has_room}
use Rattle.gp_history.proofs.VersionReannotation.{annotation_stop_reannotated}
use Rattle.gp_versions.specs.declared.span.Span.{Span}
use Rattle.gp_versions.specs.Spans.{Versions}
use Rattle.gp_history.specs.Agreement.{agree, key_of, keys_agree}
use Rattle.gp_history.specs.Images.{IsImage, monomials_are_images}
use Rattle.gp_history.specs.Running.{SumsOver}
use Rattle.gp_history.specs.Scanning.{AgreesOn}
use Rattle.gp_history.specs.Sound.{IsSound}
use Rattle.gp_history.specs.Keeping.{Reaches}
use Rattle.gp_history.specs.SpanAnnotations.{versions_with}
use Rattle.gp_history.specs.Values.{Gives, HasFewItems}
use Rattle.gp_history.specs.declared.kept.Kept.{Kept}
use Rattle.gp_history.proofs.AgreementLemmas.{key_from}
use Rattle.gp_history.proofs.AnnotatedScans.{program_meaning_agrees, program_stop_agrees}
use Rattle.gp_history.proofs.KeepingLemmas.{none_before}
use Rattle.gp_history.proofs.ImageLemmas.{env, env_carried, meaning_carried, steps_stop_is, word_env, word_monoid}
use Rattle.gp_history.proofs.ProvenanceLemmas.{rows_stay}
use Rattle.gp_history.proofs.SpanLemmas.{versions_are}
use Rattle.gp_history.proofs.TableLemmas.{none_marked, wide_rows}
use Rattle.gp_base.proofs.SmallLemmas.{map-map}

-- ---- tables agree whatever their annotations are

keys_are : {M N : Type 0} (rows : List (Annotated M)) (others : List (Annotated N)) → identified rows ≡ identified others → map key_of rows ≡ map key_of others
keys_are rows others same = sym (key_from rows) ∙ ap (map (λ (p : Identity × List Cell). p.1 ++ cell.Id p.0 ∷ [])) same ∙ key_from others

pub agree_ignores : {M N : Type 0} → IgnoreAnnotations {M = M} {N = N} agree agree
agree_ignores = record { same = λ rows others rows' others' e f. (λ i. keys_agree (keys_are rows rows' e i) (keys_are others others' f i)) }

natural : {M N : Type 0} (h : M → N) (rows others : List (Annotated M)) → agree (map (reannotated h) rows) (map (reannotated h) others) ≡ agree rows others
natural h rows others = λ i. keys_agree (map-map key_of (reannotated h) rows i) (map-map key_of (reannotated h) others i)

-- the versions stop where those with monomials do
pub stop_same : {M : Type 0} (domain : Annotations M) (image : IsImage domain) (entries : List Entry) (spans : ℕ → List Span) (u : ℕ)
    → annotation_stop domain parameters agree (tables_in entries) (log_of entries) spans u ≡ annotation_stop monomials parameters agree (tables_in entries) (log_of entries) spans u
stop_same domain image entries spans u =
    annotation_stop_reannotated words domain image.image image.keeps spans parameters agree agree (natural image.image) (tables_in entries) (log_of entries) u
    ∙ sym (annotation_stop_reannotated words monomials monomials_are_images.image monomials_are_images.keeps spans parameters agree agree (natural monomials_are_images.image) (tables_in entries) (log_of entries) u)

-- there is room for all counts
pub room : (entries : List Entry) (versions : List Versions) → IsSound entries versions → versions_in entries ≤ 0xffff_ffff → (select : Select) → HasFewItems select → HasRoom parameters entries (spans_of versions) select
room entries versions sound few select items =
    has_room parameters entries (spans_of versions) select 0xffff_ffff MAX_FROM
    (λ table. each_weaker (λ (span : Span). nodes span.id ≤ MAX_NODES) (SpanFits (width_of (tables_in entries) table)) (λ span is. is.small) (spans_of versions table) (sound.spans table))
    few items (omega arith)

-- ---- the program of a state

module _ {K : Type 0} (domain : Annotations K) (image : IsImage domain) (plus : K → K → K) (entries : List Entry) (versions : List Versions) (sound : IsSound entries versions) (select : Select)
    (fits : select_fits (tables_in entries) select ≡ true) (point : y.Point) (known : log_refusal entries point ≡ None) where
  abbrev columns : ℕ → ℕ
  columns = width_of (tables_in entries)

  abbrev spans : ℕ → List Span
  spans = spans_of versions

  abbrev needed : ℕ
  needed = needed_version entries point

  abbrev past : ℕ → Environment K
  past n = env domain image (log_of entries) spans spans n

  abbrev word_past : ℕ → Environment (List Token)
  word_past n = word_env domain image (log_of entries) spans spans n

  abbrev program : Program
  program = program_at columns entries point select

  pub program_is_built : IsSomeProgram program
  program_is_built = (columns, asked_program_is_built (tables_in entries) entries sound.statements point known select fits)

  abbrev elements : List (Element K)
  elements = answer domain select (at_point domain entries point (past (versions_in entries)))

  -- its rows with their elements are those of the answer
  pairs : k.pairs_of (program_meaning domain (past (versions_in entries)) program) ≡ a.pairs_of elements
  pairs =
      ap k.pairs_of (meaning_carried domain image (log_of entries) spans spans (versions_in entries) program)
      ∙ map-map (λ (row : Derived K). (row.cells, row.annotation)) (derived_reannotated image.image) made
      ∙ sym (map-map (λ (row : Derived (List Token)). (row.cells, image.image row.annotation)) unmarked made)
      ∙ ap (map (λ (row : Derived (List Token)). (row.cells, image.image row.annotation)))
      (program_is words word_monoid (tables_in entries) entries sound.statements (word_past (versions_in entries))
      (wide_rows words (tables_in entries) spans sound.spans (computed words (log_of entries) spans (versions_in entries)))
      (none_marked words (tables_in entries) spans sound.spans (computed words (log_of entries) spans (versions_in entries))) point select fits)
      ∙ map-map (λ (row : Derived (List Token)). (row.cells, image.image row.annotation)) row_of_element word_elements
      ∙ sym (map-map (λ (element : Element K). (element.cells, element.annotation)) (element_reannotated image.image) word_elements)
      ∙ ap a.pairs_of
      (sym (answer_reannotated words domain image.image image.keeps select (at_point words entries point (word_past (versions_in entries))) (at_point domain entries point (past (versions_in entries)))
      (at_point_reannotated words domain image.image image.keeps (word_past (versions_in entries)) (past (versions_in entries)) (env_carried domain image (log_of entries) spans spans (versions_in entries)) entries point)))
    where
      made : List (Derived (List Token))
      made = program_meaning words (word_past (versions_in entries)) program

      word_elements : List (Element (List Token))
      word_elements = answer words select (at_point words entries point (word_past (versions_in entries)))

  abbrev stop : Option Stop
  stop = program_stop domain MAX_TABLE_ROWS MAX_NODES (past (versions_in entries)) program

  abbrev annotation : Option Refusal
  annotation = annotation_stop monomials parameters agree (tables_in entries) (log_of entries) spans needed

  abbrev expected : Result (List (List Cell × K)) Refusal
  expected = summed_answer parameters plus domain agree (tables_in entries) entries spans point select

module _ {K : Type 0} (domain : Annotations K) (image : IsImage domain) (entries : List Entry) (versions : List Versions) (sound : IsSound entries versions) (select : Select) where
  stops : (point : y.Point)
      → own_stop domain parameters entries point (env domain image (log_of entries) (spans_of versions) (spans_of versions) (versions_in entries))
      ≡ option_map (refusal_at (transaction_at point))
      (program_stop domain MAX_TABLE_ROWS MAX_NODES (env domain image (log_of entries) (spans_of versions) (spans_of versions) (versions_in entries)) (program_at (width_of (tables_in entries)) entries point select))
  stops (y.as_of version) = refl
  stops (y.after t j) =
      run_refused domain parameters (log_of entries) t (env domain image (log_of entries) (spans_of versions) (spans_of versions) (versions_in entries)) j
      ∙ ap (option_map (refusal_at t)) (sym (steps_stop_is domain image entries (spans_of versions) (spans_of versions) sound.statements sound.spans (versions_in entries) MAX_TABLE_ROWS t j (program_at (width_of (tables_in entries)) entries (y.after t j) select).last))
  stops (y.Point.commit t) =
      run_refused domain parameters (log_of entries) t (env domain image (log_of entries) (spans_of versions) (spans_of versions) (versions_in entries)) (statement_count t entries)
      ∙ ap (option_map (refusal_at t)) (sym (steps_stop_is domain image entries (spans_of versions) (spans_of versions) sound.statements sound.spans (versions_in entries) MAX_TABLE_ROWS t (statement_count t entries) (program_at (width_of (tables_in entries)) entries (y.Point.commit t) select).last))

module _ {K : Type 0} (domain : Annotations K) (image : IsImage domain) (plus : K → K → K) (entries : List Entry) (versions : List Versions) (sound : IsSound entries versions) (select : Select)
    (fits : select_fits (tables_in entries) select ≡ true) (point : y.Point) (known : log_refusal entries point ≡ None) where
  abbrev asked : Program
  asked = program domain image plus entries versions sound select fits point known

  abbrev all : Environment K
  all = past domain image plus entries versions sound select fits point known (versions_in entries)

  abbrev refused : Option Refusal
  refused = annotation domain image plus entries versions sound select fits point known

  abbrev wanted : Result (List (List Cell × K)) Refusal
  wanted = expected domain image plus entries versions sound select fits point known

  abbrev chosen : List (Element K)
  chosen = elements domain image plus entries versions sound select fits point known

  abbrev of_sums : Option Refusal → Result (List (List Cell × K)) Refusal
  of_sums refusal = limited parameters.answer (sums_of plus) (given refusal chosen)

  due_is : (own : Option Refusal) → refused ≡ own → (stop : Option Stop) → program_stop domain MAX_TABLE_ROWS MAX_NODES all asked ≡ stop
      → wanted ≡ of_sums (option_or own (option_map (refusal_at (transaction_at point)) stop))
  due_is own first stop is =
      λ i. of_sums (option_or (known i) (option_or ((stop_same domain image entries (spans_of versions) (needed_version entries point) ∙ first) i)
      ((stops domain image entries versions sound select point ∙ ap (option_map (refusal_at (transaction_at point))) is) i)))

  -- what a run over the needed versions gave, or over more of them, told over all
  over_all : {X : Type 0} (view : X → List (List Cell × K)) (kept : Kept K) → Reaches domain entries (spans_of versions) (needed_version entries point) kept
      → (result : Result X ExecStop) → SumsOver domain plus view result (versions_with (spans_of versions) kept.annotated) asked → SumsOver domain plus view result all asked
  over_all view kept reaches result sums = by result (subst (λ (e : Environment K). SumsOver domain plus view result e asked) (versions_are domain (log_of entries) (spans_of versions) kept.version kept.annotated reaches.0.annotated) sums)
    where
      few : Environment K
      few = past domain image plus entries versions sound select fits point known kept.version

      same : AgreesOn (annotated_program_scans asked) few all
      same scan among =
          let needed : scan.version ≤ needed_version entries point = scans_are_needed (width_of (tables_in entries)) entries sound.sessions point known select scan among in
          sym (rows_stay domain (log_of entries) (spans_of versions) kept.version (versions_in entries) scan.version scan.table (omega (arith, needed, reaches.1)) reaches.0.within)

      stop_moved : program_stop domain MAX_TABLE_ROWS MAX_NODES few asked ≡ program_stop domain MAX_TABLE_ROWS MAX_NODES all asked
      stop_moved = program_stop_agrees domain few all MAX_TABLE_ROWS MAX_NODES asked same

      sums_moved : summed row_cmp plus (k.pairs_of (program_meaning domain few asked)) ≡ summed row_cmp plus (k.pairs_of (program_meaning domain all asked))
      sums_moved = ap (λ (rows : List (Derived K)). summed row_cmp plus (k.pairs_of rows)) (program_meaning_agrees domain few all asked same)

      by : (result : Result _ ExecStop) → SumsOver domain plus view result few asked → SumsOver domain plus view result all asked
      by (Ok found) sums = (sym stop_moved ∙ sums.0, (sums.1.0 ∙ sums_moved, subst (λ (rows : List (List Cell × K)). length rows ≤ MAX_ANSWER_ROWS) sums_moved sums.1.1))
      by (Err (exec.Rows j)) sums = sym stop_moved ∙ sums
      by (Err (exec.Ancestry j)) sums = sym stop_moved ∙ sums
      by (Err exec.Answer) sums = (sym stop_moved ∙ sums.0, subst (λ (rows : List (List Cell × K)). MAX_ANSWER_ROWS < length rows) sums_moved sums.1)
      by (Err exec.NoMemory) sums = tt

  sums_same : summed row_cmp plus (k.pairs_of (program_meaning domain all asked)) ≡ sums_of plus chosen
  sums_same = ap (summed row_cmp plus) (pairs domain image plus entries versions sound select fits point known)

  module _ {X : Type 0} (view : X → List (List Cell × K)) (kept : Kept K) (reaches : Reaches domain entries (spans_of versions) (needed_version entries point) kept) where
    unrefused : refused ≡ None
    unrefused =
        sym (stop_same domain image entries (spans_of versions) (needed_version entries point))
        ∙ none_before domain (tables_in entries) (log_of entries) (spans_of versions) (needed_version entries point) kept.version reaches.1 reaches.0.unstopped

    pub found_is : (found : X) → SumsOver domain plus view (Ok found) (versions_with (spans_of versions) kept.annotated) asked → Gives view (Ok found) wanted
    found_is found sums =
        let ran = over_all view kept reaches (Ok found) sums in
        let count : length (sums_of plus chosen) ≤ MAX_ANSWER_ROWS = subst (λ (rows : List (List Cell × K)). length rows ≤ MAX_ANSWER_ROWS) sums_same ran.1.1 in
        let few : nat_lt MAX_ANSWER_ROWS (length (sums_of plus chosen)) ≡ false = grind (arith, nat_tests) in
        subst (λ (d : Result (List (List Cell × K)) Refusal). Gives view (Ok found) d)
        (sym (due_is None unrefused None ran.0 ∙ (λ i. given (cond (few i) (Some E27) None) (sums_of plus chosen)))) (ran.1.0 ∙ sums_same)

    pub stop_is : (stop : ExecStop) → SumsOver domain plus view (Err stop) (versions_with (spans_of versions) kept.annotated) asked → Gives view (Err (stopped (transaction_at point) stop)) wanted
    stop_is stop sums = by stop (over_all view kept reaches (Err stop) sums)
      where
        by : (stop : ExecStop) → SumsOver domain plus view (Err stop) all asked → Gives view (Err (stopped (transaction_at point) stop)) wanted
        by (exec.Rows j) ran = subst (λ (d : Result (List (List Cell × K)) Refusal). Gives view (Err (stopped (transaction_at point) (exec.Rows j))) d) (sym (due_is None unrefused (Some (s.rows j)) ran)) refl
        by (exec.Ancestry j) ran = subst (λ (d : Result (List (List Cell × K)) Refusal). Gives view (Err (stopped (transaction_at point) (exec.Ancestry j))) d) (sym (due_is None unrefused (Some (s.ancestry j)) ran)) refl
        by exec.Answer ran =
            let count : MAX_ANSWER_ROWS < length (sums_of plus chosen) = subst (λ (rows : List (List Cell × K)). MAX_ANSWER_ROWS < length rows) sums_same ran.1 in
            let many : nat_lt MAX_ANSWER_ROWS (length (sums_of plus chosen)) ≡ true = grind (arith, nat_tests) in
            subst (λ (d : Result (List (List Cell × K)) Refusal). Gives view (Err (stopped (transaction_at point) exec.Answer)) d)
            (sym (due_is None unrefused None ran.0 ∙ (λ i. given (cond (many i) (Some E27) None) (sums_of plus chosen)))) refl
        by exec.NoMemory ran = tt
