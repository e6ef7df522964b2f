-- What asking for provenance answers, from what the program of the state gave over the versions that it needs.
use Rattle.std.proofs.Common.{◌≡◌, ◌==◌, ℕ, suc, ◌<◌, ◌≤◌, [], ◌∷◌, Bool, true, false, cond, List, length, map, refl, sym, ap, ◌∙◌, subst, arith, Option, Some, None, Result, Ok, Err, nat_le}
use Rattle.std.specs.Prelude.{nat_lt}
use Rattle.std.specs.List.Sorted.{IsPermutation}
use Rattle.std.specs.Option.{option_map, option_or}
use Rattle.std.proofs.lemmas.Bool.Decides.{nat_tests}
use Rattle.std.proofs.lemmas.List.{length-map}
use Rattle.gp_algebra.specs.Answers.{Element, answer}
use Rattle.gp_algebra.specs.Fitting.{select_fits}
use Rattle.gp_algebra.specs.Statements.{width_of}
use Rattle.gp_algebra.specs.Plain.{PlainEnvironment, PlainProgram, program_meaning}
use Rattle.gp_algebra.specs.Statements.{Select}
use Rattle.gp_algebra.specs.Stops.{Stop, ancestry, rows, program_stop}
use Rattle.gp_algebra.proofs.ScanLemmas.{program_meaning_agrees, program_stop_agrees}
use Rattle.gp_base.specs.declared.cell.Cell.{Cell}
use Rattle.gp_base.specs.declared.refusal.Refusal.{Refusal}
use Rattle.gp_base.specs.declared.refusal.Refusal.TheVariants.{E23, E27}
use Rattle.gp_base.specs.declared.row_id.TheConstants.{MAX_NODES}
use Rattle.gp_base.specs.Annotated.{Environment, monomials}
use Rattle.gp_base.specs.Tokens.{Monomial}
use Rattle.gp_compose.specs.Composed.{program_at}
use Rattle.gp_exec.specs.Running.{Runs, environment_view}
use Rattle.gp_exec.specs.declared.env.Env.{Env}
use Rattle.gp_exec.specs.declared.error.ExecStop.{ExecStop}
use Rattle.gp_exec.specs.declared.error.ExecStop.TheVariants as exec
use Rattle.gp_base.specs.declared.limit.TheConstants.{MAX_ANSWER_ROWS, MAX_TABLE_ROWS}
use Rattle.gp_grammar.specs.Syntax as y
use Rattle.gp_log.specs.Parameters.{parameters}
use Rattle.gp_log.specs.LogFacts.{tables_in}
use Rattle.gp_machine.specs.Annotating.{annotated, computed}
use Rattle.gp_machine.specs.Entries.{Began, Committed, Created, Ended, Entry, Ran, log_of, version_of, versions_in}
use Rattle.gp_machine.specs.Points.{at_point, version_before}
use Rattle.gp_machine.specs.Questions.{annotated_answer, annotation_stop, given, log_refusal, needed_version}
use Rattle.gp_machine.proofs.LogLemmas.{versions_le}
use Rattle.gp_prov.specs.Encoding.{encoded}
use Rattle.gp_prov.specs.ToPlain.{plain_program}
use Rattle.gp_base.specs.declared.stop.Stop.TheVariants.{NoMemory}
use Rattle.gp_reenact.specs.Reenacting.{RunsOver, spans_of, stopped, transaction_at}
use Rattle.gp_reenact.proofs.ReplayLemmas.{refusal_at}
use Rattle.gp_versions.specs.Spans.{Versions}
use Rattle.gp_history.specs.Agreement.{agree}
use Rattle.gp_history.specs.Provenance.{Proves}
use Rattle.gp_history.specs.Agreement.{occurrence}
use Rattle.gp_history.specs.Sound.{IsSound}
use Rattle.gp_history.specs.SpanAnnotations.{AreAnnotated, versions_with}
use Rattle.gp_history.proofs.ProvenanceLemmas.{gives, needed_suffice, stops}
use Rattle.gp_history.proofs.SpanLemmas.{versions_are}
use Rattle.std.proofs.lemmas.Bool.{leb-true}
use Rattle.gp_base.proofs.SmallLemmas.{some_none}

-- a run over the scans that a program has asked for
pub answers_over : {X : Type 0} (view : X → List (List Cell)) (result : Result X ExecStop) (scanned : Env) (env : PlainEnvironment) (program meant : PlainProgram)
    → program_meaning (environment_view scanned) program ≡ program_meaning env meant
    → program_stop MAX_TABLE_ROWS MAX_NODES (environment_view scanned) program ≡ program_stop MAX_TABLE_ROWS MAX_NODES env meant
    → Runs view result scanned program → RunsOver view result env meant
answers_over view (Ok found) scanned env program meant same_rows same_stop runs =
    (sym same_stop ∙ runs.0, (subst (λ rows. IsPermutation (view found) rows) same_rows runs.1.0, subst (λ rows. length rows ≤ MAX_ANSWER_ROWS) same_rows runs.1.1))
answers_over view (Err (exec.Rows j)) scanned env program meant same_rows same_stop runs = sym same_stop ∙ runs
answers_over view (Err (exec.Ancestry j)) scanned env program meant same_rows same_stop runs = sym same_stop ∙ runs
answers_over view (Err exec.Answer) scanned env program meant same_rows same_stop runs = (sym same_stop ∙ runs.0, subst (λ rows. MAX_ANSWER_ROWS < length rows) same_rows runs.1)
answers_over view (Err exec.NoMemory) scanned env program meant same_rows same_stop runs = tt

-- a run is right over each environment in which its program has the same rows and the same stop
pub moved_over : {X : Type 0} (view : X → List (List Cell)) (result : Result X ExecStop) (env other : PlainEnvironment) (program : PlainProgram)
    → program_meaning env program ≡ program_meaning other program → program_stop MAX_TABLE_ROWS MAX_NODES env program ≡ program_stop MAX_TABLE_ROWS MAX_NODES other program
    → RunsOver view result env program → RunsOver view result other program
moved_over view (Ok found) env other program same_rows same_stop runs =
    (sym same_stop ∙ runs.0, (subst (λ rows. IsPermutation (view found) rows) same_rows runs.1.0, subst (λ rows. length rows ≤ MAX_ANSWER_ROWS) same_rows runs.1.1))
moved_over view (Err (exec.Rows j)) env other program same_rows same_stop runs = sym same_stop ∙ runs
moved_over view (Err (exec.Ancestry j)) env other program same_rows same_stop runs = sym same_stop ∙ runs
moved_over view (Err exec.Answer) env other program same_rows same_stop runs = (sym same_stop ∙ runs.0, subst (λ rows. MAX_ANSWER_ROWS < length rows) same_rows runs.1)
moved_over view (Err exec.NoMemory) env other program same_rows same_stop runs = tt

-- ---- the version that a state needs

made_within : (t : ℕ) (entries : List Entry) → version_before (version_of t entries) ≤ versions_in entries
made_within t [] = omega arith
made_within t (Created line session table ∷ older) = made_within t older
made_within t (Began line session u level ∷ older) = made_within t older
made_within t (Ran line session command u statement ∷ older) = made_within t older
made_within t (Committed line session u ∷ older) = go (u == t) (made_within t older)
  where
    go : (b : Bool) → version_before (version_of t older) ≤ versions_in older → version_before (cond b (Some (suc (versions_in older))) (version_of t older)) ≤ suc (versions_in older)
    go true l = omega arith
    go false l = omega arith
made_within t (Ended line session end u ∷ older) = made_within t older

pub needed_within : (entries : List Entry) (point : y.Point) → log_refusal entries point ≡ None → needed_version entries point ≤ versions_in entries
needed_within entries (y.as_of version) known = go (nat_le version (versions_in entries)) refl known
  where
    go : (b : Bool) → nat_le version (versions_in entries) ≡ b → cond b None (Some (E23 (versions_in entries))) ≡ None → version ≤ versions_in entries
    go true is e = leb-true version (versions_in entries) is
    go false is e = absurd (some_none (E23 (versions_in entries)) e)
needed_within entries (y.after t k) known = versions_le t k entries
needed_within entries (y.Point.commit t) known = made_within t entries

-- ---- answers

-- a program that gives the rows of an answer, and stops where its run does
module _ {X : Type 0} (view : X → List (List Cell)) (entries : List Entry) (versions : List Versions) (sound : IsSound entries versions) (select : Select) (fits : select_fits (tables_in entries) select ≡ true)
    (point : y.Point) (known : log_refusal entries point ≡ None) where
  abbrev needed : ℕ
  needed = needed_version entries point

  abbrev past : ℕ → Environment Monomial
  past n = annotated monomials (spans_of versions) (computed monomials (log_of entries) (spans_of versions) n)

  abbrev program : PlainProgram
  program = plain_program (width_of (tables_in entries)) true (program_at (width_of (tables_in entries)) entries point select)

  abbrev elements : List (Element Monomial)
  elements = answer monomials select (at_point monomials entries point (past (versions_in entries)))

  abbrev expected : Result (List (Element Monomial)) Refusal
  expected = annotated_answer monomials parameters agree (tables_in entries) entries (spans_of versions) point select

  abbrev annotation : Option Refusal
  annotation = annotation_stop monomials parameters agree (tables_in entries) (log_of entries) (spans_of versions) needed

  due_is : annotation ≡ None → (stop : Option Stop) → program_stop MAX_TABLE_ROWS MAX_NODES (encoded true (past (versions_in entries))) program ≡ stop → (over : Bool) → nat_lt MAX_ANSWER_ROWS (length elements) ≡ over
      → expected ≡ given (option_or (option_map (refusal_at (transaction_at point)) stop) (cond over (Some E27) None)) elements
  due_is none stop is over many =
      λ i. given (option_or (known i) (option_or (none i) (option_or ((stops entries versions sound select fits (versions_in entries) point known ∙ ap (option_map (refusal_at (transaction_at point))) is) i) (cond (many i) (Some E27) None)))) elements

  rows_given : program_meaning (encoded true (past (versions_in entries))) program ≡ map occurrence elements
  rows_given = gives entries versions sound select fits point known (versions_in entries)

  many_rows : length (program_meaning (encoded true (past (versions_in entries))) program) ≡ length elements
  many_rows = ap length rows_given ∙ length-map elements occurrence

  pub found_is : annotation ≡ None → (found : X) → RunsOver view (Ok found) (encoded true (past (versions_in entries))) program → Proves view (Ok found) expected
  found_is none found runs =
      let count : length elements ≤ MAX_ANSWER_ROWS = subst (λ n. n ≤ MAX_ANSWER_ROWS) many_rows runs.1.1 in
      let few : nat_lt MAX_ANSWER_ROWS (length elements) ≡ false = grind (arith, nat_tests) in
      subst (λ d. Proves view (Ok found) d) (sym (due_is none None runs.0 false few)) (subst (λ rows. IsPermutation (view found) rows) rows_given runs.1.0)

  pub stop_is : annotation ≡ None → (stop : ExecStop) → RunsOver view (Err stop) (encoded true (past (versions_in entries))) program → Proves view (Err (stopped (transaction_at point) stop)) expected
  stop_is none (exec.Rows j) runs =
      subst (λ d. Proves view (Err (stopped (transaction_at point) (exec.Rows j))) d) (sym (due_is none (Some (rows j)) runs (nat_lt MAX_ANSWER_ROWS (length elements)) refl)) refl
  stop_is none (exec.Ancestry j) runs =
      subst (λ d. Proves view (Err (stopped (transaction_at point) (exec.Ancestry j))) d) (sym (due_is none (Some (ancestry j)) runs (nat_lt MAX_ANSWER_ROWS (length elements)) refl)) refl
  stop_is none exec.Answer runs =
      let count : MAX_ANSWER_ROWS < length elements = subst (λ n. MAX_ANSWER_ROWS < n) many_rows runs.1 in
      let many : nat_lt MAX_ANSWER_ROWS (length elements) ≡ true = grind (arith, nat_tests) in
      subst (λ d. Proves view (Err (stopped (transaction_at point) exec.Answer)) d) (sym (due_is none None runs.0 true many)) refl
  stop_is none exec.NoMemory runs = tt

  -- what a run over the needed versions gave, or over more of them, told over all
  pub over_all : (n : ℕ) → needed ≤ n → n ≤ versions_in entries
      → (known_monomials : List (List Monomial)) → AreAnnotated monomials (log_of entries) (spans_of versions) n known_monomials
      → (planned : PlainProgram) → planned ≡ program
      → (result : Result X ExecStop) → RunsOver view result (encoded true (versions_with (spans_of versions) known_monomials)) planned
      → RunsOver view result (encoded true (past (versions_in entries))) program
  over_all n enough most all are planned is result runs =
      let agree = needed_suffice entries versions sound select point known n enough most in
      moved_over view result (encoded true (past n)) (encoded true (past (versions_in entries))) program
      (program_meaning_agrees (encoded true (past n)) (encoded true (past (versions_in entries))) program agree)
      (program_stop_agrees (encoded true (past n)) (encoded true (past (versions_in entries))) MAX_TABLE_ROWS MAX_NODES program agree)
      (subst (λ (p : PlainProgram). RunsOver view result (encoded true (past n)) p) is
      (subst (λ (env : Environment Monomial). RunsOver view result (encoded true env) planned) (versions_are monomials (log_of entries) (spans_of versions) n all are) runs))
