-- What the merged program of a state means on every database of past versions.
use Rattle.gp_explain.proofs.Prelude.{◌≡◌, ℕ, Bool, true, false, List, ◌++◌, map, sym, ap, ◌∙◌, None, Cell, monomials, select_fits, width_of, PlainProgram, Select, Entry, log_refusal, tables_in, statements_fit, Spells, noted, plain_program, merged_at, program_at, Explains}
use Rattle.gp_base.specs.declared.cell.Cell.TheVariants as cell
use Rattle.gp_base.specs.Annotated.{Environment}
use Rattle.gp_base.specs.Tokens.{Monomial}
use Rattle.gp_grammar.specs.Syntax as y
use Rattle.gp_algebra.specs.AnnotatedQueries as q
use Rattle.gp_algebra.specs.AnnotatedMeaning as qm
use Rattle.gp_algebra.specs.AnnotatedMeaning.{Derived}
use Rattle.gp_algebra.specs.Answers.{Element, answer}
use Rattle.gp_algebra.specs.Plain.{program_meaning}
use Rattle.gp_machine.specs.Points.{at_point}
use Rattle.gp_merge.specs.Normal.{is_normal}
use Rattle.gp_merge.proofs.NormalLemmas.{merged_normal}
use Rattle.gp_merge.proofs.Orders.{program_ordered}
use Rattle.gp_merge.proofs.RebuildingLemmas.{merged_is}
use Rattle.gp_prov.specs.Encoding.{encoded}
use Rattle.gp_prov.proofs.MeaningLemmas.{answers_are}
use Rattle.gp_reenact.proofs.LookingLemmas.{known_of, plain_saw_built}
use Rattle.gp_reenact.proofs.ReplayLemmas.{plain_is_built}
use Rattle.gp_rewrite.specs.Meaning.{row_of_element, unmarked}
use Rattle.gp_algebra.specs.QueryForms.{IsWellBuilt}
use Rattle.gp_algebra.specs.WellBuilt.{is_well_built}
use Rattle.gp_compose.proofs.ProgramLemmas.{asked_program_is_built, program_is, seen_program_is_built}
use Rattle.gp_compose.specs.Seen.{saw_refusal}
use Rattle.gp_compose.specs.Versions.{AreVersions}
use Rattle.gp_explain.specs.Explained.{answer_row}
use Rattle.gp_base.proofs.SmallLemmas.{map-map}
use Rattle.gp_reenact.proofs.StepStops.{monoid}

-- the rows of a query are those of an answer, if they are its elements but for marks
rows_out : (prov : Bool) (made : List (Derived Monomial)) (chosen : List (Element Monomial)) → map unmarked made ≡ map row_of_element chosen
    → map (λ (row : Derived Monomial). row.cells ++ noted prov (cell.Mono row.annotation)) made ≡ map (answer_row prov) chosen
rows_out prov made chosen same =
    let shown : Derived Monomial → List Cell = λ row. row.cells ++ noted prov (cell.Mono row.annotation) in
    sym (map-map shown unmarked made) ∙ ap (map shown) same ∙ map-map shown row_of_element chosen

module _ (entries : List Entry) (select : Select) (fit : statements_fit (tables_in entries) entries ≡ true) (fits : select_fits (tables_in entries) select ≡ true) (point : y.Point)
    (prov : Bool) where
  abbrev columns : ℕ → ℕ
  columns = width_of (tables_in entries)

  abbrev composed : q.Program
  composed = program_at columns entries point select

  abbrev whole : PlainProgram
  whole = plain_program columns prov composed

  -- a program that is well built
  module _ (plain : is_well_built whole ≡ true) (built : IsWellBuilt columns composed) where
    built_means : (env : Environment Monomial) → AreVersions (tables_in entries) env
        → program_meaning (encoded prov env) (merged_at prov entries point select) ≡ map (answer_row prov) (answer monomials select (at_point monomials entries point env))
    built_means env versions =
        merged_is (encoded prov env) whole (program_ordered whole plain)
        ∙ answers_are columns prov env versions.wide composed built
        ∙ rows_out prov (qm.program_meaning monomials env composed) (answer monomials select (at_point monomials entries point env))
        (program_is monomials monoid (tables_in entries) entries fit env versions.wide versions.unmarked point select fits)

    built_explains : (text : List ℕ) → Spells (tables_in entries) (merged_at prov entries point select) text → Explains entries point select prov text
    built_explains text spelled = record {
      program = merged_at prov entries point select;
      spelled = spelled;
      means = built_means;
    }

  -- that of a state which the log has
  module _ (known : log_refusal entries point ≡ None) where
    pub merged_means : (env : Environment Monomial) → AreVersions (tables_in entries) env
        → program_meaning (encoded prov env) (merged_at prov entries point select) ≡ map (answer_row prov) (answer monomials select (at_point monomials entries point env))
    merged_means = built_means (plain_is_built entries select fit fits point known prov) (asked_program_is_built (tables_in entries) entries fit point known select fits)

    pub merged_is_normal : is_normal (merged_at prov entries point select) ≡ true
    merged_is_normal = merged_normal whole (program_ordered whole (plain_is_built entries select fit fits point known prov))

    pub spelled_explains : (text : List ℕ) → Spells (tables_in entries) (merged_at prov entries point select) text → Explains entries point select prov text
    spelled_explains = built_explains (plain_is_built entries select fit fits point known prov) (asked_program_is_built (tables_in entries) entries fit point known select fits)

-- that of what a transaction saw
pub spelled_saw : (entries : List Entry) (select : Select) → statements_fit (tables_in entries) entries ≡ true → select_fits (tables_in entries) select ≡ true → (t k : ℕ) → saw_refusal t k entries ≡ None
    → (text : List ℕ) → Spells (tables_in entries) (merged_at false entries (y.after t k) select) text → Explains entries (y.after t k) select false text
spelled_saw entries select fit fits t k known =
    built_explains entries select fit fits (y.after t k) false (plain_saw_built entries fit select fits t k known)
    (seen_program_is_built (tables_in entries) entries fit t k (known_of t k entries known) select fits)
