-- In the answer to a question no token occurs in an annotation more often than a monomial can count, where there is room.
use Rattle.std.proofs.Common.{◌≡◌, ◌≤◌, ℕ, suc, ◌*◌, cond, arith, true, false, List, [], ◌∷◌, length, None}
use Rattle.std.specs.Prelude.{◌==◌, ◌&&◌, nat_le}
use Rattle.std.specs.List.{AllByRecursion, filter}
use Rattle.std.proofs.lemmas.Nat.{mul-le}
use Rattle.gp_base.specs.declared.token.Token.{Token}
use Rattle.gp_base.specs.declared.token.Token.TheVariants.{Inserted, Queried, Updated}
use Rattle.gp_base.specs.Annotated.{Database, Environment}
use Rattle.gp_base.specs.Identities.{nodes_in}
use Rattle.gp_base.specs.Tokens.{greatest_count}
use Rattle.gp_grammar.specs.Syntax as y
use Rattle.gp_versions.specs.declared.span.Span.{Span}
use Rattle.gp_algebra.specs.Answers.{Element, answer, answer_from, choices, chosen, passes_where, values}
use Rattle.gp_algebra.specs.Statements.{Branch, Select}
use Rattle.gp_machine.specs.Annotating.{annotated_versions}
use Rattle.gp_machine.specs.Entries.{Entry, log_of, statement_count, version_of, versions_in}
use Rattle.gp_machine.specs.Parameters.{Parameters}
use Rattle.gp_machine.specs.Points.{at_point, version_before}
use Rattle.gp_machine.specs.Questions.{own_stop}
use Rattle.gp_machine.specs.Runs.{at_commit, run}
use Rattle.gp_machine.proofs.Distinct.{each_both, each_filter}
use Rattle.gp_kexec.specs.SemiringForms.{occurs, words}
use Rattle.gp_history.specs.Room.{HasRoom, for_each_node, made_by}
use Rattle.gp_history.proofs.Bounds.{at_most, within_more}
use Rattle.gp_history.proofs.StatementBounds.{IsWithinSources, choices_within}
use Rattle.gp_history.proofs.RunBounds.{AreWithin, commit_within, made_few, run_most, run_within, versions_within}
use Rattle.gp_history.proofs.SmallLemmas.{AreSmall, choices_small, point_small}
use Rattle.gp_base.proofs.SmallLemmas.{each_append, each_map}

-- ---- the state that a question asks about

module _ (entries : List Entry) (spans : ℕ → List Span) where
  abbrev known : Environment (List Token)
  known = annotated_versions words entries spans

  abbrev runs : ℕ → ℕ
  runs = made_by (log_of entries) (versions_in entries)

  once_for_each : (token : Token) → for_each_node runs token ≤ suc (versions_in entries)
  once_for_each (Inserted t k n) = omega arith
  once_for_each (Queried t k) = omega arith
  once_for_each (Updated t k) = let few : runs t ≤ versions_in entries = made_few (log_of entries) (versions_in entries) t in omega arith

  once_more : (t k : ℕ) (token : Token) → run_most runs t k token ≤ suc (versions_in entries)
  once_more t k (Inserted u j n) = omega arith
  once_more t k (Queried u j) = omega arith
  once_more t k (Updated u j) =
      let few : runs u ≤ versions_in entries = made_few (log_of entries) (versions_in entries) u in
      elim ((t == u) && nat_le j k) as (λ b. cond b (suc (runs u)) (runs u) ≤ suc (versions_in entries)) [ true ↦ omega arith | false ↦ omega arith ]

  version_within : (version : ℕ) → AreWithin (for_each_node runs) (known version)
  version_within version = versions_within (log_of entries) spans (versions_in entries) version

  -- each token at most once for each version and node, and once more
  pub point_within : (point : y.Point) → AreWithin (λ token. suc (versions_in entries)) (at_point words entries point known)
  point_within (y.as_of version) table = within_more (for_each_node runs) (λ token. suc (versions_in entries)) once_for_each (known version table) (version_within version table)
  point_within (y.after t k) table =
      let log = log_of entries in
      within_more (run_most runs t k) (λ token. suc (versions_in entries)) (once_more t k) (run words log t k known table) (run_within log t known runs version_within k table)
  point_within (y.Point.commit t) table =
      let log = log_of entries in
      let before = version_before (version_of t entries) in
      within_more (run_most runs t (statement_count t entries)) (λ token. suc (versions_in entries)) (once_more t (statement_count t entries)) (at_commit words log t before known table)
      (commit_within log t known runs version_within before table)

-- ---- its elements

abbrev pub IsCountable : Element (List Token) → Type 0
IsCountable element = (token : Token) → occurs token element.annotation ≤ greatest_count

module _ (top most : ℕ) (db : Database (List Token)) (within : AreWithin (λ token. top) db) (small : AreSmall most db) where
  chosen_countable : (number : ℕ) (branch : Branch) → top * (most * length branch.from) ≤ greatest_count → AllByRecursion IsCountable (chosen words number branch db)
  chosen_countable number branch few =
      each_map IsCountable IsCountable (λ (e : Element (List Token)). record e { cells = values branch.items e.cells }) (λ e is. is)
      (filter (λ (e : Element (List Token)). passes_where branch.cond e.cells) (choices words number branch.from db))
      (each_filter IsCountable IsCountable (λ (e : Element (List Token)). passes_where branch.cond e.cells) (λ e t is. is) (choices words number branch.from db)
      (each_both IsCountable (IsWithinSources (λ token. top)) (λ (e : Element (List Token)). nodes_in e.sources ≤ most * length branch.from)
      (λ e inside least token. at_most (occurs token e.annotation) (top * nodes_in e.sources) greatest_count (inside token)
      (at_most (top * nodes_in e.sources) (top * (most * length branch.from)) greatest_count (mul-le top (nodes_in e.sources) top (most * length branch.from) (itself top) least) few))
      (choices words number branch.from db) (choices_within (λ token. top) db within number branch.from) (choices_small words most db small number branch.from)))
    where
      itself : (n : ℕ) → n ≤ n
      itself n = omega arith

  pub answer_countable : (number : ℕ) (select : Select) → AllByRecursion (λ branch. top * (most * length branch.from) ≤ greatest_count) select → AllByRecursion IsCountable (answer_from words number select db)
  answer_countable number [] few = tt
  answer_countable number (branch ∷ branches) few = each_append IsCountable (chosen words number branch db) (answer_from words (suc number) branches db) (chosen_countable number branch few.0) (answer_countable (suc number) branches few.1)

pub elements_countable : (parameters : Parameters) (entries : List Entry) (spans : ℕ → List Span) (point : y.Point) (query : Select) → HasRoom parameters entries spans query
    → own_stop words parameters entries point (annotated_versions words entries spans) ≡ None → AllByRecursion IsCountable (answer words query (at_point words entries point (annotated_versions words entries spans)))
elements_countable parameters entries spans point query room stop =
    answer_countable (suc (versions_in entries)) parameters.nodes (at_point words entries point (annotated_versions words entries spans)) (point_within entries spans point)
    (point_small words parameters spans room.small entries point stop) 1 query room.few
