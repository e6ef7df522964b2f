-- Statements add each token at most once for each node of an identity.
use Rattle.std.proofs.Common.{◌≡◌, ◌≤◌, ℕ, zero, suc, ◌+◌, ◌*◌, cond, refl, sym, subst, arith, true, false, List, [], ◌∷◌, ◌++◌, map}
use Rattle.std.specs.Prelude.{◌==◌, not}
use Rattle.std.specs.List.{AllByRecursion, filter}
use Rattle.std.specs.Ordering.{eq_by_cmp}
use Rattle.gp_base.specs.declared.cell.Cell.{Cell}
use Rattle.gp_base.specs.declared.token.Token.{Token}
use Rattle.gp_base.specs.declared.token.Token.TheVariants.{Inserted, Queried, Updated}
use Rattle.gp_base.specs.Annotated.{Annotated, Database}
use Rattle.gp_base.specs.Identities.{nodes, nodes_in}
use Rattle.gp_base.specs.Tokens.{token_cmp}
use Rattle.gp_expr.specs.Expressions.{Cond}
use Rattle.gp_expr.specs.Values.{passes}
use Rattle.gp_algebra.specs.Answers.{Element, answer, answer_from, choices, chosen, joined, passes_where, values}
use Rattle.gp_algebra.specs.Effects.{assigned, changed, given_from, made, step, with_rows}
use Rattle.gp_algebra.specs.Statements.{Branch, Select, SetExpr, Statement, delete, insert, insert_select, read, update}
use Rattle.gp_machine.proofs.Distinct.{each_filter}
use Rattle.gp_kexec.specs.SemiringForms.{occurs, words}
use Rattle.gp_history.specs.Room.{IsWithinNodes}
use Rattle.gp_history.proofs.Bounds.{at_most, nothing, occurs-append, one_more, one_token, one_within, parts_within, raised_within, same_token, some_node, within_more}
use Rattle.gp_base.proofs.SmallLemmas.{each_append, each_flat_map, each_map}

-- no token occurs in the annotation of an element more often than this for each node of its sources
abbrev pub IsWithinSources : (Token → ℕ) → Element (List Token) → Type 0
IsWithinSources most element = (token : Token) → occurs token element.annotation ≤ most token * nodes_in element.sources

-- what tokens may occur as often as after statement k of transaction t
pub record Grows (most more : Token → ℕ) (t k : ℕ) : Type 0 where
  pub every : (token : Token) → most token ≤ more token
  pub inserted : (n : ℕ) → 1 ≤ more (Inserted t k n)
  pub queried : 1 ≤ more (Queried t k)
  pub updated : suc (most (Updated t k)) ≤ more (Updated t k)

module _ (most : Token → ℕ) (db : Database (List Token)) (within : (table : ℕ) → AllByRecursion (IsWithinNodes most) (db table)) where
  pub choices_within : (number : ℕ) (tables : List ℕ) → AllByRecursion (IsWithinSources most) (choices words number tables db)
  choices_within number [] = (λ token. nothing (most token * 0), tt)
  choices_within number (table ∷ tables) = over (choices_within number tables)
    where
      over : AllByRecursion (IsWithinSources most) (choices words number tables db) → AllByRecursion (IsWithinSources most) (choices words number (table ∷ tables) db)
      over rest =
          each_flat_map (IsWithinSources most) (IsWithinNodes most) (λ row. map (joined words number row) (choices words number tables db))
          (λ row is. each_map (IsWithinSources most) (IsWithinSources most) (joined words number row)
          (λ e inside token. subst (λ n. n ≤ most token * (nodes row.identity + nodes_in e.sources)) (sym (occurs-append token row.annotation e.annotation))
          (parts_within (most token) (nodes row.identity) (nodes_in e.sources) (occurs token row.annotation) (occurs token e.annotation) (is token) (inside token)))
          (choices words number tables db) rest)
          (db table) (within table)

  chosen_within : (number : ℕ) (branch : Branch) → AllByRecursion (IsWithinSources most) (chosen words number branch db)
  chosen_within number branch =
      each_map (IsWithinSources most) (IsWithinSources most) (λ (e : Element (List Token)). record e { cells = values branch.items e.cells }) (λ e is. is)
      (filter (λ (e : Element (List Token)). passes_where branch.cond e.cells) (choices words number branch.from db))
      (each_filter (IsWithinSources most) (IsWithinSources most) (λ (e : Element (List Token)). passes_where branch.cond e.cells) (λ e t is. is) (choices words number branch.from db) (choices_within number branch.from))

  answer_within : (number : ℕ) (select : Select) → AllByRecursion (IsWithinSources most) (answer_from words number select db)
  answer_within number [] = tt
  answer_within number (branch ∷ branches) = each_append (IsWithinSources most) (chosen words number branch db) (answer_from words (suc number) branches db) (chosen_within number branch) (answer_within (suc number) branches)

module _ (most more : Token → ℕ) (t k : ℕ) (grows : Grows most more t k) where
  given_within : (n : ℕ) (rows : List (List Cell)) → AllByRecursion (IsWithinNodes more) (given_from words t k n rows)
  given_within n [] = tt
  given_within n (cells ∷ rows) = (λ token. one_within (more token) (occurs token (Inserted t k n ∷ [])) (one_token more token (Inserted t k n) (grows.inserted n)), given_within (suc n) rows)

  made_within : (e : Element (List Token)) → IsWithinSources most e → IsWithinNodes more (made words t k e)
  made_within e is token =
      subst (λ n. n ≤ more token * (nodes_in e.sources + 1)) (sym (occurs-append token (Queried t k ∷ []) e.annotation))
      (one_more (more token) (nodes_in e.sources) (occurs token (Queried t k ∷ [])) (occurs token e.annotation) (one_token more token (Queried t k) grows.queried) (held is token))
    where
      wider : (token : Token) → most token * nodes_in e.sources ≤ more token * nodes_in e.sources
      wider token = widened (most token) (more token) (nodes_in e.sources) (grows.every token)
        where
          widened : (a b n : ℕ) → a ≤ b → a * n ≤ b * n
          widened a b n l = grind arith

      held : IsWithinSources most e → (token : Token) → occurs token e.annotation ≤ more token * nodes_in e.sources
      held is token = at_most (occurs token e.annotation) (most token * nodes_in e.sources) (more token * nodes_in e.sources) (is token) (wider token)

  changed_within : (sets : List SetExpr) (c : Cond) (row : Annotated (List Token)) → IsWithinNodes most row → IsWithinNodes more (changed words t k sets c row)
  changed_within sets c row is =
      elim (passes c row.cells) as (λ b. IsWithinNodes more (cond b (record { identity = row.identity; cells = assigned sets row.cells; mark = true; annotation = row.annotation ++ (Updated t k ∷ []) }) row)) [
        | true ↦ λ token. subst (λ n. n ≤ more token * nodes row.identity) (sym (occurs-append token row.annotation (Updated t k ∷ []))) (raised token)
        | false ↦ kept
      ]
    where
      kept : IsWithinNodes more row
      kept = (within_more most more grows.every (row ∷ []) (is, tt)).0

      raised : (token : Token) → occurs token row.annotation + occurs token (Updated t k ∷ []) ≤ more token * nodes row.identity
      raised token =
          elim (eq_by_cmp token_cmp token (Updated t k)) as (λ b. eq_by_cmp token_cmp token (Updated t k) ≡ b → occurs token row.annotation + cond b (suc zero) zero ≤ more token * nodes row.identity) [
            | true ↦ λ e. subst (λ own. occurs own row.annotation + 1 ≤ more own * nodes row.identity) (sym (same_token token (Updated t k) e))
                (raised_within (occurs (Updated t k) row.annotation) (most (Updated t k)) (more (Updated t k)) (nodes row.identity) (is (Updated t k)) grows.updated (some_node row.identity))
            | false ↦ λ e. let l : occurs token row.annotation ≤ more token * nodes row.identity = kept token in plus_none (occurs token row.annotation) (more token * nodes row.identity) l
          ] refl
        where
          plus_none : (a b : ℕ) → a ≤ b → a + 0 ≤ b
          plus_none a b l = omega arith

  pub step_within : (statement : Statement) (db : Database (List Token)) → ((table : ℕ) → AllByRecursion (IsWithinNodes most) (db table)) → (table : ℕ) → AllByRecursion (IsWithinNodes more) (step words t k statement db table)
  step_within statement db within = over statement
    where
      same : (table : ℕ) → AllByRecursion (IsWithinNodes more) (db table)
      same table = within_more most more grows.every (db table) (within table)

      placed : (place : ℕ) (rows : List (Annotated (List Token))) → AllByRecursion (IsWithinNodes more) rows → (table : ℕ) → AllByRecursion (IsWithinNodes more) (with_rows place rows db table)
      placed place rows here table = elim (table == place) as (λ b. AllByRecursion (IsWithinNodes more) (cond b rows (db table))) [ true ↦ here | false ↦ same table ]

      over : (statement : Statement) → (table : ℕ) → AllByRecursion (IsWithinNodes more) (step words t k statement db table)
      over (insert place rows) = placed place (db place ++ given_from words t k 1 rows) (each_append (IsWithinNodes more) (db place) (given_from words t k 1 rows) (same place) (given_within 1 rows))
      over (insert_select place select) =
          placed place (db place ++ map (made words t k) (answer words select db))
          (each_append (IsWithinNodes more) (db place) (map (made words t k) (answer words select db)) (same place)
          (each_map (IsWithinNodes more) (IsWithinSources most) (made words t k) (λ e is. made_within e is) (answer words select db) (answer_within most db within 1 select)))
      over (update place sets c) = placed place (map (changed words t k sets c) (db place)) (each_map (IsWithinNodes more) (IsWithinNodes most) (changed words t k sets c) (λ row is. changed_within sets c row is) (db place) (within place))
      over (delete place c) = placed place (filter (λ row. not (passes c row.cells)) (db place)) (each_filter (IsWithinNodes more) (IsWithinNodes more) (λ row. not (passes c row.cells)) (λ row t is. is) (db place) (same place))
      over (read select) = same
