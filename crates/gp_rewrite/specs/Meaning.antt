-- Of the law `rewritten_statements_mean_the_statements`: when queries stand for the tables of a database, and elements of an answer as rows of a query.
use Rattle.std.specs.Prelude.{◌≡◌, ℕ, Bool, false, List, length, map, nat_lt, ◌&&◌}
use Rattle.std.specs.List.{AllByRecursion, list_all}
use Rattle.gp_base.specs.Annotated.{Annotations, Database, Environment}
use Rattle.gp_algebra.specs.Answers.{Element}
use Rattle.gp_algebra.specs.AnnotatedQueries.{Query}
use Rattle.gp_algebra.specs.AnnotatedMeaning.{Derived, scanned, meaning}
use Rattle.gp_algebra.specs.Statements.{Branch, Select}

-- products of annotations need no brackets, and one changes nothing
pub record IsMonoid {M : Type 0} (domain : Annotations M) : Type 0 where
  pub right_one : (a : M) → domain.times a domain.one ≡ a
  pub associative : (a b c : M) → domain.times (domain.times a b) c ≡ domain.times a (domain.times b c)

-- every row is as wide as its table
abbrev pub AreAsWide : {M : Type 0} → (ℕ → ℕ) → Database M → Type 0
AreAsWide columns db = (table : ℕ) → AllByRecursion (λ row. length row.cells ≡ columns table) (db table)

-- each query gives the rows of its table, in the same order
abbrev pub StandFor : {M : Type 0} → Annotations M → (ℕ → List (Derived M)) → Environment M → (ℕ → Query) → Database M → Type 0
StandFor domain steps env tables db = (table : ℕ) → meaning domain steps env (tables table) ≡ map (scanned domain) (db table)

-- a row without its mark, which says nothing in an answer
abbrev pub unmarked : {M : Type 0} → Derived M → Derived M
unmarked row = record row { mark = false }

-- an element of an answer as a row of a query
abbrev pub row_of_element : {M : Type 0} → Element M → Derived M
row_of_element element = record { sources = element.sources; cells = element.cells; mark = false; annotation = element.annotation }

-- a query that has a branch, and each branch a table, all of them among the first tables, this many
abbrev pub branch_is_there : ℕ → Branch → Bool
branch_is_there count branch = nat_lt 0 (length branch.from) && list_all (λ place. nat_lt place count) branch.from

abbrev pub select_is_there : ℕ → Select → Bool
select_is_there count select = nat_lt 0 (length select) && list_all (branch_is_there count) select
