-- Worked examples of statements, of PUBLISH and of stops. The expected values are written out from the rules.
use Rattle.std.proofs.Common.{◌≡◌, ℕ, zero, suc, Bool, true, false, List, [], ◌∷◌, refl, Some, None}
use Rattle.std.specs.Prelude.{pos}
use Rattle.gp_base.specs.declared.cell.Cell.{Cell}
use Rattle.gp_base.specs.declared.cell.Cell.TheVariants.{Null, Int, Id, Mark}
use Rattle.gp_base.specs.declared.token.Token.TheVariants.{Inserted, Queried, Updated}
use Rattle.gp_base.specs.Identities.{Identity, identity, no_sources, source}
use Rattle.gp_base.specs.Tokens.{Monomial}
use Rattle.gp_base.specs.Annotated.{Annotated, Database, monomials}
use Rattle.gp_expr.specs.declared.expr.Cmp.TheVariants.{Eq, Ne}
use Rattle.gp_expr.specs.Expressions.{Cond, col, constant, add, always, compare}
use Rattle.gp_algebra.specs.Statements.{SetExpr, Branch, insert, insert_select, update, delete}
use Rattle.gp_algebra.specs.Effects.{step}
use Rattle.gp_algebra.specs.Plain as p
use Rattle.gp_algebra.specs.Plain.{PlainProgram, PlainEnvironment, program_meaning}
use Rattle.gp_algebra.specs.Stops.{program_stop, rows, ancestry}

abbrev number : ℕ → Cell
number n = Int (pos n)

-- the identities 1.1.1, 1.1.2 and 1.2.1
abbrev first : Identity
first = identity 1 1 1 no_sources

abbrev second : Identity
second = identity 1 1 2 no_sources

abbrev third : Identity
third = identity 1 2 1 no_sources

abbrev row : Identity → List Cell → Bool → Monomial → Annotated Monomial
row id cells mark monomial = record { identity = id; cells = cells; mark = mark; annotation = monomial }

-- ---- INSERT INTO r VALUES (7), (8), statement 1 of transaction 1

abbrev no_rows : Database Monomial
no_rows table = []

two_values : step monomials 1 1 (insert 0 ((number 7 ∷ []) ∷ (number 8 ∷ []) ∷ [])) no_rows 0
    ≡ row first (number 7 ∷ []) true ((Inserted 1 1 1, 1) ∷ []) ∷ row second (number 8 ∷ []) true ((Inserted 1 1 2, 1) ∷ []) ∷ []
two_values = refl

-- ---- INSERT INTO t SELECT r.a + s.b FROM r, s UNION ALL SELECT r.a FROM r WHERE r.a = 2, statement 1 of transaction 2

abbrev r_and_s : Database Monomial
r_and_s zero = row first (number 1 ∷ []) false ((Inserted 1 1 1, 1) ∷ []) ∷ row second (number 2 ∷ []) false ((Inserted 1 1 2, 1) ∷ []) ∷ []
r_and_s (suc zero) = row third (number 5 ∷ []) false ((Inserted 1 2 1, 1) ∷ []) ∷ []
r_and_s (suc (suc table)) = []

abbrev sums : Branch
sums = record { from = 0 ∷ 1 ∷ []; cond = None; items = add (col 1) (col 2) ∷ [] }

abbrev twos : Branch
twos = record { from = 0 ∷ []; cond = Some (compare Eq (col 1) (constant (number 2))); items = col 1 ∷ [] }

two_branches : step monomials 2 1 (insert_select 2 (sums ∷ twos ∷ [])) r_and_s 2
    ≡ row (identity 2 1 1 (source first (source third no_sources))) (number 6 ∷ []) true ((Inserted 1 1 1, 1) ∷ (Inserted 1 2 1, 1) ∷ (Queried 2 1, 1) ∷ [])
    ∷ row (identity 2 1 1 (source second (source third no_sources))) (number 7 ∷ []) true ((Inserted 1 1 2, 1) ∷ (Inserted 1 2 1, 1) ∷ (Queried 2 1, 1) ∷ [])
    ∷ row (identity 2 1 2 (source second no_sources)) (number 2 ∷ []) true ((Inserted 1 1 2, 1) ∷ (Queried 2 1, 1) ∷ [])
    ∷ []
two_branches = refl

-- a table joined with itself squares the tokens of its rows
abbrev doubles : Branch
doubles = record { from = 1 ∷ 1 ∷ []; cond = None; items = add (col 1) (col 2) ∷ [] }

self_join : step monomials 2 1 (insert_select 2 (doubles ∷ [])) r_and_s 2
    ≡ row (identity 2 1 1 (source third (source third no_sources))) (number 10 ∷ []) true ((Inserted 1 2 1, 2) ∷ (Queried 2 1, 1) ∷ []) ∷ []
self_join = refl

-- ---- UPDATE r SET a = b, b = a, statement 1 of transaction 3: the assignments read the old row

abbrev one_pair : Database Monomial
one_pair table = row first (number 1 ∷ number 2 ∷ []) false ((Inserted 1 1 1, 1) ∷ []) ∷ []

abbrev swap : List SetExpr
swap = record { col = 1; expr = col 2 } ∷ record { col = 2; expr = col 1 } ∷ []

swapped : step monomials 3 1 (update 0 swap always) one_pair 0 ≡ row first (number 2 ∷ number 1 ∷ []) true ((Inserted 1 1 1, 1) ∷ (Updated 3 1, 1) ∷ []) ∷ []
swapped = refl

-- the other tables stay as they are
others_kept : step monomials 3 1 (update 0 swap always) one_pair 1 ≡ one_pair 1
others_kept = refl

-- ---- a condition that is unknown: r.a = 1 where r.a is NULL

abbrev one_null : Database Monomial
one_null table = row first (Null ∷ number 2 ∷ []) false ((Inserted 1 1 1, 1) ∷ []) ∷ []

abbrev is_one : Cond
is_one = compare Eq (col 1) (constant (number 1))

not_deleted : step monomials 3 1 (delete 0 is_one) one_null 0 ≡ one_null 0
not_deleted = refl

not_updated : step monomials 3 1 (update 0 swap is_one) one_null 0 ≡ row first (Null ∷ number 2 ∷ []) false ((Inserted 1 1 1, 1) ∷ []) ∷ []
not_updated = refl

-- ---- PUBLISH: DELETE FROM r WHERE r.a = 1 on version 1, committed onto version 2, in which the other row was updated

abbrev stored : Identity → ℕ → List Cell
stored id n = number n ∷ Id id ∷ Mark false ∷ []

abbrev two_versions : PlainEnvironment
two_versions (suc zero) table = stored first 1 ∷ stored second 2 ∷ []
two_versions (suc (suc zero)) table = stored first 1 ∷ stored second 9 ∷ []
two_versions _ table = []

abbrev deletion : PlainProgram
deletion = record {
  steps = record { j = 1; table = 0; query = p.select (p.scan 0 1) (compare Ne (col 1) (constant (number 1))) } ∷ [];
  last = p.publish 2 (p.scan 0 1) (p.step 1) (p.scan 0 2);
}

-- the deleted row does not come back, and the other one is that of version 2
deleted : program_meaning two_versions deletion ≡ stored second 9 ∷ []
deleted = refl

-- an UPDATE of the same row gives the new row, marked, in place of that of version 2
abbrev marked : PlainProgram
marked = record {
  steps = record { j = 1; table = 0; query = p.project (p.select (p.scan 0 1) (compare Eq (col 1) (constant (number 1)))) (constant (number 4) ∷ col 2 ∷ constant (Mark true) ∷ []) } ∷ [];
  last = p.publish 2 (p.select (p.scan 0 1) (compare Eq (col 1) (constant (number 1)))) (p.step 1) (p.scan 0 2);
}

updated : program_meaning two_versions marked ≡ stored second 9 ∷ (number 4 ∷ Id first ∷ Mark true ∷ []) ∷ []
updated = refl

-- ---- stops: an INSERT step that leaves two rows, one with an identity of three nodes

abbrev large : Identity
large = identity 2 1 1 (source first (source third no_sources))

abbrev two_inserted : PlainProgram
two_inserted = record {
  steps = record { j = 4; table = 0; query = p.union (p.given ((number 1 ∷ Id first ∷ []) ∷ [])) (p.given ((number 6 ∷ Id large ∷ []) ∷ [])) } ∷ [];
  last = p.step 4;
}

-- too many rows count before a large identity
rows_first : program_stop 1 2 two_versions two_inserted ≡ Some (rows 4)
rows_first = refl

ancestry_next : program_stop 2 2 two_versions two_inserted ≡ Some (ancestry 4)
ancestry_next = refl

no_stop : program_stop 2 3 two_versions two_inserted ≡ None
no_stop = refl

-- a step that is no INSERT does not stop
abbrev two_given : PlainProgram
two_given = record {
  steps = record { j = 4; table = 0; query = p.given ((number 1 ∷ Id first ∷ []) ∷ (number 6 ∷ Id large ∷ []) ∷ []) } ∷ [];
  last = p.step 4;
}

never_stops : program_stop 1 2 two_versions two_given ≡ None
never_stops = refl
