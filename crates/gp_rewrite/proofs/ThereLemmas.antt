-- What fits a catalogue has its tables there.
use Rattle.std.proofs.Common.{◌≡◌, ◌^◌, ℕ, Bool, true, List, [], ◌∷◌, length, refl}
use Rattle.std.specs.Prelude.{◌&&◌, ◌==◌, nat_lt}
use Rattle.std.specs.List.{list_all}
use Rattle.gp_base.specs.declared.table.Table.{Table}
use Rattle.gp_algebra.specs.Statements.{Branch, Select, insert_select}
use Rattle.gp_algebra.specs.Fitting.{branch_fits, branches_fit, expr_fits, is_countable, is_there, joined_width, optional_cond_fits, select_fits, select_width, statement_fits}
use Rattle.gp_algebra.specs.Statements.{width_of}
use Rattle.gp_rewrite.specs.Meaning.{branch_is_there, select_is_there}
use Rattle.std.proofs.lemmas.Bool.{and_parts}

first_two : (a b c : Bool) → (a && (b && c)) ≡ true → (a && b) ≡ true
first_two a b c all =
    let some = and_parts a (b && c) all in
    rw (some.0) (and_parts b c some.1).0

branch-there : (tables : List Table) (width : ℕ) (branch : Branch) → branch_fits tables width branch ≡ true → branch_is_there (length tables) branch ≡ true
branch-there tables width branch =
    first_two (nat_lt 0 (length branch.from)) (list_all (is_there tables) branch.from)
    (nat_lt 0 (length branch.items)
    && ((length branch.items == width)
    && (list_all (expr_fits (joined_width tables branch.from)) branch.items && optional_cond_fits (joined_width tables branch.from) branch.cond)))

all-there : (tables : List Table) (width : ℕ) (select : Select) → list_all (branch_fits tables width) select ≡ true → list_all (branch_is_there (length tables)) select ≡ true
all-there tables width [] fit = refl
all-there tables width (branch ∷ others) fit =
    let each = and_parts (branch_fits tables width branch) (list_all (branch_fits tables width) others) fit in
    rw (branch-there tables width branch each.0) (all-there tables width others each.1)

pub branches_there : (tables : List Table) (width : ℕ) (select : Select) → branches_fit tables width select ≡ true → select_is_there (length tables) select ≡ true
branches_there tables width select fit =
    let parts = and_parts (is_countable select) (list_all (branch_fits tables width) select) fit in
    rw ((and_parts (nat_lt 0 (length select)) (nat_lt (length select) (2 ^ 32)) parts.0).0) (all-there tables width select parts.1)

pub selects_there : (tables : List Table) (select : Select) → select_fits tables select ≡ true → select_is_there (length tables) select ≡ true
selects_there tables select = branches_there tables (select_width select) select

-- the query of an INSERT
pub inserted_there : (tables : List Table) (table : ℕ) (select : Select) → statement_fits tables (insert_select table select) ≡ true → select_is_there (length tables) select ≡ true
inserted_there tables table select fits =
    branches_there tables (width_of tables table) select (and_parts (is_there tables table) (branches_fit tables (width_of tables table) select) fits).1
