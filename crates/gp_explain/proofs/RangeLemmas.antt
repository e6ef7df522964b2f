-- A shaped program whose numbers are in range has a text.
use Rattle.gp_explain.proofs.Prelude.{◌≡◌, ℕ, Bool, true, List, [], ◌∷◌, refl, sym, subst, ◌&&◌, nat_le, AllByRecursion, list_all, and_from, Cell, Table, IsInRange, AreInRange, Expr, Cond, Parts, Plain, PlainStep, PlainProgram, has_part, has_item, table_is_spellable, IsU32, ExprInRange, CondInRange, PartsInRange, QueryInRange, StepInRange, ProgramInRange, cell_is_shaped, expr_is_shaped, cond_is_shaped, parts_are_shaped, row_is_shaped, query_is_shaped, step_is_shaped, is_shaped, AreNamed, IsShaped, left_true, right_true}
use Rattle.std.proofs.lemmas.Bool.{le-leb}
use Rattle.gp_base.specs.declared.cell.Cell.TheVariants as cell
use Rattle.gp_base.specs.declared.row_id.TheConstants.{MAX_NODES}
use Rattle.gp_base.specs.Identities.{Identity, Sources, identity, no_sources, source, nodes}
use Rattle.gp_base.specs.IdentityForms.{IsIdentity, AreIdentities}
use Rattle.gp_base.specs.Tokens.{is_u32}
use Rattle.gp_expr.specs.Expressions as e
use Rattle.gp_algebra.specs.Plain as p
use Rattle.gp_plantext.specs.Spellable.{is_from_one, has_numbers, have_numbers, cell_is_spellable, expr_is_spellable, cond_is_spellable, row_is_spellable, query_is_spellable, step_is_spellable, is_spellable}
use Rattle.gp_plantext.specs.SpellableForms.{parts_are_spellable}
use Rattle.gp_plantext.proofs.SpellableLemmas.{monomial-spellable}
use Rattle.gp_explain.specs.Shapes.{counts_from_one, count_from_one}

u32 : (n : ℕ) → IsU32 n → is_u32 n ≡ true
u32 n small = le-leb n 0xffff_ffff small

-- both parts of a test follow, each from its shape and its range
both_spelled : {P Q : Type 0} (a b x y : Bool) → (a ≡ true → P → x ≡ true) → (b ≡ true → Q → y ≡ true) → (a && b) ≡ true → P → Q → (x && y) ≡ true
both_spelled a b x y first second so p q = and_from x y (first (left_true a b so) p) (second (right_true a b so) q)

mutual
  numbers : (id : Identity) → counts_from_one id ≡ true → IsIdentity id → has_numbers id ≡ true
  numbers (identity t k n ids) so range =
      both_spelled (nat_le 1 t) (nat_le 1 k && (nat_le 1 n && count_from_one ids)) (is_from_one t) (is_from_one k && (is_from_one n && have_numbers ids))
      (λ some small. and_from (nat_le 1 t) (is_u32 t) some (u32 t small))
      (λ so rest. both_spelled (nat_le 1 k) (nat_le 1 n && count_from_one ids) (is_from_one k) (is_from_one n && have_numbers ids)
      (λ some small. and_from (nat_le 1 k) (is_u32 k) some (u32 k small))
      (λ so rest. both_spelled (nat_le 1 n) (count_from_one ids) (is_from_one n) (have_numbers ids)
      (λ some small. and_from (nat_le 1 n) (is_u32 n) some (u32 n small)) (numbers_in ids) so rest.0 rest.1.1) so rest.0 rest.1) so range.0 range.1

  numbers_in : (ids : Sources) → count_from_one ids ≡ true → AreIdentities ids → have_numbers ids ≡ true
  numbers_in no_sources so range = refl
  numbers_in (source id ids) so range = both_spelled (counts_from_one id) (count_from_one ids) (has_numbers id) (have_numbers ids) (numbers id) (numbers_in ids) so range.0 range.1

few_nodes : (id : Identity) → IsIdentity id → nat_le (nodes id) MAX_NODES ≡ true
few_nodes (identity t k n ids) range = le-leb (nodes (identity t k n ids)) MAX_NODES range.1.1.1.0

cell_spelled : (x : Cell) → cell_is_shaped x ≡ true → IsInRange x → cell_is_spellable x ≡ true
cell_spelled cell.Null so range = refl
cell_spelled (cell.Int number) so range = so
cell_spelled (cell.Text text) so range = so
cell_spelled (cell.Id id) so range = and_from (has_numbers id) (nat_le (nodes id) MAX_NODES) (numbers id so range) (few_nodes id range)
cell_spelled (cell.Mark mark) so range = refl
cell_spelled (cell.Mono monomial) so range = monomial-spellable monomial range

mutual
  expr_spelled : (x : Expr) → expr_is_shaped x ≡ true → ExprInRange x → expr_is_spellable x ≡ true
  expr_spelled (e.col n) so range = u32 n range
  expr_spelled (e.constant x) so range = cell_spelled x so range
  expr_spelled (e.add a b) so range = both_spelled (expr_is_shaped a) (expr_is_shaped b) (expr_is_spellable a) (expr_is_spellable b) (expr_spelled a) (expr_spelled b) so range.0 range.1
  expr_spelled (e.sub a b) so range = both_spelled (expr_is_shaped a) (expr_is_shaped b) (expr_is_spellable a) (expr_is_spellable b) (expr_spelled a) (expr_spelled b) so range.0 range.1
  expr_spelled (e.mul a b) so range = both_spelled (expr_is_shaped a) (expr_is_shaped b) (expr_is_spellable a) (expr_is_spellable b) (expr_spelled a) (expr_spelled b) so range.0 range.1
  expr_spelled (e.neg a) so range = expr_spelled a so range
  expr_spelled (e.case c a b) so range =
      both_spelled (cond_is_shaped c) (expr_is_shaped a && expr_is_shaped b) (cond_is_spellable c) (expr_is_spellable a && expr_is_spellable b) (cond_spelled c)
      (λ so range. both_spelled (expr_is_shaped a) (expr_is_shaped b) (expr_is_spellable a) (expr_is_spellable b) (expr_spelled a) (expr_spelled b) so range.0 range.1) so range.0 range.1
  expr_spelled (e.new_id t k b parts) so range =
      and_from ((is_u32 t && (is_u32 k && is_u32 b)) && has_part parts) (parts_are_spellable parts)
      (and_from (is_u32 t && (is_u32 k && is_u32 b)) (has_part parts)
      (and_from (is_u32 t) _ (u32 t range.0.0) (and_from (is_u32 k) (is_u32 b) (u32 k range.0.1.0) (u32 b range.0.1.1)))
      (left_true (has_part parts) (parts_are_shaped parts) so))
      (parts_spelled parts (right_true (has_part parts) (parts_are_shaped parts) so) range.1)
  expr_spelled (e.times a b) so range = both_spelled (expr_is_shaped a) (expr_is_shaped b) (expr_is_spellable a) (expr_is_spellable b) (expr_spelled a) (expr_spelled b) so range.0 range.1

  cond_spelled : (c : Cond) → cond_is_shaped c ≡ true → CondInRange c → cond_is_spellable c ≡ true
  cond_spelled e.always so range = refl
  cond_spelled (e.compare cmp a b) so range = both_spelled (expr_is_shaped a) (expr_is_shaped b) (expr_is_spellable a) (expr_is_spellable b) (expr_spelled a) (expr_spelled b) so range.0 range.1
  cond_spelled (e.is_null a holds) so range = expr_spelled a so range
  cond_spelled (e.is_true c holds) so range = cond_spelled c so range
  cond_spelled (e.and c d) so range = both_spelled (cond_is_shaped c) (cond_is_shaped d) (cond_is_spellable c) (cond_is_spellable d) (cond_spelled c) (cond_spelled d) so range.0 range.1
  cond_spelled (e.or c d) so range = both_spelled (cond_is_shaped c) (cond_is_shaped d) (cond_is_spellable c) (cond_is_spellable d) (cond_spelled c) (cond_spelled d) so range.0 range.1
  cond_spelled (e.not c) so range = cond_spelled c so range

  parts_spelled : (parts : Parts) → parts_are_shaped parts ≡ true → PartsInRange parts → parts_are_spellable parts ≡ true
  parts_spelled e.no_parts so range = refl
  parts_spelled (e.part a others) so range = both_spelled (expr_is_shaped a) (parts_are_shaped others) (expr_is_spellable a) (parts_are_spellable others) (expr_spelled a) (parts_spelled others) so range.0 range.1

-- each item of a list
each_spelled : {X : Type 0} (P : X → Type 0) (f g : X → Bool) → ((x : X) → f x ≡ true → P x → g x ≡ true) → (xs : List X) → list_all f xs ≡ true → AllByRecursion P xs
    → list_all g xs ≡ true
each_spelled P f g spelled [] so range = refl
each_spelled P f g spelled (x ∷ xs) so range = both_spelled (f x) (list_all f xs) (g x) (list_all g xs) (spelled x) (each_spelled P f g spelled xs) so range.0 range.1

cells_spelled : (row : List Cell) → list_all cell_is_shaped row ≡ true → AreInRange row → list_all cell_is_spellable row ≡ true
cells_spelled [] so range = refl
cells_spelled (x ∷ row) so range = both_spelled (cell_is_shaped x) (list_all cell_is_shaped row) _ _ (cell_spelled x) (cells_spelled row) so range.0 range.1

row_spelled : (row : List Cell) → row_is_shaped row ≡ true → AreInRange row → row_is_spellable row ≡ true
row_spelled row so range =
    and_from (has_item row) _ (left_true (has_item row) (list_all cell_is_shaped row) so) (cells_spelled row (right_true (has_item row) (list_all cell_is_shaped row) so) range)

module _ (tables : List Table) where
  abbrev shaped : Plain → Bool
  shaped query = query_is_shaped tables query

  query_spelled : (query : Plain) → shaped query ≡ true → QueryInRange query → query_is_spellable tables query ≡ true
  query_spelled (p.scan table version) so range = and_from (table_is_spellable tables table) (is_u32 version) so (u32 version range)
  query_spelled (p.step j) so range = u32 j range
  query_spelled (p.select query c) so range = both_spelled (shaped query) (cond_is_shaped c) _ _ (query_spelled query) (cond_spelled c) so range.0 range.1
  query_spelled (p.project query exprs) so range =
      both_spelled (shaped query) (has_item exprs && list_all expr_is_shaped exprs) _ _ (query_spelled query)
      (λ so range. and_from (has_item exprs) _ (left_true (has_item exprs) (list_all expr_is_shaped exprs) so)
      (each_spelled ExprInRange expr_is_shaped expr_is_spellable expr_spelled exprs (right_true (has_item exprs) (list_all expr_is_shaped exprs) so) range)) so range.0 range.1
  query_spelled (p.product left right) so range = both_spelled (shaped left) (shaped right) _ _ (query_spelled left) (query_spelled right) so range.0 range.1
  query_spelled (p.union left right) so range = both_spelled (shaped left) (shaped right) _ _ (query_spelled left) (query_spelled right) so range.0 range.1
  query_spelled (p.given rows) so range =
      and_from (has_item rows) _ (left_true (has_item rows) (list_all row_is_shaped rows) so)
      (each_spelled AreInRange row_is_shaped row_is_spellable row_spelled rows (right_true (has_item rows) (list_all row_is_shaped rows) so) range)
  query_spelled (p.publish at base mine later) so range =
      and_from (is_u32 at) _ (u32 at range.0)
      (both_spelled (shaped base) (shaped mine && shaped later) _ _ (query_spelled base)
      (λ so range. both_spelled (shaped mine) (shaped later) _ _ (query_spelled mine) (query_spelled later) so range.0 range.1) so range.1.0 range.1.1)

  step_spelled : (s : PlainStep) → step_is_shaped tables s ≡ true → StepInRange s → step_is_spellable tables s ≡ true
  step_spelled s so range =
      and_from (is_u32 s.j) _ (u32 s.j range.0)
      (and_from (table_is_spellable tables s.table) _ (left_true (table_is_spellable tables s.table) (shaped s.query) so)
      (query_spelled s.query (right_true (table_is_spellable tables s.table) (shaped s.query) so) range.1))

  pub program_spelled : (program : PlainProgram) → is_shaped tables program ≡ true → ProgramInRange program → is_spellable tables program ≡ true
  program_spelled program so range =
      let steps = list_all (step_is_shaped tables) program.steps in
      and_from _ _
      (each_spelled StepInRange (step_is_shaped tables) (step_is_spellable tables) step_spelled program.steps (left_true steps (shaped program.last) so) range.steps)
      (query_spelled program.last (right_true steps (shaped program.last) so) range.last)

-- the program of a log's catalogue
pub shaped_spelled : (tables own : List Table) (program : PlainProgram) → own ≡ tables → IsShaped tables program → AreNamed own → ProgramInRange program
    → is_spellable own program ≡ true
shaped_spelled tables own program same shape named range =
    subst (λ list. is_spellable list program ≡ true) (sym same) (program_spelled tables program (shape.shaped (subst AreNamed same named)) range)
