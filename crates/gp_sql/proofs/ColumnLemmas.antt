-- What the names of columns mean in the rows of one source, or of two.
use Rattle.gp_sql.proofs.Prelude.{◌≡◌, ℕ, zero, suc, ◌+◌, ◌<◌, Bool, cond, List, [], ◌∷◌, ◌++◌, drop, length, get_or, Some, refl, sym, ap, ◌∙◌, arith, Option, ◌&&◌, ◌==◌, eq_itself, not_eq, Cell, column}
use Rattle.std.specs.Option.{unwrap_or}
use Rattle.gp_base.proofs.SmallLemmas.{eq_from_same, eq_not}
use Rattle.gp_base.specs.declared.cell.Cell.TheVariants as cell
use Rattle.gp_sql.specs.declared.cell_type.CellType.{CellType}
use Rattle.gp_sql.specs.Meaning.{Relation, Scope, cell_named, cell_of, term_values}
use Rattle.gp_sql.specs.NamedQueries.{columns_of, stored_terms}
use Rattle.gp_sql.specs.Sql as s
use Rattle.gp_sql.specs.Sql.{Alias, Column, Source, Terms}
use Rattle.gp_sql.specs.SqlCells.{sql_rows}
use Rattle.gp_sql.specs.CellTypes.{AreOf}
use Rattle.gp_sql.specs.VersionTables.{stored_names}

-- ---- relations whose columns are c1, c2, ..

-- so many names from this one on
abbrev pub numbered_names : ℕ → ℕ → List Column
numbered_names n zero = []
numbered_names n (suc count) = s.numbered n ∷ numbered_names (suc n) count

abbrev pub relation_with : ℕ → List (List Cell) → Relation
relation_with count rows = record { columns = numbered_names 1 count; rows = sql_rows rows }

-- the row of one source, under its alias
abbrev pub alone : Alias → List Column → List Cell → Scope
alone alias columns row = record { alias = alias; columns = columns; row = row } ∷ []

pub are-long : (row : List Cell) (types : List CellType) → AreOf row types → length types ≡ length row
are-long [] [] h = refl
are-long [] (type ∷ types) h = absurd h
are-long (c ∷ row) [] h = absurd h
are-long (c ∷ row) (type ∷ types) h = ap (λ (n : ℕ). suc n) (are-long row types h.1)

-- ---- one cell

found-head : (m k : ℕ) (x : Cell) (other : Option Cell) → m ≡ k → unwrap_or (cond (m == k) (Some x) other) cell.Null ≡ x
found-head m k x other e = ap (λ b. unwrap_or (cond b (Some x) other) cell.Null) (eq_from_same k m (sym e))

found-behind : (m k : ℕ) (x : Cell) (other : Option Cell) → k < m → unwrap_or (cond (m == k) (Some x) other) cell.Null ≡ unwrap_or other cell.Null
found-behind m k x other less = ap (λ b. unwrap_or (cond b (Some x) other) cell.Null) (eq_not m k (λ e. omega (arith, less, e)))

numbered-found : (row : List Cell) (m k n : ℕ) → m ≡ k + n → unwrap_or (cell_named (s.numbered m) (numbered_names k (length row)) row) cell.Null ≡ get_or row n cell.Null
numbered-found [] m k n e = refl
numbered-found (x ∷ row) m k zero e = found-head m k x (cell_named (s.numbered m) (numbered_names (suc k) (length row)) row) (omega (arith, e))
numbered-found (x ∷ row) m k (suc n) e =
    found-behind m k x (cell_named (s.numbered m) (numbered_names (suc k) (length row)) row) (omega (arith, e))
    ∙ numbered-found row m (suc k) n (omega (arith, e))

none-found : (row : List Cell) (k : ℕ) → 0 < k → unwrap_or (cell_named (s.numbered 0) (numbered_names k (length row)) row) cell.Null ≡ cell.Null
none-found [] k above = refl
none-found (x ∷ row) k above =
    ap (λ b. unwrap_or (cond b (Some x) (cell_named (s.numbered 0) (numbered_names (suc k) (length row)) row)) cell.Null) (not_eq 0 k above)
    ∙ none-found row (suc k) (omega arith)

pub named-cell : (n : ℕ) (row : List Cell) → unwrap_or (cell_named (s.numbered n) (numbered_names 1 (length row)) row) cell.Null ≡ column n row
named-cell zero row = none-found row 1 (omega arith)
named-cell (suc n) row = numbered-found row (suc n) 1 n (omega arith)

stored-found : (row : List Cell) (table m k n : ℕ) → m ≡ k + n
    → unwrap_or (cell_named (s.stored table m) (stored_names table k (length row)) row) cell.Null ≡ get_or row n cell.Null
stored-found [] table m k n e = refl
stored-found (x ∷ row) table m k zero e =
    ap (λ (b : Bool). unwrap_or (cond (b && (m == k)) (Some x) (cell_named (s.stored table m) (stored_names table (suc k) (length row)) row)) cell.Null) (eq_itself table)
    ∙ found-head m k x (cell_named (s.stored table m) (stored_names table (suc k) (length row)) row) (omega (arith, e))
stored-found (x ∷ row) table m k (suc n) e =
    ap (λ (b : Bool). unwrap_or (cond (b && (m == k)) (Some x) (cell_named (s.stored table m) (stored_names table (suc k) (length row)) row)) cell.Null) (eq_itself table)
    ∙ found-behind m k x (cell_named (s.stored table m) (stored_names table (suc k) (length row)) row) (omega (arith, e))
    ∙ stored-found row table m (suc k) n (omega (arith, e))

pub stored-cell : (table n : ℕ) (row : List Cell) → unwrap_or (cell_named (s.stored table n) (stored_names table 0 (length row)) row) cell.Null ≡ get_or row n cell.Null
stored-cell table n row = stored-found row table n 0 n (omega arith)

-- ---- all cells from one on

pub get-drop : (row : List Cell) (n : ℕ) (x : Cell) (post : List Cell) → drop n row ≡ x ∷ post → (get_or row n cell.Null ≡ x) × (drop (suc n) row ≡ post)
get-drop [] zero x post e = absurd cc
get-drop [] (suc n) x post e = absurd cc
get-drop (c ∷ row) zero x post e = (ap (λ (cells : List Cell). get_or cells 0 cell.Null) e, ap (drop 1) e)
get-drop (c ∷ row) (suc n) x post e = get-drop row n x post e

module _ (relations : Source → Relation) (scope : Scope) where
  -- where the columns of an alias are the cells of a row, those from one on are its cells from there on
  pub columns-value : (alias : Alias) (row : List Cell) → ((n : ℕ) → cell_of alias (s.numbered (suc n)) scope ≡ get_or row n cell.Null)
      → (n : ℕ) (post : List Cell) (others : Terms) → drop n row ≡ post
      → term_values relations scope (columns_of alias (suc n) (length post) others) ≡ post ++ term_values relations scope others
  columns-value alias row is n [] others e = refl
  columns-value alias row is n (x ∷ post) others e =
      let found = get-drop row n x post e in
      λ i. (is n ∙ found.0) i ∷ columns-value alias row is (suc n) post others found.1 i

  pub stored-value : (table : ℕ) (row : List Cell) (own : List Cell) → ((n : ℕ) → cell_of s.no_alias (s.stored table n) scope ≡ get_or row n cell.Null)
      → term_values relations scope (stored_terms table 0 0) ≡ own
      → (n : ℕ) (post : List Cell) → drop n row ≡ post → term_values relations scope (stored_terms table n (length post)) ≡ post ++ own
  stored-value table row own is same n [] e = same
  stored-value table row own is same n (x ∷ post) e =
      let found = get-drop row n x post e in
      λ i. (is n ∙ found.0) i ∷ stored-value table row own is same (suc n) post found.1 i
