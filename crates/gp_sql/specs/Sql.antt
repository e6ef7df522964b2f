-- Part of the statement: a fragment of SQL (ISO/IEC 9075-2), as data: queries over tables of row versions and over common table expressions. `Meaning` says what
-- they give, `Spelling` how they are written.
use Rattle.std.specs.Prelude.{ℕ, ℤ, Bool, List}
use Rattle.gp_expr.specs.declared.expr.Cmp.{Cmp}

-- what NULL is cast to
pub data SqlType : Type 0 where
  bigint varchar : SqlType

-- the name of a column: of a table of row versions the identity of the row, the versions at which it begins and ends, and its cells, by table and place from 0;
-- else c1, c2, ..
pub data Column : Type 0 where
  identity begins ends : Column
  stored : ℕ → ℕ → Column
  numbered : ℕ → Column

-- the row versions of a table, or a common table expression: that of a step, or another one by its number
pub data Source : Type 0 where
  versions step query : ℕ → Source

pub data Alias : Type 0 where
  no_alias x y : Alias

-- an item of FROM
pub record FromItem : Type 0 where
  pub source : Source
  pub alias : Alias

mutual
  -- a value: a column, with the alias of its source or without; NULL as a value of a type; a number as it is, or cast to BIGINT; texts are joined by ||
  pub data Term : Type 0 where
    column : Alias → Column → Term
    null : SqlType → Term
    number cast_number : ℤ → Term
    text : List ℕ → Term
    plus minus times : Term → Term → Term
    negative : Term → Term
    joined : Terms → Term
    case : Test → Term → Term → Term

  pub data Terms : Type 0 where
    no_terms : Terms
    term : Term → Terms → Terms

  -- a condition; IS NULL and IS TRUE are negated where the flag is false
  pub data Test : Type 0 where
    compare : Cmp → Term → Term → Test
    is_null : Term → Bool → Test
    is_true : Test → Bool → Test
    and or : Test → Test → Test
    not : Test → Test
    exists : Query → Test
    bracket : Test → Test

  -- what SELECT gives: all columns, terms that are named c1, c2, .., or one term that keeps its name
  pub data Items : Type 0 where
    all : Items
    named : Terms → Items
    single : Term → Items

  pub data Where : Type 0 where
    everywhere : Where
    passing : Test → Where

  -- SELECT, FROM and WHERE
  pub data Block : Type 0 where
    select : Items → List FromItem → Where → Block

  -- blocks with UNION ALL between them
  pub data Query : Type 0 where
    block : Block → Query
    union_all : Block → Query → Query

-- a common table expression: its name, whether AS is followed by MATERIALIZED, and its query
pub record NamedQuery : Type 0 where
  pub name : Source
  pub materialized : Bool
  pub query : Query

-- WITH common table expressions, and the query that may read them
pub record With : Type 0 where
  pub queries : List NamedQuery
  pub last : Query
