-- Part of the statement: the limits on the shape of a line, which are tested after the syntax, limit by limit over the whole.
use Rattle.std.specs.Prelude.{ℕ, suc, ◌+◌, max, Bool, List, [], ◌∷◌, ◌++◌, length, map, Option, Some, None, nat_lt, if◌then◌else◌}
use Rattle.std.specs.List.{flat_map, list_any}
use Rattle.gp_grammar.specs.declared.limits.TheConstants.{MAX_COLUMNS, MAX_FROM, MAX_BRANCHES, MAX_VALUES, MAX_NODES, MAX_LEVELS, MAX_CHANGES}
use Rattle.gp_grammar.specs.Folding.{folded}
use Rattle.gp_grammar.specs.Syntax as y
use Rattle.gp_grammar.specs.Syntax.{Term, SetTerm, Item, Items, Block, Query, Command, ScriptLine, LogChange, Side, Question}

-- the literals, columns, operators and CASEs of a term; brackets are none
abbrev pub nodes : Term → ℕ
nodes = folded (λ leaf. 1) (λ parts. parts + 1) ◌+◌

-- a literal or a column has one level, any other term one more than the most of its parts
abbrev pub levels : Term → ℕ
levels = folded (λ leaf. 1) suc max

pub data Limit : Type 0 where
  columns from branches values node_count depth change_count : Limit

-- what the limits are on: the columns of a CREATE TABLE and of each written select list, the items of each FROM, the blocks, the tuples,
-- each written term, and the changes
pub record Shape : Type 0 where
  pub columns : List ℕ
  pub from : List ℕ
  pub branches : ℕ
  pub values : ℕ
  pub terms : List Term
  pub changes : ℕ

abbrev pub terms_of_condition : Option Term → List Term
terms_of_condition None = []
terms_of_condition (Some x) = x ∷ []

-- the terms of a select list; `*` has none
abbrev pub select_terms : Items → List Term
select_terms y.star = []
select_terms (y.list xs) = xs

abbrev pub terms_of_query : Query → List Term
terms_of_query = flat_map (λ (block : Block). select_terms block.items ++ terms_of_condition block.cond)

abbrev pub query_shape : Query → Shape
query_shape blocks = record {
  columns = map (λ (block : Block). length (select_terms block.items)) blocks;
  from = map (λ (block : Block). length block.from) blocks;
  branches = length blocks;
  values = 0;
  terms = terms_of_query blocks;
  changes = 0;
}

abbrev pub shape_of_terms : List Term → Shape
shape_of_terms terms = record { columns = []; from = []; branches = 0; values = 0; terms = terms; changes = 0 }

-- any other command has nothing that a limit is on
abbrev pub command_shape : Command → Shape
command_shape (y.create table) = record { columns = length table.cols ∷ []; from = []; branches = 0; values = 0; terms = []; changes = 0 }
command_shape (y.insert table rows) = record { columns = []; from = []; branches = 0; values = length rows; terms = []; changes = 0 }
command_shape (y.insert_select table query) = query_shape query
command_shape (y.update table sets cond) = shape_of_terms (map (λ (set : SetTerm). set.term) sets ++ terms_of_condition cond)
command_shape (y.delete table cond) = shape_of_terms (terms_of_condition cond)
command_shape (y.select query) = query_shape query
command_shape _ = shape_of_terms []

abbrev pub line_shape : ScriptLine → Shape
line_shape line = command_shape line.command

abbrev pub change_shape : LogChange → Shape
change_shape (y.replace t k command) = command_shape command
change_shape (y.add t command) = command_shape command
change_shape _ = shape_of_terms []

-- two parts as one whole; each query, each VALUES and each WHATIF is of its own length
abbrev pub both : Shape → Shape → Shape
both a b = record {
  columns = a.columns ++ b.columns;
  from = a.from ++ b.from;
  branches = max a.branches b.branches;
  values = max a.values b.values;
  terms = a.terms ++ b.terms;
  changes = max a.changes b.changes;
}

-- so many changes
abbrev pub shape_of_count : ℕ → Shape
shape_of_count count = record { columns = []; from = []; branches = 0; values = 0; terms = []; changes = count }

-- the commands of changes as one whole
abbrev pub commands_shape : List LogChange → Shape
commands_shape [] = shape_of_terms []
commands_shape (change ∷ changes) = both (change_shape change) (commands_shape changes)

abbrev pub changes_shape : List LogChange → Shape
changes_shape changes = both (shape_of_count (length changes)) (commands_shape changes)

abbrev pub side_shape : Side → Shape
side_shape (y.as_is subject) = shape_of_terms []
side_shape (y.changed changes subject) = changes_shape changes

-- any other question has nothing that a limit is on
abbrev pub question_shape : Question → Shape
question_shape (y.history table cond) = shape_of_terms (terms_of_condition cond)
question_shape (y.when query) = query_shape query
question_shape (y.diff first second query) = both (both (side_shape first) (side_shape second)) (query_shape query)
question_shape (y.causes subject query) = query_shape query
question_shape (y.ask subject query) = query_shape query
question_shape (y.what_if changes subject query) = both (changes_shape changes) (query_shape query)
question_shape (y.explain_saw t k query) = query_shape query
question_shape _ = shape_of_terms []

abbrev pub some_above : ℕ → List ℕ → Bool
some_above most = list_any (λ n. nat_lt most n)

-- the first limit, in the order of the tests, that the shape passes
abbrev pub passed_limit : Shape → Option Limit
passed_limit shape =
    if some_above MAX_COLUMNS shape.columns then Some columns
    else (if some_above MAX_FROM shape.from then Some from
    else (if nat_lt MAX_BRANCHES shape.branches then Some branches
    else (if nat_lt MAX_VALUES shape.values then Some values
    else (if some_above MAX_NODES (map nodes shape.terms) then Some node_count
    else (if some_above MAX_LEVELS (map levels shape.terms) then Some depth
    else (if nat_lt MAX_CHANGES shape.changes then Some change_count
    else None))))))
