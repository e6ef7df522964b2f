-- Part of the statement: the statements of SQL that make the tables of row versions and fill them, at most a hundred rows at a time.
use Rattle.std.specs.Prelude.{ℕ, suc, ◌==◌, ◌%◌, List, [], ◌∷◌, ◌++◌, codes, if◌then◌else◌}
use Rattle.std.specs.List.{concat, flat_map, zip}
use Rattle.gp_base.specs.declared.table.Column.{Column}
use Rattle.gp_base.specs.declared.table.Kind.{Kind}
use Rattle.gp_base.specs.declared.table.Kind.TheVariants as kind
use Rattle.gp_base.specs.declared.table.Table.{Table}
use Rattle.gp_base.specs.Numbered.{newline}
use Rattle.gp_base.specs.Texts.{row_text}
use Rattle.gp_versions.specs.declared.span.Span.{Span}
use Rattle.gp_sql.specs.VersionTables.{version_row}

abbrev pub kind_text : Kind → List ℕ
kind_text kind.Int = codes " BIGINT"
kind_text kind.Text = codes " VARCHAR(255)"

abbrev pub column_definition : Column → List ℕ
column_definition column = concat (codes ", \"" ∷ column.name ∷ codes "\"" ∷ kind_text column.kind ∷ [])

-- the identity, and the versions at which a row begins and ends; an identity of 64 nodes has at most 2,174 bytes
unfoldable pub system_columns : List ℕ
system_columns = codes "\"$id\" VARCHAR(2200) NOT NULL, \"$from\" BIGINT NOT NULL, \"$to\" BIGINT"

unfoldable pub create_begin : List ℕ
create_begin = codes "CREATE TABLE "

unfoldable pub create_middle : List ℕ
create_middle = codes "_versions ("

abbrev pub create_text : Table → List ℕ
create_text table = concat (create_begin ∷ table.name ∷ create_middle ∷ system_columns ∷ flat_map column_definition table.cols ∷ codes ");" ∷ newline ∷ [])

-- the rows of a statement; a number of rows after which another one begins
abbrev pub most_rows : ℕ
most_rows = 100

abbrev pub insert_word : Table → List ℕ
insert_word table = concat (codes "INSERT INTO " ∷ table.name ∷ codes "_versions VALUES " ∷ [])

-- what stands before the row behind so many others
abbrev pub row_word : Table → ℕ → List ℕ
row_word table n = if n == 0 then insert_word table else (if n % most_rows == 0 then concat (codes ";" ∷ newline ∷ insert_word table ∷ []) else codes ", ")

abbrev pub version_text : Span → List ℕ
version_text span = concat (codes "(" ∷ row_text (version_row span) ∷ codes ")" ∷ [])

-- rows behind so many others
abbrev pub insert_text : Table → ℕ → List Span → List ℕ
insert_text table n [] = if n == 0 then [] else codes ";" ++ newline
insert_text table n (span ∷ spans) = concat (row_word table n ∷ version_text span ∷ insert_text table (suc n) spans ∷ [])

-- the tables of a catalogue, each with its row versions
abbrev pub tables_text : List Table → List (List Span) → List ℕ
tables_text tables lists = flat_map (λ (pair : Table × List Span). create_text pair.0 ++ insert_text pair.0 0 pair.1) (zip tables lists)
