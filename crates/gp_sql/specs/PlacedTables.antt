-- Of the contract of `write_tables`: the text of the table at a place, where both have one.
use Rattle.std.specs.Prelude.{ℕ, List, [], ◌++◌, map, slice_get, Option, Some, None}
use Rattle.gp_base.specs.declared.table.Table.{Table}
use Rattle.gp_versions.specs.declared.span.Span.{Span}
use Rattle.gp_versions.specs.Spans.{Versions}
use Rattle.gp_sql.specs.TableTexts.{create_text, insert_text}

abbrev pub span_lists : List Versions → List (List Span)
span_lists versions = map (λ (table : Versions). table.spans) versions

-- a table with its row versions
abbrev pub table_text : Table → List Span → List ℕ
table_text table spans = create_text table ++ insert_text table 0 spans

abbrev pub text_of_both : Option Table → Option (List Span) → List ℕ
text_of_both None spans = []
text_of_both (Some table) None = []
text_of_both (Some table) (Some spans) = table_text table spans

abbrev pub place_text : List Table → List (List Span) → ℕ → List ℕ
place_text tables lists place = text_of_both (slice_get tables place) (slice_get lists place)
