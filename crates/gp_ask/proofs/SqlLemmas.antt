-- Every question of a file that SQL asks of a well-formed dump has a text that asks for its rows.
use Rattle.std.proofs.Common.{◌≡◌, ℕ, zero, suc, Bool, true, false, cond, List, [], ◌∷◌, ◌++◌, ◌^◌, ◌<◌, length, map, Option, Some, None, Result, Ok, Err, refl, sym, ap, subst, ◌∙◌, append_assoc, arith}
use Rattle.std.specs.Prelude.{◌==◌, IfOk, not, codes, slice_get, slice_index_or}
use Rattle.std.specs.List.{AllByRecursion, flat_map, list_all}
use Rattle.std.proofs.lemmas.Bool.{and_from, eqb-true}
use Rattle.std.proofs.lemmas.List.{append-nil, length-map}
use Rattle.std.proofs.lemmas.List.Folds.{list_all-append}
use Rattle.gp_base.specs.declared.cell.Cell.{Cell}
use Rattle.gp_base.specs.declared.cell.Cell.TheVariants as cell
use Rattle.gp_base.specs.declared.refusal.Refusal.{Refusal}
use Rattle.gp_base.specs.Names.{is_name}
use Rattle.gp_base.specs.declared.table.Column as table
use Rattle.gp_base.specs.declared.table.Table.{Table}
use Rattle.gp_base.specs.Annotated.{Annotated, monomials, unannotated}
use Rattle.gp_base.specs.Numbered.{newline}
use Rattle.gp_base.specs.Tokens.{Monomial}
use Rattle.gp_grammar.specs.LineReading.{Fault}
use Rattle.gp_grammar.specs.Reading.{question_of, read_lines}
use Rattle.gp_grammar.specs.Syntax as y
use Rattle.gp_syntax.specs.Lines.{script_lines}
use Rattle.gp_algebra.specs.Answers.{Element, answer, cells_of}
use Rattle.gp_algebra.specs.Fitting.{select_fits}
use Rattle.gp_algebra.specs.Plain.{PlainEnvironment, PlainProgram, program_meaning}
use Rattle.gp_algebra.specs.Statements.{Select, width_of}
use Rattle.gp_check.specs.Checking.{checked_query}
use Rattle.gp_check.specs.Valid.{query_is_valid}
use Rattle.gp_explain.specs.Explained.{answer_row}
use Rattle.gp_explain.specs.ExplainedLines.{lines_from, text_lines}
use Rattle.gp_explain.specs.LineTexts.{AreLines, is_line}
use Rattle.gp_explain.proofs.ComposedRanges.{merged_at_range}
use Rattle.gp_explain.proofs.ComposedShapes.{merged_at_shaped}
use Rattle.gp_explain.proofs.MeaningLemmas.{merged_means}
use Rattle.gp_explain.proofs.RangeLemmas.{program_spelled}
use Rattle.gp_explain.specs.SmallLogs.{HasFewTables}
use Rattle.gp_machine.specs.Entries.{Entry}
use Rattle.gp_machine.specs.Points.{at_point}
use Rattle.gp_machine.specs.Questions.{log_refusal}
use Rattle.gp_log.specs.LogFacts.{tables_in}
use Rattle.gp_algebra.specs.Encoding as a
use Rattle.gp_prov.specs.Encoding.{encoded, encoded_row}
use Rattle.gp_reenact.specs.Programs.{merged_at}
use Rattle.gp_sql.specs.Meaning.{rows_of}
use Rattle.gp_sql.specs.NamedQueries.{program_query}
use Rattle.gp_plantext.specs.Spellable.{is_spellable}
use Rattle.gp_sql.specs.Spelled.{is_spelled}
use Rattle.gp_sql.specs.Spelling.{expressions_text, query_text, with_text}
use Rattle.gp_sql.specs.Sql.{With}
use Rattle.gp_sql.specs.SqlCells.{sql_rows}
use Rattle.gp_sql.specs.declared.cell_type.CellType.{CellType}
use Rattle.gp_sql.specs.CellTypes.{AreOf, column_types}
use Rattle.gp_sql.specs.TypedQueries.{is_well_typed}
use Rattle.gp_sql.specs.Types.{is_typed}
use Rattle.gp_sql.specs.HeldRows.{held_rows}
use Rattle.gp_sql.specs.VersionTables.{AllSpansFit, SpansFit, SpanFits, version_tables}
use Rattle.gp_versions.specs.declared.span.Span.{Span}
use Rattle.gp_versions.specs.Spans.{rows_at, row_of, spans_at, holds_at}
use Rattle.gp_dump.specs.Dumps.{Dump}
use Rattle.gp_dump.specs.Rules.{WellFormed}
use Rattle.gp_dump.specs.WholeDumps.{AreReadable, IsDump}
use Rattle.gp_dump.proofs.LawLemmas.{whole-text}
use Rattle.gp_ask.specs.Answerable.{has_few_items, question_is_valid}
use Rattle.gp_ask.specs.Asking.{asked, table_spans}
use Rattle.gp_ask.specs.Programs.{sql_lines, sql_text}
use Rattle.gp_ask.specs.Explained.{AreLinesOf}
use Rattle.gp_ask.specs.Questions.{AreQuestions, EachQuestion, ReadQuestion}
use Rattle.gp_ask.specs.SqlAnswers.{Asks, AsksQuestion, AsksState, held_by}
use Rattle.gp_ask.proofs.ColumnNames.{all-named}
use Rattle.gp_ask.proofs.FewLemmas.{checked-few}
use Rattle.gp_ask.proofs.ExplainedLemmas.{IsExplained, dump_explained, query_fits}
use Rattle.gp_ask.proofs.ReadAnswers.{one-file}
use Rattle.gp_ask.proofs.ReadLemmas.{read-valid, valid-parts}

-- ---- a text that ends in a line feed is its lines

-- whether nothing is behind the last line feed, given whether nothing is before the text
abbrev ends : Bool → List ℕ → Bool
ends done [] = done
ends done (byte ∷ bytes) = ends (byte == 10) bytes

true_false : true ≡ false → ⊥
true_false e = cc

-- the beginning of a line
lines_join : (line text : List ℕ) (done : Bool) → (done ≡ true → line ≡ []) → ends done text ≡ true → flat_map (λ line. line ++ 10 ∷ []) (lines_from line text) ≡ line ++ text
lines_join line [] done empty so = sym (ap (λ l. l ++ []) (empty so))
lines_join line (byte ∷ bytes) done empty so =
    go (byte == 10) refl (lines_join [] bytes (byte == 10) (λ e. refl) so) (λ (none : (byte == 10) ≡ false). lines_join (line ++ byte ∷ []) bytes (byte == 10) (λ e. absurd (true_false (sym e ∙ none))) so)
  where
    go : (b : Bool) → (byte == 10) ≡ b → flat_map (λ line. line ++ 10 ∷ []) (lines_from [] bytes) ≡ bytes
        → ((byte == 10) ≡ false → flat_map (λ line. line ++ 10 ∷ []) (lines_from (line ++ byte ∷ []) bytes) ≡ (line ++ byte ∷ []) ++ bytes)
        → flat_map (λ line. line ++ 10 ∷ []) (cond b (line ∷ lines_from [] bytes) (lines_from (line ++ byte ∷ []) bytes)) ≡ line ++ byte ∷ bytes
    go true is next same =
        ap (λ rest. (line ++ 10 ∷ []) ++ rest) next ∙ append_assoc line (10 ∷ []) bytes ∙ ap (λ b. line ++ b ∷ bytes) (sym (eqb-true byte 10 is))
    go false is next same = same is ∙ append_assoc line (byte ∷ []) bytes

lines_alone : (line text : List ℕ) → is_line line ≡ true → list_all is_line (lines_from line text) ≡ true
lines_alone line [] so = refl
lines_alone line (byte ∷ bytes) so =
    go (byte == 10) refl (lines_alone [] bytes refl) (λ (alone : is_line (line ++ byte ∷ []) ≡ true). lines_alone (line ++ byte ∷ []) bytes alone)
  where
    go : (b : Bool) → (byte == 10) ≡ b → list_all is_line (lines_from [] bytes) ≡ true
        → (is_line (line ++ byte ∷ []) ≡ true → list_all is_line (lines_from (line ++ byte ∷ []) bytes) ≡ true)
        → list_all is_line (cond b (line ∷ lines_from [] bytes) (lines_from (line ++ byte ∷ []) bytes)) ≡ true
    go true is next same = and_from (is_line line) _ so next
    go false is next same =
        same (list_all-append (λ byte. not (byte == 10)) line (byte ∷ []) ∙ and_from (is_line line) _ so (and_from (not (byte == 10)) true (ap not is) refl))

ends_behind : (xs ys : List ℕ) → ((done : Bool) → ends done ys ≡ true) → (done : Bool) → ends done (xs ++ ys) ≡ true
ends_behind [] ys so done = so done
ends_behind (x ∷ xs) ys so done = ends_behind xs ys so (x == 10)

query_lines : (tables : List Table) (query : With) → AreLines (text_lines (with_text tables query)) (with_text tables query)
query_lines tables query = record {
  whole =
      lines_join [] (with_text tables query) true (λ e. refl)
      (ends_behind (expressions_text tables query.queries) (query_text tables query.last ++ (codes ";" ++ (newline ++ [])))
      (ends_behind (query_text tables query.last) (codes ";" ++ (newline ++ [])) (λ done. refl)) true);
  single = lines_alone [] (with_text tables query) refl;
}

-- ---- the versions that row versions hold

lengths : (cells : List Cell) (types : List CellType) → AreOf cells types → length cells ≡ length types
lengths [] [] are = refl
lengths [] (type ∷ types) are = absurd are
lengths (own ∷ cells) [] are = absurd are
lengths (own ∷ cells) (type ∷ types) are = ap (λ n. suc n) (lengths cells types are.1)

abbrev AreWide : ℕ → List Span → Type 0
AreWide width spans = AllByRecursion (λ (span : Span). length span.row ≡ width) spans

spans-wide : (table : Table) (spans : List Span) → AllByRecursion (SpanFits table) spans → AreWide (length table.cols) spans
spans-wide table [] fit = tt
spans-wide table (span ∷ spans) fit = (lengths span.row (column_types table) fit.0.1 ∙ length-map table.cols _, spans-wide table spans fit.1)

all-wide : (tables : List Table) (stored : List (List Span)) → length stored ≡ length tables → ((place : ℕ) → SpansFit (slice_get tables place) (slice_index_or stored place []))
    → (place : ℕ) → AreWide (width_of tables place) (slice_index_or stored place [])
all-wide [] [] same fit place = tt
all-wide [] (spans ∷ stored) same fit place = absurd (omega (arith, same))
all-wide (table ∷ tables) [] same fit place = absurd (omega (arith, same))
all-wide (table ∷ tables) (spans ∷ stored) same fit zero = spans-wide table spans (fit 0)
all-wide (table ∷ tables) (spans ∷ stored) same fit (suc place) = all-wide tables stored (omega (arith, same)) (λ p. fit (suc p)) place

held-wide : (width version : ℕ) (spans : List Span) → AreWide width spans → AllByRecursion (λ (row : Annotated Monomial). length row.cells ≡ width) (rows_at monomials version spans)
held-wide width version [] wide = tt
held-wide width version (span ∷ spans) wide =
    elim (holds_at version span) as (λ b. AllByRecursion (λ (row : Annotated Monomial). length row.cells ≡ width) (map (row_of monomials) (cond b (span ∷ spans_at version spans) (spans_at version spans)))) [
      | true ↦ (wide.0, held-wide width version spans wide.1)
      | false ↦ held-wide width version spans wide.1
    ]

held-unmarked : (spans : List Span) → AllByRecursion (λ (row : Annotated Monomial). row.mark ≡ false) (map (row_of monomials) spans)
held-unmarked [] = tt
held-unmarked (span ∷ spans) = (refl, held-unmarked spans)

-- as a program scans them
rows-encoded : (spans : List Span) → map (encoded_row false) (map (row_of monomials) spans) ≡ map (a.encoded_row (λ annotation. [])) (map (row_of unannotated) spans)
rows-encoded [] = refl
rows-encoded (span ∷ spans) = ap (λ (rows : List (List Cell)). (span.row ++ (cell.Id span.id ∷ cell.Mark false ∷ [])) ∷ rows) (rows-encoded spans)

env-encoded : (stored : List (List Span)) → ◌≡◌ {A = PlainEnvironment} (encoded false (held_by stored)) (held_rows (table_spans stored))
env-encoded stored = λ i version table. rows-encoded (spans_at version (table_spans stored table)) i

rows-alone : (elements : List (Element Monomial)) → map (answer_row false) elements ≡ cells_of elements
rows-alone [] = refl
rows-alone (element ∷ elements) = λ i. append-nil element.cells i ∷ rows-alone elements i

-- ---- a query over a state

-- what the laws of gp_sql and of gp_typed say
pub record SqlLaws (entries : List Entry) : Type 0 where
  pub gives : (tables : List Table) (spans : ℕ → List Span) (program : PlainProgram) → AllSpansFit tables spans → is_typed tables program ≡ true
      → rows_of (version_tables tables spans) (program_query tables program) ≡ sql_rows (program_meaning (held_rows spans) program)
  pub spelled : (tables : List Table) (program : PlainProgram) → list_all (λ (own : Table). list_all (λ (column : table.Column). is_name column.name) own.cols) tables ≡ true
      → is_typed tables program ≡ true → is_spellable tables program ≡ true → length (with_text tables (program_query tables program)) < 2 ^ 63
      → is_spelled tables (program_query tables program) ≡ true
  pub queries : (tables : List Table) (program : PlainProgram) → is_typed tables program ≡ true → is_well_typed tables (program_query tables program) ≡ true
  pub typed : (point : y.Point) (query : y.Query) (select : Select) → query_is_valid query ≡ true → checked_query (tables_in entries) query ≡ Ok select → log_refusal entries point ≡ None
      → is_typed (tables_in entries) (merged_at false entries point select) ≡ true

module _ (entries : List Entry) (is : IsExplained entries) (readable : AreReadable entries) (laws : SqlLaws entries) where
  abbrev tables : List Table
  tables = tables_in entries

  select_asks : (point : y.Point) (select : Select) → select_fits tables select ≡ true → HasFewTables select → log_refusal entries point ≡ None
      → is_typed tables (merged_at false entries point select) ≡ true → Asks entries point select (sql_text entries point select)
  select_asks point select fits few known typed =
      let program : PlainProgram = merged_at false entries point select in
      let spellable : is_spellable tables program ≡ true =
      program_spelled tables program (merged_at_shaped entries is.named.named is.fit false select fits point known) (merged_at_range entries is.small is.fit false select fits few point known) in record {
        query = program_query tables program;
        is = refl;
        typed = laws.queries tables program typed;
        spelled = λ short. laws.spelled tables program (all-named entries readable) typed spellable short;
        means = λ stored are.
            laws.gives tables (table_spans stored) program are.typed typed
            ∙ ap sql_rows
            (ap (λ (env : PlainEnvironment). program_meaning env program) (sym (env-encoded stored))
            ∙ merged_means entries select is.fit fits point false known (held_by stored) (record {
              wide = λ version table. held-wide (width_of tables table) version (table_spans stored table) (all-wide tables stored are.tables are.typed table);
              unmarked = λ version table. held-unmarked (spans_at version (table_spans stored table));
            })
            ∙ rows-alone (answer monomials select (at_point monomials entries point (held_by stored))));
      }

  state_asks : (point : y.Point) (query : y.Query) → query_is_valid query ≡ true → has_few_items query ≡ true → AsksState sql_lines entries point query
  state_asks point query valid few = go (log_refusal entries point) refl (checked_query tables query) refl
    where
      go : (refusal : Option Refusal) → log_refusal entries point ≡ refusal → (found : Result Select Refusal) → checked_query tables query ≡ found
          → IfOk (asked refusal found) (λ (select : Select). AreLinesOf (Asks entries point select) (sql_lines entries false point select))
      go (Some refusal) known found e = tt
      go None known (Err refusal) e = tt
      go None known (Ok select) e = (
        sql_text entries point select,
        query_lines tables (program_query tables (merged_at false entries point select)),
        select_asks point select (query_fits tables query select is.valid valid e) (checked-few tables query select None few e) known (laws.typed point query select valid e known),
      )

  question_asks : (own : y.Question) → question_is_valid own ≡ true → AsksQuestion sql_lines entries own
  question_asks (y.ask (y.of_state y.rows point) query) valid = let parts = valid-parts (y.of_state y.rows point) query valid in state_asks point query parts.0 parts.1
  question_asks (y.ask (y.of_state (y.explain false) point) query) valid = let parts = valid-parts (y.of_state (y.explain false) point) query valid in state_asks point query parts.0 parts.1
  question_asks own valid = tt

  line_asks : (text : List ℕ) → IfOk (question_of text) (AsksQuestion sql_lines entries)
  line_asks text = go (question_of text) refl
    where
      go : (found : Result y.Question Fault) → question_of text ≡ found → IfOk found (AsksQuestion sql_lines entries)
      go (Err fault) e = tt
      go (Ok own) e = question_asks own (read-valid text own e)

  lines_ask : (lines : List (ℕ × List ℕ)) → EachQuestion (AsksQuestion sql_lines entries) (read_lines question_of lines)
  lines_ask [] = tt
  lines_ask (line ∷ lines) = (line_asks line.1, lines_ask lines)

pub questions_ask : (bytes file : List ℕ) (dump : Dump) (questions : List ReadQuestion) → WellFormed bytes dump → AreQuestions file questions → SqlLaws dump.entries
    → EachQuestion (AsksQuestion sql_lines dump.entries) questions
questions_ask bytes file dump questions formed are laws =
    let is : IsDump dump = (whole-text bytes dump formed).rules in
    subst (EachQuestion (AsksQuestion sql_lines dump.entries)) (sym (one-file file questions are)) (lines_ask dump.entries (dump_explained dump is) is.commands laws (script_lines file))
