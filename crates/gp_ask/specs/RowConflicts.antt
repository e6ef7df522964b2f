-- Part of the statement: the rows on which a transaction met another one: from a dump alone, and as the history held it. The transaction wrote such a row, and a
-- commit wrote it too, after the base of the row, and before the transaction ended. Each is a line with its base, and the first such commit.
use Rattle.std.specs.Prelude.{ℕ, zero, suc, ◌-◌, ◌==◌, ◌&&◌, ◌||◌, not, Bool, false, List, [], ◌∷◌, ◌++◌, codes, filter, map, Option, Some, None, if◌then◌else◌}
use Rattle.std.specs.Fmt.{decimal}
use Rattle.std.specs.List.{concat, flat_map, list_any}
use Rattle.std.specs.Option.{option_map_or}
use Rattle.std.specs.Ordering.{is_eq, on}
use Rattle.std.specs.declared.cmp.Ordering.{Ordering}
use Rattle.gp_base.specs.declared.table.Table.{Table}
use Rattle.gp_base.specs.Annotated.{monomials, unannotated}
use Rattle.gp_base.specs.Identities.{Identity, identity_text, same_identity}
use Rattle.gp_base.specs.Order.{sorted_by}
use Rattle.gp_base.specs.Tokens.{Monomial}
use Rattle.gp_grammar.specs.Syntax as y
use Rattle.gp_algebra.specs.Effects.{Written}
use Rattle.gp_dump.specs.Dumps.{Dump}
use Rattle.gp_log.specs.LogFacts.{tables_in}
use Rattle.gp_log.specs.Parameters.{parameters}
use Rattle.gp_machine.specs.Bases.{Based, with_base}
use Rattle.gp_machine.specs.Committed.{is_written}
use Rattle.gp_machine.specs.Conflicts.{written_cmp}
use Rattle.gp_machine.specs.Entries.{Entry, at_newest, committer_of, is_end, is_of, log_of, statement_at, statement_count, statement_version, versions_in}
use Rattle.gp_machine.specs.Event.{name_at}
use Rattle.gp_machine.specs.HistorySpans.{as_of}
use Rattle.gp_machine.specs.Questions.{own_stop}
use Rattle.gp_machine.specs.ReadBy.{seen_by}
use Rattle.gp_machine.specs.Reading.{wrote_by}
use Rattle.gp_machine.specs.Runs.{run_before}
use Rattle.gp_machine.specs.State.{State}
use Rattle.gp_versions.specs.declared.span.Span.{Span}
use Rattle.gp_ask.specs.declared.answered.Answered.{Answered}
use Rattle.gp_ask.specs.declared.answered.Answered.TheVariants.{Lines}
use Rattle.gp_ask.specs.declared.answered.Heading.TheVariants.{Conflicts}
use Rattle.gp_ask.specs.Asking.{table_spans}
use Rattle.gp_ask.specs.Values.{unless_refused}

-- how many commits came before the end of a transaction; where it has not ended, all of them
abbrev pub commits_before_end : ℕ → List Entry → ℕ
commits_before_end t entries = at_newest (λ entry older. is_end entry && is_of t entry) (λ entry older. versions_in older) (versions_in entries) entries

-- the first version after one, among this many, whose commit wrote a row
abbrev pub first_writer : (ℕ → Bool) → ℕ → ℕ → Option ℕ
first_writer wrote version zero = None
first_writer wrote version (suc more) = if wrote (suc version) then Some (suc version) else first_writer wrote (suc version) more

-- a row by its table and its identity, its base, and the version and the transaction that wrote it then
abbrev pub conflict_text : List ℕ → Identity → ℕ → ℕ → ℕ → List ℕ
conflict_text name id base t version =
    concat (name ∷ codes " " ∷ identity_text id ∷ codes " at " ∷ decimal base ∷ codes " : " ∷ decimal t ∷ codes " wrote it as " ∷ decimal version ∷ [])

-- by table and then by identity
abbrev pub based_cmp : Based → Based → Ordering
based_cmp = on (λ (row : Based). row.pair) written_cmp

-- given which rows the commit of a version wrote
module _ (entries : List Entry) (tables : List Table) (wrote : ℕ → Written → Bool) where
  abbrev pub conflict_lines : ℕ → Based → List (List ℕ)
  conflict_lines upto row =
      option_map_or (λ version. conflict_text (name_at row.pair.table tables) row.pair.identity row.base (committer_of version entries) version ∷ [])
      (first_writer (λ version. wrote version row.pair) row.base (upto - row.base)) []

  -- of the rows that a transaction wrote, in order
  abbrev pub conflicts_of : ℕ → List Based → Answered
  conflicts_of t written = Lines Conflicts (flat_map (conflict_lines (commits_before_end t entries)) (sorted_by based_cmp written))

-- ---- from a dump

-- the rows that the first statements of a transaction wrote, this many, over the stored versions, each with the version that the statement read
abbrev pub dump_written : Dump → ℕ → ℕ → List Based
dump_written dump t zero = []
dump_written dump t (suc k) =
    dump_written dump t k
    ++ map (with_base (statement_version t (suc k) dump.entries))
    (wrote_by unannotated t (suc k) (statement_at t (suc k) dump.entries) (run_before unannotated (log_of dump.entries) t k (as_of unannotated (table_spans dump.tables))))

-- each row once, with its first base
abbrev pub firsts : List Based → List Based
firsts [] = []
firsts (row ∷ others) = row ∷ filter (λ other. not (is_eq (based_cmp row other))) (firsts others)

-- a row version begins or ends with the version
abbrev pub spans_wrote : List Span → Identity → ℕ → Bool
spans_wrote spans id version = list_any (λ (span : Span). same_identity span.id id && ((span.from == version) || option_map_or (λ to. to == version) span.to false)) spans

abbrev pub dump_conflicts : Dump → ℕ → Answered
dump_conflicts dump t =
    let count = statement_count t dump.entries in
    unless_refused (own_stop unannotated parameters dump.entries (y.after t count) (as_of unannotated (table_spans dump.tables)))
    (conflicts_of dump.entries (tables_in dump.entries) (λ version pair. spans_wrote (table_spans dump.tables pair.table) pair.identity version) t (firsts (dump_written dump t count)))

-- ---- as a history held it

-- no statement of a transaction of a history stops
abbrev pub history_conflicts : State Monomial → ℕ → Answered
history_conflicts state t =
    conflicts_of state.entries state.catalogue (λ version pair. is_written pair.table pair.identity (state.written version)) t
    (seen_by monomials (log_of state.entries) t (statement_count t state.entries) state.committed).written
