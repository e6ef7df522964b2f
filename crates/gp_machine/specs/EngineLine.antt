-- Machinery: what an engine does with a line, in terms of what it keeps. Each definition is the contract of one method of an engine.
use Rattle.std.specs.Prelude.{◌≡◌, option_and_then, ℕ, zero, suc, ◌+◌, ◌++◌, nat_le, nat_lt, Bool, true, false, List, [], ◌∷◌, length, filter, Option, Some, None, Result, Ok, Err}
use Rattle.gp_base.specs.declared.limit.Limit.TheVariants as limit
use Rattle.gp_base.specs.declared.refusal.Refusal.{Refusal}
use Rattle.gp_base.specs.declared.refusal.Refusal.TheVariants.{E11, E14}
use Rattle.gp_base.specs.declared.table.Table.{Table}
use Rattle.gp_base.specs.Annotated.{unannotated}
use Rattle.gp_grammar.specs.Syntax.{Command}
use Rattle.gp_versions.specs.declared.span.Write.{Write}
use Rattle.gp_versions.specs.Commits.{after_commit}
use Rattle.gp_versions.specs.TableSpans.{written_after}
use Rattle.gp_base.specs.Identities.{Identity}
use Rattle.gp_algebra.specs.Effects.{Written}
use Rattle.std.specs.Ordering.{is_gt}
use Rattle.gp_algebra.specs.Statements.{Statement}
use Rattle.gp_machine.specs.declared.reply.Reply.{Reply}
use Rattle.gp_machine.specs.declared.reply.Reply.TheVariants as reply
use Rattle.gp_machine.specs.Actions as allow
use Rattle.gp_machine.specs.Actions.{Allowed}
use Rattle.gp_machine.specs.ActionForms.{Action, allowed_to}
use Rattle.gp_machine.specs.Conflicts.{Conflict, written_cmp}
use Rattle.gp_machine.specs.Entries.{begin_version, End, RolledBack, Lost, Created, Began, Ran, Committed, Ended, committer_of}
use Rattle.gp_machine.specs.Event.{Line, line_event, after, conflict_of, name_at, creation_refusal, count_refusal, refusal_of, reply_of}
use Rattle.gp_machine.specs.Parameters.{Parameters}
use Rattle.gp_machine.specs.Represents.{Represents, RepresentsActive, PlainDatabase, Overlay, Kept, base_in, version_to_read, view_at, view_of, AreWritesOf, IsNew, Applied}
use Rattle.gp_machine.specs.State.{Active, State, start, with_value}

-- the marked rows of the first tables, this many: those that a commit publishes
abbrev pub marked_rows : PlainDatabase → ℕ → ℕ
marked_rows view zero = zero
marked_rows view (suc place) = marked_rows view place + length (filter (λ row. row.mark) (view place))

-- the number of published rows after the commit of a transaction
abbrev pub rows_after : Kept → Overlay → ℕ
rows_after kept overlay = kept.rows + marked_rows (view_of kept.spans overlay) (length kept.catalogue)

module _ (parameters : Parameters) (kept : Kept) (line session : ℕ) (new : Kept) (answer : Reply) where
  -- nothing changes
  abbrev pub Refuses : Refusal → Type 0
  Refuses refusal = (new ≡ kept) × (answer ≡ reply.Refused refusal)

  abbrev pub Creates : Table → Option Refusal → Type 0
  Creates table (Some refusal) = Refuses refusal
  Creates table None =
      (new ≡ record kept { catalogue = kept.catalogue ++ table ∷ []; entries = Created line session table ∷ kept.entries })
      × (answer ≡ reply.Created (length kept.catalogue))

  -- BEGIN, unless there are too many transactions
  abbrev pub Begins : Bool → Bool → Type 0
  Begins read_committed true = Refuses (E14 limit.Transactions)
  Begins read_committed false =
      (overlay : Overlay) × IsNew kept.spans overlay × (overlay.transaction ≡ suc kept.transactions)
      × (overlay.read_committed ≡ read_committed) × (overlay.begin ≡ kept.versions)
      × (new ≡ record kept {
        entries = Began line session (suc kept.transactions) read_committed ∷ kept.entries;
        transactions = suc kept.transactions;
        sessions = with_value session (Some overlay) kept.sessions;
      })
      × (answer ≡ reply.Began (suc kept.transactions) kept.versions)

  -- the version that a statement reads
  abbrev pub now : Overlay → ℕ
  now overlay = version_to_read overlay kept.versions

  -- a statement that was checked, by the first limit that it passes
  abbrev pub Applies : Overlay → Command → Statement → Option Refusal → Type 0
  Applies overlay command statement (Some refusal) = Refuses refusal
  Applies overlay command statement None =
      (after : Overlay) × Applied statement kept.spans (now overlay) overlay after
      × (new ≡ record kept {
        entries = Ran line session command overlay.transaction statement ∷ kept.entries;
        statements = suc kept.statements;
        sessions = with_value session (Some after) kept.sessions;
      })
      × (answer ≡ reply_of unannotated overlay.transaction (suc overlay.statements) statement (view_at kept.spans overlay (now overlay)))

  -- a statement, by the first count that it passes, and by the check
  abbrev pub RunsStatement : Overlay → Command → Option Refusal → Result Statement Refusal → Type 0
  RunsStatement overlay command (Some refusal) checked = Refuses refusal
  RunsStatement overlay command None (Err refusal) = Refuses refusal
  RunsStatement overlay command None (Ok statement) =
      Applies overlay command statement (refusal_of unannotated parameters kept.catalogue overlay.transaction (suc overlay.statements) statement (view_at kept.spans overlay (now overlay)))

  abbrev pub Ends : Overlay → End → Reply → Type 0
  Ends overlay end expected =
      (new ≡ record kept { entries = Ended line session end overlay.transaction ∷ kept.entries; sessions = with_value session None kept.sessions })
      × (answer ≡ expected)

  -- COMMIT, by the conflict that it is lost by, and by whether it would publish too many rows
  abbrev pub Commits : Overlay → Option Conflict → Bool → Type 0
  Commits overlay (Some conflict) full =
      Ends overlay Lost
      (reply.Refused (E11 overlay.transaction (committer_of conflict.version kept.entries) (name_at conflict.pair.table kept.catalogue) conflict.pair.identity))
  Commits overlay None true = Refuses (E14 limit.Versions)
  Commits overlay None false =
      (writes : ℕ → List Write) × ((place : ℕ) → AreWritesOf kept.spans overlay place (writes place))
      × (new ≡ record kept {
        entries = Committed line session overlay.transaction ∷ kept.entries;
        spans = λ place. after_commit (suc kept.versions) (writes place) (kept.spans place);
        sessions = with_value session None kept.sessions;
        versions = suc kept.versions;
        rows = rows_after kept overlay;
      })
      × (answer ≡ reply.Committed overlay.transaction (suc kept.versions))

  -- what a session may do, or why it may not, given the conflict of a transaction
  abbrev pub Does : (Overlay → Option Conflict) → Result (Allowed Overlay) Refusal → Type 0
  Does conflict (Err refusal) = Refuses refusal
  Does conflict (Ok (allow.Creates table)) = Creates table (creation_refusal parameters kept.catalogue table)
  Does conflict (Ok (allow.Begins read_committed)) = Begins read_committed (nat_le parameters.transactions kept.transactions)
  Does conflict (Ok (allow.Commits overlay)) = Commits overlay (conflict overlay) (nat_lt parameters.published (rows_after kept overlay))
  Does conflict (Ok (allow.RollsBack overlay)) = Ends overlay RolledBack (reply.RolledBack overlay.transaction)
  Does conflict (Ok (allow.Runs overlay command)) =
      RunsStatement overlay command (count_refusal parameters overlay.statements kept.statements) (parameters.checked kept.catalogue command)

  -- what an action does in a session with these writes, or without a transaction
  abbrev pub Answers : (Overlay → Option Conflict) → Option Overlay → Action → Type 0
  Answers conflict overlay action = Does conflict (allowed_to overlay action)

-- where an engine represents a state, it finds the conflict that the commit of a session would be lost by
abbrev pub FindsConflict : Kept → State (Unit {0}) → ℕ → (Overlay → Option Conflict) → Type 0
FindsConflict kept state session conflict =
    (overlay : Overlay) (active : Active (Unit {0})) → kept.sessions session ≡ Some overlay → state.active session ≡ Some active
    → RepresentsActive kept.spans (begin_version active.transaction state.entries) overlay active → conflict overlay ≡ conflict_of state active

-- the first version after the base of a row that wrote the row, if the transaction has written it
abbrev pub next_write : Kept → Overlay → ℕ → Identity → Option ℕ
next_write kept overlay place id = option_and_then (λ base. written_after id base (kept.spans place)) (base_in kept.spans overlay place id)

-- The conflict that the spans show: the least of the written rows that was written after its base.
abbrev pub ShowsConflict : Kept → Overlay → Option Conflict → Type 0
ShowsConflict kept overlay None = (place : ℕ) (id : Identity) → next_write kept overlay place id ≡ None
ShowsConflict kept overlay (Some conflict) =
    (next_write kept overlay conflict.pair.table conflict.pair.identity ≡ Some conflict.version)
    × ((pair : Written) (version : ℕ) → next_write kept overlay pair.table pair.identity ≡ Some version → is_gt (written_cmp conflict.pair pair) ≡ false)

-- An engine follows the history machine at a line: whatever lines came before, if it represents the state that they left, then it represents the
-- state that they leave with this one, and its answer is the reply.
abbrev pub Follows : Parameters → Kept → Kept → Line → Reply → Type 0
Follows parameters old new line answer =
    (lines : List Line) → Represents old (after unannotated parameters start lines)
    → Represents new (after unannotated parameters start (lines ++ line ∷ []))
    × (answer ≡ (line_event unannotated parameters (after unannotated parameters start lines) line).1)
