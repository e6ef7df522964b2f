-- Worked histories. The expected replies, spans and provenance are written out from the rules.
use Rattle.gp_machine.proofs.Prelude.{◌≡◌, ℕ, zero, suc, Bool, true, false, List, [], ◌∷◌, refl, Some, None, Result, Ok, Err, Cell, Refusal, E09, E10, E11, E12, E14, E20, E21, E22, E23, E27, Table, Updated, Identity, identity, no_sources, Command, Statement, insert, update, delete, read, Reply, annotated_versions, begin_version, committer_of, statement_count, statement_version, version_of, Line, line_event, after, state_spans, Parameters, at_point, held_at, log_refusal, State, start}
use Rattle.std.specs.Prelude.{codes, pos}
use Rattle.gp_base.specs.declared.cell.Cell.TheVariants.{Int}
use Rattle.gp_base.specs.declared.limit.Limit.TheVariants as limit
use Rattle.gp_base.specs.declared.refusal.Fate.TheVariants.{Lost}
use Rattle.gp_base.specs.declared.refusal.Refusal.TheVariants.{E07}
use Rattle.gp_base.specs.declared.token.Token.TheVariants.{Inserted}
use Rattle.gp_base.specs.Annotated.{monomials}
use Rattle.gp_base.specs.Tokens.{Monomial}
use Rattle.gp_expr.specs.declared.expr.Cmp.TheVariants.{Eq}
use Rattle.gp_expr.specs.Expressions.{col, constant, add, mul, always, compare}
use Rattle.gp_grammar.specs.Syntax as y
use Rattle.gp_machine.specs.declared.reply.Reply.TheVariants as reply

abbrev number : ℕ → Cell
number n = Int (pos n)

abbrev pair : ℕ → ℕ → List Cell
pair a b = number a ∷ number b ∷ []

-- the table r
abbrev r : Table
r = record { name = codes "r"; cols = [] }

-- a check that knows five statements, by the names that they give to r
abbrev known : List Table → Command → Result Statement Refusal
known tables (y.insert name rows) = Ok (insert 0 rows)
known tables (y.update (zero ∷ name) sets cond) = Ok (update 0 (record { col = 2; expr = add (col 2) (constant (number 1)) } ∷ []) (compare Eq (col 1) (constant (number 1))))
known tables (y.update name sets cond) = Ok (update 0 (record { col = 2; expr = constant (number 10) } ∷ []) (compare Eq (col 1) (constant (number 1))))
known tables (y.delete name cond) = Ok (delete 0 always)
known tables (y.select query) = Ok (read (record { from = 0 ∷ []; cond = None; items = col 1 ∷ [] } ∷ []))
known tables command = Err E07

abbrev numbers : Parameters
numbers = record {
  checked = known;
  created = λ tables table. None;
  tables = 1;
  transactions = 3;
  steps = 2;
  statements = 4;
  rows = 3;
  nodes = 64;
  answer = 2;
  published = 4;
}

abbrev insert_rows : List (List Cell) → Command
insert_rows rows = y.insert (codes "r") rows

abbrev increment : Command
increment = y.update (zero ∷ []) [] None

abbrev set_ten : Command
set_ten = y.update [] [] None

abbrev select_all : Command
select_all = y.select []

abbrev delete_all : Command
delete_all = y.delete [] None

abbrev line : ℕ → ℕ → Command → Line
line number session command = record { number = number; session = session; command = command }

-- the replies to lines
abbrev replies : Parameters → State Monomial → List Line → List Reply
replies parameters state [] = []
replies parameters state (line ∷ lines) = (line_event monomials parameters state line).1 ∷ replies parameters (line_event monomials parameters state line).0 lines

-- ---- the first committer wins: sessions 1 and 2 update one row, and session 1 commits first

abbrev conflict : List Line
conflict =
    line 1 1 (y.create r) ∷ line 2 1 (y.begin false) ∷ line 3 1 (insert_rows (pair 1 10 ∷ pair 2 20 ∷ [])) ∷ line 4 1 y.Command.commit
    ∷ line 5 1 (y.begin false) ∷ line 6 2 (y.begin false) ∷ line 7 1 increment ∷ line 8 2 set_ten ∷ line 9 1 y.Command.commit ∷ line 10 2 y.Command.commit
    ∷ line 11 1 (y.create r) ∷ line 12 1 (y.begin false) ∷ line 13 3 y.Command.commit ∷ line 14 2 y.rollback ∷ []

abbrev first : Identity
first = identity 1 1 1 no_sources

abbrev second : Identity
second = identity 1 1 2 no_sources

conflict_replies : replies numbers start conflict
    ≡ reply.Created 0 ∷ reply.Began 1 0 ∷ reply.Wrote 2 ∷ reply.Committed 1 1
    ∷ reply.Began 2 1 ∷ reply.Began 3 1 ∷ reply.Wrote 1 ∷ reply.Wrote 1 ∷ reply.Committed 2 2 ∷ reply.Refused (E11 3 2 (codes "r") first)
    ∷ reply.Refused (E14 limit.Tables) ∷ reply.Refused (E14 limit.Transactions) ∷ reply.Refused E10 ∷ reply.Refused E10 ∷ []
conflict_replies = refl

abbrev left : State Monomial
left = after monomials numbers start conflict

-- the row that was updated has two spans
conflict_spans : state_spans left 0
    ≡ record { id = first; from = 1; to = Some 2; row = pair 1 10 } ∷ record { id = second; from = 1; to = None; row = pair 2 20 }
    ∷ record { id = first; from = 2; to = None; row = pair 1 11 } ∷ []
conflict_spans = refl

-- the newest version, with its provenance: unwritten rows, and then the written ones
conflict_version : left.committed 2 0
    ≡ record { identity = second; cells = pair 2 20; mark = false; annotation = (Inserted 1 1 2, 1) ∷ [] }
    ∷ record { identity = first; cells = pair 1 11; mark = false; annotation = (Inserted 1 1 1, 1) ∷ (Updated 2 1, 1) ∷ [] } ∷ []
conflict_version = refl

-- the log: transaction 3 began at version 1, ran one statement, and has no version
conflict_committer : committer_of 2 left.entries ≡ 2
conflict_committer = refl

conflict_begin : begin_version 3 left.entries ≡ 1
conflict_begin = refl

conflict_count : statement_count 3 left.entries ≡ 1
conflict_count = refl

conflict_lost : version_of 3 left.entries ≡ None
conflict_lost = refl

-- the spans and the log give the versions back, with their provenance
conflict_computed : annotated_versions monomials left.entries (state_spans left) 2 0 ≡ left.committed 2 0
conflict_computed = refl

-- and so what transaction 2 read after its statement
conflict_reads : at_point monomials left.entries (y.after 2 1) (annotated_versions monomials left.entries (state_spans left)) 0 ≡ held_at left (y.after 2 1) 0
conflict_reads = refl

-- what the log refuses to answer
lost_question : log_refusal left.entries (y.after 3 1) ≡ Some (E21 3 Lost)
lost_question = refl

unknown_question : log_refusal left.entries (y.Point.commit 4) ≡ Some (E20 4)
unknown_question = refl

missing_statement : log_refusal left.entries (y.after 2 2) ≡ Some (E22 2 1)
missing_statement = refl

missing_version : log_refusal left.entries (y.as_of 3) ≡ Some (E23 2)
missing_version = refl

-- ---- the limits, in order

abbrev crowded : List Line
crowded =
    line 1 1 (y.create r) ∷ line 2 1 (y.begin false) ∷ line 3 1 (y.begin false) ∷ line 4 1 (y.create r)
    ∷ line 5 1 (insert_rows (pair 1 1 ∷ pair 2 2 ∷ pair 3 3 ∷ pair 4 4 ∷ [])) ∷ line 6 1 (insert_rows (pair 1 1 ∷ pair 2 2 ∷ pair 3 3 ∷ []))
    ∷ line 7 1 select_all ∷ line 8 1 (insert_rows (pair 4 4 ∷ [])) ∷ line 9 1 increment ∷ line 10 1 increment ∷ line 11 1 y.Command.commit
    ∷ line 12 1 (y.begin false) ∷ line 13 1 increment ∷ line 14 1 y.Command.commit ∷ line 15 1 (y.begin false) ∷ line 16 1 increment ∷ line 17 1 increment
    ∷ line 18 1 y.Command.commit ∷ line 19 1 y.rollback ∷ []

crowded_replies : replies numbers start crowded
    ≡ reply.Created 0 ∷ reply.Began 1 0 ∷ reply.Refused E09 ∷ reply.Refused E09
    ∷ reply.Refused (E12 (codes "r")) ∷ reply.Wrote 3
    ∷ reply.Refused E27 ∷ reply.Refused (E12 (codes "r")) ∷ reply.Wrote 1 ∷ reply.Refused (E14 limit.Steps) ∷ reply.Committed 1 1
    ∷ reply.Began 2 1 ∷ reply.Wrote 1 ∷ reply.Committed 2 2 ∷ reply.Began 3 2 ∷ reply.Wrote 1 ∷ reply.Refused (E14 limit.Statements)
    ∷ reply.Refused (E14 limit.Versions) ∷ reply.RolledBack 3 ∷ []
crowded_replies = refl

-- a row that its transaction made and deleted itself begins no span, and a version may write nothing
abbrev undone : List Line
undone = line 1 1 (y.create r) ∷ line 2 1 (y.begin false) ∷ line 3 1 (insert_rows (pair 1 1 ∷ [])) ∷ line 4 1 delete_all ∷ line 5 1 y.Command.commit ∷ []

undone_spans : state_spans (after monomials numbers start undone) 0 ≡ []
undone_spans = refl

-- ---- a read committed transaction: its second statement reads what another transaction committed since its first

abbrev bigger : ℕ → ℕ → Statement
bigger number a = update 0 (record { col = 2; expr = add (col 2) (constant (Int (pos number))) } ∷ []) (compare Eq (col 1) (constant (Int (pos a))))

-- a check that knows these updates, by the first byte of the name that they give to r
abbrev updates : List Table → Command → Result Statement Refusal
updates tables (y.insert name rows) = Ok (insert 0 rows)
updates tables (y.update (zero ∷ name) sets cond) = Ok (bigger 1 1)
updates tables (y.update (suc zero ∷ name) sets cond) = Ok (bigger 5 2)
updates tables (y.update (suc (suc zero) ∷ name) sets cond) = Ok (bigger 5 1)
updates tables (y.update name sets cond) = Ok (update 0 (record { col = 2; expr = mul (col 2) (constant (number 2)) } ∷ []) always)
updates tables command = Err E07

abbrev ample : Parameters
ample = record numbers { checked = updates; transactions = 9; steps = 9; statements = 9; rows = 9; answer = 9; published = 9 }

abbrev set_by : ℕ → Command
set_by n = y.update (n ∷ []) [] None

-- the kind of the first transaction, and the row that the second one updates
abbrev isolated : Bool → ℕ → List Line
isolated read_committed other =
    line 1 1 (y.create r) ∷ line 2 1 (y.begin false) ∷ line 3 1 (insert_rows (pair 1 10 ∷ pair 2 20 ∷ [])) ∷ line 4 1 y.Command.commit
    ∷ line 5 1 (y.begin read_committed) ∷ line 6 1 (set_by 0) ∷ line 7 2 (y.begin false) ∷ line 8 2 (set_by other) ∷ line 9 2 y.Command.commit
    ∷ line 10 1 (set_by 9) ∷ line 11 1 y.Command.commit ∷ []

isolated_replies : replies ample start (isolated true 1)
    ≡ reply.Created 0 ∷ reply.Began 1 0 ∷ reply.Wrote 2 ∷ reply.Committed 1 1 ∷ reply.Began 2 1 ∷ reply.Wrote 1 ∷ reply.Began 3 1 ∷ reply.Wrote 1
    ∷ reply.Committed 3 2 ∷ reply.Wrote 2 ∷ reply.Committed 2 3 ∷ []
isolated_replies = refl

abbrev isolated_state : State Monomial
isolated_state = after monomials ample start (isolated true 1)

isolated_spans : state_spans isolated_state 0
    ≡ record { id = first; from = 1; to = Some 3; row = pair 1 10 } ∷ record { id = second; from = 1; to = Some 2; row = pair 2 20 }
    ∷ record { id = second; from = 2; to = Some 3; row = pair 2 25 }
    ∷ record { id = second; from = 3; to = None; row = pair 2 50 } ∷ record { id = first; from = 3; to = None; row = pair 1 22 } ∷ []
isolated_spans = refl

-- its statements read versions 1 and 2
isolated_versions : (statement_version 2 0 isolated_state.entries ∷ statement_version 2 1 isolated_state.entries ∷ statement_version 2 2 isolated_state.entries ∷ []) ≡ 1 ∷ 1 ∷ 2 ∷ []
isolated_versions = refl

-- run again over the spans, it reads what it read, with its provenance
isolated_reads : at_point monomials isolated_state.entries (y.after 2 2) (annotated_versions monomials isolated_state.entries (state_spans isolated_state)) 0
    ≡ held_at isolated_state (y.after 2 2) 0
isolated_reads = refl

isolated_computed : annotated_versions monomials isolated_state.entries (state_spans isolated_state) 3 0 ≡ isolated_state.committed 3 0
isolated_computed = refl

abbrev last_reply : List Reply → Reply
last_reply [] = reply.Refused E10
last_reply (one ∷ []) = one
last_reply (one ∷ (other ∷ rest)) = last_reply (other ∷ rest)

-- a snapshot transaction loses by the row that both updated, and so does a read committed one, if the other commits after its own first write of the row
snapshot_loses : last_reply (replies ample start (isolated false 1)) ≡ reply.Refused (E11 2 3 (codes "r") second)
snapshot_loses = refl

read_committed_loses : last_reply (replies ample start (isolated true 2)) ≡ reply.Refused (E11 2 3 (codes "r") first)
read_committed_loses = refl
