-- The lines of the script of a sheet, one after another: after each the table has the rows so far.
use Rattle.std.proofs.Common.{◌≡◌, ℕ, suc, ◌+◌, ◌-◌, ◌<◌, ◌≤◌, Bool, true, false, cond, not, leb, List, [], ◌∷◌, ◌++◌, length, map, filter, Option, Some, None, Result, Ok, refl, sym, ap, subst, ◌∙◌, append_assoc, append-nil, eq-eqb, le-ltb, arith}
use Rattle.std.specs.List.{AllByRecursion, list_all}
use Rattle.std.proofs.lemmas.List.{map-append}
use Rattle.std.proofs.lemmas.List.Elements.{filter-append}
use Rattle.gp_base.specs.Annotated.{Database, unannotated}
use Rattle.gp_base.specs.declared.cell.Cell.{Cell}
use Rattle.gp_base.specs.declared.table.Table.{Table}
use Rattle.gp_grammar.specs.Syntax as y
use Rattle.gp_grammar.specs.Syntax.{Command}
use Rattle.gp_algebra.specs.Effects.{Written, given_from, written_in}
use Rattle.gp_algebra.specs.Statements as s
use Rattle.gp_check.specs.Checking.{checked}
use Rattle.gp_machine.specs.declared.reply.Reply.{Reply}
use Rattle.gp_machine.specs.declared.reply.Reply.TheVariants as reply
use Rattle.gp_machine.specs.Actions.{allowed}
use Rattle.gp_machine.specs.Bases.{Based, is_new, pairs, with_base, with_bases}
use Rattle.gp_machine.specs.Committed.{is_written, merged, unmarked}
use Rattle.gp_machine.specs.Conflicts.{least_conflict}
use Rattle.gp_machine.specs.Entries.{statements_in, transactions_in, versions_in}
use Rattle.gp_machine.specs.Event.{accepted, beginning, began, committing, conflict_of, count_refusal, created, creating, doing, event, is_full, published, published_rows, ran, refusal_of, running, seen_after, start_now, version_now}
use Rattle.gp_machine.specs.Replies.{is_refusal}
use Rattle.gp_machine.specs.State.{Active, State, start}
use Rattle.gp_base.specs.declared.limit.TheConstants.{MAX_TABLE_ROWS, MAX_SPANS}
use Rattle.gp_log.specs.Parameters.{parameters}
use Rattle.gp_log.specs.declared.limit.TheConstants.{MAX_STATEMENTS, MAX_STEPS, MAX_TRANSACTIONS}
use Rattle.gp_txn.proofs.PairLemmas.{all-filter}
use Rattle.gp_csv.specs.SheetForms.{is_row_of}
use Rattle.gp_load.proofs.InsertLemmas.{IsBefore, IsBy, IsWritten, Row, all-mapped, checked-insert, given-before, given-by, given-cells, given-written, not-refused, not-written, unmarked-before, unmarked-cells, written-before, written-new}
use Rattle.std.proofs.lemmas.Bool.{lt-leb}
use Rattle.gp_base.proofs.SmallLemmas.{each_append}
use Rattle.gp_txn.proofs.RoomLemmas.{filter-few}
use Rattle.gp_machine.proofs.Distinct.{filter_every, filter_none}

abbrev pub Plain : Type 0
Plain = State (Unit {0})

abbrev pub cells_in : List Row → List (List Cell)
cells_in rows = map (λ (row : Row). row.cells) rows

-- the newest version of the table
abbrev pub newest : Plain → List Row
newest state = state.committed (versions_in state.entries) 0

-- ---- lines that are accepted

-- from this state, none of the commands of session 1 from this line on is refused, and what they lead to has the property
abbrev pub Accepts : Plain → ℕ → List Command → (Plain → Type 0) → Type 0
Accepts state line [] P = P state
Accepts state line (c ∷ cs) P = (is_refusal (event unannotated parameters state line 1 c).1 ≡ false) × Accepts (event unannotated parameters state line 1 c).0 (line + 1) cs P

accepts-by : (state : Plain) (line : ℕ) (c : Command) (cs : List Command) (P : Plain → Type 0) (out : Plain × Reply) → event unannotated parameters state line 1 c ≡ out
    → is_refusal out.1 ≡ false → Accepts out.0 (line + 1) cs P → Accepts state line (c ∷ cs) P
accepts-by state line c cs P out same answered others =
    subst (λ (o : Plain × Reply). (is_refusal o.1 ≡ false) × Accepts o.0 (line + 1) cs P) (sym same) (answered, others)

-- ---- between transactions, and in one

-- between transactions: t of them began, n statements were accepted, and the table has these rows
pub record Idle (table : Table) (rows : List (List Cell)) (t n most : ℕ) (state : Plain) : Type 0 where
  pub catalogue : state.catalogue ≡ table ∷ []
  pub idle : state.active 1 ≡ None
  pub began : transactions_in state.entries ≡ t
  pub statements : statements_in state.entries ≡ n
  pub cells : cells_in (newest state) ≡ rows
  pub before : AllByRecursion (IsBefore (suc t)) (newest state)
  pub published : state.rows ≤ most

-- in transaction t: it has k statements, n were accepted in all, and it reads these rows
pub record Running (table : Table) (rows : List (List Cell)) (t k n most : ℕ) (state : Plain) : Type 0 where
  pub catalogue : state.catalogue ≡ table ∷ []
  pub active : Active (Unit {0})
  pub is : state.active 1 ≡ Some active
  pub transaction : active.transaction ≡ t
  pub steps : active.statements ≡ k
  pub kind : active.read_committed ≡ false
  pub began : transactions_in state.entries ≡ t
  pub statements : statements_in state.entries ≡ n
  pub version : active.version ≡ versions_in state.entries
  pub new : List Row
  pub view : active.seen.view 0 ≡ newest state ++ new
  pub cells : cells_in (active.seen.view 0) ≡ rows
  pub before : AllByRecursion (IsBefore t) (newest state)
  pub own : AllByRecursion (IsBy t) (pairs active.seen.written)
  pub bases : AllByRecursion (λ (based : Based). based.base ≡ versions_in state.entries) active.seen.written
  pub wrote : AllByRecursion (IsWritten (pairs active.seen.written)) new
  pub recent : AllByRecursion (IsBefore (suc t)) new
  pub published : state.rows ≤ most

cells-length : (rows : List Row) (cells : List (List Cell)) → cells_in rows ≡ cells → length rows ≡ length cells
cells-length [] cells e = ap (λ (x : List (List Cell)). length x) e
cells-length (row ∷ rows) [] e = absurd cc
cells-length (row ∷ rows) (c ∷ cells) e = let same : cells_in rows ≡ cells = cc in ap suc (cells-length rows cells same)

-- ---- CREATE TABLE

pub creates : (table : Table) (line : ℕ) (cs : List Command) (P : Plain → Type 0) → parameters.created [] table ≡ None
    → ((next : Plain) (l : ℕ) → Idle table [] 0 0 0 next → Accepts next l cs P) → Accepts start line (y.create table ∷ cs) P
creates table line cs P named others =
    accepts-by start line (y.create table) cs P (created start line 1 table, reply.Created 0) (ap (creating start line 1 table) named) refl
    (others (created start line 1 table) (line + 1) (record {
      catalogue = refl;
      idle = refl;
      began = refl;
      statements = refl;
      cells = refl;
      before = tt;
      published = omega arith;
    }))

-- ---- BEGIN

pub begins : (table : Table) (rows : List (List Cell)) (t n most line : ℕ) (state : Plain) (cs : List Command) (P : Plain → Type 0) → Idle table rows t n most state → t < MAX_TRANSACTIONS
    → ((next : Plain) (l : ℕ) → Running table rows (suc t) 0 n most next → Accepts next l cs P) → Accepts state line (y.begin false ∷ cs) P
begins table rows t n most line state cs P h few others =
    let count = h.began in
    let room : leb MAX_TRANSACTIONS (transactions_in state.entries) ≡ false = lt-leb MAX_TRANSACTIONS (transactions_in state.entries) (omega (arith, count, few)) in
    accepts-by state line (y.begin false) cs P (began state line 1 false, reply.Began (suc (transactions_in state.entries)) (versions_in state.entries))
    (ap (λ (a : Option (Active (Unit {0}))). doing unannotated parameters state line 1 (allowed a (y.begin false))) h.idle ∙ ap (beginning state line 1 false) room) refl
    (others (began state line 1 false) (line + 1) (record {
      catalogue = h.catalogue;
      active = record {
        transaction = suc (transactions_in state.entries);
        read_committed = false;
        version = versions_in state.entries;
        statements = 0;
        seen = record { view = state.committed (versions_in state.entries); written = [] };
      };
      is = refl;
      transaction = ap suc h.began;
      steps = refl;
      began = ap suc h.began;
      statements = h.statements;
      kind = refl;
      version = refl;
      new = [];
      view = sym (append-nil (newest state));
      cells = h.cells;
      before = h.before;
      own = tt;
      bases = tt;
      wrote = tt;
      recent = tt;
      published = h.published;
    }))

-- ---- INSERT

pairs-based : (version : ℕ) (more : List Written) → pairs (map (with_base version) more) ≡ more
pairs-based version [] = refl
pairs-based version (pair ∷ more) = ap (λ (others : List Written). pair ∷ others) (pairs-based version more)

module _ (table : Table) (rows batch : List (List Cell)) (t k n most line : ℕ) (state : Plain) (cs : List Command) (P : Plain → Type 0) (h : Running table rows t k n most state)
    (steps : k < MAX_STEPS) (statements : n < MAX_STATEMENTS) (few : length rows + length batch ≤ MAX_TABLE_ROWS) (fits : list_all (is_row_of table.cols) batch ≡ true) where
  abbrev command : Command
  command = y.insert table.name batch

  abbrev a : Active (Unit {0})
  a = h.active

  abbrev made : List Row
  made = given_from unannotated a.transaction (suc a.statements) 1 batch

  -- it reads what it has read and written so far
  now-is : version_now state a ≡ a.version
  now-is = ap (λ b. cond b (versions_in state.entries) a.version) h.kind

  start-is : start_now state a ≡ a.seen.view
  start-is = ap (λ b. cond b a.seen.view (merged (state.committed (version_now state a)) a.seen.view (pairs a.seen.written))) (eq-eqb (version_now state a) a.version now-is)

  counts : count_refusal parameters a.statements (statements_in state.entries) ≡ None
  counts =
      let x : leb MAX_STEPS a.statements ≡ false = lt-leb MAX_STEPS a.statements (let e = h.steps in omega (arith, e, steps)) in
      let z : leb MAX_STATEMENTS (statements_in state.entries) ≡ false = lt-leb MAX_STATEMENTS (statements_in state.entries) (let e = h.statements in omega (arith, e, statements)) in
      rw (x, z) refl

  checks : parameters.checked state.catalogue command ≡ Ok (s.insert 0 batch)
  checks = ap (λ (tables : List Table). checked tables command) h.catalogue ∙ checked-insert table batch fits

  within : refusal_of unannotated parameters state.catalogue a.transaction (suc a.statements) (s.insert 0 batch) (start_now state a) ≡ None
  within =
      ap (refusal_of unannotated parameters state.catalogue a.transaction (suc a.statements) (s.insert 0 batch)) start-is
      ∙ not-refused state.catalogue a.transaction (suc a.statements) batch a.seen.view (let e = cells-length (a.seen.view 0) rows h.cells in omega (arith, e, few))

  abbrev next : Plain
  next = accepted unannotated state line 1 a command (s.insert 0 batch)

  is-next : event unannotated parameters state line 1 command ≡ (next, reply.Wrote (length (written_in 0 made)))
  is-next =
      ap (λ (x : Option (Active (Unit {0}))). doing unannotated parameters state line 1 (allowed x command)) h.is
      ∙ ap (λ (x : Option _). running unannotated state line 1 a command parameters x (parameters.checked state.catalogue command)) counts
      ∙ ap (λ (x : Result s.Statement _). running unannotated state line 1 a command parameters None x) checks
      ∙ ap (ran unannotated state line 1 a command (s.insert 0 batch)) within

  all-based : version_now state a ≡ versions_in state.entries → (more : List Written) → AllByRecursion (λ (based : Based). based.base ≡ versions_in state.entries) (map (with_base (version_now state a)) more)
  all-based is [] = tt
  all-based is (pair ∷ more) = (is, all-based is more)

  -- the rows that it wrote now and not before
  abbrev first-written : List Written
  first-written = filter (is_new a.seen.written) (written_in 0 made)

  pairs-more : pairs (with_bases (version_now state a) a.seen.written (written_in 0 made)) ≡ pairs a.seen.written ++ first-written
  pairs-more =
      map-append (λ (based : Based). based.pair) a.seen.written (map (with_base (version_now state a)) first-written)
      ∙ ap (λ (x : List Written). pairs a.seen.written ++ x) (pairs-based (version_now state a) first-written)

  runs-on : Running table (rows ++ batch) t (suc k) (suc n) most next
  runs-on = record {
    catalogue = h.catalogue;
    active = record a { version = version_now state a; statements = suc a.statements; seen = seen_after unannotated state line 1 a command (s.insert 0 batch) };
    is = refl;
    transaction = h.transaction;
    steps = ap suc h.steps;
    began = h.began;
    statements = ap suc h.statements;
    kind = h.kind;
    version = now-is ∙ h.version;
    new = h.new ++ made;
    view = ap (λ (db : Database (Unit {0})). db 0 ++ made) start-is ∙ ap (λ (x : List Row). x ++ made) h.view ∙ append_assoc (newest state) h.new made;
    cells = ap (λ (db : Database (Unit {0})). cells_in (db 0 ++ made)) start-is ∙ map-append (λ (row : Row). row.cells) (a.seen.view 0) made ∙ ap (λ (x : List (List Cell)). x ++ cells_in made) h.cells ∙ ap (λ (x : List (List Cell)). rows ++ x) (given-cells a.transaction (suc a.statements) 1 batch);
    before = h.before;
    own = subst (AllByRecursion (IsBy t)) (sym pairs-more)
        (each_append (IsBy t) (pairs a.seen.written) first-written h.own
        (all-filter (IsBy t) (is_new a.seen.written) (written_in 0 made) (subst (λ (x : ℕ). AllByRecursion (IsBy x) (written_in 0 made)) h.transaction (given-by a.transaction (suc a.statements) 1 batch))));
    bases = each_append (λ (based : Based). based.base ≡ versions_in state.entries) a.seen.written (map (with_base (version_now state a)) first-written) h.bases
        (all-based (now-is ∙ h.version) first-written);
    wrote = subst (λ (x : List Written). AllByRecursion (IsWritten x) (h.new ++ made)) (sym pairs-more)
        (each_append (IsWritten (pairs a.seen.written ++ first-written)) h.new made
        (all-mapped (IsWritten (pairs a.seen.written)) (IsWritten (pairs a.seen.written ++ first-written)) (written-before (pairs a.seen.written) first-written) h.new h.wrote)
        (all-mapped (IsWritten (written_in 0 made)) (IsWritten (pairs a.seen.written ++ first-written)) (written-new a.seen.written (written_in 0 made)) made
        (given-written a.transaction (suc a.statements) 1 batch)));
    recent = each_append (IsBefore (suc t)) h.new made h.recent (subst (λ (x : ℕ). AllByRecursion (IsBefore (suc x)) made) h.transaction (given-before a.transaction (suc a.statements) 1 batch));
    published = h.published;
  }

  pub inserts : ((other : Plain) (l : ℕ) → Running table (rows ++ batch) t (suc k) (suc n) most other → Accepts other l cs P) → Accepts state line (y.insert table.name batch ∷ cs) P
  inserts others = accepts-by state line command cs P (next, reply.Wrote (length (written_in 0 made))) is-next refl (others next (line + 1) runs-on)

-- ---- COMMIT

no_conflict : (written : ℕ → List Written) (versions : ℕ) (all : List Based) → AllByRecursion (λ (based : Based). based.base ≡ versions) all → least_conflict written versions all ≡ None
no_conflict written versions [] bases = refl
no_conflict written versions (based ∷ others) bases =
    let none : versions - based.base ≡ 0 = let e = bases.0 in omega (arith, e) in
    rw (none, no_conflict written versions others bases.1) refl

module _ (table : Table) (rows : List (List Cell)) (t k n most bound line : ℕ) (state : Plain) (cs : List Command) (P : Plain → Type 0) (h : Running table rows t k n most state)
    (grows : most + length rows ≤ bound) (room : bound ≤ MAX_SPANS) where
  abbrev own : Active (Unit {0})
  own = h.active

  abbrev test : Row → Bool
  test row = is_written 0 row.identity (pairs own.seen.written)

  alone : conflict_of state own ≡ None
  alone = no_conflict state.written (versions_in state.entries) own.seen.written h.bases

  few-published : length (filter test (own.seen.view 0)) ≤ length rows
  few-published = let e = cells-length (own.seen.view 0) rows h.cells in let f = filter-few test (own.seen.view 0) in omega (arith, e, f)

  count-done : published_rows own.seen (length state.catalogue) ≡ length (filter test (own.seen.view 0))
  count-done = let e = ap (λ (tables : List Table). published_rows own.seen (length tables)) h.catalogue in omega (arith, e)

  not-full : is_full parameters state own ≡ false
  not-full = le-ltb MAX_SPANS (state.rows + published_rows own.seen (length state.catalogue)) (let f = few-published in let g = h.published in let c = count-done in omega (arith, f, g, c, grows, room))

  abbrev done : Plain
  done = published state line 1 own

  is-done : event unannotated parameters state line 1 y.Command.commit ≡ (done, reply.Committed own.transaction (suc (versions_in state.entries)))
  is-done =
      ap (λ (x : Option (Active (Unit {0}))). doing unannotated parameters state line 1 (allowed x y.Command.commit)) h.is
      ∙ ap (λ (x : Option _). committing state line 1 own x (is_full parameters state own)) alone
      ∙ ap (committing state line 1 own None) not-full

  -- the rows of the newest version, which it did not write, and then its own
  old-rows : AllByRecursion (λ (row : Row). test row ≡ false) (newest state)
  old-rows = all-mapped (IsBefore t) (λ (row : Row). test row ≡ false) (λ row before. not-written t (pairs own.seen.written) row h.own before) (newest state) h.before

  kept-rows : merged (state.committed (versions_in state.entries)) own.seen.view (pairs own.seen.written) 0 ≡ own.seen.view 0
  kept-rows =
      let p : Row → Bool = λ row. not (test row) in
      let old : filter p (newest state) ≡ newest state = filter_every p (newest state) (all-mapped (λ (row : Row). test row ≡ false) (λ (row : Row). p row ≡ true) (λ row e. rw e refl) (newest state) old-rows) in
      let mine : filter test (newest state ++ h.new) ≡ h.new =
      filter-append test (newest state) h.new ∙ ap (λ (x : List Row). x ++ filter test h.new) (filter_none test (newest state) old-rows) ∙ filter_every test h.new h.wrote in
      ap (λ (x : List Row). x ++ filter test (own.seen.view 0)) old ∙ ap (λ (x : List Row). newest state ++ filter test x) h.view ∙ ap (λ (x : List Row). newest state ++ x) mine ∙ sym h.view

  newest-is : newest done ≡ map unmarked (own.seen.view 0)
  newest-is = rw (eq-eqb (suc (versions_in state.entries)) (suc (versions_in state.entries)) refl) (ap (map unmarked) kept-rows)

  before-done : AllByRecursion (IsBefore (suc t)) (newest done)
  before-done = subst (AllByRecursion (IsBefore (suc t))) (sym newest-is) (unmarked-before (suc t) (own.seen.view 0) (subst (AllByRecursion (IsBefore (suc t))) (sym h.view)
      (each_append (IsBefore (suc t)) (newest state) h.new (all-mapped (IsBefore t) (IsBefore (suc t)) (λ row before. omega (arith, before)) (newest state) h.before) h.recent)))

  pub commits : ((other : Plain) (l : ℕ) → Idle table rows t n bound other → Accepts other l cs P) → Accepts state line (y.Command.commit ∷ cs) P
  commits others =
      accepts-by state line y.Command.commit cs P (done, reply.Committed own.transaction (suc (versions_in state.entries))) is-done refl
      (others done (line + 1) (record {
        catalogue = h.catalogue;
        idle = refl;
        began = h.began;
        statements = h.statements;
        cells = ap cells_in newest-is ∙ unmarked-cells (own.seen.view 0) ∙ h.cells;
        before = before-done;
        published = let f = few-published in let g = h.published in let c = count-done in omega (arith, f, g, c, grows);
      }))
