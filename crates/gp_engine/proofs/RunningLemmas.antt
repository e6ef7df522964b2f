-- A statement of a running transaction, from what its writes say of it.
use Rattle.std.proofs.Common.{◌≡◌, ℕ, suc, ◌≤◌, ◌<◌, Bool, true, false, List, length, Some, None, refl, ap, subst, arith, inr}
use Rattle.std.specs.Prelude.{if◌then◌else◌, nat_lt}
use Rattle.std.proofs.lemmas.Bool.{and_parts, ltb-true}
use Rattle.gp_base.specs.Annotated.{unannotated}
use Rattle.gp_base.specs.declared.refusal.Refusal.{Refusal}
use Rattle.gp_base.specs.declared.table.Table.{Table}
use Rattle.gp_algebra.specs.Statements.{Statement, insert, insert_select, update, delete, read}
use Rattle.gp_versions.specs.Spans.{Versions}
use Rattle.gp_txn.specs.Applying.{Wrote, is_applicable}
use Rattle.gp_txn.specs.Transactions.{snapshot_of, view_at}
use Rattle.gp_machine.specs.declared.reply.Reply.TheVariants as reply
use Rattle.gp_machine.specs.Event.{is_over_answer, reply_of, target_of}
use Rattle.gp_log.specs.Parameters.{parameters}
use Rattle.gp_engine.specs.Methods.{Accepts}
use Rattle.gp_engine.specs.declared.running.Running.{Running}

-- no limit is passed
no-limit : (rows nodes answers : Bool) (first second third : Refusal) → rows ≡ false → nodes ≡ false → answers ≡ false
    → (if rows then Some first else if nodes then Some second else if answers then Some third else None) ≡ None
no-limit rows nodes answers first second third few-rows few-nodes few =
    (λ i. if few-rows i then Some first else if few-nodes i then Some second else if few i then Some third else None)

-- a statement that writes, writes a table that is there
there : (count : ℕ) (statement : Statement) → is_applicable count statement ≡ true → target_of statement < count
there count (insert table rows) is = ltb-true table count (and_parts (nat_lt table count) _ is).0
there count (insert_select table select) is = ltb-true table count (and_parts (nat_lt table count) _ is).0
there count (update table sets c) is = ltb-true table count (and_parts (nat_lt table count) _ is).0
there count (delete table c) is = ltb-true table count (and_parts (nat_lt table count) _ is).0
there count (read select) is = absurd cc

module _ (tables : List Table) (versions : List Versions) (newest : ℕ) (old new : Running) (count : ℕ)
    (last : old.active.last ≤ old.statements) (counted : new.statements ≡ suc old.statements) where
  abbrev now : ℕ
  now = snapshot_of old.active newest

  abbrev k : ℕ
  k = suc old.statements

  -- it passes no limit, and the reply is this number of rows
  abbrev AcceptsWrite : Statement → Type 0
  AcceptsWrite statement = Accepts tables versions newest old new (reply.Wrote count) statement

  -- where the reply is the number of the rows that it wrote, and it gives no answer
  accepts-write : (statement : Statement) → is_applicable (length versions) statement ≡ true
      → is_over_answer unannotated parameters.answer statement (view_at old.active.tables versions now) ≡ false
      → reply.Wrote count ≡ reply_of unannotated old.active.t k statement (view_at old.active.tables versions now)
      → Wrote k now statement versions old.active new.active count → AcceptsWrite statement
  accepts-write statement applicable few says wrote = record {
    unrefused = no-limit _ _ _ _ _ _ wrote.few_rows wrote.few_nodes few;
    t = wrote.applied.t;
    read_committed = wrote.applied.read_committed;
    begin = wrote.applied.begin;
    last = let is = wrote.applied.last in omega (arith, is);
    there = inr (there (length versions) statement applicable);
    statements = counted;
    view = wrote.applied.view;
    base = wrote.applied.base;
    below = wrote.applied.below;
    holds = wrote.applied.there;
    says = says;
  }

  pub wrote_accepted : (number version : ℕ) → number ≡ k → version ≡ now → (statement : Statement) → is_applicable (length versions) statement ≡ true
      → Wrote number version statement versions old.active new.active count → AcceptsWrite statement
  wrote_accepted number version same is statement applicable wrote =
      by statement applicable (subst (λ (at : ℕ × ℕ). Wrote at.0 at.1 statement versions old.active new.active count) (λ i. (same i, is i)) wrote)
    where
      by : (statement : Statement) → is_applicable (length versions) statement ≡ true → Wrote k now statement versions old.active new.active count → AcceptsWrite statement
      by (insert table rows) applicable wrote = accepts-write (insert table rows) applicable refl (ap reply.Wrote wrote.number) wrote
      by (insert_select table select) applicable wrote = accepts-write (insert_select table select) applicable refl (ap reply.Wrote wrote.number) wrote
      by (update table sets c) applicable wrote = accepts-write (update table sets c) applicable refl (ap reply.Wrote wrote.number) wrote
      by (delete table c) applicable wrote = accepts-write (delete table c) applicable refl (ap reply.Wrote wrote.number) wrote
      by (read select) applicable wrote = absurd cc
