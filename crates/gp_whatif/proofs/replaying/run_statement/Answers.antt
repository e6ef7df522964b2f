use Rattle.std.proofs.Common.{◌≡◌, true, false, length, refl, subst}
use Rattle.gp_algebra.specs.Views.{statement_view}
use Rattle.gp_txn.specs.Applying.{Wrote, has_too_many_nodes, has_too_many_rows}
use Rattle.gp_whatif.proofs.CodeLemmas.{applies}
use Rattle.gp_whatif.proofs.RunLemmas.{wrote_ran}
use Rattle.gp_whatif.proofs.replaying.run_statement.Goals as goal

pub apply-requires : goal.apply-requires
apply-requires c = record {
  few = rw c.index_for.ensures c.requires.few;
  applicable = rw c.index_for.ensures (applies (length c.args.versions.now) c.args.stmt.now c.in_default.not-Read c.requires.applicable);
  later = c.requires.later;
  others = rw c.index_for.ensures c.requires.others;
}

pub returns-in-Ok : goal.returns-in-Ok
returns-in-Ok c =
    let statement = statement_view c.args.stmt.now in
    record {
      unchanged = c.index_for.ensures;
      ran = wrote_ran c.args.k c.args.version c.args.versions.now statement c.args.active.now c.apply.new.self c.in-Ok.field-0
          (subst (λ vs. Wrote c.args.k c.args.version statement vs c.args.active.now c.apply.new.self c.in-Ok.field-0) c.index_for.ensures c.in-Ok.ensures);
      stop = tt;
    }

pub returns-in-Err-Rows : goal.returns-in-Err-Rows
returns-in-Err-Rows c =
    let many = (rw c.in-Err-Rows.field-0-is at c.in-Err-Rows.ensures).1 in
    record {
      unchanged = c.index_for.ensures;
      ran = tt;
      stop = (c.t-t.ensures.t, (refl, subst (λ vs. has_too_many_rows c.args.k c.args.version (statement_view c.args.stmt.now) vs c.args.active.now ≡ true) c.index_for.ensures many));
    }

pub returns-in-Err-Ancestry : goal.returns-in-Err-Ancestry
returns-in-Err-Ancestry c =
    let few = (rw c.in-Err-Ancestry.field-0-is at c.in-Err-Ancestry.ensures).1 in
    let many = (rw c.in-Err-Ancestry.field-0-is at c.in-Err-Ancestry.ensures).2 in
    record {
      unchanged = c.index_for.ensures;
      ran = tt;
      stop = (
        c.t-t.ensures.t,
        (
          refl,
          (
            subst (λ vs. has_too_many_rows c.args.k c.args.version (statement_view c.args.stmt.now) vs c.args.active.now ≡ false) c.index_for.ensures few,
            subst (λ vs. has_too_many_nodes c.args.k c.args.version (statement_view c.args.stmt.now) vs c.args.active.now ≡ true) c.index_for.ensures many,
          ),
        ),
      );
    }
