use Rattle.std.proofs.Common.{◌≡◌, ◌∙◌, false, true, ℕ, List, length, get_or, subst}
use Rattle.std.specs.Prelude.{filter}
use Rattle.gp_serial.specs.Relations.{is_edge}
use Rattle.gp_serial.specs.PathForms.{Inserts, cycles_back, goes_back, list_at}
use Rattle.gp_serial.proofs.InsertLemmas.{inserts_end, inserts_on}
use Rattle.gp_serial.proofs.pair_cycle.insert_all.Goals as goal

pub returns-then-not-branch : goal.returns-then-not-branch
returns-then-not-branch c =
    let a : ℕ = get_or c.args.all.now c.loop-a.a-index 0 in
    let by : List ℕ → ℕ → List (List ℕ) = λ backs n. cycles_back (list_at c.args.before.now) (list_at c.args.after.now) (length c.args.before.now) c.args.steps backs n in
    let backs : c.deref.result.now ≡ filter (goes_back (is_edge c.args.graph.now) c.args.versions.now a) c.args.all.now = c.deref.ensures.value ∙ c.in_ok-backs.ensures in
    inserts_end (λ n. by (filter (goes_back (is_edge c.args.graph.now) c.args.versions.now n) c.args.all.now) n) c.args.most c.args.all.now c.loop-a.a-index c.loop-a-test.true
    c.args.cycles.now.keys c.loop-a.cycles.keys c.insert_back.new.cycles.keys c.loop-a.lines c.insert_back.new.lines c.loop-a.invariant
    (subst (λ (list : List ℕ). Inserts c.args.most (by list a) c.loop-a.cycles.keys c.insert_back.new.cycles.keys c.insert_back.new.lines false) backs
    (subst (Inserts c.args.most (by c.deref.result.now a) c.loop-a.cycles.keys c.insert_back.new.cycles.keys c.insert_back.new.lines) c.if-not-branch.true c.in_ok-insert_back.ensures))

pub loop-a-preserved : goal.loop-a-preserved
loop-a-preserved c =
    let a : ℕ = get_or c.args.all.now c.loop-a.a-index 0 in
    let by : List ℕ → ℕ → List (List ℕ) = λ backs n. cycles_back (list_at c.args.before.now) (list_at c.args.after.now) (length c.args.before.now) c.args.steps backs n in
    let backs : c.deref.result.now ≡ filter (goes_back (is_edge c.args.graph.now) c.args.versions.now a) c.args.all.now = c.deref.ensures.value ∙ c.in_ok-backs.ensures in
    inserts_on (λ n. by (filter (goes_back (is_edge c.args.graph.now) c.args.versions.now n) c.args.all.now) n) c.args.most c.args.all.now c.loop-a.a-index c.loop-a-test.true
    c.args.cycles.now.keys c.loop-a.cycles.keys c.insert_back.new.cycles.keys c.loop-a.lines c.insert_back.new.lines c.loop-a.invariant
    (subst (λ (list : List ℕ). Inserts c.args.most (by list a) c.loop-a.cycles.keys c.insert_back.new.cycles.keys c.insert_back.new.lines true) backs
    (subst (Inserts c.args.most (by c.deref.result.now a) c.loop-a.cycles.keys c.insert_back.new.cycles.keys c.insert_back.new.lines) c.if-not-branch.false c.in_ok-insert_back.ensures))
