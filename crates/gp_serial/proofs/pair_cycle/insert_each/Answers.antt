use Rattle.std.proofs.Common.{◌≡◌, ◌∙◌, ◌∷◌, [], false, true, ℕ, List, Option, None, length, get_or, ap, refl, subst, sym}
use Rattle.std.specs.Option.{option_map_or}
use Rattle.gp_serial.specs.PathForms.{Inserts, cycle_by, list_at}
use Rattle.gp_serial.specs.declared.pair_cycle.Path.{Path}
use Rattle.gp_serial.proofs.InsertLemmas.{inserts_end, inserts_none, inserts_on}
use Rattle.gp_serial.proofs.pair_cycle.insert_each.Goals as goal
use Rattle.gp_serial.proofs.pair_cycle.insert_each.Goals.{in-Some+in_ok-numbers+in_ok-insert_cycle+else-not-branch, in_default}

pub returns-then-not-branch : goal.returns-then-not-branch
returns-then-not-branch c =
    let b : ℕ = get_or c.args.backs.now c.loop-b.b-index 0 in
    let by : Option Path → ℕ → List (List ℕ) =
    λ found n. option_map_or (λ (path : Path). cycle_by (list_at c.args.before.now) (list_at c.args.after.now) (length c.args.before.now) c.args.to_a.now path n ∷ []) found [] in
    let is : c.in_ok-numbers.numbers.items ∷ [] ≡ by (get_or c.args.to_a.now b None) b =
    ap (λ (list : List ℕ). list ∷ []) c.in_ok-numbers.ensures ∙ ap (λ (found : Option Path). by found b) (sym c.in-Some.is ∙ c.path_at.ensures) in
    inserts_end (λ n. by (get_or c.args.to_a.now n None) n) c.args.most c.args.backs.now c.loop-b.b-index c.loop-b-test.true c.args.cycles.now.keys c.loop-b.cycles.keys c.insert_cycle.new.cycles.keys
    c.loop-b.lines c.insert_cycle.new.lines c.loop-b.invariant
    (subst (λ (list : List (List ℕ)). Inserts c.args.most list c.loop-b.cycles.keys c.insert_cycle.new.cycles.keys c.insert_cycle.new.lines false) is
    (subst (Inserts c.args.most (c.in_ok-numbers.numbers.items ∷ []) c.loop-b.cycles.keys c.insert_cycle.new.cycles.keys c.insert_cycle.new.lines) c.if-not-branch.true c.in_ok-insert_cycle.ensures))

pub loop-b-preserved : goal.loop-b-preserved
loop-b-preserved c =
    let b : ℕ = get_or c.args.backs.now c.loop-b.b-index 0 in
    let by : Option Path → ℕ → List (List ℕ) =
    λ found n. option_map_or (λ (path : Path). cycle_by (list_at c.args.before.now) (list_at c.args.after.now) (length c.args.before.now) c.args.to_a.now path n ∷ []) found [] in
    elim c.match-path_at.branch [
      | in-Some+in_ok-numbers+in_ok-insert_cycle+else-not-branch w ↦
          let is : w.in_ok-numbers.numbers.items ∷ [] ≡ by (get_or c.args.to_a.now b None) b =
          ap (λ (list : List ℕ). list ∷ []) w.in_ok-numbers.ensures ∙ ap (λ (found : Option Path). by found b) (sym w.in-Some.is ∙ c.path_at.ensures) in
          let one : Inserts c.args.most (by (get_or c.args.to_a.now b None) b) c.loop-b.cycles.keys w.insert_cycle.new.cycles.keys w.insert_cycle.new.lines true =
          subst (λ (list : List (List ℕ)). Inserts c.args.most list c.loop-b.cycles.keys w.insert_cycle.new.cycles.keys w.insert_cycle.new.lines true) is
          (subst (Inserts c.args.most (w.in_ok-numbers.numbers.items ∷ []) c.loop-b.cycles.keys w.insert_cycle.new.cycles.keys w.insert_cycle.new.lines) w.if-not-branch.false w.in_ok-insert_cycle.ensures) in
          rw (w.cycles-is, w.lines-is)
          (inserts_on (λ n. by (get_or c.args.to_a.now n None) n) c.args.most c.args.backs.now c.loop-b.b-index c.loop-b-test.true c.args.cycles.now.keys c.loop-b.cycles.keys
          w.insert_cycle.new.cycles.keys c.loop-b.lines w.insert_cycle.new.lines c.loop-b.invariant one)
      | in_default w ↦
          let is : [] ≡ by (get_or c.args.to_a.now b None) b = ap (λ (found : Option Path). by found b) (sym w.in_default.is ∙ c.path_at.ensures) in
          rw (w.cycles-is, w.lines-is)
          (inserts_on (λ n. by (get_or c.args.to_a.now n None) n) c.args.most c.args.backs.now c.loop-b.b-index c.loop-b-test.true c.args.cycles.now.keys c.loop-b.cycles.keys
          c.loop-b.cycles.keys c.loop-b.lines c.loop-b.lines c.loop-b.invariant
          (subst (λ (list : List (List ℕ)). Inserts c.args.most list c.loop-b.cycles.keys c.loop-b.cycles.keys c.loop-b.lines true) is
          (inserts_none c.args.most c.loop-b.cycles.keys c.loop-b.lines (c.loop-b.invariant.kept refl).1)))
    ]
