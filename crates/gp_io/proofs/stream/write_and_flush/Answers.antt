use Rattle.std.proofs.Common.{◌≡◌, ℕ, ◌-◌, List, ◌++◌, length, take, drop, sym, ap, ◌∙◌, Bor}
use Rattle.std.proofs.lemmas.List.{take_rest}
use Rattle.gp_io.proofs.StreamLemmas.{Appends-more, Appends-kept, split-more}
use Rattle.gp_io.proofs.stream.write_and_flush.Goals.{in-Ok-write, in-Err-write+else-ne}
use Rattle.gp_io.proofs.stream.write_and_flush.Goals as goal

pub loop-preserved : goal.loop-preserved
loop-preserved g c =
    let (taken, split, appended) = c.loop.invariant in
    let left = c.loop.left.now in
    elim c.match-write.branch [
      | in-Ok-write w ↦
          let n = w.in-Ok-write.taken in
          let rest : take (length left - n) (drop n left) ≡ c.match-write.left.now = ap (λ (b : Bor (List ℕ)). b.now) (sym w.left-is) in (
            taken ++ take n left,
            split-more c.args.bytes.now taken left n split ∙ ap (λ (r : List ℕ). (taken ++ take n left) ++ r) (sym (take_rest left n) ∙ rest),
            Appends-more _ _ _ taken (take n left) appended w.in-Ok-write.ensures.bytes,
          )
      | in-Err-write+else-ne w ↦
          (taken, split ∙ ap (λ (b : Bor (List ℕ)). taken ++ b.now) (sym w.left-is), Appends-kept _ _ _ taken appended w.in-Err-write.ensures.bytes)
    ]
