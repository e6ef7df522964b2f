use Rattle.std.proofs.Common.{◌≡◌, ◌++◌, [], take}
use Rattle.csv.specs.Records.{fields_of, partial_of}
use Rattle.gp_csv.proofs.answer.add_texts.Given as goal

abbrev pub invariant-loop-text : goal.invariant-loop-text
invariant-loop-text l = (fields_of l.record ≡ fields_of l.initial.record ++ take l.text-index l.texts) × (partial_of l.record ≡ [])
