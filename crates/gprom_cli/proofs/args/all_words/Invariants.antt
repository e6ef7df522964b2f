use Rattle.std.proofs.Common.{◌≡◌, length, map, string_bytes}
use Rattle.std.specs.List.{list_all}
use Rattle.gprom_cli.specs.Args.{is_word}
use Rattle.gprom_cli.proofs.args.all_words.Given as goal

-- the answer for the rest is the answer for all
abbrev pub invariant-loop-rest : goal.invariant-loop-rest
invariant-loop-rest l = list_all is_word (map string_bytes l.rest) ≡ list_all is_word (map string_bytes l.args)

abbrev pub decreases-loop-rest : goal.decreases-loop-rest
decreases-loop-rest l = length l.rest
