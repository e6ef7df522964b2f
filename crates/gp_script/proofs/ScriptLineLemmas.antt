-- The lines of a script that are read are those of a script for the history machine: their numbers rise, and their commands are read again.
use Rattle.std.proofs.Common.{◌≡◌, ◌<◌, ◌≤◌, ℕ, suc, ◌+◌, Bool, true, false, cond, List, [], ◌∷◌, ◌++◌, length, filter, Result, Ok, Err, refl, arith}
use Rattle.std.specs.Prelude.{◌==◌}
use Rattle.std.specs.List.{enumerate_from, onto_first, slice_split}
use Rattle.std.specs.Str.Lines.{lines, lines_of_parts}
use Rattle.gp_grammar.specs.Canonical.{command_text}
use Rattle.gp_grammar.specs.LineReading.{Fault}
use Rattle.gp_grammar.specs.Reading.{script_line_of}
use Rattle.gp_grammar.specs.Syntax.{ScriptLine}
use Rattle.gp_syntax.specs.Lines.{is_answered, script_lines}
use Rattle.gp_log.specs.declared.limit.TheConstants.{MAX_LINE}
use Rattle.gp_log.specs.ScriptLines.{AreLinesAfter, AreScriptLines}
use Rattle.gp_log.proofs.LineCommands.{line-command, parsed-reads}
use Rattle.gp_script.specs.Scripts.{line_if_read, lines_if_read}
use Rattle.gp_script.proofs.ReadingLemmas.{read-range}

-- ---- how many lines there are

parts-few : (parts : List (List ℕ)) → length (lines_of_parts parts) ≤ length parts
parts-few [] = omega arith
parts-few (part ∷ []) = elim (length part == 0) as (λ b. length (cond b [] (part ∷ [])) ≤ 1) [ true ↦ omega arith | false ↦ omega arith ]
parts-few (part ∷ next ∷ more) = let rest = parts-few (next ∷ more) in omega (arith, rest)

onto-few : (byte n : ℕ) (parts : List (List ℕ)) → length parts ≤ suc n → length (onto_first byte parts) ≤ suc (suc n)
onto-few byte n [] few = omega arith
onto-few byte n (part ∷ parts) few = omega (arith, few)

split-few : (test : ℕ → Bool) (bytes : List ℕ) → length (slice_split test bytes) ≤ suc (length bytes)
split-few test [] = omega arith
split-few test (byte ∷ bytes) =
    let rest = split-few test bytes in
    elim (test byte) as (λ b. length (cond b ([] ∷ slice_split test bytes) (onto_first byte (slice_split test bytes))) ≤ suc (suc (length bytes))) [
      | true ↦ omega (arith, rest)
      | false ↦ onto-few byte (length bytes) (slice_split test bytes) rest
    ]

lines-few : (script : List ℕ) → length (lines script) ≤ suc (length script)
lines-few script =
    let parts = parts-few (slice_split (λ byte. byte == 10) script) in
    let split = split-few (λ byte. byte == 10) script in
    omega (arith, parts, split)

-- ---- their numbers

module _ (last number : ℕ) (line : List ℕ) (others : List (ℕ × List ℕ)) (below : last < number) (within : number ≤ MAX_LINE)
    (after : AreLinesAfter number (lines_if_read others)) (same : AreLinesAfter last (lines_if_read others)) where
  one-read : (read : Result ScriptLine Fault) → script_line_of line ≡ read → AreLinesAfter last (line_if_read number read ++ lines_if_read others)
  one-read (Err fault) is = same
  one-read (Ok x) is =
      let range = read-range line x is in
      (record { rises = below; number = within; first = range.0; session = range.1; command = parsed-reads (command_text x.command) x.command (line-command line x is) }, after)

  one-line : (answered : Bool) → AreLinesAfter last (lines_if_read (cond answered ((number, line) ∷ others) others))
  one-line true = one-read (script_line_of line) refl
  one-line false = same

lines-after : (last number : ℕ) (all : List (List ℕ)) → last < number → number + length all ≤ suc MAX_LINE → AreLinesAfter last (lines_if_read (filter (λ (line : ℕ × List ℕ). is_answered line.1) (enumerate_from number all)))
lines-after last number [] below within = tt
lines-after last number (line ∷ all) below within =
    one-line last number line (filter (λ (line : ℕ × List ℕ). is_answered line.1) (enumerate_from (number + 1) all)) below (omega (arith, within))
    (lines-after number (number + 1) all (omega arith) (omega (arith, within))) (lines-after last (number + 1) all (omega arith) (omega (arith, within))) (is_answered line)

pub script-lines : (script : List ℕ) → length script < MAX_LINE → AreScriptLines (lines_if_read (script_lines script))
script-lines script short = let few = lines-few script in lines-after 0 1 (lines script) (omega arith) (omega (arith, few, short))
