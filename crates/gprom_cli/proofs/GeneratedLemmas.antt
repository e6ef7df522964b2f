-- The texts that are generated.
use Rattle.std.proofs.Common.{◌≡◌, ℕ, zero, suc, ◌+◌, ◌*◌, ◌<◌, ◌≤◌, List, [], ◌∷◌, ◌++◌, length, map, take, refl, sym, ap, ◌∙◌, subst, arith, append_assoc}
use Rattle.std.specs.Fmt.{decimal}
use Rattle.std.specs.List.{concat, flat_map, sum_by}
use Rattle.std.proofs.lemmas.Fmt.{length-decimal-le}
use Rattle.std.proofs.lemmas.List.{length-append, take_all}
use Rattle.std.proofs.lemmas.List.Concat.{flat_map-append}
use Rattle.std.proofs.lemmas.List.Sums.{sum_by-cons}
use Rattle.gp_script.specs.declared.script.TheConstants.{MAX_SCRIPT_LENGTH}
use Rattle.gprom_cli.specs.declared.generated.TheConstants.{MAX_ROUNDS}
use Rattle.gp_base.specs.Numbered.{newline}
use Rattle.gprom_cli.specs.Generated.{Pieces, amount, closing_lines, destination, generated_questions, generated_script, pieces_line, pieces_lines, opening_lines, replay_line, round_lines, rounds_lines, source}

-- ---- lines as pieces

concat-append : (pieces others : List (List ℕ)) → concat (pieces ++ others) ≡ concat pieces ++ concat others
concat-append [] others = refl
concat-append (piece ∷ pieces) others = ap (λ (rest : List ℕ). piece ++ rest) (concat-append pieces others) ∙ sym (append_assoc piece (concat pieces) (concat others))

abbrev pub ended : Pieces → Pieces
ended line = line ++ newline ∷ []

-- the pieces of all lines, one after another
pub lines-pieces : (lines : List Pieces) → pieces_lines lines ≡ concat (flat_map ended lines)
lines-pieces [] = refl
lines-pieces (line ∷ lines) =
    ap (λ (rest : List ℕ). concat (ended line) ++ rest) (lines-pieces lines) ∙ sym (concat-append (ended line) (flat_map ended lines))

-- ---- the script

round-more : (round : ℕ) → generated_script (suc round) ≡ generated_script round ++ pieces_lines (round_lines (suc round))
round-more round =
    ap pieces_lines (sym (append_assoc opening_lines (rounds_lines round) (round_lines (suc round))))
    ∙ flat_map-append pieces_line (opening_lines ++ rounds_lines round) (round_lines (suc round))

-- one more round
pub round-next : (round : ℕ) → generated_script (round + 1) ≡ generated_script round ++ pieces_lines (round_lines (round + 1))
round-next round =
    let next : suc round ≡ round + 1 = omega arith in
    subst (λ (other : ℕ). generated_script other ≡ generated_script round ++ pieces_lines (round_lines other)) next (round-more round)

-- ---- the questions

flat_map-map : (committed : List ℕ) → pieces_lines (map replay_line committed) ≡ flat_map (λ (t : ℕ). pieces_line (replay_line t)) committed
flat_map-map [] = refl
flat_map-map (t ∷ committed) = ap (λ (rest : List ℕ). pieces_line (replay_line t) ++ rest) (flat_map-map committed)

pub questions-parts : (committed : List ℕ) (last : ℕ)
    → flat_map (λ (t : ℕ). pieces_line (replay_line t)) committed ++ pieces_lines (closing_lines last) ≡ generated_questions committed last
questions-parts committed last =
    ap (λ (text : List ℕ). text ++ pieces_lines (closing_lines last)) (sym (flat_map-map committed))
    ∙ sym (flat_map-append pieces_line (map replay_line committed) (closing_lines last))

pub questions-all : (committed : List ℕ) (last i : ℕ) (text : List ℕ) → length committed ≤ i → text ≡ flat_map (λ (t : ℕ). pieces_line (replay_line t)) (take i committed)
    → text ++ pieces_lines (closing_lines last) ≡ generated_questions committed last
questions-all committed last i text all so_far =
    ap (λ (x : List ℕ). x ++ pieces_lines (closing_lines last)) (so_far ∙ ap (flat_map (λ (t : ℕ). pieces_line (replay_line t))) (take_all i committed all))
    ∙ questions-parts committed last

-- ---- lengths

abbrev size : List ℕ → ℕ
size piece = length piece

concat-length : (pieces : List (List ℕ)) → length (concat pieces) ≡ sum_by size pieces
concat-length [] = refl
concat-length (piece ∷ pieces) = length-append piece (concat pieces) ∙ ap (λ (n : ℕ). length piece + n) (concat-length pieces) ∙ sym (sum_by-cons size piece pieces)

-- the lengths of all pieces
pub lines-length : (lines : List Pieces) → length (pieces_lines lines) ≡ sum_by size (flat_map ended lines)
lines-length lines = ap length (lines-pieces lines) ∙ concat-length (flat_map ended lines)

small : (n : ℕ) → n < 100 → length (decimal n) ≤ 2
small n below = length-decimal-le 2 n (omega arith) (omega (arith, below)) (omega (arith, below))

pub wide : (n : ℕ) → n < 10000 → length (decimal n) ≤ 4
wide n below = length-decimal-le 4 n (omega arith) (omega (arith, below)) (omega (arith, below))

round-length : (round : ℕ) → length (pieces_lines (round_lines round)) ≤ 300
round-length round =
    let from = small (source round) (omega arith) in
    let to = small (destination round) (omega arith) in
    let much = small (amount round) (omega arith) in
    omega (arith, lines-length (round_lines round), from, to, much)

rounds-length : (rounds : ℕ) → length (generated_script rounds) ≤ 400 + 300 * rounds
rounds-length zero = omega (arith, lines-length opening_lines)
rounds-length (suc rounds) =
    let before = rounds-length rounds in
    let round = round-length (suc rounds) in
    let all = ap length (round-more rounds) ∙ length-append (generated_script rounds) (pieces_lines (round_lines (suc rounds))) in
    omega (arith, before, round, all)

-- a generated script is short enough to be run
pub short-script : (rounds : ℕ) → rounds ≤ MAX_ROUNDS → length (generated_script rounds) ≤ MAX_SCRIPT_LENGTH
short-script rounds few = let length = rounds-length rounds in omega (arith, length, few)
