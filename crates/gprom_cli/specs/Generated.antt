-- Of the contract of `generate`: what `gen` makes: a script of a bank, whose transactions overlap, and questions about it. Lines are given by their pieces.
use Rattle.std.specs.Prelude.{ℕ, zero, suc, ◌+◌, ◌*◌, ◌%◌, List, [], ◌∷◌, ◌++◌, map, codes}
use Rattle.std.specs.Fmt.{decimal}
use Rattle.std.specs.List.{concat, flat_map}
use Rattle.gp_base.specs.Numbered.{newline}

-- a line, as the pieces of its text
abbrev pub Pieces : Type 0
Pieces = List (List ℕ)

abbrev pub pieces_line : Pieces → List ℕ
pieces_line line = concat (line ++ newline ∷ [])

abbrev pub pieces_lines : List Pieces → List ℕ
pieces_lines lines = flat_map pieces_line lines

-- ---- the script

-- ten accounts of 100 each
abbrev pub opening_lines : List Pieces
opening_lines =
    (codes "s1: CREATE TABLE acct (id INT, owner TEXT, bal INT)" ∷ [])
    ∷ (codes "s1: CREATE TABLE moves (src INT, dst INT, amt INT)" ∷ [])
    ∷ (codes "s1: BEGIN" ∷ [])
    ∷ (codes "s1: INSERT INTO acct VALUES (1, 'o1', 100), (2, 'o2', 100), (3, 'o3', 100), (4, 'o4', 100), (5, 'o5', 100), " ∷ codes "(6, 'o6', 100), (7, 'o7', 100), (8, 'o8', 100), (9, 'o9', 100), (10, 'o10', 100)" ∷ [])
    ∷ (codes "s1: COMMIT" ∷ [])
    ∷ []

-- the account that a round takes from, the account that it adds to, and the amount
abbrev pub source : ℕ → ℕ
source round = round % 10 + 1

abbrev pub destination : ℕ → ℕ
destination round = 3 * round % 10 + 1

abbrev pub amount : ℕ → ℕ
amount round = round % 7 + 1

-- One transaction takes the amount and records the move, another one adds it. They read the same version: where both accounts are one, the
-- transaction that commits last is lost.
abbrev pub round_lines : ℕ → List Pieces
round_lines round =
    (codes "s2: BEGIN" ∷ [])
    ∷ (codes "s3: BEGIN" ∷ [])
    ∷ (codes "s2: UPDATE acct SET bal = bal - " ∷ decimal (amount round) ∷ codes " WHERE id = " ∷ decimal (source round) ∷ [])
    ∷ (codes "s3: UPDATE acct SET bal = bal + " ∷ decimal (amount round) ∷ codes " WHERE id = " ∷ decimal (destination round) ∷ [])
    ∷ (codes "s2: INSERT INTO moves VALUES (" ∷ decimal (source round) ∷ codes ", " ∷ decimal (destination round) ∷ codes ", " ∷ decimal (amount round) ∷ codes ")" ∷ [])
    ∷ (codes "s2: COMMIT" ∷ [])
    ∷ (codes "s3: COMMIT" ∷ [])
    ∷ []

-- the rounds from 1 to this number
abbrev pub rounds_lines : ℕ → List Pieces
rounds_lines zero = []
rounds_lines (suc round) = rounds_lines round ++ round_lines (suc round)

abbrev pub generated_script : ℕ → List ℕ
generated_script rounds = pieces_lines (opening_lines ++ rounds_lines rounds)

-- ---- the questions

-- what a transaction left
abbrev pub replay_line : ℕ → Pieces
replay_line t = codes "REENACT " ∷ decimal t ∷ codes " COMMIT SELECT * FROM acct" ∷ []

-- the provenance of the accounts, and how many moves each owner made
abbrev pub closing_lines : ℕ → List Pieces
closing_lines last =
    (codes "PROVENANCE OF AS OF " ∷ decimal last ∷ codes " SELECT * FROM acct" ∷ [])
    ∷ (codes "VALUE IN COUNT OF AS OF " ∷ decimal last ∷ codes " SELECT x.owner FROM acct x, moves m WHERE x.id = m.src" ∷ [])
    ∷ []

-- a question for each of these transactions, then two about the last version
abbrev pub generated_questions : List ℕ → ℕ → List ℕ
generated_questions committed last = pieces_lines (map replay_line committed ++ closing_lines last)
