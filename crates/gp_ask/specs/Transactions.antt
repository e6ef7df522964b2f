-- Part of the statement: the transactions of a log, each on a line: its number, its session, its level, the version at which it began, how many statements it
-- ran, and what has become of it.
use Rattle.std.specs.Prelude.{ℕ, Bool, true, false, List, [], ◌∷◌, codes}
use Rattle.std.specs.Fmt.{decimal}
use Rattle.std.specs.List.{concat}
use Rattle.gp_base.specs.declared.refusal.Fate.{Fate}
use Rattle.gp_base.specs.declared.refusal.Fate.TheVariants.{Committed}
use Rattle.gp_base.specs.Refusals as refusal
use Rattle.gp_machine.specs.Entries as m
use Rattle.gp_machine.specs.Entries.{Entry, begin_version, fate_of, statement_count}

abbrev pub level_text : Bool → List ℕ
level_text true = codes "READ COMMITTED"
level_text false = codes "SNAPSHOT"

abbrev pub fate_text : Fate → List ℕ
fate_text (Committed version) = concat (codes "committed as " ∷ decimal version ∷ [])
fate_text fate = refusal.fate_text fate

-- a transaction, by the session and the level of its BEGIN
abbrev pub transaction_text : List Entry → ℕ → ℕ → Bool → List ℕ
transaction_text entries t session read_committed =
    concat (decimal t ∷ codes " s" ∷ decimal session ∷ codes " " ∷ level_text read_committed ∷ codes " at " ∷ decimal (begin_version t entries)
    ∷ codes " statements " ∷ decimal (statement_count t entries) ∷ codes " " ∷ fate_text (fate_of t entries) ∷ [])

-- the line of a BEGIN
abbrev pub begun_lines : List Entry → Entry → List (List ℕ)
begun_lines entries (m.Began line session t read_committed) = transaction_text entries t session read_committed ∷ []
begun_lines entries entry = []
