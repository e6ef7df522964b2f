-- Part of the statement: the texts of refusals. Each begins with its code.
use Rattle.std.specs.Prelude.{ℕ, List, [], ◌∷◌, codes, Option, Some, None}
use Rattle.std.specs.List.{concat}
use Rattle.std.specs.Fmt.{decimal}
use Rattle.gp_base.specs.Identities.{identity_text}
use Rattle.gp_base.specs.declared.limit.Limit.{Limit}
use Rattle.gp_base.specs.declared.limit.Limit.TheVariants as l
use Rattle.gp_base.specs.declared.refusal.Fate.{Fate}
use Rattle.gp_base.specs.declared.refusal.Fate.TheVariants.{Active, RolledBack, Lost, Committed}
use Rattle.gp_base.specs.declared.refusal.Refusal.{Refusal}
use Rattle.gp_base.specs.declared.refusal.Refusal.TheVariants as r

abbrev pub limit_text : Limit → List ℕ
limit_text l.Tables = codes "tables"
limit_text l.Columns = codes "columns"
limit_text l.From = codes "from"
limit_text l.Branches = codes "branches"
limit_text l.Values = codes "values"
limit_text l.Nodes = codes "nodes"
limit_text l.Depth = codes "depth"
limit_text l.Changes = codes "changes"
limit_text l.Transactions = codes "transactions"
limit_text l.Statements = codes "statements"
limit_text l.Steps = codes "steps"
limit_text l.Versions = codes "versions"

-- what has become of a transaction
abbrev pub fate_text : Fate → List ℕ
fate_text Active = codes "active"
fate_text RolledBack = codes "rolled back"
fate_text Lost = codes "lost"
fate_text (Committed version) = codes "committed"

-- a column that is not there, with its FROM name if one is written
abbrev pub column_text : Option (List ℕ) → List ℕ → List ℕ
column_text None col = concat (codes "E05 no column " ∷ col ∷ [])
column_text (Some item) col = concat (codes "E05 no column " ∷ item ∷ codes "." ∷ col ∷ [])

-- a refusal: its code and its message
abbrev pub refusal_text : Refusal → List ℕ
refusal_text r.E01 = codes "E01 not UTF-8"
refusal_text (r.E02 column) = concat (codes "E02 lexical fault at column " ∷ decimal column ∷ [])
refusal_text (r.E03 column) = concat (codes "E03 syntax fault at column " ∷ decimal column ∷ [])
refusal_text (r.E04 table) = concat (codes "E04 no table " ∷ table ∷ [])
refusal_text (r.E05 item col) = column_text item col
refusal_text (r.E06 name) = concat (codes "E06 ambiguous " ∷ name ∷ [])
refusal_text r.E07 = codes "E07 type"
refusal_text (r.E08 name) = concat (codes "E08 name twice " ∷ name ∷ [])
refusal_text r.E09 = codes "E09 transaction active"
refusal_text r.E10 = codes "E10 no transaction"
refusal_text (r.E11 t other table id) =
    concat (codes "E11 transaction " ∷ decimal t ∷ codes " lost to " ∷ decimal other ∷ codes " on " ∷ table ∷ codes " " ∷ identity_text id ∷ [])
refusal_text (r.E12 table) = concat (codes "E12 more than 10000 rows in " ∷ table ∷ [])
refusal_text r.E13 = codes "E13 identity over 64 nodes"
refusal_text (r.E14 limit) = concat (codes "E14 limit " ∷ limit_text limit ∷ [])
refusal_text r.E15 = codes "E15 column count"
refusal_text r.E16 = codes "E16 line too long"
refusal_text (r.E20 t) = concat (codes "E20 no transaction " ∷ decimal t ∷ [])
refusal_text (r.E21 t fate) = concat (codes "E21 transaction " ∷ decimal t ∷ codes " is " ∷ fate_text fate ∷ [])
refusal_text (r.E22 t count) = concat (codes "E22 transaction " ∷ decimal t ∷ codes " has " ∷ decimal count ∷ codes " statements" ∷ [])
refusal_text (r.E23 count) = concat (codes "E23 versions end at " ∷ decimal count ∷ [])
refusal_text (r.E24 version table) = concat (codes "E24 version " ∷ decimal version ∷ codes " differs on " ∷ table ∷ [])
refusal_text (r.E25 t k) = concat (codes "E25 rows over limit in transaction " ∷ decimal t ∷ codes " at " ∷ decimal k ∷ [])
refusal_text (r.E26 t k) = concat (codes "E26 identity over limit in transaction " ∷ decimal t ∷ codes " at " ∷ decimal k ∷ [])
refusal_text r.E27 = codes "E27 more than 50000 rows"
refusal_text (r.E28 number semiring) = concat (codes "E28 " ∷ decimal number ∷ codes " is not in " ∷ semiring ∷ [])
refusal_text r.E30 = codes "E30 not exported"
refusal_text (r.E31 t other table id) =
    concat (codes "E31 transaction " ∷ decimal t ∷ codes " would lose to " ∷ decimal other ∷ codes " on " ∷ table ∷ codes " " ∷ identity_text id ∷ [])
