-- Of the contract of `write_query`: the items of a SELECT as the code writes them, one behind so many others.
use Rattle.std.specs.Prelude.{ℕ, zero, suc, pos, List, [], ◌∷◌, codes}
use Rattle.std.specs.Fmt.{decimal, signed_decimal}
use Rattle.std.specs.List.{concat}
use Rattle.gp_base.specs.declared.table.Column.{Column}
use Rattle.gp_base.specs.declared.table.Table.{Table}
use Rattle.gp_sql.specs.Spelling.{named_text, others_named}
use Rattle.gp_sql.specs.Sql.{Terms}

-- what stands before an item
abbrev pub separator : ℕ → List ℕ
separator zero = []
separator (suc n) = codes ", "

-- what stands behind it
abbrev pub name_text : ℕ → List ℕ
name_text n = concat (codes " AS c" ∷ decimal (suc n) ∷ [])

-- terms behind so many others
abbrev pub named_behind : List Table → ℕ → Terms → List ℕ
named_behind tables zero terms = named_text tables 1 terms
named_behind tables (suc n) terms = others_named tables (suc (suc n)) terms

-- so many columns of a source from this one on, behind so many other items
abbrev pub columns_text : List ℕ → ℕ → ℕ → ℕ → List ℕ
columns_text prefix n k zero = []
columns_text prefix n k (suc count) = concat (separator n ∷ prefix ∷ codes "c" ∷ decimal k ∷ name_text n ∷ columns_text prefix (suc n) (suc k) count ∷ [])

-- the columns of a table behind so many others, the identity and the mark
abbrev pub stored_text : ℕ → List Column → List ℕ
stored_text n [] = concat (separator n ∷ codes "\"$id\"" ∷ name_text n ∷ codes ", " ∷ signed_decimal (pos 0) ∷ name_text (suc n) ∷ [])
stored_text n (column ∷ columns) = concat (separator n ∷ codes "\"" ∷ column.name ∷ codes "\"" ∷ name_text n ∷ stored_text (suc n) columns ∷ [])
