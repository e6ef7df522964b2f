-- Machinery: how the least conflict of a table is found, in one pass.
use Rattle.std.specs.Prelude.{List, [], ◌∷◌, Option, Some, None, if◌then◌else◌}
use Rattle.std.specs.Ordering.{is_gt}
use Rattle.gp_base.specs.Identities.{identity_cmp}
use Rattle.gp_txn.specs.declared.conflict.Late.{Late}

-- the lesser of what was found and another
abbrev pub lesser : Option Late → Option Late → Option Late
lesser found None = found
lesser None (Some late) = Some late
lesser (Some first) (Some late) = if is_gt (identity_cmp first.id late.id) then Some late else Some first

-- the least of what was found and of these
abbrev pub least_of : Option Late → List Late → Option Late
least_of found [] = found
least_of found (late ∷ lates) = least_of (lesser found (Some late)) lates
