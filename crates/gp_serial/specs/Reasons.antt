-- Of the contract of `reason_of`: the first reason of each kind.
use Rattle.std.specs.Prelude.{◌≡◌, ℕ, ◌==◌, ◌&&◌, nat_le, nat_lt, Bool, List, [], ◌∷◌, filter, map, Option, None, Some, slice_get, if◌then◌else◌}
use Rattle.std.specs.List.{flat_map, list_any}
use Rattle.std.specs.Option.{option_map_or}
use Rattle.gp_base.specs.declared.table.Table.{Table}
use Rattle.gp_machine.specs.Entries.{Entry, statement_count, statement_version}
use Rattle.gp_machine.specs.Looks.{Look}
use Rattle.gp_machine.specs.Precedence as m
use Rattle.gp_machine.specs.Precedence.{meets, numbers, same_row}
use Rattle.gp_machine.specs.RowChanges.{RowChange}
use Rattle.gp_serial.specs.declared.changes.RowChange as code
use Rattle.gp_serial.specs.declared.reason.Reason.{Reason}
use Rattle.gp_serial.specs.declared.reason.Reason.TheVariants as reason
use Rattle.gp_serial.specs.Changes.{change_view}

abbrev pub reason_view : Reason → m.Reason
reason_view (reason.ReadBefore k change) = m.ReadBefore k (change_view change)
reason_view (reason.ReadAfter k change) = m.ReadAfter k (change_view change)
reason_view (reason.Wrote change other) = m.Wrote (change_view change) (change_view other)

abbrev pub first_of : {A : Type 0} → List A → Option A
first_of list = slice_get list 0

-- ---- what a statement looks at

abbrev pub is_on_side : ℕ → RowChange → Bool → Bool
is_on_side version change earlier = if earlier then nat_lt version change.version else nat_le change.version version

-- a change of a transaction that a statement with these looks looks at, and that is on this side of the version that the statement read
abbrev pub is_looked : ℕ → ℕ → Bool → List Look → code.RowChange → Bool
is_looked writer version earlier looks change = (change.t == writer) && (is_on_side version (change_view change) earlier && list_any (meets (change_view change)) looks)

abbrev pub IsFirstLooked : ℕ → ℕ → Bool → List Look → List code.RowChange → Option code.RowChange → Type 0
IsFirstLooked writer version earlier looks changes found = found ≡ first_of (filter (is_looked writer version earlier looks) changes)

abbrev pub paired : ℕ → RowChange → ℕ × RowChange
paired k change = (k, change)

module _ (tables : List Table) (entries : List Entry) where
  -- the changes of a transaction that statement k of another one looks at
  abbrev pub looked : ℕ → ℕ → ℕ → List RowChange → Bool → List RowChange
  looked reader k writer changes earlier =
      m.looked_at tables entries changes reader k
      (filter (λ (change : RowChange). is_on_side (statement_version reader k entries) change earlier) (m.changes_by tables entries changes writer))

  abbrev pub first_looked : ℕ → ℕ → ℕ → List RowChange → Bool → Option RowChange
  first_looked reader k writer changes earlier = first_of (looked reader k writer changes earlier)

  -- those of all statements
  abbrev pub readings : {A : Type 0} → (ℕ → RowChange → A) → ℕ → ℕ → List RowChange → Bool → ℕ → List A
  readings kind reader writer changes earlier n = flat_map (λ k. map (kind k) (looked reader k writer changes earlier)) (numbers n)

  abbrev pub first_reading : ℕ → ℕ → List RowChange → Bool → Option (ℕ × RowChange)
  first_reading reader writer changes earlier = first_of (readings paired reader writer changes earlier (statement_count reader entries))

-- ---- rows

-- a later change of a row by a transaction
abbrev pub is_rewrite : code.RowChange → ℕ → code.RowChange → Bool
is_rewrite change writer other = (other.t == writer) && (same_row (change_view change) (change_view other) && nat_lt change.version other.version)

abbrev pub rewrites : code.RowChange → ℕ → List code.RowChange → List code.RowChange
rewrites change writer = filter (is_rewrite change writer)

abbrev pub IsFirstRewrite : code.RowChange → ℕ → List code.RowChange → Option code.RowChange → Type 0
IsFirstRewrite change writer changes found = found ≡ first_of (rewrites change writer changes)

-- of a change that is of another transaction there is none
abbrev pub rewrite_by : code.RowChange → ℕ → ℕ → List code.RowChange → Option code.RowChange
rewrite_by change a b changes = if change.t == a then first_of (rewrites change b changes) else None

abbrev pub IsRewriteBy : code.RowChange → ℕ → ℕ → List code.RowChange → Option code.RowChange → Type 0
IsRewriteBy change a b changes found = found ≡ rewrite_by change a b changes

abbrev pub first_write : ℕ → ℕ → List code.RowChange → List code.RowChange → Option m.Reason
first_write a b all [] = None
first_write a b all (change ∷ changes) =
    option_map_or (λ (other : code.RowChange). Some (m.Wrote (change_view change) (change_view other))) (rewrite_by change a b all) (first_write a b all changes)

abbrev pub IsFirstWrite : ℕ → ℕ → List code.RowChange → Option m.Reason → Type 0
IsFirstWrite a b changes found = found ≡ first_write a b changes changes
