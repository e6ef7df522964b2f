-- How many spans a commit leaves: those that were there, and one for each row that its writes leave.
use Rattle.std.proofs.Common.{◌≡◌, ℕ, zero, suc, ◌+◌, ◌<◌, ◌≤◌, true, List, [], ◌∷◌, ◌++◌, map, length, Option, Some, None, refl, ap, sym, ◌∙◌, arith, inl, inr}
use Rattle.std.specs.Prelude.{nat_lt}
use Rattle.std.specs.List.{filter_map}
use Rattle.std.proofs.lemmas.Bool.{cases_lt, lt-ltb}
use Rattle.gp_base.specs.declared.cell.Cell.{Cell}
use Rattle.gp_base.specs.Annotated.{unannotated}
use Rattle.gp_base.specs.Identities.{Identity}
use Rattle.gp_versions.specs.declared.span.Span.{Span}
use Rattle.gp_versions.specs.declared.span.Write.{Write}
use Rattle.gp_versions.specs.Commits.{after_commit, begun, ended, live_rows}
use Rattle.gp_versions.specs.Spans.{Versions}
use Rattle.gp_base.specs.declared.limit.TheConstants.{MAX_SPANS}
use Rattle.gp_txn.specs.Transactions.{table_at}
use Rattle.gp_txn.specs.Counts.{count_spans, spans_after}
use Rattle.gp_base.proofs.SmallLemmas.{length-map}

-- ---- one table

length-append : {X : Type 0} (xs ys : List X) → length (xs ++ ys) ≡ length xs + length ys
length-append [] ys = omega arith
length-append (x ∷ xs) ys = omega (arith, length-append xs ys)

begun-one : (version : ℕ) (id : Identity) (row : Option (List Cell)) (writes : List Write) → length (filter_map (begun version) writes) ≡ length (live_rows unannotated writes)
    → length (filter_map (begun version) (record { id = id; row = row } ∷ writes)) ≡ length (live_rows unannotated (record { id = id; row = row } ∷ writes))
begun-one version id None writes rest = rest
begun-one version id (Some cells) writes rest = ap suc rest

begun-count : (version : ℕ) (writes : List Write) → length (filter_map (begun version) writes) ≡ length (live_rows unannotated writes)
begun-count version [] = refl
begun-count version (write ∷ writes) = begun-one version write.id write.row writes (begun-count version writes)

-- a commit begins a span for each row that its writes leave
pub spans-count : (version : ℕ) (writes : List Write) (spans : List Span) → length (after_commit version writes spans) ≡ length spans + length (live_rows unannotated writes)
spans-count version writes spans =
    length-append (map (ended version writes) spans) (filter_map (begun version) writes)
    ∙ ap (λ n. n + length (filter_map (begun version) writes)) (length-map (ended version writes) spans)
    ∙ ap (λ n. length spans + n) (begun-count version writes)

-- ---- all tables

-- the spans of the first tables after a commit
pub count-after : (version : ℕ) (writes : ℕ → List Write) (old new : List Versions) (count : ℕ)
    → ((place : ℕ) → place < count → (table_at place new).spans ≡ after_commit version (writes place) (table_at place old).spans)
    → count_spans new count ≡ spans_after old writes count
count-after version writes old new zero follows = omega arith
count-after version writes old new (suc place) follows =
    let rest = count-after version writes old new place (λ p low. follows p (omega arith)) in
    let here = ap length (follows place (omega arith)) ∙ spans-count version (writes place) (table_at place old).spans in
    omega (arith, rest, here)

-- ---- too many spans

none-below : (p : ℕ) → p ≤ 0 → p ≡ 0
none-below p low = omega arith

last-one : (p n : ℕ) → p ≤ suc n → n < p → p ≡ suc n
last-one p n low last = omega arith

-- more tables have more spans
more-spans : (versions : List Versions) (writes : ℕ → List Write) (p n : ℕ) → p ≤ n → spans_after versions writes p ≤ spans_after versions writes n
more-spans versions writes p zero low = rw (none-below p low) (omega arith)
more-spans versions writes p (suc n) low =
    elim (cases_lt n p) [
      | inl last ↦ rw (last-one p n low last) (omega arith)
      | inr early ↦ omega (arith, more-spans versions writes p n early)
    ]

-- too many spans of the first tables are too many of all
pub over-here : (versions : List Versions) (writes : ℕ → List Write) (place n left old new : ℕ) → old ≡ length (table_at place versions).spans → new ≡ length (live_rows unannotated (writes place))
    → left + spans_after versions writes place ≡ MAX_SPANS → place < n → left < old + new → true ≡ nat_lt MAX_SPANS (spans_after versions writes n)
over-here versions writes place n left old new is-old is-new sum low over =
    sym (lt-ltb MAX_SPANS (spans_after versions writes n) (omega (arith, is-old, is-new, sum, over, more-spans versions writes (suc place) n low)))
