-- Lines of the entries of a log, one after another, and the transactions that its BEGINs name.
use Rattle.std.proofs.Common.{◌≡◌, ◌≤◌, ℕ, zero, suc, ◌+◌, List, [], ◌∷◌, ◌++◌, map, reverse, take, Some, sym, ap, ◌∙◌, subst, arith}
use Rattle.std.specs.List.{AllByRecursion, flat_map, slice_get}
use Rattle.std.proofs.lemmas.List.{append-nil, map-append, reverse-append, take_more}
use Rattle.std.proofs.lemmas.List.Concat.{flat_map-append}
use Rattle.std.proofs.lemmas.Option.{get_or_from_slice_get, slice_get_within}
use Rattle.gp_log.specs.declared.entry.Entry.{Entry}
use Rattle.gp_log.specs.Logs.{entry_view, log_view}
use Rattle.gp_log.specs.Sessions.{KeepsSessions}
use Rattle.gp_machine.specs.Entries as m
use Rattle.gp_machine.specs.Entries.{transactions_in}
use Rattle.gp_ask.specs.Begins.{IsKnownBegin}
use Rattle.gp_ask.proofs.LogLemmas.{oldest-first}

-- ---- lines

module _ {A : Type 0} (f : m.Entry → List A) where
  abbrev pub lines_by : List Entry → List A
  lines_by entries = flat_map f (map entry_view entries)

  pub one-line : (entries : List Entry) (place : ℕ) (entry : Entry) → slice_get entries place ≡ Some entry
      → lines_by (take (place + 1) entries) ≡ lines_by (take place entries) ++ f (entry_view entry)
  one-line entries place entry is =
      ap lines_by (take_more entries place entry (slice_get_within entries place entry is))
      ∙ ap (flat_map f) (map-append entry_view (take place entries) _)
      ∙ flat_map-append f (map entry_view (take place entries)) _
      ∙ ap (λ (e : Entry). lines_by (take place entries) ++ (f (entry_view e) ++ [])) (get_or_from_slice_get entries place entry entry is)
      ∙ ap (λ (own : List A). lines_by (take place entries) ++ own) (append-nil (f (entry_view entry)))

  pub every-line : (entries : List Entry) → lines_by entries ≡ flat_map f (reverse (log_view entries))
  every-line entries = ap (flat_map f) (sym (oldest-first entries))

-- ---- BEGINs

begins-known : (count : ℕ) (entries : List m.Entry) → transactions_in entries ≤ count → KeepsSessions entries → AllByRecursion (IsKnownBegin count) entries
begins-known count [] within keeps = tt
begins-known count (m.Created line session table ∷ older) within keeps = (tt, begins-known count older within keeps.1)
begins-known count (m.Began line session t level ∷ older) within keeps = ((omega (arith, keeps.0), omega (arith, keeps.0)), begins-known count older (omega arith) keeps.1.1)
begins-known count (m.Ran line session command t statement ∷ older) within keeps = (tt, begins-known count older within keeps.1)
begins-known count (m.Committed line session t ∷ older) within keeps = (tt, begins-known count older within keeps.1)
begins-known count (m.Ended line session end t ∷ older) within keeps = (tt, begins-known count older within keeps.1)

split-last : (P : m.Entry → Type 0) (entries : List m.Entry) (last : m.Entry) → AllByRecursion P (entries ++ last ∷ []) → AllByRecursion P entries × P last
split-last P [] last all = (tt, all.0)
split-last P (entry ∷ entries) last all = let rest = split-last P entries last all.1 in ((all.0, rest.0), rest.1)

oldest-last : (entry : Entry) (entries : List Entry) → log_view (entry ∷ entries) ≡ log_view entries ++ entry_view entry ∷ []
oldest-last entry entries = ap (map entry_view) (reverse-append (entry ∷ []) entries) ∙ map-append entry_view (reverse entries) (entry ∷ [])

at-place : (P : m.Entry → Type 0) (entries : List Entry) → AllByRecursion P (log_view entries) → (place : ℕ) (entry : Entry) → slice_get entries place ≡ Some entry → P (entry_view entry)
at-place P [] all place entry found = absurd cc
at-place P (first ∷ entries) all zero entry found =
    let same : first ≡ entry = cc in
    subst (λ (e : Entry). P (entry_view e)) same (split-last P (log_view entries) (entry_view first) (subst (AllByRecursion P) (oldest-last first entries) all)).1
at-place P (first ∷ entries) all (suc place) entry found =
    at-place P entries (split-last P (log_view entries) (entry_view first) (subst (AllByRecursion P) (oldest-last first entries) all)).0 place entry found

pub known-begin : (entries : List Entry) → KeepsSessions (log_view entries) → (place : ℕ) (entry : Entry) → slice_get entries place ≡ Some entry
    → IsKnownBegin (transactions_in (log_view entries)) (entry_view entry)
known-begin entries keeps place entry found =
    at-place (IsKnownBegin (transactions_in (log_view entries))) entries (begins-known (transactions_in (log_view entries)) (log_view entries) (omega arith) keeps) place entry found
