-- The statements that write, of transactions that committed, and their lines, place by place.
use Rattle.std.proofs.Common.{◌≡◌, ◌≢◌, ℕ, zero, suc, ◌+◌, ◌<◌, ◌≤◌, Bool, true, false, cond, List, [], ◌∷◌, ◌++◌, length, map, take, Option, Some, None, refl, sym, ap, ◌∙◌, subst, arith}
use Rattle.std.specs.Prelude.{◌==◌, ◌&&◌, is_some, IfSome, slice_get, slice_set}
use Rattle.std.specs.List.{flat_map}
use Rattle.std.specs.Option.{option_to_list}
use Rattle.std.proofs.lemmas.Bool.{eqb-false, eqb-true}
use Rattle.std.proofs.lemmas.List.{append-nil, map-append, take_all}
use Rattle.std.proofs.lemmas.Option.{same_Some, slice_get_within}
use Rattle.gp_compose.specs.Seen.{writes}
use Rattle.gp_log.proofs.FindingLemmas.{log-more}
use Rattle.gp_log.specs.Kinds.{HasNextNumber, IsNumbered}
use Rattle.gp_log.specs.Logs.{log_view, what_view}
use Rattle.gp_log.specs.declared.entry.Entry as code
use Rattle.gp_log.specs.declared.entry.What.{What}
use Rattle.gp_log.specs.declared.entry.What.TheVariants as what
use Rattle.gp_txn.specs.Transactions.{table_at}
use Rattle.gp_versions.specs.Spans.{Versions}
use Rattle.gp_whatif.specs.Replays.{IsMade}
use Rattle.gp_machine.proofs.HeldPoints.{version_is}
use Rattle.gp_machine.specs.Entries.{Entry, statement_count, version_of, versions_in}
use Rattle.gp_ask.specs.declared.causes.Asked.{Asked}
use Rattle.gp_ask.specs.declared.causes.Write.{Write}
use Rattle.gp_ask.specs.DifferenceForms.{committed_writes}
use Rattle.gp_ask.specs.Differences.{written_by}
use Rattle.gp_ask.specs.Writes.{ArePut, ArePutUpto, AreWrites, IsLine, committed_write, listed_line, made_by, write_in, write_view}

-- ---- the entries so far

abbrev Pairs : Type 0
Pairs = List (ℕ × ℕ)

own-write : (t number n : ℕ) → number ≡ n → (b : Bool) (version : Option ℕ)
    → (let here : Pairs = (t, n) ∷ [] in let none : Pairs = [] in cond (b && is_some version) here none) ≡ map write_view (option_to_list (cond b (made_by t number version) None))
own-write t number n same true (Some version) = ap (λ (m : ℕ). let here : Pairs = (t, m) ∷ [] in here) (sym same)
own-write t number n same true None = refl
own-write t number n same false version = refl

writes-more : (entries older : List Entry) (line session t : ℕ) (own : What) → HasNextNumber older t own
    → written_by entries (what_view line session t own ∷ older) ≡ written_by entries older ++ map write_view (option_to_list (write_in entries t own))
writes-more entries older line session t (what.Statement number command stmt) next =
    ap (λ (ws : Pairs). written_by entries older ++ ws) (own-write t number (suc (statement_count t older)) next (writes _) (version_of t entries))
writes-more entries older line session t (what.Create table) next = sym (append-nil (written_by entries older))
writes-more entries older line session t (what.Begin level) next = sym (append-nil (written_by entries older))
writes-more entries older line session t what.Commit next = sym (append-nil (written_by entries older))
writes-more entries older line session t what.Lost next = sym (append-nil (written_by entries older))
writes-more entries older line session t what.Rollback next = sym (append-nil (written_by entries older))

pub next-writes : (entries : List code.Entry) (place : ℕ) (entry : code.Entry) → slice_get entries place ≡ Some entry → IsNumbered (log_view (take place entries)) entry
    → (found : List Write) → map write_view found ≡ written_by (log_view entries) (log_view (take place entries))
    → map write_view (found ++ option_to_list (committed_write (log_view entries) entry)) ≡ written_by (log_view entries) (log_view (take (place + 1) entries))
next-writes entries place entry is next found same =
    map-append write_view found (option_to_list (committed_write (log_view entries) entry))
    ∙ ap (λ (ws : Pairs). ws ++ map write_view (option_to_list (committed_write (log_view entries) entry))) same
    ∙ sym (writes-more (log_view entries) (log_view (take place entries)) entry.line entry.session entry.t entry.what next)
    ∙ sym (ap (written_by (log_view entries)) (log-more entries place entry is))

pub all-writes : (entries : List code.Entry) (place : ℕ) → length entries ≤ place → written_by (log_view entries) (log_view (take place entries)) ≡ committed_writes (log_view entries)
all-writes entries place all = ap (λ (es : List code.Entry). written_by (log_view entries) (log_view es)) (take_all place entries all)

-- each has the version of its transaction
abbrev HasVersion : List Entry → Write → Type 0
HasVersion entries own = version_of own.t entries ≡ Some own.version

made-version : (entries : List Entry) (t k : ℕ) (b : Bool) (version : Option ℕ) → version_of t entries ≡ version → IfSome (cond b (made_by t k version) None) (HasVersion entries)
made-version entries t k true (Some version) is = is
made-version entries t k true None is = tt
made-version entries t k false version is = tt

in-version : (entries : List Entry) (t : ℕ) (own : What) → IfSome (write_in entries t own) (HasVersion entries)
in-version entries t (what.Statement k command stmt) = made-version entries t k (writes _) (version_of t entries) refl
in-version entries t (what.Create table) = tt
in-version entries t (what.Begin level) = tt
in-version entries t what.Commit = tt
in-version entries t what.Lost = tt
in-version entries t what.Rollback = tt

one-more : (entries : List Entry) (found : List Write) (own : Option Write) → AreWrites entries found → IfSome own (HasVersion entries) → AreWrites entries (found ++ option_to_list own)
one-more entries [] (Some write) are is zero own there = subst (HasVersion entries) (same_Some write own there) is
one-more entries [] (Some write) are is (suc place) own there = absurd cc
one-more entries [] None are is place own there = absurd cc
one-more entries (write ∷ found) next are is zero own there = are zero own there
one-more entries (write ∷ found) next are is (suc place) own there = one-more entries found next (λ at. are (suc at)) is place own there

pub next-versions : (entries : List Entry) (entry : code.Entry) (found : List Write) → AreWrites entries found → AreWrites entries (found ++ option_to_list (committed_write entries entry))
next-versions entries entry found are = one-more entries found (committed_write entries entry) are (in-version entries entry.t entry.what)

-- ---- places

module _ {A : Type 0} where
  set-length : (xs : List A) (at : ℕ) (x : A) → length (slice_set xs at x) ≡ length xs
  set-length [] at x = refl
  set-length (y ∷ xs) zero x = refl
  set-length (y ∷ xs) (suc at) x = ap suc (set-length xs at x)

  set-here : (xs : List A) (at : ℕ) (x y : A) → slice_get (slice_set xs at x) at ≡ Some y → x ≡ y
  set-here [] at x y is = absurd cc
  set-here (z ∷ xs) zero x y is = same_Some x y is
  set-here (z ∷ xs) (suc at) x y is = set-here xs at x y is

  set-there : (xs : List A) (at other : ℕ) (x : A) → other ≢ at → slice_get (slice_set xs at x) other ≡ slice_get xs other
  set-there [] at other x differ = refl
  set-there (z ∷ xs) zero zero x differ = absurd (differ refl)
  set-there (z ∷ xs) zero (suc other) x differ = refl
  set-there (z ∷ xs) (suc at) zero x differ = refl
  set-there (z ∷ xs) (suc at) (suc other) x differ = set-there xs at other x (λ same. differ (ap suc same))

abbrev Line : Type 0
Line = Option (List ℕ)

module _ (asked : Asked) (found : List Write) (versions limit : ℕ) where
  module _ (upto : ℕ) (lines : List Line) (so : ArePutUpto asked found versions limit upto lines) (own : Write) (is : slice_get found upto ≡ Some own) where
    own-at : (place : ℕ) (other : Write) → slice_get found place ≡ Some other → place ≡ upto → own ≡ other
    own-at place other there same = same_Some own other (sym is ∙ ap (slice_get found) (sym same) ∙ there)

    below-next : (place : ℕ) → place < upto + 1 → place ≢ upto → place < upto
    below-next place below differ = grind (arith, below, differ)

    -- its line is put there
    module _ (later : versions < own.version) (line : Line) (says : IsLine asked own line) where
      put-before : (place : ℕ) (other : Write) → slice_get found place ≡ Some other → other.version ≤ versions → (now : Line) → slice_get (slice_set lines upto line) place ≡ Some now → IsLine asked other now
      put-before place other there early now is-now =
          so.before.put place other there early now
          (sym (set-there lines upto place line (λ same. omega (arith, early, later, ap (λ (w : Write). w.version) (own-at place other there same)))) ∙ is-now)

      put-more : (place : ℕ) (other : Write) → slice_get found place ≡ Some other → place < upto + 1 → other.version ≤ limit → (now : Line) → slice_get (slice_set lines upto line) place ≡ Some now → IsLine asked other now
      put-more place other there below within now is-now = by (place == upto) refl
        where
          by : (b : Bool) → (place == upto) ≡ b → IsLine asked other now
          by true same =
              let at : place ≡ upto = eqb-true place upto same in
              let shown : line ≡ now = set-here lines upto line now (sym (ap (slice_get (slice_set lines upto line)) at) ∙ is-now) in
              subst (λ (w : Write). IsLine asked w now) (own-at place other there at) (subst (IsLine asked own) shown says)
          by false differ =
              let apart : place ≢ upto = eqb-false place upto differ in
              so.more place other there (below-next place below apart) within now (sym (set-there lines upto place line apart) ∙ is-now)

      pub put-next : ArePutUpto asked found versions limit (upto + 1) (slice_set lines upto line)
      put-next = record { before = record { places = set-length lines upto line ∙ so.before.places; put = put-before }; more = put-more }

    -- it has none to be put, or has it
    module _ (early : own.version ≤ limit → own.version ≤ versions) where
      keep-more : (place : ℕ) (other : Write) → slice_get found place ≡ Some other → place < upto + 1 → other.version ≤ limit → (now : Line) → slice_get lines place ≡ Some now → IsLine asked other now
      keep-more place other there below within now is-now = by (place == upto) refl
        where
          by : (b : Bool) → (place == upto) ≡ b → IsLine asked other now
          by true same =
              let version : own.version ≡ other.version = ap (λ (w : Write). w.version) (own-at place other there (eqb-true place upto same)) in
              let most : own.version ≤ versions = early (omega (arith, version, within)) in
              so.before.put place other there (omega (arith, version, most)) now is-now
          by false differ = so.more place other there (below-next place below (eqb-false place upto differ)) within now is-now

      pub keep-next : ArePutUpto asked found versions limit (upto + 1) lines
      keep-next = record { before = so.before; more = keep-more }

  pub all-put : (upto : ℕ) (lines : List Line) → length found ≤ upto → ArePutUpto asked found versions limit upto lines → ArePut asked found limit lines
  all-put upto lines all so = record {
    places = so.before.places;
    put = λ place own is within. so.more place own is (omega (arith, slice_get_within found place own is, all)) within;
  }

-- no statement is of version 0
pub none-put : (asked : Asked) (entries : List Entry) (found : List Write) (lines : List Line) → AreWrites entries found → length lines ≡ length found → ArePut asked found 0 lines
none-put asked entries found lines are places = record {
  places = places;
  put = λ place own is within. let i = version_is own.t own.version entries (are place own is) in absurd (omega (arith, within, i.is));
}

-- ---- all lines

module _ (f : ℕ × ℕ → List (List ℕ)) where
  every-line : (found : List Write) (lines : List Line) → length lines ≡ length found
      → ((place : ℕ) (own : Write) (line : Line) → slice_get found place ≡ Some own → slice_get lines place ≡ Some line → listed_line line ≡ f (write_view own))
      → flat_map listed_line lines ≡ flat_map f (map write_view found)
  every-line [] [] same each = refl
  every-line [] (line ∷ lines) same each = absurd (omega (arith, same))
  every-line (own ∷ found) [] same each = absurd (omega (arith, same))
  every-line (own ∷ found) (line ∷ lines) same each = λ i.
      each zero own line refl refl i ++ every-line found lines (omega (arith, same)) (λ place. each (suc place)) i

  pub put-lines : (asked : Asked) (entries : List Entry) (found : List Write) (lines : List Line) → AreWrites entries found → ArePut asked found (versions_in entries) lines
      → ((own : Write) (line : Line) → IsLine asked own line → listed_line line ≡ f (write_view own))
      → flat_map listed_line lines ≡ flat_map f (map write_view found)
  put-lines asked entries found lines are put says =
      every-line found lines put.places (λ place own line is there.
      let i = version_is own.t own.version entries (are place own is) in
      says own line (put.put place own is (omega (arith, i.is, i.within)) line there))

-- ---- copies

-- copies of the versions that are made are made
pub copies-made : (entries : List Entry) (before : ℕ) (versions copies : List Versions) → IsMade entries before versions → length copies ≡ length versions
    → ((place : ℕ) → (table_at place copies).spans ≡ (table_at place versions).spans) → IsMade entries before copies
copies-made entries before versions copies made count spans = record {
  count = count ∙ made.count;
  unstopped = made.unstopped;
  spans = λ place. spans place ∙ made.spans place;
}
