-- The log up to a place, and the statement that it has by a number.
use Rattle.std.proofs.Common.{◌≡◌, ℕ, suc, ◌+◌, ◌<◌, ◌≤◌, Bool, true, false, cond, List, [], ◌∷◌, ◌++◌, Some, map, take, drop, refl, sym, ap, ◌∙◌, arith}
use Rattle.std.specs.Prelude.{◌&&◌, ◌==◌, Option, reverse, slice_get}
use Rattle.std.proofs.lemmas.List.{map-append, reverse-append, take-append-drop, take_more}
use Rattle.std.proofs.lemmas.Option.{get_or_from_slice_get, slice_get_within}
use Rattle.std.proofs.lemmas.Bool.{and_from, and_parts, eq-eqb, eqb-true}
use Rattle.gp_algebra.specs.Statements.{Statement}
use Rattle.gp_machine.specs.Entries as m
use Rattle.gp_machine.specs.Entries.{statement_at, statement_count, statement_of}
use Rattle.gp_log.specs.Kinds.{HasNextNumber, IsNumbered}
use Rattle.gp_log.specs.Logs.{entry_view, log_view, what_view}
use Rattle.gp_log.specs.declared.entry.Entry.{Entry}
use Rattle.gp_log.specs.declared.entry.What.{What}
use Rattle.gp_log.specs.declared.entry.What.TheVariants as w
use Rattle.gp_log.specs.Finding.{is_numbered, is_own}
use Rattle.gp_log.proofs.EntryLemmas.{log-pushed}

-- ---- a log up to a place

pub log-more : (entries : List Entry) (place : ℕ) (entry : Entry) → slice_get entries place ≡ Some entry → log_view (take (place + 1) entries) ≡ entry_view entry ∷ log_view (take place entries)
log-more entries place entry is =
    ap log_view (take_more entries place entry (slice_get_within entries place entry is)
    ∙ ap (λ (e : Entry). take place entries ++ e ∷ []) (get_or_from_slice_get entries place entry entry is))
    ∙ log-pushed (take place entries) entry

log-append : (older newer : List Entry) → log_view (older ++ newer) ≡ log_view newer ++ log_view older
log-append older newer = ap (map entry_view) (reverse-append older newer) ∙ map-append entry_view (reverse newer) (reverse older)

pub log-cut : (entries : List Entry) (place : ℕ) (entry : Entry) → slice_get entries place ≡ Some entry
    → log_view entries ≡ log_view (drop (place + 1) entries) ++ (entry_view entry ∷ log_view (take place entries))
log-cut entries place entry is =
    sym (ap log_view (take-append-drop (place + 1) entries))
    ∙ (log-append (take (place + 1) entries) (drop (place + 1) entries) ∙ ap (λ (es : List m.Entry). log_view (drop (place + 1) entries) ++ es) (log-more entries place entry is))

cond-least : (b : Bool) (n : ℕ) → n ≤ cond b (suc n) n
cond-least true n = omega arith
cond-least false n = omega arith

pub count-least : (t : ℕ) (newer older : List m.Entry) → statement_count t older ≤ statement_count t (newer ++ older)
count-least t [] older = omega arith
count-least t (m.Created line session table ∷ newer) older = count-least t newer older
count-least t (m.Began line session u level ∷ newer) older = count-least t newer older
count-least t (m.Ran line session command u statement ∷ newer) older =
    omega (arith, count-least t newer older, cond-least (u == t) (statement_count t (newer ++ older)))
count-least t (m.Committed line session u ∷ newer) older = count-least t newer older
count-least t (m.Ended line session end u ∷ newer) older = count-least t newer older

not_equal : (a b : ℕ) → b < a → (a == b) ≡ false
not_equal a b less = grind arith

passed : (own same : Bool) (here : Statement) (found : Option Statement) (wanted : Option Statement) → same ≡ false → found ≡ wanted → cond (own && same) (Some here) found ≡ wanted
passed true true here found wanted is e = absurd (cc)
passed true false here found wanted is e = e
passed false same here found wanted is e = e

-- a statement is found behind newer entries
pub found-behind : (t k : ℕ) (newer older : List m.Entry) → k ≤ statement_count t older → statement_at t k (newer ++ older) ≡ statement_at t k older
found-behind t k [] older most = refl
found-behind t k (m.Created line session table ∷ newer) older most = found-behind t k newer older most
found-behind t k (m.Began line session u level ∷ newer) older most = found-behind t k newer older most
found-behind t k (m.Ran line session command u statement ∷ newer) older most =
    passed (u == t) (suc (statement_count t (newer ++ older)) == k) statement (statement_at t k (newer ++ older)) (statement_at t k older)
    (not_equal (suc (statement_count t (newer ++ older))) k (omega (arith, count-least t newer older, most))) (found-behind t k newer older most)
found-behind t k (m.Committed line session u ∷ newer) older most = found-behind t k newer older most
found-behind t k (m.Ended line session end u ∷ newer) older most = found-behind t k newer older most

module _ (entries : List Entry) (place : ℕ) (entry : Entry) (is : slice_get entries place ≡ Some entry) (numbered : IsNumbered (log_view (take place entries)) entry) (t k : ℕ) where
  abbrev older : List m.Entry
  older = log_view (take place entries)

  here : (what : What) → HasNextNumber older entry.t what → ((entry.t == t) && is_numbered k what) ≡ true
      → let own : m.Entry = what_view entry.line entry.session entry.t what in (k ≤ statement_count t (own ∷ older)) × (statement_at t k (own ∷ older) ≡ statement_of own)
  here (w.Statement number command stmt) next own =
      let parts = and_parts (entry.t == t) (number == k) own in
      let same : suc (statement_count t older) ≡ k = ap (λ u. suc (statement_count u older)) (sym (eqb-true entry.t t parts.0)) ∙ sym next ∙ eqb-true number k parts.1 in (
        omega (arith, same, ap (λ b. cond b (suc (statement_count t older)) (statement_count t older)) parts.0),
        ap (λ b. cond b (statement_of (what_view entry.line entry.session entry.t (w.Statement number command stmt))) (statement_at t k older))
            (and_from (entry.t == t) (suc (statement_count t older) == k) parts.0 (eq-eqb (suc (statement_count t older)) k same)),
      )
  here (w.Create table) next own = let last = (and_parts (entry.t == t) false own).1 in absurd cc
  here (w.Begin level) next own = let last = (and_parts (entry.t == t) false own).1 in absurd cc
  here w.Commit next own = let last = (and_parts (entry.t == t) false own).1 in absurd cc
  here w.Lost next own = let last = (and_parts (entry.t == t) false own).1 in absurd cc
  here w.Rollback next own = let last = (and_parts (entry.t == t) false own).1 in absurd cc

  pub statement-found : is_own t k entry ≡ true → statement_of (entry_view entry) ≡ statement_at t k (log_view entries)
  statement-found own =
      let found = here entry.what numbered own in
      sym (ap (statement_at t k) (log-cut entries place entry is) ∙ found-behind t k (log_view (drop (place + 1) entries)) (entry_view entry ∷ older) found.0 ∙ found.1)
