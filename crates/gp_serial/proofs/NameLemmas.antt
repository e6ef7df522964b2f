-- What the changes of two transactions say of them: steps that hold by a read alone, and lost updates.
use Rattle.gp_serial.proofs.Prelude.{◌≡◌, ◌≢◌, ◌<◌, ◌+◌, drop, drop_more, get_or, ℕ, suc, Bool, true, false, cond, List, [], ◌∷◌, ◌++◌, length, map, Option, Some, None, is_none, refl, sym, ap, ◌∙◌, subst, arith, ◌==◌, ◌&&◌, ◌||◌, not, filter, nat_lt, slice_get, flat_map, list_any, option_map, option_or, if◌then◌else◌, append-nil, eq_itself, length-map, Table, Entry, committer_of, statement_count, Reason, ReadAfter, ReadBefore, Wrote, changes_by, numbers, read_after, read_before, reasons, same_row, wrote_before, RowChange, eqb-true, ne_eqb, false≢true}
use Rattle.std.specs.Prelude.{is_some, Vec}
use Rattle.std.specs.declared.alloc.Global.{Global}
use Rattle.gp_machine.specs.Precedence.{looked_at}
use Rattle.gp_machine.specs.Entries.{statement_version}
use Rattle.std.specs.Option.{option_and_then}
use Rattle.std.proofs.lemmas.Grind.{flat_map-append}
use Rattle.std.proofs.lemmas.List.Elements.{filter-append}
use Rattle.gp_base.proofs.SmallLemmas.{filter-map, flat_map_agree}
use Rattle.gp_serial.specs.Anomalies.{facts, is_empty, lost, only_read, reads_row, reads_written, unseen}
use Rattle.gp_serial.specs.Changes.{AreMade, change_view}
use Rattle.gp_serial.specs.NameForms.{AreAllMade, changes_at, either, facts_of, first_lost, is_by, is_of_row, lost_by, lost_with, of_both, unseen_read}
use Rattle.gp_serial.specs.Reasons.{first_of, first_reading, first_write, is_on_side, looked, readings, rewrites}
use Rattle.gp_serial.specs.Serializing.{step_of}
use Rattle.gp_serial.specs.declared.changes.RowChange as code
use Rattle.gp_serial.proofs.ReasonLemmas.{first_append, later, later_is, reading_named, wrote_first}

-- ---- lists

empty_first : {A : Type 0} (xs : List A) → is_empty xs ≡ is_none (first_of xs)
empty_first [] = refl
empty_first (x ∷ xs) = ne_eqb (suc (length xs)) 0 (λ same. omega (arith, same))

pub none_mapped : {A B : Type 0} (f : A → B) (found : Option A) → is_none (option_map f found) ≡ is_none found
none_mapped f None = refl
none_mapped f (Some a) = refl

pub none_by : {A : Type 0} (found : Option A) (none : Bool) → is_some found ≡ not none → none ≡ is_none found
none_by None true is = refl
none_by None false is = absurd (false≢true is)
none_by (Some a) true is = absurd (false≢true (sym is))
none_by (Some a) false is = refl

any_first : {A : Type 0} (p : A → Bool) (xs : List A) → list_any p xs ≡ is_some (first_of (filter p xs))
any_first p [] = refl
any_first p (x ∷ xs) = by (p x) (any_first p xs)
  where
    by : (b : Bool) → list_any p xs ≡ is_some (first_of (filter p xs)) → (b || list_any p xs) ≡ is_some (first_of (if b then x ∷ filter p xs else filter p xs))
    by true rest = refl
    by false rest = rest

filter_swap : {A : Type 0} (p q : A → Bool) (xs : List A) → filter p (filter q xs) ≡ filter q (filter p xs)
filter_swap p q [] = refl
filter_swap p q (x ∷ xs) = by (p x) (q x) refl refl (filter_swap p q xs)
  where
    by : (b c : Bool) → p x ≡ b → q x ≡ c → filter p (filter q xs) ≡ filter q (filter p xs)
        → filter p (if c then x ∷ filter q xs else filter q xs) ≡ filter q (if b then x ∷ filter p xs else filter p xs)
    by true true one two rest =
        ap (λ b. if b then x ∷ filter p (filter q xs) else filter p (filter q xs)) one ∙ ap (λ list. x ∷ list) rest
        ∙ sym (ap (λ c. if c then x ∷ filter q (filter p xs) else filter q (filter p xs)) two)
    by true false one two rest = rest ∙ sym (ap (λ c. if c then x ∷ filter q (filter p xs) else filter q (filter p xs)) two)
    by false true one two rest = ap (λ b. if b then x ∷ filter p (filter q xs) else filter p (filter q xs)) one ∙ rest
    by false false one two rest = rest

filter_each : {A B : Type 0} (p : B → Bool) (f : A → List B) (xs : List A) → filter p (flat_map f xs) ≡ flat_map (λ x. filter p (f x)) xs
filter_each p f [] = refl
filter_each p f (x ∷ xs) = filter-append p (f x) (flat_map f xs) ∙ ap (λ list. filter p (f x) ++ list) (filter_each p f xs)

made_filter : (entries : List Entry) (p : code.RowChange → Bool) (changes : List code.RowChange) → AreMade entries changes → AreMade entries (filter p changes)
made_filter entries p [] made = tt
made_filter entries p (change ∷ changes) (own, made) = by (p change) (made_filter entries p changes made)
  where
    by : (b : Bool) → AreMade entries (filter p changes) → AreMade entries (if b then change ∷ filter p changes else filter p changes)
    by true rest = (own, rest)
    by false rest = rest

-- the changes of a row are made as all are
pub made_row : (entries : List Entry) (change : code.RowChange) (changes rows : List code.RowChange) → AreMade entries changes → rows ≡ filter (is_of_row change) changes → AreMade entries rows
made_row entries change changes rows made is = subst (AreMade entries) (sym is) (made_filter entries (is_of_row change) changes made)

module _ (tables : List Table) (entries : List Entry) where
  -- ---- a read alone

  pub alone : (a b : ℕ) (all : List code.RowChange) → AreMade entries all → (unread unwritten : Bool) → unread ≡ is_none (first_reading tables entries b a (map change_view all) false)
      → unwritten ≡ is_none (first_write a b all all) → (unread && unwritten) ≡ only_read tables entries (map change_view all) a b
  alone a b all made unread unwritten one two =
      (λ i. one i && two i)
      ∙ (λ i. sym (none_mapped (λ (found : ℕ × RowChange). ReadAfter found.0 found.1) (first_reading tables entries b a (map change_view all) false)) i && is_none (first_write a b all all))
      ∙ (λ i. is_none (sym (reading_named tables entries a b all made ReadAfter b a false) i) && is_none (sym (wrote_first tables entries a b all made all made) i))
      ∙ (λ i. sym (empty_first (read_after tables entries (map change_view all) a b)) i && sym (empty_first (wrote_before tables entries (map change_view all) a b)) i)

  -- ---- reads of one row

  module _ (change : RowChange) (shown-all : List RowChange) where
    looked_row : (reader k writer : ℕ) (earlier : Bool) → filter (same_row change) (looked tables entries reader k writer shown-all earlier)
        ≡ looked tables entries reader k writer (filter (same_row change) shown-all) earlier
    looked_row reader k writer earlier =
        filter_swap (same_row change) _ (filter (λ (own : RowChange). is_on_side _ own earlier) (changes_by tables entries shown-all writer))
        ∙ ap (filter _) (filter_swap (same_row change) (λ (own : RowChange). is_on_side _ own earlier) (changes_by tables entries shown-all writer)
        ∙ ap (filter (λ (own : RowChange). is_on_side _ own earlier)) (filter_swap (same_row change) (λ (own : RowChange). committer_of own.version entries == writer) shown-all))

    readings_row : (kind : ℕ → RowChange → Reason) → ((k : ℕ) (read : RowChange) → reads_row change (kind k read) ≡ same_row change read)
        → (reader writer : ℕ) (earlier : Bool) (n : ℕ) → filter (reads_row change) (readings tables entries kind reader writer shown-all earlier n)
        ≡ readings tables entries kind reader writer (filter (same_row change) shown-all) earlier n
    readings_row kind same reader writer earlier n =
        filter_each (reads_row change) (λ k. map (kind k) (looked tables entries reader k writer shown-all earlier)) (numbers n)
        ∙ flat_map_agree (λ k. filter (reads_row change) (map (kind k) (looked tables entries reader k writer shown-all earlier)))
        (λ k. map (kind k) (looked tables entries reader k writer (filter (same_row change) shown-all) earlier))
        (λ k. filter-map (reads_row change) (kind k) (looked tables entries reader k writer shown-all earlier)
        ∙ (λ i. map (kind k) (filter (λ read. same k read i) (looked tables entries reader k writer shown-all earlier)))
        ∙ ap (map (kind k)) (looked_row reader k writer earlier)) (numbers n)

  -- ---- lost updates

  module _ (a b : ℕ) (all : List code.RowChange) (made : AreMade entries all) where
    abbrev reads : RowChange → List Reason
    reads change = filter (reads_row change) (read_before tables entries (map change_view all) a b)

    -- the first of them, and whether one comes afterwards
    reads_first : (change : code.RowChange) → first_of (reads (change_view change))
        ≡ option_map (λ (found : ℕ × RowChange). ReadBefore found.0 found.1) (first_reading tables entries a b (map change_view (filter (is_of_row change) all)) true)
    reads_first change =
        ap first_of (readings_row (change_view change) (map change_view all) ReadBefore (λ k read. refl) a b true (statement_count a entries))
        ∙ ap (λ list. first_of (readings tables entries ReadBefore a b list true (statement_count a entries))) (filter-map (same_row (change_view change)) change_view all)
        ∙ reading_named tables entries a b (filter (is_of_row change) all) (made_filter entries (is_of_row change) all made) ReadBefore a b true

    some_mapped : {A B : Type 0} (f : A → B) (found : Option A) → is_some (option_map f found) ≡ is_some found
    some_mapped f None = refl
    some_mapped f (Some x) = refl

    reads_after : (change : code.RowChange) → list_any (reads_row (change_view change)) (read_after tables entries (map change_view all) b a)
        ≡ is_some (first_reading tables entries a b (map change_view (filter (is_of_row change) all)) false)
    reads_after change =
        any_first (reads_row (change_view change)) (read_after tables entries (map change_view all) b a)
        ∙ ap (λ list. is_some (first_of list)) (readings_row (change_view change) (map change_view all) ReadAfter (λ k read. refl) a b false (statement_count a entries))
        ∙ ap (λ list. is_some (first_of (readings tables entries ReadAfter a b list false (statement_count a entries)))) (filter-map (same_row (change_view change)) change_view all)
        ∙ ap is_some (reading_named tables entries a b (filter (is_of_row change) all) (made_filter entries (is_of_row change) all made) ReadAfter a b false)
        ∙ some_mapped (λ (found : ℕ × RowChange). ReadAfter found.0 found.1) (first_reading tables entries a b (map change_view (filter (is_of_row change) all)) false)

    abbrev is_unseen : Reason → Bool
    is_unseen wrote = not (list_any (reads_written wrote) (read_after tables entries (map change_view all) b a))

    abbrev with_reads : Reason → List (Reason × Reason)
    with_reads wrote = map (λ (read : Reason). (read, wrote)) (filter (reads_written wrote) (read_before tables entries (map change_view all) a b))

    -- ---- those of one change

    none_seen : (change : RowChange) (others : List RowChange) → list_any (reads_row change) (read_after tables entries (map change_view all) b a) ≡ true
        → filter is_unseen (map (Wrote change) others) ≡ []
    none_seen change [] seen = refl
    none_seen change (other ∷ others) seen =
        ap (λ c. if not c then Wrote change other ∷ filter is_unseen (map (Wrote change) others) else filter is_unseen (map (Wrote change) others)) seen ∙ none_seen change others seen

    all_unseen : (change : RowChange) (others : List RowChange) → list_any (reads_row change) (read_after tables entries (map change_view all) b a) ≡ false
        → filter is_unseen (map (Wrote change) others) ≡ map (Wrote change) others
    all_unseen change [] unseen = refl
    all_unseen change (other ∷ others) unseen =
        ap (λ c. if not c then Wrote change other ∷ filter is_unseen (map (Wrote change) others) else filter is_unseen (map (Wrote change) others)) unseen
        ∙ ap (λ list. Wrote change other ∷ list) (all_unseen change others unseen)

    no_reads : (change : RowChange) (others : List RowChange) → reads change ≡ [] → flat_map with_reads (map (Wrote change) others) ≡ []
    no_reads change [] none = refl
    no_reads change (other ∷ others) none = (λ i. map (λ (read : Reason). (read, Wrote change other)) (none i) ++ no_reads change others none i)

    -- by the first of the writes over it, and the first read
    first_with : (change : RowChange) (others : List RowChange) → first_of (flat_map with_reads (map (Wrote change) others))
        ≡ option_and_then (λ (other : RowChange). option_map (λ (read : Reason). (read, Wrote change other)) (first_of (reads change))) (first_of others)
    first_with change [] = refl
    first_with change (other ∷ others) = by (reads change) refl
      where
        by : (list : List Reason) → reads change ≡ list → first_of (flat_map with_reads (map (Wrote change) (other ∷ others)))
            ≡ option_map (λ (read : Reason). (read, Wrote change other)) (first_of (reads change))
        by [] is = ap first_of (no_reads change (other ∷ others) is) ∙ ap (λ own. option_map (λ (read : Reason). (read, Wrote change other)) (first_of own)) (sym is)
        by (read ∷ more) is =
            ap (λ own. first_of (map (λ (read : Reason). (read, Wrote change other)) own ++ flat_map with_reads (map (Wrote change) others))) is
            ∙ ap (λ own. option_map (λ (read : Reason). (read, Wrote change other)) (first_of own)) (sym is)

    -- what the code finds
    own_lost : (change : code.RowChange) → (own : Bool)
        → first_of (flat_map with_reads (filter is_unseen (map (Wrote (change_view change)) (later tables entries b a all made (change_view change)))))
        ≡ option_and_then (λ (other : code.RowChange). option_map (lost_with tables entries a b change other)
        (unseen_read tables entries a b (map change_view (filter (is_of_row change) all)))) (first_of (rewrites change a all))
    own_lost change own =
        ap (λ list. first_of (flat_map with_reads (filter is_unseen (map (Wrote (change_view change)) list)))) (later_is tables entries b a all made change)
        ∙ by (list_any (reads_row (change_view change)) (read_after tables entries (map change_view all) b a)) refl
      where
        rows : List RowChange
        rows = map change_view (filter (is_of_row change) all)

        nothing : (found : Option code.RowChange) → None ≡ option_and_then (λ (other : code.RowChange). option_map (lost_with tables entries a b change other) None) found
        nothing None = refl
        nothing (Some other) = refl

        named : (read : Option (ℕ × RowChange)) (others : List code.RowChange)
            → option_and_then (λ (other : RowChange). option_map (λ (own : Reason). (own, Wrote (change_view change) other)) (option_map (λ (found : ℕ × RowChange). ReadBefore found.0 found.1) read)) (first_of (map change_view others))
            ≡ option_and_then (λ (other : code.RowChange). option_map (lost_with tables entries a b change other) read) (first_of others)
        named None [] = refl
        named None (other ∷ others) = refl
        named (Some read) [] = refl
        named (Some read) (other ∷ others) = refl

        by : (seen : Bool) → list_any (reads_row (change_view change)) (read_after tables entries (map change_view all) b a) ≡ seen
            → first_of (flat_map with_reads (filter is_unseen (map (Wrote (change_view change)) (map change_view (rewrites change a all)))))
            ≡ option_and_then (λ (other : code.RowChange). option_map (lost_with tables entries a b change other) (unseen_read tables entries a b rows)) (first_of (rewrites change a all))
        by true seen =
            ap (λ list. first_of (flat_map with_reads list)) (none_seen (change_view change) (map change_view (rewrites change a all)) seen)
            ∙ nothing (first_of (rewrites change a all))
            ∙ ap (λ (c : Bool). option_and_then (λ (other : code.RowChange). option_map (lost_with tables entries a b change other) (if c then None else first_reading tables entries a b rows true)) (first_of (rewrites change a all)))
            (sym seen ∙ reads_after change)
        by false seen =
            ap (λ list. first_of (flat_map with_reads list)) (all_unseen (change_view change) (map change_view (rewrites change a all)) seen)
            ∙ first_with (change_view change) (map change_view (rewrites change a all))
            ∙ ap (λ (read : Option Reason). option_and_then (λ (other : RowChange). option_map (λ (own : Reason). (own, Wrote (change_view change) other)) read) (first_of (map change_view (rewrites change a all)))) (reads_first change)
            ∙ named (first_reading tables entries a b rows true) (rewrites change a all)
            ∙ ap (λ (c : Bool). option_and_then (λ (other : code.RowChange). option_map (lost_with tables entries a b change other) (if c then None else first_reading tables entries a b rows true)) (first_of (rewrites change a all)))
            (sym seen ∙ reads_after change)

    abbrev wrote : RowChange → List Reason
    wrote more = map (Wrote more) (later tables entries b a all made more)

    abbrev by_b : List code.RowChange → List RowChange
    by_b changes = filter (λ (more : RowChange). committer_of more.version entries == b) (map change_view changes)

    lost_first : (changes : List code.RowChange) → AreMade entries changes
        → first_of (flat_map with_reads (filter is_unseen (flat_map wrote (by_b changes)))) ≡ first_lost tables entries a b all changes
    lost_first [] own = refl
    lost_first (change ∷ changes) (here, own) =
        ap (λ t. first_of (flat_map with_reads (filter is_unseen (flat_map wrote (cond (t == b) (change_view change ∷ by_b changes) (by_b changes)))))) (sym here)
        ∙ by (change.t == b) (lost_first changes own)
      where
        by : (c : Bool) → first_of (flat_map with_reads (filter is_unseen (flat_map wrote (by_b changes)))) ≡ first_lost tables entries a b all changes
            → first_of (flat_map with_reads (filter is_unseen (flat_map wrote (cond c (change_view change ∷ by_b changes) (by_b changes)))))
            ≡ option_or (option_and_then (λ (other : code.RowChange). option_map (lost_with tables entries a b change other) (unseen_read tables entries a b (map change_view (filter (is_of_row change) all))))
            (if c then first_of (rewrites change a all) else None)) (first_lost tables entries a b all changes)
        by false others = others
        by true others =
            ap (λ list. first_of (flat_map with_reads list)) (filter-append is_unseen (wrote (change_view change)) (flat_map wrote (by_b changes)))
            ∙ ap first_of (flat_map-append with_reads (filter is_unseen (wrote (change_view change))) (filter is_unseen (flat_map wrote (by_b changes))))
            ∙ first_append (flat_map with_reads (filter is_unseen (wrote (change_view change)))) (flat_map with_reads (filter is_unseen (flat_map wrote (by_b changes))))
            ∙ (λ i. option_or (own_lost change true i) (others i))

    pub lost_is : slice_get (lost tables entries (map change_view all) a b) 0 ≡ first_lost tables entries a b all all
    lost_is = lost_first all made

    -- one change more, or no more
    pub lost_here : (changes : List code.RowChange) (i : ℕ) → i < length changes → (change : code.RowChange) → change ≡ get_or changes i change
        → (found : Option (Reason × Reason)) → found ≡ lost_by tables entries a b all change
        → first_lost tables entries a b all (drop i changes) ≡ option_or found (first_lost tables entries a b all (drop (i + 1) changes))
    lost_here changes i within change is found own =
        ap (first_lost tables entries a b all) (drop_more changes i change within ∙ ap (λ (first : code.RowChange). first ∷ drop (i + 1) changes) (sym is))
        ∙ ap (λ (first : Option (Reason × Reason)). option_or first (first_lost tables entries a b all (drop (i + 1) changes))) (sym own)

-- ---- the changes of two transactions alone

made_append : (entries : List Entry) (xs ys : List code.RowChange) → AreMade entries xs → AreMade entries ys → AreMade entries (xs ++ ys)
made_append entries [] ys one two = two
made_append entries (x ∷ xs) ys (own, one) two = (own, made_append entries xs ys one two)

pub made_either : (entries : List Entry) (changes : ℕ → List code.RowChange) → ((t : ℕ) → AreMade entries (changes t)) → (a b : ℕ) → AreMade entries (either changes a b)
made_either entries changes made a b = by (a == b)
  where
    by : (c : Bool) → AreMade entries (if c then changes a else changes a ++ changes b)
    by true = made a
    by false = made_append entries (changes a) (changes b) (made a) (made b)

made_both : (entries : List Entry) (a b : ℕ) (all : List code.RowChange) → AreMade entries all → AreMade entries (of_both all a b)
made_both entries a b all made = made_either entries (λ t. filter (is_by t) all) (λ t. made_filter entries (is_by t) all made) a b

by_same : (t : ℕ) (changes : List code.RowChange) → filter (is_by t) (filter (is_by t) changes) ≡ filter (is_by t) changes
by_same t [] = refl
by_same t (change ∷ changes) = by (change.t == t) refl (by_same t changes)
  where
    by : (c : Bool) → (change.t == t) ≡ c → filter (is_by t) (filter (is_by t) changes) ≡ filter (is_by t) changes
        → filter (is_by t) (if c then change ∷ filter (is_by t) changes else filter (is_by t) changes) ≡ (if c then change ∷ filter (is_by t) changes else filter (is_by t) changes)
    by true own rest = ap (λ c. if c then change ∷ filter (is_by t) (filter (is_by t) changes) else filter (is_by t) (filter (is_by t) changes)) own ∙ ap (λ list. change ∷ list) rest
    by false own rest = rest

by_other : (t other : ℕ) → t ≢ other → (changes : List code.RowChange) → filter (is_by t) (filter (is_by other) changes) ≡ []
by_other t other two [] = refl
by_other t other two (change ∷ changes) = by (change.t == other) refl (by_other t other two changes)
  where
    by : (c : Bool) → (change.t == other) ≡ c → filter (is_by t) (filter (is_by other) changes) ≡ []
        → filter (is_by t) (if c then change ∷ filter (is_by other) changes else filter (is_by other) changes) ≡ []
    by true own rest =
        ap (λ c. if c then change ∷ filter (is_by t) (filter (is_by other) changes) else filter (is_by t) (filter (is_by other) changes))
        (ne_eqb change.t t (λ same. two (sym same ∙ eqb-true change.t other own))) ∙ rest
    by false own rest = rest

module _ (tables : List Table) (entries : List Entry) where
  by_is : (t : ℕ) (changes : List code.RowChange) → AreMade entries changes → changes_by tables entries (map change_view changes) t ≡ map change_view (filter (is_by t) changes)
  by_is t changes made = filter-map (λ (change : RowChange). committer_of change.version entries == t) change_view changes ∙ ap (map change_view) (agree changes made)
    where
      agree : (changes : List code.RowChange) → AreMade entries changes
          → filter (λ (change : code.RowChange). committer_of change.version entries == t) changes ≡ filter (is_by t) changes
      agree [] made = refl
      agree (change ∷ changes) (here, made) = λ i. cond (sym here i == t) (change ∷ agree changes made i) (agree changes made i)

  module _ (a b : ℕ) (all : List code.RowChange) (made : AreMade entries all) where
    abbrev both : List RowChange
    both = map change_view (of_both all a b)

    abbrev every : List RowChange
    every = map change_view all

    apart : (a == b) ≡ false → a ≢ b
    apart other same = false≢true (sym other ∙ ap (λ u. a == u) (sym same) ∙ eq_itself a)

    first_kept : (c : Bool) → (a == b) ≡ c → filter (is_by a) (if c then filter (is_by a) all else filter (is_by a) all ++ filter (is_by b) all) ≡ filter (is_by a) all
    first_kept true same = by_same a all
    first_kept false other =
        filter-append (is_by a) (filter (is_by a) all) (filter (is_by b) all) ∙ (λ i. by_same a all i ++ by_other a b (apart other) all i) ∙ append-nil (filter (is_by a) all)

    second_kept : (c : Bool) → (a == b) ≡ c → filter (is_by b) (if c then filter (is_by a) all else filter (is_by a) all ++ filter (is_by b) all) ≡ filter (is_by b) all
    second_kept true same = ap (λ t. filter (is_by b) (filter (is_by t) all)) (eqb-true a b same) ∙ by_same b all
    second_kept false other =
        filter-append (is_by b) (filter (is_by a) all) (filter (is_by b) all) ∙ (λ i. by_other b a (λ same. apart other (sym same)) all i ++ by_same b all i)

    by_a : changes_by tables entries both a ≡ changes_by tables entries every a
    by_a = by_is a (of_both all a b) (made_both entries a b all made) ∙ ap (map change_view) (first_kept (a == b) refl) ∙ sym (by_is a all made)

    by_b-is : changes_by tables entries both b ≡ changes_by tables entries every b
    by_b-is = by_is b (of_both all a b) (made_both entries a b all made) ∙ ap (map change_view) (second_kept (a == b) refl) ∙ sym (by_is b all made)

    abbrev by_readings : (ℕ → RowChange → Reason) → ℕ → Bool → List RowChange → List Reason
    by_readings kind reader earlier list =
        flat_map (λ k. map (kind k) (looked_at tables entries [] reader k (filter (λ (change : RowChange). is_on_side (statement_version reader k entries) change earlier) list)))
        (numbers (statement_count reader entries))

    abbrev by_writes : List RowChange → List RowChange → List Reason
    by_writes list others = flat_map (λ (change : RowChange). map (Wrote change) (filter (λ (other : RowChange). same_row change other && nat_lt change.version other.version) others)) list

    before_is : read_before tables entries both a b ≡ read_before tables entries every a b
    before_is = ap (by_readings ReadBefore a true) by_b-is

    after_is : read_after tables entries both a b ≡ read_after tables entries every a b
    after_is = ap (by_readings ReadAfter b false) by_a

    wrote_is : wrote_before tables entries both a b ≡ wrote_before tables entries every a b
    wrote_is = λ i. by_writes (by_a i) (by_b-is i)

    only_read_is : only_read tables entries both a b ≡ only_read tables entries every a b
    only_read_is = λ i. is_empty (after_is i) && is_empty (wrote_is i)

    reasons_is : reasons tables entries both a b ≡ reasons tables entries every a b
    reasons_is = λ i. cond (a == b) [] (before_is i ++ (after_is i ++ wrote_is i))

    back_after : read_after tables entries both b a ≡ read_after tables entries every b a
    back_after = ap (by_readings ReadAfter a false) by_b-is

    back_wrote : wrote_before tables entries both b a ≡ wrote_before tables entries every b a
    back_wrote = λ i. by_writes (by_b-is i) (by_a i)

    lost_same : lost tables entries both a b ≡ lost tables entries every a b
    lost_same = λ i. flat_map (λ wrote. map (λ (read : Reason). (read, wrote)) (filter (reads_written wrote) (before_is i)))
        (filter (λ wrote. not (list_any (reads_written wrote) (back_after i))) (back_wrote i))

  -- ---- the lists of each transaction

  module _ (changes : List code.RowChange) (made : AreMade entries changes) (lists : List (Vec code.RowChange Global)) (whole : (t : ℕ) → changes_at lists t ≡ filter (is_by t) changes) where
    abbrev every-change : List RowChange
    every-change = map change_view changes

    between : (a b : ℕ) → map change_view (either (changes_at lists) a b) ≡ map change_view (of_both changes a b)
    between a b = λ i. map change_view (either (λ t. whole t i) a b)

    pub lists_made : AreAllMade entries lists
    lists_made t = subst (AreMade entries) (sym (whole t)) (made_filter entries (is_by t) changes made)

    idle_is : (t : ℕ) → is_empty (changes_at lists t) ≡ is_empty (changes_by tables entries every-change t)
    idle_is t = ap (λ n. n == 0) (ap length (whole t) ∙ sym (length-map (filter (is_by t) changes) change_view) ∙ ap length (sym (by_is t changes made)))

    step_is : (a b : ℕ) → step_of tables entries (map change_view (either (changes_at lists) a b)) a b ≡ step_of tables entries every-change a b
    step_is a b = ap (λ list. step_of tables entries list a b) (between a b) ∙ (λ i. record { first = a; next = b; reason = slice_get (reasons_is a b changes made i) 0 })

    alone_is : (a b : ℕ) → only_read tables entries (map change_view (either (changes_at lists) a b)) a b ≡ only_read tables entries every-change a b
    alone_is a b = ap (λ list. only_read tables entries list a b) (between a b) ∙ only_read_is a b changes made

    update_is : (a b : ℕ) → slice_get (lost tables entries (map change_view (either (changes_at lists) a b)) a b) 0 ≡ slice_get (lost tables entries every-change a b) 0
    update_is a b = ap (λ list. slice_get (lost tables entries list a b) 0) (between a b) ∙ ap (λ list. slice_get list 0) (lost_same a b changes made)

    -- what the lists say is what all changes say
    pub facts_are : facts_of tables entries lists ≡ facts tables entries every-change
    facts_are = λ i. record {
      step = λ a b. step_is a b i;
      alone = λ a b. alone_is a b i;
      update = λ a b. update_is a b i;
      idle = λ t. idle_is t i;
    }
