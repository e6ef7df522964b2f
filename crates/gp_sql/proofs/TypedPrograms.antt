-- The query of a program that has types has types: each named query over those before it.
use Rattle.gp_sql.proofs.Prelude.{◌≡◌, ℕ, suc, ◌≤◌, Bool, true, false, cond, List, [], ◌∷◌, ◌++◌, take, drop, length, Some, None, refl, sym, ap, subst, ◌∙◌, arith, Option, is_some, ◌||◌, ◌==◌, slice_get, option_and_then, option_map_or, and_parts, eq_itself, not_eq, Table, Plain, PlainStep, PlainProgram}
use Rattle.std.proofs.lemmas.Option.{none-some}
use Rattle.std.specs.Prelude.{is_none}
use Rattle.gp_base.proofs.SmallLemmas.{eq_not}
use Rattle.gp_algebra.specs.Plain as p
use Rattle.gp_sql.specs.declared.cell_type.CellType.{CellType}
use Rattle.gp_sql.specs.NamedQueries.{Operand, Translated, TranslatedSteps, is_projection, known_types, operand, program_query, translated, translated_steps, types_of, written_query}
use Rattle.gp_sql.specs.Sql as s
use Rattle.gp_sql.specs.Sql.{NamedQuery, Source}
use Rattle.gp_sql.specs.TypedQueries.{Sources, TypedColumn, is_well_typed, named, query_columns, sources_after, varchar, version_sources, with_source}
use Rattle.gp_sql.specs.Types.{StepTypes, are_whole, is_id, is_mark, is_typed, no_types, query_types, step_is_typed, steps_are_typed, steps_types, type_at, with_types}
use Rattle.gp_sql.proofs.NamedLemmas.{IsOld, old-later}
use Rattle.gp_sql.proofs.TypedBlocks.{both-known, given-typed, has-ids, has-marks, product-known, product-typed, project-typed, projected-known, publish-typed, published-known, scan-typed, select-typed, selected-known, step-typed, union-typed, written-typed}
use Rattle.gp_sql.proofs.TypedColumns.{Columns, Meets, meets-both, meets-itself, meets-split, meets-whole, numbered_columns}

-- ---- named queries in turn

taken-behind : (queries others : List NamedQuery) (found : Sources) (later : Sources) → sources_after queries found ≡ Some later → sources_after (queries ++ others) found ≡ sources_after others later
taken-behind [] others found later is = ap (λ (o : Option Sources). option_and_then (sources_after others) o) is
taken-behind (first ∷ queries) others found later is = go (named first.name (found first.name) (query_columns found [] first.query) found) is (λ next. taken-behind queries others next later)
  where
    go : (o : Option Sources) → option_and_then (sources_after queries) o ≡ Some later → ((next : Sources) → sources_after queries next ≡ Some later → sources_after (queries ++ others) next ≡ sources_after others later)
        → option_and_then (sources_after (queries ++ others)) o ≡ sources_after others later
    go None is rest = absurd (none-some later is)
    go (Some next) is rest = rest next is

-- after these, the sources that were there are as they were, and the numbers from the next one on are free
record Reaches (found : Sources) (n : ℕ) (queries : List NamedQuery) (next : ℕ) (later : Sources) : Type 0 where
  is : sources_after queries found ≡ Some later
  low : n ≤ next
  kept : (source : Source) → IsOld n source → later source ≡ found source
  free : (m : ℕ) → next ≤ m → later (s.query m) ≡ None

abbrev IsFree : Sources → ℕ → Type 0
IsFree found n = (m : ℕ) → n ≤ m → found (s.query m) ≡ None

stays : (found : Sources) (n : ℕ) → IsFree found n → Reaches found n [] n found
stays found n free = record { is = refl; low = omega arith; kept = λ source old. refl; free = free }

goes-on : (found : Sources) (n : ℕ) (queries others : List NamedQuery) (next end : ℕ) (middle later : Sources) → Reaches found n queries next middle → Reaches middle next others end later
    → Reaches found n (queries ++ others) end later
goes-on found n queries others next end middle later a b = record {
  is = taken-behind queries others found middle a.is ∙ b.is;
  low = omega (arith, a.low, b.low);
  kept = λ source old. b.kept source (old-later n next source a.low old) ∙ a.kept source old;
  free = b.free;
}

other-kept : (found : Sources) (columns : List TypedColumn) (n : ℕ) (source : Source) → IsOld n source → with_source (s.query n) columns found source ≡ found source
other-kept found columns n (s.versions table) old = refl
other-kept found columns n (s.step j) old = refl
other-kept found columns n (s.query m) old = ap (λ (b : Bool). cond b (Some columns) (found (s.query m))) (not_eq m n old)

above-kept : (found : Sources) (columns : List TypedColumn) (n m : ℕ) → suc n ≤ m → with_source (s.query n) columns found (s.query m) ≡ found (s.query m)
above-kept found columns n m above = ap (λ (b : Bool). cond b (Some columns) (found (s.query m))) (eq_not m n (λ e. omega (arith, above, e)))

one-named : (found : Sources) (n : ℕ) (query : NamedQuery) (columns : List TypedColumn) → query.name ≡ s.query n → IsFree found n → query_columns found [] query.query ≡ Some columns
    → sources_after (query ∷ []) found ≡ Some (with_source (s.query n) columns found)
one-named found n query columns name free is =
    (λ i. option_and_then (sources_after []) (named (name i) (found (name i)) (is i) found))
    ∙ ap (λ (o : Option (List TypedColumn)). option_and_then (sources_after []) (named (s.query n) o (Some columns) found)) (free n (omega arith))

reaches-one : (found : Sources) (n : ℕ) (query : NamedQuery) (columns : List TypedColumn) → query.name ≡ s.query n → IsFree found n → query_columns found [] query.query ≡ Some columns
    → Reaches found n (query ∷ []) (suc n) (with_source (s.query n) columns found)
reaches-one found n query columns name free is = record {
  is = one-named found n query columns name free is;
  low = omega arith;
  kept = other-kept found columns n;
  free = λ m above. above-kept found columns n m above ∙ free m (omega (arith, above));
}

-- ---- a query, and an operand

-- after the named queries before it, a query has columns for what is due
record Gives (found : Sources) (n : ℕ) (a : Translated) (due : List CellType) : Type 0 where
  later : Sources
  reaches : Reaches found n a.before a.next later
  has : Columns 1 due (query_columns later [] a.query)

-- after its named queries, a source has
record IsNamed (found : Sources) (n : ℕ) (a : Operand) (due : List CellType) : Type 0 where
  later : Sources
  reaches : Reaches found n a.before a.next later
  old : IsOld a.next a.source
  has : Columns 1 due (later a.source)

named-one : (found : Sources) (n : ℕ) (materialized : Bool) (a : Translated) (due : List CellType) → Gives found n a due
    → IsNamed found n (record { before = a.before ++ record { name = s.query a.next; materialized = materialized; query = a.query } ∷ []; source = s.query a.next; next = suc a.next }) due
named-one found n materialized a due gives =
    let query : NamedQuery = record { name = s.query a.next; materialized = materialized; query = a.query } in
    let after = gives.later in
    let columns = numbered_columns 1 gives.has.values in
    let next = with_source (s.query a.next) columns after in
    record {
      later = next;
      reaches = goes-on found n a.before (query ∷ []) a.next (suc a.next) after next gives.reaches (reaches-one after a.next query columns refl gives.reaches.free gives.has.is);
      old = omega arith;
      has = record {
        values = gives.has.values;
        is = ap (λ (b : Bool). cond b (Some columns) (after (s.query a.next))) (eq_itself a.next);
        all = gives.has.all;
      };
    }

same-columns : (due : List CellType) (o other : Option (List TypedColumn)) → other ≡ o → Columns 1 due o → Columns 1 due other
same-columns due o other same has = record { values = has.values; is = same ∙ has.is; all = has.all }

-- the columns of a step
abbrev HasStep : Option (List CellType) → Option (List TypedColumn) → Type 0
HasStep None o = o ≡ None
HasStep (Some types) o = (are_whole types ≡ true) × Columns 1 types o

module _ (tables : List Table) (types : StepTypes) where
  abbrev types_at : Plain → Option (List CellType)
  types_at query = query_types tables types query

  -- the tables of row versions and the steps that have types are there, and no other step
  record IsBase (found : Sources) : Type 0 where
    versions : (table : ℕ) → found (s.versions table) ≡ version_sources tables (s.versions table)
    steps : (j : ℕ) → HasStep (types j) (found (s.step j))

  base-kept : (found : Sources) (n : ℕ) (queries : List NamedQuery) (next : ℕ) (later : Sources) → IsBase found → Reaches found n queries next later → IsBase later
  base-kept found n queries next later base a = record {
    versions = λ table. a.kept (s.versions table) tt ∙ base.versions table;
    steps = λ j. subst (HasStep (types j)) (sym (a.kept (s.step j) tt)) (base.steps j);
  }

  step-has : (found : Sources) (j : ℕ) (due own : List CellType) → IsBase found → types j ≡ Some own → Meets due own → Columns 1 due (found (s.step j))
  step-has found j due own base is meets =
      let has : HasStep (Some own) (found (s.step j)) = subst (λ x. HasStep x (found (s.step j))) is (base.steps j) in
      subst (λ d. Columns 1 d (found (s.step j))) (sym (meets-whole due own has.0 meets)) has.1

  operand-typed : (found : Sources) (n : ℕ) (in_publish : Bool) (query : Plain) (due own : List CellType) → IsBase found → IsFree found n → types_at query ≡ Some own → Meets due own
      → Gives found n (translated tables types due query n) due → IsNamed found n (operand in_publish query (translated tables types due query n)) due
  operand-typed found n in_publish (p.step j) due own base free is meets gives = record { later = found; reaches = stays found n free; old = tt; has = step-has found j due own base is meets }
  operand-typed found n in_publish (p.scan table version) due own base free is meets gives = named-one found n (in_publish || is_projection (p.scan table version)) (translated tables types due (p.scan table version) n) due gives
  operand-typed found n in_publish (p.select query c) due own base free is meets gives = named-one found n (in_publish || is_projection (p.select query c)) (translated tables types due (p.select query c) n) due gives
  operand-typed found n in_publish (p.project query exprs) due own base free is meets gives = named-one found n (in_publish || is_projection (p.project query exprs)) (translated tables types due (p.project query exprs) n) due gives
  operand-typed found n in_publish (p.product left right) due own base free is meets gives = named-one found n (in_publish || is_projection (p.product left right)) (translated tables types due (p.product left right) n) due gives
  operand-typed found n in_publish (p.union left right) due own base free is meets gives = named-one found n (in_publish || is_projection (p.union left right)) (translated tables types due (p.union left right) n) due gives
  operand-typed found n in_publish (p.given given) due own base free is meets gives = named-one found n (in_publish || is_projection (p.given given)) (translated tables types due (p.given given) n) due gives
  operand-typed found n in_publish (p.publish at one mine later) due own base free is meets gives = named-one found n (in_publish || is_projection (p.publish at one mine later)) (translated tables types due (p.publish at one mine later) n) due gives

  translated-typed : (query : Plain) (due own : List CellType) (n : ℕ) (found : Sources) → IsBase found → IsFree found n → types_at query ≡ Some own → Meets due own
      → Gives found n (translated tables types due query n) due
  translated-typed (p.scan table version) due own n found base free is meets = record {
    later = found;
    reaches = stays found n free;
    has = scan-typed found table version (slice_get tables table) due own (base.versions table) is meets;
  }
  translated-typed (p.step j) due own n found base free is meets = record { later = found; reaches = stays found n free; has = step-typed found due (s.step j) (step-has found j due own base is meets) }
  translated-typed (p.select query c) due own n found base free is meets =
      let known = selected-known c (types_at query) own is in
      let inner = known_types (types_at query) in
      let meet : Meets due inner = subst (Meets due) (sym known.2) meets in
      let a = operand false query (translated tables types due query n) in
      let one = operand-typed found n false query due inner base free known.0 meet (translated-typed query due inner n found base free known.0 meet) in
      record { later = one.later; reaches = one.reaches; has = select-typed one.later c inner due a.source meet one.has known.1 }
  translated-typed (p.project query exprs) due own n found base free is meets =
      let known = projected-known exprs (types_at query) own is in
      let inner = known_types (types_at query) in
      let itself = meets-itself inner in
      let a = operand false query (translated tables types inner query n) in
      let one = operand-typed found n false query inner inner base free known.0 itself (translated-typed query inner inner n found base free known.0 itself) in
      record { later = one.later; reaches = one.reaches; has = project-typed one.later exprs inner own due a.source itself one.has known.1 meets }
  translated-typed (p.product left right) due own n found base free is meets =
      let known = product-known (types_at left) (types_at right) own is in
      let x = known_types (types_at left) in
      let y = known_types (types_at right) in
      let apart = meets-split due x y (subst (Meets due) (sym known.2) meets) in
      let first = take (length x) due in
      let second = drop (length x) due in
      let a = operand false left (translated tables types first left n) in
      let one = operand-typed found n false left first x base free known.0 apart.0 (translated-typed left first x n found base free known.0 apart.0) in
      let f = one.later in
      let base1 = base-kept found n a.before a.next f base one.reaches in
      let b = operand false right (translated tables types second right a.next) in
      let two = operand-typed f a.next false right second y base1 one.reaches.free known.1 apart.1 (translated-typed right second y a.next f base1 one.reaches.free known.1 apart.1) in
      let g = two.later in
      record {
        later = g;
        reaches = goes-on found n a.before b.before a.next b.next f g one.reaches two.reaches;
        has = product-typed g x y due a.source b.source apart.0 apart.1 (same-columns first (f a.source) (g a.source) (two.reaches.kept a.source one.old) one.has) two.has;
      }
  translated-typed (p.union left right) due own n found base free is meets =
      let known = both-known (types_at left) (types_at right) own is in
      let x = known_types (types_at left) in
      let y = known_types (types_at right) in
      let apart = meets-both due x y own known.2 meets in
      let a = operand false left (translated tables types due left n) in
      let one = operand-typed found n false left due x base free known.0 apart.0 (translated-typed left due x n found base free known.0 apart.0) in
      let f = one.later in
      let base1 = base-kept found n a.before a.next f base one.reaches in
      let b = operand false right (translated tables types due right a.next) in
      let two = operand-typed f a.next false right due y base1 one.reaches.free known.1 apart.1 (translated-typed right due y a.next f base1 one.reaches.free known.1 apart.1) in
      let g = two.later in
      record {
        later = g;
        reaches = goes-on found n a.before b.before a.next b.next f g one.reaches two.reaches;
        has = union-typed g due a.source b.source (same-columns due (f a.source) (g a.source) (two.reaches.kept a.source one.old) one.has) two.has;
      }
  translated-typed (p.given []) due own n found base free is meets = absurd (none-some own is)
  translated-typed (p.given (row ∷ others)) due own n found base free is meets = record { later = found; reaches = stays found n free; has = given-typed found row others due own is meets }
  translated-typed (p.publish at one mine later) due own n found base free is meets =
      let known = published-known at (types_at one) (types_at mine) (types_at later) own is in
      let x = known_types (types_at one) in
      let y = known_types (types_at mine) in
      let z = known_types (types_at later) in
      let ids = and_parts (is_id (type_at at x)) _ known.types in
      let more = and_parts (is_id (type_at at y)) _ ids.1 in
      let last = and_parts (is_id (type_at at z)) (is_mark (type_at (suc at) y)) more.1 in
      let apart = meets-both due z y own known.common meets in
      let itself = meets-itself x in
      let a = operand true one (translated tables types x one n) in
      let first = operand-typed found n true one x x base free known.base itself (translated-typed one x x n found base free known.base itself) in
      let f = first.later in
      let base1 = base-kept found n a.before a.next f base first.reaches in
      let b = operand true mine (translated tables types due mine a.next) in
      let second = operand-typed f a.next true mine due y base1 first.reaches.free known.mine apart.1 (translated-typed mine due y a.next f base1 first.reaches.free known.mine apart.1) in
      let g = second.later in
      let base2 = base-kept f a.next b.before b.next g base1 second.reaches in
      let c = operand true later (translated tables types due later b.next) in
      let third = operand-typed g b.next true later due z base2 second.reaches.free known.later apart.0 (translated-typed later due z b.next g base2 second.reaches.free known.later apart.0) in
      let h = third.later in
      let written : NamedQuery = record { name = s.query c.next; materialized = true; query = written_query at a.source b.source } in
      let old-a = old-later a.next b.next a.source second.reaches.low first.old in
      let at-a = same-columns x (f a.source) (h a.source) (third.reaches.kept a.source old-a ∙ second.reaches.kept a.source first.old) first.has in
      let at-b = same-columns due (g b.source) (h b.source) (third.reaches.kept b.source second.old) second.has in
      let ids-a = has-ids at x x at-a.values itself at-a.all ids.0 in
      let ids-b = has-ids at due y at-b.values apart.1 at-b.all more.0 in
      let marks = has-marks at due y at-b.values apart.1 at-b.all last.1 in
      let made = written-typed h at a.source b.source at-a.values at-b.values at-a.is at-b.is ids-a ids-b marks in
      let columns : List TypedColumn = record { name = Some (s.numbered at); type = varchar } ∷ [] in
      let k = with_source (s.query c.next) columns h in
      let fourth = reaches-one h c.next written columns refl third.reaches.free made in
      let is-c = same-columns due (h c.source) (k c.source) (fourth.kept c.source third.old) third.has in
      let is-b = same-columns due (h b.source) (k b.source) (fourth.kept b.source (old-later b.next c.next b.source third.reaches.low second.old)) at-b in
      record {
        later = k;
        reaches =
            goes-on found n a.before (b.before ++ (c.before ++ written ∷ [])) a.next (suc c.next) f k first.reaches
            (goes-on f a.next b.before (c.before ++ written ∷ []) b.next (suc c.next) g k second.reaches
            (goes-on g b.next c.before (written ∷ []) c.next (suc c.next) h k third.reaches fourth));
        has =
            publish-typed k at due (s.query c.next) b.source c.source at-a.values
            (ap (λ (t : Bool). cond t (Some columns) (h (s.query c.next))) (eq_itself c.next))
            is-b is-c (has-ids at due z is-c.values apart.0 is-c.all last.0) (has-marks at due y is-b.values apart.1 is-b.all last.1);
      }

-- ---- programs

module _ (tables : List Table) where
  known-whole : (x : Option (List CellType)) → option_map_or are_whole x false ≡ true → (x ≡ Some (known_types x)) × (are_whole (known_types x) ≡ true)
  known-whole None e = absurd cc
  known-whole (Some types) e = (refl, e)

  none-is : (x : Option (List CellType)) → is_none x ≡ true → x ≡ None
  none-is None e = refl
  none-is (Some types) e = absurd cc

  -- the steps, and the numbers from the next one on are free
  record StepsTyped (types : StepTypes) (found : Sources) (n : ℕ) (steps : List PlainStep) (a : TranslatedSteps) : Type 0 where
    later : Sources
    is : sources_after a.before found ≡ Some later
    base : IsBase tables (steps_types tables steps types) later
    free : IsFree later a.next

  with-base : (place : ℕ) (x : Option (List CellType)) (types : StepTypes) (columns : List TypedColumn) (found : Sources) → HasStep x (Some columns) → IsBase tables types found
      → IsBase tables (with_types place x types) (with_source (s.step place) columns found)
  with-base place x types columns found has base = record {
    versions = base.versions;
    steps = λ j. elim (j == place) as (λ b. HasStep (cond b x (types j)) (cond b (Some columns) (found (s.step j)))) [ true ↦ has | false ↦ base.steps j ];
  }

  steps-typed : (steps : List PlainStep) (types : StepTypes) (n : ℕ) (found : Sources) → IsBase tables types found → IsFree found n → steps_are_typed tables steps types ≡ true
      → StepsTyped types found n steps (translated_steps tables types steps n)
  steps-typed [] types n found base free typed = record { later = found; is = refl; base = base; free = free }
  steps-typed (first ∷ others) types n found base free typed =
      let x = query_types tables types first.query in
      let due = types_of tables types first.query in
      let parts = and_parts (step_is_typed (types first.j) x) (steps_are_typed tables others (with_types first.j x types)) typed in
      let own = and_parts (is_none (types first.j)) (option_map_or are_whole x false) parts.0 in
      let known = known-whole x own.1 in
      let a = translated tables types due first.query n in
      let gives = translated-typed tables types first.query due due n found base free known.0 (meets-itself due) in
      let after = gives.later in
      let base1 = base-kept tables types found n a.before a.next after base gives.reaches in
      let columns = numbered_columns 1 gives.has.values in
      let new : after (s.step first.j) ≡ None = subst (λ o. HasStep o (after (s.step first.j))) (none-is (types first.j) own.0) (base1.steps first.j) in
      let next = with_source (s.step first.j) columns after in
      let has : HasStep x (Some columns) = subst (λ o. HasStep o (Some columns)) (sym known.0) (known.1, record { values = gives.has.values; is = refl; all = gives.has.all }) in
      let rest = steps-typed others (with_types first.j x types) a.next next (with-base first.j x types columns after has base1) gives.reaches.free parts.1 in
      let query : NamedQuery = record { name = s.step first.j; materialized = true; query = a.query } in
      let b = translated_steps tables (with_types first.j x types) others a.next in
      let taken : sources_after (query ∷ b.before) after ≡ sources_after b.before next = λ i. option_and_then (sources_after b.before) (named (s.step first.j) (new i) (gives.has.is i) after) in
      record {
        later = rest.later;
        is = taken-behind a.before (query ∷ b.before) found after gives.reaches.is ∙ taken ∙ rest.is;
        base = rest.base;
        free = rest.free;
      }

  pub program-typed : (program : PlainProgram) → is_typed tables program ≡ true → is_well_typed tables (program_query tables program) ≡ true
  program-typed program typed =
      let types = steps_types tables program.steps no_types in
      let parts = and_parts (steps_are_typed tables program.steps no_types) (is_some (query_types tables types program.last)) typed in
      let a = translated_steps tables no_types program.steps 1 in
      let taken = steps-typed program.steps no_types 1 (version_sources tables) (record { versions = λ table. refl; steps = λ j. refl }) (λ m above. refl) parts.0 in
      let due = types_of tables types program.last in
      let known = known-some (query_types tables types program.last) parts.1 in
      let b = translated tables types due program.last a.next in
      let gives = translated-typed tables types program.last due due a.next taken.later taken.base taken.free known (meets-itself due) in
      ap (λ (o : Option Sources). is_some (option_and_then (λ sources. query_columns sources [] b.query) o)) (taken-behind a.before b.before (version_sources tables) taken.later taken.is ∙ gives.reaches.is)
      ∙ ap (λ (o : Option (List TypedColumn)). is_some o) gives.has.is
    where
      known-some : (x : Option (List CellType)) → is_some x ≡ true → x ≡ Some (known_types x)
      known-some None e = absurd cc
      known-some (Some types) e = refl
