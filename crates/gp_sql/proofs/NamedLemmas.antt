-- A program of SQL with a name for each query gives the rows of the plain program that it is made of.
use Rattle.gp_sql.proofs.Prelude.{◌≡◌, ℕ, suc, ◌<◌, ◌≤◌, Bool, true, false, cond, List, [], ◌∷◌, ◌++◌, take, drop, Some, None, refl, sym, ap, subst, ◌∙◌, arith, Option, is_some, ◌||◌, ◌==◌, slice_get, AllByRecursion, and_parts, eq_itself, not_eq, Cell, Table, Expr, Cond, Plain, PlainStep, PlainProgram, StepRows, meaning, width_of, Span}
use Rattle.gp_algebra.specs.Plain as p
use Rattle.gp_algebra.specs.Plain.{no_steps, with_step, steps_meaning, program_meaning}
use Rattle.gp_sql.specs.declared.cell_type.CellType.{CellType}
use Rattle.gp_sql.specs.Sql as s
use Rattle.gp_sql.specs.Sql.{NamedQuery, Source}
use Rattle.gp_sql.specs.SqlCells.{sql_rows}
use Rattle.gp_sql.specs.Meaning.{Relation, query_relation, relations_after, rows_of, with_relation}
use Rattle.gp_sql.specs.NamedQueries.{Operand, Translated, TranslatedSteps, is_projection, known_types, operand, program_query, published_query, translated, translated_steps, types_of, written_query}
use Rattle.gp_sql.specs.CellTypes.{AreOf}
use Rattle.gp_sql.specs.Types.{selected_types, projected_types, product_types, StepTypes, query_types, no_types, with_types, step_is_typed, steps_types, steps_are_typed, is_typed}
use Rattle.gp_sql.specs.HeldRows.{held_rows}
use Rattle.gp_sql.specs.VersionTables.{version_tables, AllSpansFit}
use Rattle.gp_sql.proofs.ColumnLemmas.{relation_with}
use Rattle.gp_sql.proofs.PublishLemmas.{is-published, published-value, written-value}
use Rattle.gp_sql.proofs.QueryLemmas.{all-value, both-parts, given-value, product-value, project-value, scan-value, select-value, stored_relation, union-value, width}
use Rattle.gp_sql.proofs.TypeLemmas.{HaveTypes, StepsHave, query-has}

pub selected-some : (c : Cond) (x : Option (List CellType)) → is_some (selected_types c x) ≡ true → is_some x ≡ true
selected-some c None e = e
selected-some c (Some types) e = refl

pub projected-some : (exprs : List Expr) (x : Option (List CellType)) → is_some (projected_types exprs x) ≡ true → is_some x ≡ true
projected-some exprs None e = e
projected-some exprs (Some types) e = refl

pub product-some : (x y : Option (List CellType)) → is_some (product_types x y) ≡ true → (is_some x ≡ true) × (is_some y ≡ true)
product-some (Some types) (Some others) e = (refl, refl)
product-some (Some types) None e = absurd cc
product-some None y e = absurd cc

pub step-some : (earlier x : Option (List CellType)) → step_is_typed earlier x ≡ true → is_some x ≡ true
step-some None None e = absurd cc
step-some (Some types) None e = absurd cc
step-some earlier (Some types) e = refl

rows-of : (x : Option (List CellType)) (rows : List (List Cell)) → is_some x ≡ true → HaveTypes x rows → AllByRecursion (λ row. AreOf row (known_types x)) rows
rows-of None rows some h = absurd cc
rows-of (Some types) rows some h = h

-- ---- what named queries leave as it was

abbrev Relations : Type 0
Relations = Source → Relation

-- what is there before the query with this number: all but the numbered queries from it on
abbrev pub IsOld : ℕ → Source → Type 0
IsOld n (s.versions table) = Unit {0}
IsOld n (s.step j) = Unit {0}
IsOld n (s.query m) = m < n

pub old-later : (n next : ℕ) (source : Source) → n ≤ next → IsOld n source → IsOld next source
old-later n next (s.versions table) low old = tt
old-later n next (s.step j) low old = tt
old-later n next (s.query m) low old = omega (arith, low, old)

after-append : (queries others : List NamedQuery) (found : Relations) → relations_after (queries ++ others) found ≡ relations_after others (relations_after queries found)
after-append [] others found = refl
after-append (first ∷ queries) others found = after-append queries others (with_relation first.name (query_relation found first.query) found)

record Grows (found : Relations) (n : ℕ) (queries : List NamedQuery) (next : ℕ) : Type 0 where
  low : n ≤ next
  kept : (source : Source) → IsOld n source → relations_after queries found source ≡ found source

stays : (found : Relations) (n : ℕ) → Grows found n [] n
stays found n = record { low = omega arith; kept = λ source old. refl }

grows-on : (found : Relations) (n : ℕ) (queries others : List NamedQuery) (next end : ℕ) → Grows found n queries next → Grows (relations_after queries found) next others end → Grows found n (queries ++ others) end
grows-on found n queries others next end a b = record {
  low = omega (arith, a.low, b.low);
  kept = λ source old. ap (λ (g : Relations). g source) (after-append queries others found) ∙ b.kept source (old-later n next source a.low old) ∙ a.kept source old;
}

one-kept : (found : Relations) (r : Relation) (n : ℕ) (source : Source) → IsOld n source → with_relation (s.query n) r found source ≡ found source
one-kept found r n (s.versions table) old = refl
one-kept found r n (s.step j) old = refl
one-kept found r n (s.query m) old = ap (λ (b : Bool). cond b r (found (s.query m))) (not_eq m n old)

grows-one : (found : Relations) (n : ℕ) (named : NamedQuery) → named.name ≡ s.query n → Grows found n (named ∷ []) (suc n)
grows-one found n named is = record {
  low = omega arith;
  kept = λ source old. ap (λ (name : Source). with_relation name (query_relation found named.query) found source) is ∙ one-kept found (query_relation found named.query) n source old;
}

-- ---- a query, and an operand

-- after the named queries before it, a query gives these rows in so many columns
record Gives (found : Relations) (n : ℕ) (a : Translated) (count : ℕ) (rows : List (List Cell)) : Type 0 where
  grows : Grows found n a.before a.next
  is : query_relation (relations_after a.before found) a.query ≡ relation_with count rows

-- after its named queries, a source has these rows in so many columns
record IsNamed (found : Relations) (n : ℕ) (a : Operand) (count : ℕ) (rows : List (List Cell)) : Type 0 where
  grows : Grows found n a.before a.next
  old : IsOld a.next a.source
  is : relations_after a.before found a.source ≡ relation_with count rows

named-one : (found : Relations) (n : ℕ) (materialized : Bool) (a : Translated) (count : ℕ) (rows : List (List Cell)) → Gives found n a count rows
    → IsNamed found n (record { before = a.before ++ record { name = s.query a.next; materialized = materialized; query = a.query } ∷ []; source = s.query a.next; next = suc a.next }) count rows
named-one found n materialized a count rows gives =
    let named : NamedQuery = record { name = s.query a.next; materialized = materialized; query = a.query } in
    let after : Relations = relations_after a.before found in
    record {
      grows = grows-on found n a.before (named ∷ []) a.next (suc a.next) gives.grows (grows-one after a.next named refl);
      old = omega arith;
      is =
          ap (λ (g : Relations). g (s.query a.next)) (after-append a.before (named ∷ []) found)
          ∙ ap (λ (b : Bool). cond b (query_relation after a.query) (after (s.query a.next))) (eq_itself a.next)
          ∙ gives.is;
    }

module _ (tables : List Table) (spans : ℕ → List Span) (fit : AllSpansFit tables spans) (types : StepTypes) (rows : StepRows) (have : StepsHave types rows) where
  abbrev own : Plain → List (List Cell)
  own query = meaning rows (held_rows spans) query

  abbrev types_at : Plain → Option (List CellType)
  types_at query = query_types tables types query

  has : (query : Plain) → HaveTypes (types_at query) (own query)
  has query = query-has tables spans fit types rows have query

  -- the tables of row versions and the steps that have types are there
  record IsBase (found : Relations) : Type 0 where
    versions : (table : ℕ) → found (s.versions table) ≡ stored_relation table (width_of tables table) (spans table)
    steps : (j : ℕ) → is_some (types j) ≡ true → found (s.step j) ≡ relation_with (width (types j)) (rows j)

  base-kept : (found : Relations) (n : ℕ) (queries : List NamedQuery) (next : ℕ) → IsBase found → Grows found n queries next → IsBase (relations_after queries found)
  base-kept found n queries next base grows = record {
    versions = λ table. grows.kept (s.versions table) tt ∙ base.versions table;
    steps = λ j some. grows.kept (s.step j) tt ∙ base.steps j some;
  }

  operand-value : (found : Relations) (n : ℕ) (in_publish : Bool) (query : Plain) (due : List CellType) → IsBase found → is_some (types_at query) ≡ true
      → Gives found n (translated tables types due query n) (width (types_at query)) (own query)
      → IsNamed found n (operand in_publish query (translated tables types due query n)) (width (types_at query)) (own query)
  operand-value found n in_publish (p.step j) due base typed gives = record { grows = stays found n; old = tt; is = base.steps j typed }
  operand-value found n in_publish (p.scan table version) due base typed gives = named-one found n (in_publish || is_projection (p.scan table version)) (translated tables types due (p.scan table version) n) _ _ gives
  operand-value found n in_publish (p.select query c) due base typed gives = named-one found n (in_publish || is_projection (p.select query c)) (translated tables types due (p.select query c) n) _ _ gives
  operand-value found n in_publish (p.project query exprs) due base typed gives = named-one found n (in_publish || is_projection (p.project query exprs)) (translated tables types due (p.project query exprs) n) _ _ gives
  operand-value found n in_publish (p.product left right) due base typed gives = named-one found n (in_publish || is_projection (p.product left right)) (translated tables types due (p.product left right) n) _ _ gives
  operand-value found n in_publish (p.union left right) due base typed gives = named-one found n (in_publish || is_projection (p.union left right)) (translated tables types due (p.union left right) n) _ _ gives
  operand-value found n in_publish (p.given given) due base typed gives = named-one found n (in_publish || is_projection (p.given given)) (translated tables types due (p.given given) n) _ _ gives
  operand-value found n in_publish (p.publish at one mine later) due base typed gives = named-one found n (in_publish || is_projection (p.publish at one mine later)) (translated tables types due (p.publish at one mine later) n) _ _ gives

  translated-value : (query : Plain) (due : List CellType) (n : ℕ) (found : Relations) → IsBase found → is_some (types_at query) ≡ true
      → Gives found n (translated tables types due query n) (width (types_at query)) (own query)
  translated-value (p.scan table version) due n found base typed = record {
    grows = stays found n;
    is = scan-value found table version (slice_get tables table) (spans table) (base.versions table) typed (fit table);
  }
  translated-value (p.step j) due n found base typed = record { grows = stays found n; is = all-value found (width (types j)) (s.step j) (rows j) (base.steps j typed) }
  translated-value (p.select query c) due n found base typed =
      let a = operand false query (translated tables types due query n) in
      let some = selected-some c (types_at query) typed in
      let is = operand-value found n false query due base some (translated-value query due n found base some) in
      record {
        grows = is.grows;
        is = select-value (relations_after a.before found) c (types_at query) a.source (own query) typed (has query) (λ some. is.is);
      }
  translated-value (p.project query exprs) due n found base typed =
      let inner = types_of tables types query in
      let a = operand false query (translated tables types inner query n) in
      let some = projected-some exprs (types_at query) typed in
      let is = operand-value found n false query inner base some (translated-value query inner n found base some) in
      record {
        grows = is.grows;
        is = project-value (relations_after a.before found) exprs due (types_at query) a.source (own query) typed (has query) (λ some. is.is);
      }
  translated-value (p.product left right) due n found base typed =
      let some = product-some (types_at left) (types_at right) typed in
      let first = take (width (types_at left)) due in
      let second = drop (width (types_at left)) due in
      let a = operand false left (translated tables types first left n) in
      let is = operand-value found n false left first base some.0 (translated-value left first n found base some.0) in
      let after : Relations = relations_after a.before found in
      let later = base-kept found n a.before a.next base is.grows in
      let b = operand false right (translated tables types second right a.next) in
      let so = operand-value after a.next false right second later some.1 (translated-value right second a.next after later some.1) in
      let whole = after-append a.before b.before found in
      record {
        grows = grows-on found n a.before b.before a.next b.next is.grows so.grows;
        is =
            product-value (relations_after (a.before ++ b.before) found) (types_at left) (types_at right) a.source b.source (own left) (own right) typed (has left) (has right)
            (λ some. ap (λ (g : Relations). g a.source) whole ∙ so.grows.kept a.source is.old ∙ is.is)
            (λ some. ap (λ (g : Relations). g b.source) whole ∙ so.is);
      }
  translated-value (p.union left right) due n found base typed =
      let some = both-parts (types_at left) (types_at right) typed in
      let a = operand false left (translated tables types due left n) in
      let is = operand-value found n false left due base some.0 (translated-value left due n found base some.0) in
      let after : Relations = relations_after a.before found in
      let later = base-kept found n a.before a.next base is.grows in
      let b = operand false right (translated tables types due right a.next) in
      let so = operand-value after a.next false right due later some.1 (translated-value right due a.next after later some.1) in
      let whole = after-append a.before b.before found in
      record {
        grows = grows-on found n a.before b.before a.next b.next is.grows so.grows;
        is =
            union-value (relations_after (a.before ++ b.before) found) (types_at left) (types_at right) a.source b.source (own left) (own right) typed
            (ap (λ (g : Relations). g a.source) whole ∙ so.grows.kept a.source is.old ∙ is.is)
            (ap (λ (g : Relations). g b.source) whole ∙ so.is);
      }
  translated-value (p.given []) due n found base typed = absurd cc
  translated-value (p.given (row ∷ others)) due n found base typed = record { grows = stays found n; is = given-value found due row others typed }
  translated-value (p.publish at one mine later) due n found base typed =
      let x = types_at one in
      let y = types_at mine in
      let z = types_at later in
      let parts = is-published at x y z typed in
      let inner = types_of tables types one in
      let a = operand true one (translated tables types inner one n) in
      let first = operand-value found n true one inner base parts.base (translated-value one inner n found base parts.base) in
      let f : Relations = relations_after a.before found in
      let base1 = base-kept found n a.before a.next base first.grows in
      let b = operand true mine (translated tables types due mine a.next) in
      let second = operand-value f a.next true mine due base1 parts.mine (translated-value mine due a.next f base1 parts.mine) in
      let g : Relations = relations_after b.before f in
      let base2 = base-kept f a.next b.before b.next base1 second.grows in
      let c = operand true later (translated tables types due later b.next) in
      let third = operand-value g b.next true later due base2 parts.later (translated-value later due b.next g base2 parts.later) in
      let h : Relations = relations_after c.before g in
      let named : NamedQuery = record { name = s.query c.next; materialized = true; query = written_query at a.source b.source } in
      let last : Relations = relations_after (named ∷ []) h in
      let one-grows = grows-one h c.next named refl in
      let old-a = old-later a.next b.next a.source second.grows.low first.old in
      let at-a : h a.source ≡ relation_with (width x) (own one) = third.grows.kept a.source old-a ∙ second.grows.kept a.source first.old ∙ first.is in
      let at-b : h b.source ≡ relation_with (width y) (own mine) = third.grows.kept b.source second.old ∙ second.is in
      let marked = written-value h at (known_types x) (known_types y) (known_types z) (own one) (own mine) (own later) parts.types (rows-of x (own one) parts.base (has one)) (rows-of y (own mine) parts.mine (has mine)) (rows-of z (own later) parts.later (has later)) a.source b.source at-a at-b in
      let whole : relations_after (a.before ++ (b.before ++ (c.before ++ named ∷ []))) found ≡ last =
      after-append a.before (b.before ++ (c.before ++ named ∷ [])) found
      ∙ after-append b.before (c.before ++ named ∷ []) f
      ∙ after-append c.before (named ∷ []) g in
      record {
        grows =
            grows-on found n a.before (b.before ++ (c.before ++ named ∷ [])) a.next (suc c.next) first.grows
            (grows-on f a.next b.before (c.before ++ named ∷ []) b.next (suc c.next) second.grows
            (grows-on g b.next c.before (named ∷ []) c.next (suc c.next) third.grows one-grows));
        is =
            ap (λ (r : Relations). query_relation r (published_query at (s.query c.next) b.source c.source)) whole
            ∙ published-value last at (known_types x) (known_types y) (known_types z) (own one) (own mine) (own later) parts.types (rows-of x (own one) parts.base (has one)) (rows-of y (own mine) parts.mine (has mine)) (rows-of z (own later) parts.later (has later))
            (s.query c.next) b.source c.source
            (ap (λ (t : Bool). cond t (query_relation h named.query) (h (s.query c.next))) (eq_itself c.next) ∙ marked)
            (one-grows.kept b.source (old-later b.next c.next b.source third.grows.low second.old) ∙ at-b)
            (one-grows.kept c.source third.old ∙ third.is)
            ∙ ap (λ (count : ℕ). relation_with count (p.published_onto at (own one) (own mine) (own later))) (sym parts.columns);
      }

-- ---- programs

module _ (tables : List Table) (spans : ℕ → List Span) (fit : AllSpansFit tables spans) where
  with-have : (place : ℕ) (x : Option (List CellType)) (own : List (List Cell)) (types : StepTypes) (rows : StepRows) → HaveTypes x own → StepsHave types rows → StepsHave (with_types place x types) (with_step place own rows)
  with-have place x own types rows h have j = elim (j == place) as (λ b. HaveTypes (cond b x (types j)) (cond b own (rows j))) [ true ↦ h | false ↦ have j ]

  with-base : (place : ℕ) (x : Option (List CellType)) (own : List (List Cell)) (types : StepTypes) (rows : StepRows) (have : StepsHave types rows) (more : HaveTypes x own) (r : Relation) (found : Relations)
      → (is_some x ≡ true → r ≡ relation_with (width x) own) → IsBase tables spans fit types rows have found
      → IsBase tables spans fit (with_types place x types) (with_step place own rows) (with-have place x own types rows more have) (with_relation (s.step place) r found)
  with-base place x own types rows have more r found is base = record {
    versions = base.versions;
    steps = λ j some.
        (elim (j == place) as (λ b. is_some (cond b x (types j)) ≡ true → cond b r (found (s.step j)) ≡ relation_with (width (cond b x (types j))) (cond b own (rows j))) [
          | true ↦ is
          | false ↦ base.steps j
        ]) some;
  }

  -- after the steps, their rows are there
  record StepsNamed (types : StepTypes) (rows : StepRows) (found : Relations) (steps : List PlainStep) (a : TranslatedSteps) : Type 0 where
    have : StepsHave (steps_types tables steps types) (steps_meaning (held_rows spans) steps rows)
    base : IsBase tables spans fit (steps_types tables steps types) (steps_meaning (held_rows spans) steps rows) have (relations_after a.before found)

  steps-named : (steps : List PlainStep) (types : StepTypes) (n : ℕ) (rows : StepRows) (found : Relations) (have : StepsHave types rows) → IsBase tables spans fit types rows have found → steps_are_typed tables steps types ≡ true
      → StepsNamed types rows found steps (translated_steps tables types steps n)
  steps-named [] types n rows found have base typed = record { have = have; base = base }
  steps-named (first ∷ others) types n rows found have base typed =
      let x = query_types tables types first.query in
      let own = meaning rows (held_rows spans) first.query in
      let a = translated tables types (types_of tables types first.query) first.query n in
      let parts = and_parts (step_is_typed (types first.j) x) (steps_are_typed tables others (with_types first.j x types)) typed in
      let is = translated-value tables spans fit types rows have first.query (types_of tables types first.query) n found base (step-some (types first.j) x parts.0) in
      let named : NamedQuery = record { name = s.step first.j; materialized = true; query = a.query } in
      let after : Relations = relations_after a.before found in
      let next : Relations = with_relation (s.step first.j) (query_relation after a.query) after in
      let so = query-has tables spans fit types rows have first.query in
      let more = with-have first.j x own types rows so have in
      let rest =
      steps-named others (with_types first.j x types) a.next (with_step first.j own rows) next more
      (with-base first.j x own types rows have so (query_relation after a.query) after (λ some. is.is) (base-kept tables spans fit types rows have found n a.before a.next base is.grows))
      parts.1 in
      let b = translated_steps tables (with_types first.j x types) others a.next in
      record {
        have = rest.have;
        base =
            subst (λ (g : Relations). IsBase tables spans fit (steps_types tables (first ∷ others) types) (steps_meaning (held_rows spans) (first ∷ others) rows) rest.have g)
            (sym (after-append a.before (named ∷ b.before) found)) rest.base;
      }

  pub program-value : (program : PlainProgram) → is_typed tables program ≡ true → rows_of (version_tables tables spans) (program_query tables program) ≡ sql_rows (program_meaning (held_rows spans) program)
  program-value program typed =
      let found : Relations = version_tables tables spans in
      let types = steps_types tables program.steps no_types in
      let parts = and_parts (steps_are_typed tables program.steps no_types) (is_some (query_types tables types program.last)) typed in
      let a = translated_steps tables no_types program.steps 1 in
      let taken = steps-named program.steps no_types 1 no_steps found (λ j. tt) (record { versions = λ table. refl; steps = λ j none. absurd cc }) parts.0 in
      let due = types_of tables types program.last in
      let b = translated tables types due program.last a.next in
      let rows = steps_meaning (held_rows spans) program.steps no_steps in
      let is = translated-value tables spans fit types rows taken.have program.last due a.next (relations_after a.before found) taken.base parts.1 in
      ap (λ (g : Relations). (query_relation g b.query).rows) (after-append a.before b.before found)
      ∙ ap (λ (r : Relation). r.rows) is.is
