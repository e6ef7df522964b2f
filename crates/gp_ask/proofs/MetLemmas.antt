-- The first commit that wrote a row, found in one pass over the spans, is the first of the versions in their order.
use Rattle.std.proofs.Common.{◌≡◌, ◌≢◌, ℕ, zero, suc, ◌+◌, ◌-◌, ◌<◌, ◌≤◌, Bool, true, false, cond, List, [], ◌∷◌, ◌++◌, Option, Some, None, refl, sym, ap, ◌∙◌, subst, arith}
use Rattle.std.specs.Prelude.{◌==◌, ◌&&◌, ◌||◌, nat_le, nat_lt}
use Rattle.std.specs.Option.{is_some, option_and_then, option_map_or}
use Rattle.std.proofs.lemmas.Bool.{eqb-false, eqb-true, leb-false, leb-true, ltb-false, ltb-true, or_parts}
use Rattle.gp_base.proofs.SmallLemmas.{eq_itself, eq_not}
use Rattle.gp_base.specs.declared.cell.Cell.{Cell}
use Rattle.gp_base.specs.Identities.{Identity, same_identity}
use Rattle.gp_algebra.specs.Statements.{Statement}
use Rattle.gp_machine.specs.Entries.{Entry}
use Rattle.gp_versions.specs.declared.span.Span.{Span}
use Rattle.gp_versions.specs.TableSpans.{least}
use Rattle.gp_ask.specs.ChangeForms.{ends_at}
use Rattle.gp_ask.specs.ConflictForms.{any_met, met_at, met_by, met_in, met_line, row_conflict, rows_conflicts, within}
use Rattle.gp_ask.specs.Keyed.{identity_of}
use Rattle.gp_ask.specs.Looked.{is_written_by}
use Rattle.gp_ask.specs.RowConflicts.{first_writer, spans_wrote}
use Rattle.gp_ask.specs.RowLines.{RowLine}

-- ---- the least of versions

-- the version is the least between two that passes a test, or there is none
abbrev pub IsFirst : (ℕ → Bool) → ℕ → ℕ → Option ℕ → Type 0
IsFirst test base upto None = (v : ℕ) → base < v → v ≤ upto → test v ≡ false
IsFirst test base upto (Some first) = (base < first) × ((first ≤ upto) × ((test first ≡ true) × ((v : ℕ) → base < v → v < first → test v ≡ false)))

-- it is found by going through them
pub searched : (test : ℕ → Bool) (base more : ℕ) → IsFirst test base (base + more) (first_writer test base more)
searched test base zero = λ v above within. absurd (omega arith)
searched test base (suc more) =
    elim (test (suc base)) as (λ b. test (suc base) ≡ b → IsFirst test base (base + suc more) (cond b (Some (suc base)) (first_writer test (suc base) more))) [
      | true ↦ λ is. (omega arith, (omega arith, (is, λ v above below. absurd (omega arith))))
      | false ↦ λ is. later is (first_writer test (suc base) more) (searched test (suc base) more)
    ] refl
  where
    next : test (suc base) ≡ false → (v : ℕ) → base < v → (suc base < v → test v ≡ false) → test v ≡ false
    next is v above rest = elim (suc base == v) as (λ b. (suc base == v) ≡ b → test v ≡ false) [
      | true ↦ λ same. subst (λ n. test n ≡ false) (eqb-true (suc base) v same) is
      | false ↦ λ other. rest (let apart : suc base ≢ v = eqb-false (suc base) v other in omega arith)
    ] refl

    later : test (suc base) ≡ false → (found : Option ℕ) → IsFirst test (suc base) (suc base + more) found → IsFirst test base (base + suc more) found
    later is None none = λ v above below. next is v above (λ beyond. none v beyond (omega arith))
    later is (Some first) (low, (high, (passes, rest))) = (omega arith, (omega arith, (passes, λ v above below. next is v above (λ beyond. rest v beyond below))))

differ : false ≡ true → ⊥
differ is = absurd cc

-- there is one such version at most
pub one-first : (test : ℕ → Bool) (base upto : ℕ) (found other : Option ℕ) → IsFirst test base upto found → IsFirst test base upto other → found ≡ other
one-first test base upto None None none nothing = refl
one-first test base upto None (Some v) none (low, (high, (passes, rest))) = absurd (differ (sym (none v low high) ∙ passes))
one-first test base upto (Some v) None (low, (high, (passes, rest))) none = absurd (differ (sym (none v low high) ∙ passes))
one-first test base upto (Some v) (Some w) (low, (high, (passes, rest))) (down, (up, (holds, others))) = ap Some (same (nat_lt v w) (nat_lt w v) refl refl)
  where
    same : (b c : Bool) → nat_lt v w ≡ b → nat_lt w v ≡ c → v ≡ w
    same true c less more = absurd (differ (sym (others v low (ltb-true v w less)) ∙ passes))
    same false true less more = absurd (differ (sym (rest w down (ltb-true w v more)) ∙ holds))
    same false false less more = omega (arith, ltb-false v w less, ltb-false w v more)

-- ---- in one pass

-- the least of two first versions is that of both tests
both : (test other : ℕ → Bool) (base upto : ℕ) (found first : Option ℕ) → IsFirst test base upto found → IsFirst other base upto first
    → IsFirst (λ v. test v || other v) base upto (least found first)
both test other base upto None None none nothing = λ v above within. λ i. none v above within i || nothing v above within i
both test other base upto None (Some w) none (low, (high, (passes, rest))) =
    (low, (high, ((λ i. none w low high i || passes i), λ v above below. λ i. none v above (omega arith) i || rest v above below i)))
both test other base upto (Some v) None (low, (high, (passes, rest))) nothing =
    (low, (high, (ap (λ b. b || other v) passes, λ w above below. λ i. rest w above below i || nothing w above (omega arith) i)))
both test other base upto (Some v) (Some w) (low, (high, (passes, rest))) (down, (up, (holds, others))) =
    elim (nat_le v w) as (λ b. nat_le v w ≡ b → IsFirst (λ u. test u || other u) base upto (cond b (Some v) (Some w))) [
      | true ↦ λ is. let below : v ≤ w = leb-true v w is in
          (low, (high, (ap (λ b. b || other v) passes, λ u above less. λ i. rest u above less i || others u above (omega arith) i)))
      | false ↦ λ is. let above : w < v = leb-false v w is in
          (down, (up, ((λ i. rest w down above i || holds i), λ u over less. λ i. rest u over (omega arith) i || others u over less i)))
    ] refl

within-first : (base upto version : ℕ) → IsFirst (λ v. version == v) base upto (within base upto version)
within-first base upto version =
    elim (nat_lt base version) as (λ b. nat_lt base version ≡ b → IsFirst (λ v. version == v) base upto (cond (b && nat_le version upto) (Some version) None)) [
      | true ↦ λ above. elim (nat_le version upto) as (λ c. nat_le version upto ≡ c → IsFirst (λ v. version == v) base upto (cond c (Some version) None)) [
        | true ↦ λ below. (ltb-true base version above, (leb-true version upto below, (eq_itself version, λ v low less. eq_not version v (omega arith))))
        | false ↦ λ beyond. λ v low high. eq_not version v (omega (arith, leb-false version upto beyond))
      ] refl
      | false ↦ λ before. λ v low high. eq_not version v (omega (arith, ltb-false base version before))
    ] refl

ended-first : (base upto : ℕ) (span : Span) → IsFirst (λ v. ends_at v span) base upto (option_and_then (within base upto) span.to)
ended-first base upto span = by span.to
  where
    by : (to : Option ℕ) → IsFirst (λ v. option_map_or (λ own. own == v) to false) base upto (option_and_then (within base upto) to)
    by None = λ v above below. refl
    by (Some to) = within-first base upto to

met-by : (base upto : ℕ) (span : Span) → IsFirst (λ v. (span.from == v) || ends_at v span) base upto (met_by base upto span)
met-by base upto span = both (λ v. span.from == v) (λ v. ends_at v span) base upto (within base upto span.from) (option_and_then (within base upto) span.to) (within-first base upto span.from) (ended-first base upto span)

none-first : (base upto : ℕ) → IsFirst (λ v. false) base upto None
none-first base upto = λ v above below. refl

met-at : (base upto : ℕ) (id : Identity) (span : Span) → IsFirst (λ v. same_identity span.id id && ((span.from == v) || ends_at v span)) base upto (met_at base upto id span)
met-at base upto id span =
    elim (same_identity span.id id) as (λ b. IsFirst (λ v. b && ((span.from == v) || ends_at v span)) base upto (cond b (met_by base upto span) None)) [
      | true ↦ met-by base upto span
      | false ↦ none-first base upto
    ]

met-in : (base upto : ℕ) (id : Identity) (spans : List Span) → IsFirst (λ v. spans_wrote spans id v) base upto (met_in base upto id spans)
met-in base upto id [] = none-first base upto
met-in base upto id (span ∷ spans) =
    both (λ v. same_identity span.id id && ((span.from == v) || ends_at v span)) (λ v. spans_wrote spans id v) base upto (met_at base upto id span) (met_in base upto id spans)
    (met-at base upto id span) (met-in base upto id spans)

-- going through the versions up to one
pub searched-upto : (test : ℕ → Bool) (base upto : ℕ) (b : Bool) → nat_le base upto ≡ b → IsFirst test base upto (first_writer test base (upto - base))
searched-upto test base upto true is =
    let below : base ≤ upto = leb-true base upto is in
    let whole : base + (upto - base) ≡ upto = omega arith in
    subst (λ n. IsFirst test base n (first_writer test base (upto - base))) whole (searched test base (upto - base))
searched-upto test base upto false is =
    let above : upto < base = leb-false base upto is in
    let none : 0 ≡ upto - base = omega arith in
    subst (λ n. IsFirst test base upto (first_writer test base n)) none (λ v over within. absurd (omega arith))

-- the first commit up to a version that wrote a row after its base
pub met-writer : (base upto : ℕ) (id : Identity) (spans : List Span) → met_in base upto id spans ≡ first_writer (λ version. spans_wrote spans id version) base (upto - base)
met-writer base upto id spans =
    one-first (λ v. spans_wrote spans id v) base upto (met_in base upto id spans) (first_writer (λ version. spans_wrote spans id version) base (upto - base)) (met-in base upto id spans)
    (searched-upto (λ v. spans_wrote spans id v) base upto (nat_le base upto) refl)

-- where no span begins or ends there, no row was written
pub none-met : (base upto : ℕ) (id : Identity) (spans : List Span) → any_met base upto spans ≡ false → met_in base upto id spans ≡ None
none-met base upto id [] is = refl
none-met base upto id (span ∷ spans) is =
    let parts = or_parts (is_some (met_by base upto span)) (any_met base upto spans) is in
    (λ i. least (at (met_by base upto span) parts.0 i) (none-met base upto id spans parts.1 i))
  where
    at : (found : Option ℕ) → is_some found ≡ false → cond (same_identity span.id id) found None ≡ None
    at None none = elim (same_identity span.id id) as (λ b. cond {A = Option ℕ} b None None ≡ None) [ true ↦ refl | false ↦ refl ]
    at (Some v) none = absurd cc

-- where a version after a later base wrote the row, one after the base did
pub later-writer : (test : ℕ → Bool) (base other upto : ℕ) → base ≤ other → is_some (first_writer test other (upto - other)) ≡ true → is_some (first_writer test base (upto - base)) ≡ true
later-writer test base other upto below some =
    by (first_writer test base (upto - base)) (first_writer test other (upto - other)) (searched-upto test base upto (nat_le base upto) refl) (searched-upto test other upto (nat_le other upto) refl) some
  where
    by : (found first : Option ℕ) → IsFirst test base upto found → IsFirst test other upto first → is_some first ≡ true → is_some found ≡ true
    by (Some v) first is own w = refl
    by None None is own w = w
    by None (Some v) none (low, (high, (passes, rest))) w = absurd (differ (sym (none v (omega arith) high) ∙ passes))

-- ---- no lines

-- where no commit wrote a row
module _ (entries : List Entry) (name : List ℕ) (met : Identity → Option ℕ) (base t k : ℕ) (statement : Statement) (table : ℕ) (none : (id : Identity) → met id ≡ None) where
  row-unmet : (row : List Cell) (found : Option Identity) → row_conflict entries name met base t k statement table row found ≡ []
  row-unmet row None = refl
  row-unmet row (Some id) =
      ap (λ (own : Option ℕ). cond (is_written_by t k statement id row) (met_line entries name met base t k statement table id own) []) (none id)
      ∙ elim (is_written_by t k statement id row) as (λ b. cond {A = List RowLine} b [] [] ≡ []) [ true ↦ refl | false ↦ refl ]

  pub rows-unmet : (rows : List (List Cell)) → rows_conflicts entries name met base t k statement table rows ≡ []
  rows-unmet [] = refl
  rows-unmet (row ∷ rows) = λ i. row-unmet row (identity_of row) i ++ rows-unmet rows i
