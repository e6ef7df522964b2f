use Rattle.std.proofs.Common.{◌≡◌, ℕ, length, arith, rules, [], ◌∷◌, ◌++◌, cond, List, Some, ap, refl, sym, slice_get, ◌∙◌}
use Rattle.std.specs.List.{cons_option}
use Rattle.gp_versions.specs.declared.span.Span.{Span}
use Rattle.gp_versions.specs.Listed.{held, listed}
use Rattle.gp_versions.specs.Spans.{spans_at}
use Rattle.gp_versions.proofs.ListedLemmas.{at-listed}
use Rattle.gp_versions.proofs.as_of.AsOfIterator.next.Goals as goal

-- a listed span is given
given : (c : goal.In-Some-held) → c.args.self.now ≡ c.in-Some-held.span.now ∷ (spans_at c.loop-place.self-inside.v (listed c.loop-place.self-inside.all.now c.in-Some.places.now) ++ spans_at c.loop-place.self-inside.v c.loop-place.self-inside.others.now)
given c =
    let all = c.loop-place.self-inside.all.now in
    let v = c.loop-place.self-inside.v in
    let place = c.in-Some.place.now in
    let others = spans_at v c.loop-place.self-inside.others.now in
    let is : held v (slice_get all place) ≡ Some c.in-Some-held.span.now = sym (rw c.in-Some-held.is at c.held.ensures) in
    sym c.self.view_is
    ∙ sym c.loop-place.invariant
    ∙ ap (λ places. spans_at v (listed all places) ++ others) c.in-Some.ensures.cases.0
    ∙ ap (λ spans. spans ++ others) (at-listed v place all c.in-Some.places.now)
    ∙ ap (λ o. cons_option o (spans_at v (listed all c.in-Some.places.now)) ++ others) is

pub returns-in-Some-held-clause-steps : goal.returns-in-Some-held-clause-steps
returns-in-Some-held-clause-steps c = given c

pub returns-in-Some-held-clause-goes : goal.returns-in-Some-held-clause-goes
returns-in-Some-held-clause-goes c = let shorter = ap length (given c) in search rules

-- where all places are passed, the others are left
left : (v : ℕ) (all : List Span) (places : List ℕ) (others now : List Span) → now ≡ spans_at v (listed all places) ++ spans_at v others → length places ≡ 0 → now ≡ spans_at v others
left v all [] others now is none = is
left v all (place ∷ places) others now is none = absurd (omega (arith, none))

no-others : (v : ℕ) (others : List Span) → length others ≡ 0 → spans_at v others ≡ []
no-others v [] none = refl
no-others v (span ∷ others) none = absurd (omega (arith, none))

-- or one of the others is
given-other : (c : goal.Then-holds) → c.args.self.now ≡ c.in-Some-split_first.span.now ∷ (spans_at c.loop-span.self-inside.v (listed c.loop-span.self-inside.all.now c.loop-span.self-inside.places.now) ++ spans_at c.loop-span.self-inside.v c.in-Some-split_first.others.now)
given-other c =
    let span = c.in-Some-split_first.span.now in
    let all = c.loop-span.self-inside.all.now in
    let v = c.loop-span.self-inside.v in
    let rest = spans_at v c.in-Some-split_first.others.now in
    left c.loop-place.self-inside.v c.loop-place.self-inside.all.now c.loop-place.self-inside.places.now c.loop-place.self-inside.others.now c.args.self.now (sym c.self.view_is ∙ sym c.loop-place.invariant) c.in_default.ensures.cases
    ∙ sym c.loop-span.invariant.rest
    ∙ ap (spans_at v) c.in-Some-split_first.ensures.cases.0
    ∙ ap (λ b. cond b (span ∷ rest) rest) (sym c.holds.ensures ∙ c.if-holds.true)
    ∙ ap (λ places. span ∷ (spans_at v (listed all places) ++ rest)) (sym c.loop-span.invariant.none)

pub returns-then-holds-clause-steps : goal.returns-then-holds-clause-steps
returns-then-holds-clause-steps c = given-other c

pub returns-then-holds-clause-goes : goal.returns-then-holds-clause-goes
returns-then-holds-clause-goes c = let shorter = ap length (given-other c) in search rules

pub returns-clause-steps : goal.returns-clause-steps
returns-clause-steps c =
    let v = c.loop-span.self-inside.v in (
      left c.loop-place.self-inside.v c.loop-place.self-inside.all.now c.loop-place.self-inside.places.now c.loop-place.self-inside.others.now c.args.self.now (sym c.self.view_is ∙ sym c.loop-place.invariant) c.in_default.ensures.cases
          ∙ sym c.loop-span.invariant.rest
          ∙ no-others v c.loop-span.self-inside.others.now c.in_default-split_first.ensures.cases,
      ap (λ places. spans_at v (listed c.loop-span.self-inside.all.now places) ++ spans_at v c.loop-span.self-inside.others.now) c.loop-span.invariant.none
          ∙ no-others v c.loop-span.self-inside.others.now c.in_default-split_first.ensures.cases,
    )
