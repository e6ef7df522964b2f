-- What is noted for identities in a map, one after another.
use Rattle.std.proofs.Common.{◌≡◌, ℕ, ◌<◌, ◌≤◌, Bool, true, false, cond, List, ◌+◌, drop, get_or, length, Option, None, Some, refl, sym, ap, ◌∙◌, arith}
use Rattle.std.specs.BTreeMap.{BTreeMap, Updates, get}
use Rattle.std.specs.List.{list_any}
use Rattle.std.specs.Option.{is_some}
use Rattle.std.specs.Ordering.{is_eq}
use Rattle.std.specs.Prelude.{◌||◌, nat_le}
use Rattle.std.proofs.lemmas.Bool.{le-leb, leb-false, leb-true, lt-leb}
use Rattle.std.proofs.lemmas.List.{at_drop_more}
use Rattle.gp_base.proofs.IdentityLaws.{same_identity-is}
use Rattle.gp_base.proofs.OrderLemmas.{equal_from_is_eq}
use Rattle.gp_base.specs.Identities.{Identity, identity_cmp, same_identity}
use Rattle.gp_base.specs.IdentityOrder.{identity_cmp-exact}
use Rattle.gp_versions.specs.TableSpans.{least}
use Rattle.gp_algebra.specs.Statements.{Select}
use Rattle.gp_versions.specs.declared.span.Span.{Span}
use Rattle.gp_ask.specs.ConflictForms.{met_at, met_in, noted}
use Rattle.gp_ask.specs.HistoryForms.{span_asks}
use Rattle.gp_versions.proofs.ChainLemmas.{least-none}

-- ---- that an identity is there

pub asked-noted : (old new : BTreeMap Identity Bool) (id : Identity) → Updates identity_cmp old new id (Some true)
    → (other : Identity) → is_some (get identity_cmp new other) ≡ (is_some (get identity_cmp old other) || same_identity id other)
asked-noted old new id updates other =
    ap is_some (updates.0 other)
    ∙ by (is_eq (identity_cmp id other)) (get identity_cmp old other)
    ∙ ap (λ b. is_some (get identity_cmp old other) || b) (sym (same_identity-is id other))
  where
    by : (b : Bool) (was : Option Bool) → is_some (cond b (Some true) was) ≡ (is_some was || b)
    by true None = refl
    by true (Some own) = refl
    by false None = refl
    by false (Some own) = refl

-- ---- the least number

pub least-then : (a b c : Option ℕ) → least (least a b) c ≡ least a (least b c)
least-then None b c = refl
least-then (Some v) None c = refl
least-then (Some v) (Some w) None = least-none (cond (nat_le v w) (Some v) (Some w))
least-then (Some v) (Some w) (Some x) = by (nat_le v w) (nat_le w x) refl refl
  where
    -- the first of all
    here : v ≤ x → Some v ≡ cond (nat_le v x) (Some v) (Some x)
    here within = ap (λ b. cond b (Some v) (Some x)) (sym (le-leb v x within))

    by : (p q : Bool) → nat_le v w ≡ p → nat_le w x ≡ q → least (cond p (Some v) (Some w)) (Some x) ≡ least (Some v) (cond q (Some w) (Some x))
    by true true first second = sym (here (omega (arith, leb-true v w first, leb-true w x second))) ∙ ap (λ b. cond b (Some v) (Some w)) (sym first)
    by true false first second = refl
    by false true first second = ap (λ b. cond b (Some w) (Some x)) second ∙ ap (λ b. cond b (Some v) (Some w)) (sym first)
    by false false first second =
        ap (λ b. cond b (Some w) (Some x)) second
        ∙ ap (λ b. cond b (Some v) (Some x)) (sym (lt-leb v x (omega (arith, leb-false v w first, leb-false w x second))))

pub met-noted : (old new : BTreeMap Identity ℕ) (id : Identity) (own version : ℕ) → Updates identity_cmp old new id (Some own) → Some own ≡ least (get identity_cmp old id) (Some version)
    → (other : Identity) → get identity_cmp new other ≡ least (get identity_cmp old other) (noted other id version)
met-noted old new id own version updates first other =
    updates.0 other
    ∙ by (is_eq (identity_cmp id other)) refl
    ∙ ap (λ b. least (get identity_cmp old other) (cond b (Some version) None)) (sym (same_identity-is id other))
  where
    by : (b : Bool) → is_eq (identity_cmp id other) ≡ b → cond b (Some own) (get identity_cmp old other) ≡ least (get identity_cmp old other) (cond b (Some version) None)
    by true is =
        let same : id ≡ other = identity_cmp-exact id other (equal_from_is_eq (identity_cmp id other) is) in
        first ∙ ap (λ (key : Identity). least (get identity_cmp old key) (Some version)) same
    by false is = sym (least-none (get identity_cmp old other))

-- ---- the spans behind the first ones

pub met-more : (base upto : ℕ) (id : Identity) (spans : List Span) (i : ℕ) (span : Span) → i < length spans → span ≡ get_or spans i span
    → met_in base upto id (drop i spans) ≡ least (met_at base upto id span) (met_in base upto id (drop (i + 1) spans))
met-more base upto id spans i span within is =
    at_drop_more (met_in base upto id) spans i span within ∙ ap (λ (own : Span). least (met_at base upto id own) (met_in base upto id (drop (i + 1) spans))) (sym is)

pub asks-more : (select : Select) (id : Identity) (spans : List Span) (i : ℕ) (span : Span) → i < length spans → span ≡ get_or spans i span
    → list_any (span_asks select id) (drop i spans) ≡ (span_asks select id span || list_any (span_asks select id) (drop (i + 1) spans))
asks-more select id spans i span within is =
    at_drop_more (list_any (span_asks select id)) spans i span within ∙ ap (λ (own : Span). span_asks select id own || list_any (span_asks select id) (drop (i + 1) spans)) (sym is)

pub or-then : (a b c : Bool) → ((a || b) || c) ≡ (a || (b || c))
or-then true b c = refl
or-then false b c = refl
