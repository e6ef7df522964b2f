-- The set of the identities that a transaction has written.
use Rattle.std.proofs.Common.{◌≡◌, ℕ, ◌+◌, ◌<◌, Bool, true, false, not, ◌&&◌, ◌||◌, List, [], ◌∷◌, ◌++◌, length, take, get_or, if◌then◌else◌, refl, sym, ap, ◌∙◌}
use Rattle.std.specs.List.{list_any}
use Rattle.std.proofs.lemmas.List.{take_more}
use Rattle.std.proofs.lemmas.List.Folds.{list_any-append}
use Rattle.std.specs.BTreeSet.{BTreeSet, Updates}
use Rattle.std.specs.Ordering.{is_eq}
use Rattle.gp_base.specs.Identities.{Identity, identity_cmp, same_identity}
use Rattle.gp_base.specs.IdentityOrder.{identity_cmp-exact}
use Rattle.gp_base.proofs.IdentityLaws.{same_identity-is}
use Rattle.gp_base.proofs.OrderLemmas.{equal_from_is_eq}
use Rattle.gp_base.proofs.SmallLemmas.{or_nothing}
use Rattle.gp_exec.specs.declared.writing.RowMark.{RowMark}
use Rattle.gp_exec.specs.Publishing.{AddsKeys, has_key, has_written, leaves_out, lists, lists_marked}

either_swap : (a b : Bool) → (if a then true else b) ≡ (b || a)
either_swap true true = refl
either_swap true false = refl
either_swap false true = refl
either_swap false false = refl

-- an identity is added
pub adds_one : (ids new : BTreeSet Identity) (id key : Identity) (wanted : Bool) → key ≡ id → wanted ≡ true → Updates identity_cmp ids new key true →
    AddsKeys ids new (λ other. wanted && same_identity id other)
adds_one ids new id key wanted copied here updates other =
    updates.0 other
    ∙ (either_swap (is_eq (identity_cmp key other)) (has_key ids other)
    ∙ (ap (λ (b : Bool). has_key ids other || b) (sym (same_identity-is key other) ∙ ap (λ (y : Identity). same_identity y other) copied)
    ∙ ap (λ (w : Bool). has_key ids other || (w && same_identity id other)) (sym here)))

-- ---- what mine has no more

others_true : (there rest : Bool) → ((not there && true) || (rest && not there)) ≡ not there
others_true true true = refl
others_true true false = refl
others_true false rest = refl

others_false : (here b : Bool) → ((not here && false) || b) ≡ b
others_false true b = refl
others_false false b = refl

others_step : (here there same rest : Bool) → (same ≡ true → here ≡ there) → ((not here && same) || (rest && not there)) ≡ ((same || rest) && not there)
others_step here there true rest equal = rw (equal refl) (others_true there rest)
others_step here there false rest equal = others_false here (rest && not there)

same_is : (id other : Identity) → same_identity id other ≡ true → id ≡ other
same_is id other same = identity_cmp-exact id other (equal_from_is_eq (identity_cmp id other) (sym (same_identity-is id other) ∙ same))

-- of rows with an identity, either all or none are in the set
others_of : (own : Identity → Bool) (base : List RowMark) (id : Identity) →
    list_any (λ (row : RowMark). not (own row.id.now) && same_identity row.id.now id) base ≡ (lists base id && not (own id))
others_of own [] id = refl
others_of own (row ∷ base) id =
    ap (λ (b : Bool). (not (own row.id.now) && same_identity row.id.now id) || b) (others_of own base id)
    ∙ others_step (own row.id.now) (own id) (same_identity row.id.now id) (lists base id) (λ same. ap own (same_is row.id.now id same))

-- the identities of the base that are not in the set of mine
pub gone_keys : (base mine : List RowMark) (own old new : BTreeSet Identity) → ((id : Identity) → has_key own id ≡ lists mine id) →
    AddsKeys old new (λ id. list_any (λ (row : RowMark). not (has_key own row.id.now) && same_identity row.id.now id) base) → AddsKeys old new (leaves_out base mine)
gone_keys base mine own old new owns adds id =
    adds id ∙ ap (λ (b : Bool). has_key old id || b) (others_of (has_key own) base id ∙ ap (λ (b : Bool). lists base id && not b) (owns id))

no_more : (a b : Bool) → a ≡ (a || (b && not b))
no_more true true = refl
no_more true false = refl
no_more false true = refl
no_more false false = refl

-- none, if mine has those of the base
pub none_gone : (base mine : List RowMark) (ids : BTreeSet Identity) → ((id : Identity) → lists base id ≡ lists mine id) → AddsKeys ids ids (leaves_out base mine)
none_gone base mine ids same id = no_more (has_key ids id) (lists mine id) ∙ ap (λ (b : Bool). has_key ids id || (b && not (lists mine id))) (sym (same id))

-- ---- the same identities

one_more : (rows : List RowMark) (i : ℕ) (row : RowMark) (id : Identity) → i < length rows → row ≡ get_or rows i row →
    lists (take (i + 1) rows) id ≡ (lists (take i rows) id || same_identity row.id.now id)
one_more rows i row id within is =
    ap (λ (xs : List RowMark). lists xs id) (take_more rows i row within ∙ ap (λ (y : RowMark). take i rows ++ y ∷ []) (sym is))
    ∙ (list_any-append (λ (r : RowMark). same_identity r.id.now id) (take i rows) (row ∷ [])
    ∙ ap (λ (b : Bool). lists (take i rows) id || b) (or_nothing (same_identity row.id.now id)))

pub same_more : (rows others : List RowMark) (i : ℕ) (row other : RowMark) → i < length rows → i < length others → row ≡ get_or rows i row → other ≡ get_or others i other →
    is_eq (identity_cmp row.id.now other.id.now) ≡ true → ((id : Identity) → lists (take i rows) id ≡ lists (take i others) id) →
    (id : Identity) → lists (take (i + 1) rows) id ≡ lists (take (i + 1) others) id
same_more rows others i row other below there is same equal known id =
    let exact = identity_cmp-exact row.id.now other.id.now (equal_from_is_eq (identity_cmp row.id.now other.id.now) equal) in
    one_more rows i row id below is ∙ ((λ j. known id j || same_identity (exact j) id) ∙ sym (one_more others i other id there same))

-- ---- what is written

-- the identities of the marked rows, and those of the base that mine has no more
pub written_keys : (base mine : List RowMark) (empty marked all : BTreeSet Identity) → empty.keys ≡ [] → AddsKeys empty marked (lists_marked mine) →
    AddsKeys marked all (leaves_out base mine) → (id : Identity) → has_key all id ≡ has_written base mine id
written_keys base mine empty marked all none first second id =
    let start : has_key empty id ≡ false = ap (list_any (λ (key : Identity). is_eq (identity_cmp id key))) none in
    second id ∙ ap (λ (b : Bool). b || leaves_out base mine id) (first id ∙ ap (λ (b : Bool). b || lists_marked mine id) start)
