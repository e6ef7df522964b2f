-- The union of ascending lists of places ascends, and has the places of both.
use Rattle.std.proofs.Common.{◌≡◌, ℕ, ◌+◌, ◌<◌, ◌≤◌, ◌==◌, nat_lt, Bool, true, false, ◌||◌, List, [], ◌∷◌, if◌then◌else◌, refl, ap, ◌∙◌, subst, arith}
use Rattle.std.specs.List.{AllByRecursion}
use Rattle.std.proofs.lemmas.Bool.{or_parts}
use Rattle.std.proofs.lemmas.Bool.Decides.{nat_tests}
use Rattle.gp_txn.specs.Ascending.{IsAscending}
use Rattle.gp_txn.specs.Enough.{is_among}
use Rattle.gp_txn.specs.Merging.{merged, merged_at, unless_same}

-- ---- the order

-- the places ascend, and none is below this number
abbrev RisesFrom : ℕ → List ℕ → Type 0
RisesFrom low [] = Unit {0}
RisesFrom low (place ∷ places) = (low ≤ place) × RisesFrom (place + 1) places

weaker : (P Q : ℕ → Type 0) → ((n : ℕ) → P n → Q n) → (ns : List ℕ) → AllByRecursion P ns → AllByRecursion Q ns
weaker P Q f [] all = tt
weaker P Q f (n ∷ ns) all = (f n all.0, weaker P Q f ns all.1)

rises : (low : ℕ) (places : List ℕ) → AllByRecursion (λ place. low ≤ place) places → IsAscending places → RisesFrom low places
rises low [] all up = tt
rises low (place ∷ places) all up =
    (all.0, rises (place + 1) places (weaker (λ other. place < other) (λ other. place + 1 ≤ other) (λ n h. omega arith) places up.0) up.1)

all-above : (low : ℕ) (places : List ℕ) → RisesFrom low places → AllByRecursion (λ place. low ≤ place) places
all-above low [] up = tt
all-above low (place ∷ places) up =
    (up.0, weaker (λ other. place + 1 ≤ other) (λ other. low ≤ other) (λ n h. let first : low ≤ place = up.0 in omega arith) places (all-above (place + 1) places up.1))

ascends : (low : ℕ) (places : List ℕ) → RisesFrom low places → IsAscending places
ascends low [] up = tt
ascends low (place ∷ places) up =
    (weaker (λ other. place + 1 ≤ other) (λ other. place < other) (λ n h. omega arith) places (all-above (place + 1) places up.1), ascends (place + 1) places up.1)

rises_unless : (place other : ℕ) (others : List ℕ) (b : Bool) → (other == place) ≡ b → place ≤ other → RisesFrom (other + 1) others → RisesFrom (place + 1) (if b then others else other ∷ others)
rises_unless place other others true is from up =
    let same : other ≡ place = grind (arith, nat_tests) in
    let P : ℕ → Type 0 = λ n. RisesFrom (n + 1) others in subst P same up
rises_unless place other others false is from up = (grind (arith, nat_tests), up)

rises_if : (low place other : ℕ) (more : List ℕ → List ℕ) (others : List ℕ) (b : Bool) → nat_lt other place ≡ b → low ≤ place
    → ((places : List ℕ) → RisesFrom (place + 1) places → RisesFrom (place + 1) (more places)) → (low ≤ other) × RisesFrom (other + 1) others
    → (other + 1 ≤ place → RisesFrom (other + 1) (merged_at place more others))
    → RisesFrom low (if b then other ∷ merged_at place more others else place ∷ more (unless_same place other others))
rises_if low place other more others true is from keeps up rest = (up.0, rest (grind (arith, nat_tests)))
rises_if low place other more others false is from keeps up rest =
    (from, keeps (unless_same place other others) (rises_unless place other others (other == place) refl (grind (arith, nat_tests)) up.1))

rises-at : (low place : ℕ) (more : List ℕ → List ℕ) (others : List ℕ) → low ≤ place
    → ((places : List ℕ) → RisesFrom (place + 1) places → RisesFrom (place + 1) (more places)) → RisesFrom low others → RisesFrom low (merged_at place more others)
rises-at low place more [] from keeps up = (from, keeps [] tt)
rises-at low place more (other ∷ others) from keeps up =
    rises_if low place other more others (nat_lt other place) refl from keeps up (λ below. rises-at (other + 1) place more others below keeps up.1)

rises-merged : (low : ℕ) (places others : List ℕ) → RisesFrom low places → RisesFrom low others → RisesFrom low (merged places others)
rises-merged low [] others left right = right
rises-merged low (place ∷ places) others left right =
    rises-at low place (merged places) others left.0 (λ behind up. rises-merged (place + 1) places behind left.1 up) right

all-from-none : (places : List ℕ) → AllByRecursion (λ place. 0 ≤ place) places
all-from-none [] = tt
all-from-none (place ∷ places) = (omega arith, all-from-none places)

pub merged-ascending : (places others : List ℕ) → IsAscending places → IsAscending others → IsAscending (merged places others)
merged-ascending places others left right =
    ascends 0 (merged places others)
    (rises-merged 0 places others (rises 0 places (all-from-none places) left) (rises 0 others (all-from-none others) right))

-- ---- what is in it

none_unless : (place other p : ℕ) (others : List ℕ) (b : Bool) → (other == place) ≡ b → (place == p) ≡ false → is_among (if b then others else other ∷ others) p ≡ false
    → is_among (other ∷ others) p ≡ false
none_unless place other p others true is apart none =
    let same : other ≡ place = grind (arith, nat_tests) in
    ap (λ (n : ℕ). (n == p) || is_among others p) same ∙ (ap (λ (b : Bool). b || is_among others p) apart ∙ none)
none_unless place other p others false is apart none = none

-- a place is neither one of those that are merged nor among the others
record IsNeither (A : Type 0) (place p : ℕ) (others : List ℕ) : Type 0 where
  pub here : (place == p) ≡ false
  pub more : A
  pub behind : is_among others p ≡ false

none_if : (A : Type 0) (place other p : ℕ) (more : List ℕ → List ℕ) (others : List ℕ) (b : Bool)
    → ((places : List ℕ) → is_among (more places) p ≡ false → A × (is_among places p ≡ false))
    → (is_among (merged_at place more others) p ≡ false → IsNeither A place p others)
    → is_among (if b then other ∷ merged_at place more others else place ∷ more (unless_same place other others)) p ≡ false
    → IsNeither A place p (other ∷ others)
none_if A place other p more others true each rest none =
    let parts = or_parts (other == p) (is_among (merged_at place more others) p) none in
    let found = rest parts.1 in
    record { here = found.here; more = found.more; behind = ap (λ (b : Bool). b || is_among others p) parts.0 ∙ found.behind }
none_if A place other p more others false each rest none =
    let parts = or_parts (place == p) (is_among (more (unless_same place other others)) p) none in
    let found = each (unless_same place other others) parts.1 in
    record { here = parts.0; more = found.0; behind = none_unless place other p others (other == place) refl parts.0 found.1 }

none-at : (A : Type 0) (place p : ℕ) (more : List ℕ → List ℕ) (others : List ℕ) → ((places : List ℕ) → is_among (more places) p ≡ false → A × (is_among places p ≡ false))
    → is_among (merged_at place more others) p ≡ false → IsNeither A place p others
none-at A place p more [] each none =
    let parts = or_parts (place == p) (is_among (more []) p) none in
    record { here = parts.0; more = (each [] parts.1).0; behind = refl }
none-at A place p more (other ∷ others) each none = none_if A place other p more others (nat_lt other place) each (none-at A place p more others each) none

-- a place that is not in the union is in neither list
pub none-merged : (places others : List ℕ) (p : ℕ) → is_among (merged places others) p ≡ false → (is_among places p ≡ false) × (is_among others p ≡ false)
none-merged [] others p none = (refl, none)
none-merged (place ∷ places) others p none =
    let found = none-at (is_among places p ≡ false) place p (merged places) others (λ behind is. none-merged places behind p is) none in
    (ap (λ (b : Bool). b || is_among places p) found.here ∙ found.more, found.behind)
