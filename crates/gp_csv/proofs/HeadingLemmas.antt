-- The headings of the fields in turn.
use Rattle.std.proofs.Common.{◌≡◌, ℕ, ◌+◌, List, drop, Some, None, refl}
use Rattle.csv.specs.Records.{field_at}
use Rattle.gp_csv.specs.Headings.{with_heading, heading_of, headings_from}
use Rattle.gp_csv.specs.declared.heading.Heading.{Heading}
use Rattle.gp_csv.proofs.RecordLemmas.{field-next, field-last}

pub headings-next : (headings more : List Heading) (fields : List (List ℕ)) (i : ℕ) (x : List ℕ) → field_at fields i ≡ Some x → with_heading headings (heading_of x) ≡ Some more
    → headings_from more (drop (i + 1) fields) ≡ headings_from headings (drop i fields)
headings-next headings more fields i x e found = rw (field-next fields i x e, found) refl

pub headings-stop : (headings : List Heading) (fields : List (List ℕ)) (i : ℕ) (x : List ℕ) → field_at fields i ≡ Some x → with_heading headings (heading_of x) ≡ None
    → headings_from headings (drop i fields) ≡ None
headings-stop headings fields i x e none = rw (field-next fields i x e, none) refl

pub headings-end : (headings : List Heading) (fields : List (List ℕ)) (i : ℕ) → field_at fields i ≡ None → headings_from headings (drop i fields) ≡ Some headings
headings-end headings fields i e = rw (field-last fields i e) refl

pub ruleset heading_steps = (headings-next, headings-stop, headings-end)
