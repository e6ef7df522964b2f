-- A list of named files of which one was replaced, seen as files.
use Rattle.std.proofs.Common.{◌≡◌, ◌≢◌, ℕ, ◌+◌, ◌<◌, Bool, true, false, cond, not, List, [], ◌∷◌, ◌++◌, length, Some, None, refl, sym, ◌∙◌, ap, arith, string_bytes, slice_index_or, slice_set, bytes_eq, suc, nat_lt, ◌≤◌}
use Rattle.std.specs.List.{position, position_or_len}
use Rattle.std.proofs.lemmas.Slice.Eq.{bytes_eq-Decides}
use Rattle.std.proofs.lemmas.List.Sums.{prefix_len-le-length}
use Rattle.std.proofs.lemmas.Bool.Decides.{nat_tests}
use Rattle.gp_io.specs.Files.{Files, Replaces}
use Rattle.gp_io.specs.NamedFile.{files_of}
use Rattle.gp_io.specs.Stored.{has_name}
use Rattle.gp_io.specs.declared.named_file.NamedFile.{NamedFile}

bytes_eq-same : (a b : List ℕ) → a ≡ b → bytes_eq a b ≡ true
bytes_eq-same a b same = (bytes_eq-Decides a b).1 same

bytes_eq-true : (a b : List ℕ) → bytes_eq a b ≡ true → a ≡ b
bytes_eq-true a b same = (bytes_eq-Decides a b).0 same

bytes_eq-other : (a b : List ℕ) → a ≢ b → bytes_eq a b ≡ false
bytes_eq-other a b other =
    elim (bytes_eq a b) as (λ answer. bytes_eq a b ≡ answer → answer ≡ false) [
      | true ↦ λ is. absurd (other (bytes_eq-true a b is))
      | false ↦ λ _. refl
    ] refl

replaced_here : (name bytes first held second taken : List ℕ) (rest : Files) → second ≡ first → taken ≡ bytes → bytes_eq first name ≡ true → Replaces name bytes ((first, held) ∷ rest) ((second, taken) ∷ rest)
replaced_here name bytes first held second taken rest same_name same_bytes is = rw (same_name, same_bytes) record {
  this = simp is;
  others = λ other apart.
      let differs : bytes_eq first other ≡ false = bytes_eq-other first other (λ same. apart (sym same ∙ bytes_eq-true first name is)) in
      simp differs;
}

replaced_later : (name bytes first held : List ℕ) (old new : Files) → bytes_eq first name ≡ false → Replaces name bytes old new → Replaces name bytes ((first, held) ∷ old) ((first, held) ∷ new)
replaced_later name bytes first held old new is later = record {
  this = simp is later.this;
  others = λ other apart.
      ap (λ found. cond (bytes_eq first other) (Some held) found) (later.others other apart);
}

replaced_first : (name bytes : List ℕ) → Replaces name bytes [] ((name, bytes) ∷ [])
replaced_first name bytes = record {
  this = simp (bytes_eq-same name name refl);
  others = λ other apart. simp (bytes_eq-other name other (λ same. apart (sym same)));
}

-- one file before the place, by whether it has the name
set_step : (name bytes : List ℕ) (first : NamedFile) (rest : List NamedFile) (file d : NamedFile) (later : ℕ) (named : Bool) → has_name name first ≡ named
    → (later < length rest → string_bytes file.name ≡ string_bytes (slice_index_or rest later d).name → Replaces name bytes (files_of rest) (files_of (slice_set rest later file)))
    → cond (not named) (1 + later) 0 < length (first ∷ rest)
    → string_bytes file.name ≡ string_bytes (slice_index_or (first ∷ rest) (cond (not named) (1 + later) 0) d).name
    → file.bytes.items ≡ bytes
    → Replaces name bytes (files_of (first ∷ rest)) (files_of (slice_set (first ∷ rest) (cond (not named) (1 + later) 0) file))
set_step name bytes first rest file d later true is after below same_name same_bytes =
    replaced_here name bytes _ _ _ _ _ same_name same_bytes is
set_step name bytes first rest file d later false is after below same_name same_bytes =
    let next : 1 + later ≡ suc later = omega arith in
    let same : string_bytes file.name ≡ string_bytes (slice_index_or (first ∷ rest) (suc later) d).name = rw (← next) same_name in
    rw next (replaced_later name bytes _ _ _ _ is (after (omega arith) same))

-- a file of the same name with other bytes, at the first place of that name
set_at : (name bytes : List ℕ) (files : List NamedFile) (file d : NamedFile) → position_or_len (has_name name) files < length files → string_bytes file.name ≡ string_bytes (slice_index_or files (position_or_len (has_name name) files) d).name → file.bytes.items ≡ bytes → Replaces name bytes (files_of files) (files_of (slice_set files (position_or_len (has_name name) files) file))
set_at name bytes [] file d below same_name same_bytes = absurd (omega arith)
set_at name bytes (first ∷ rest) file d below same_name same_bytes =
    set_step name bytes first rest file d (position_or_len (has_name name) rest) (has_name name first) refl (λ fits same. set_at name bytes rest file d fits same same_bytes) below same_name same_bytes

-- one file before the end, by whether it has the name
push_step : (name bytes : List ℕ) (first : NamedFile) (rest : List NamedFile) (file : NamedFile) (later : ℕ) (named : Bool) → has_name name first ≡ named
    → (later ≡ length rest → Replaces name bytes (files_of rest) (files_of (rest ++ file ∷ [])))
    → cond (not named) (1 + later) 0 ≡ length (first ∷ rest)
    → Replaces name bytes (files_of (first ∷ rest)) (files_of (first ∷ rest ++ file ∷ []))
push_step name bytes first rest file later true is after none = absurd (omega arith)
push_step name bytes first rest file later false is after none =
    replaced_later name bytes _ _ _ _ is (after (omega arith))

push_at : (name bytes : List ℕ) (files : List NamedFile) (file : NamedFile) → position_or_len (has_name name) files ≡ length files → string_bytes file.name ≡ name → file.bytes.items ≡ bytes → Replaces name bytes (files_of files) (files_of (files ++ file ∷ []))
push_at name bytes [] file none same_name same_bytes = rw (same_name, same_bytes) (replaced_first name bytes)
push_at name bytes (first ∷ rest) file none same_name same_bytes =
    push_step name bytes first rest file (position_or_len (has_name name) rest) (has_name name first) refl (λ all. push_at name bytes rest file all same_name same_bytes) none

found : (first all place : ℕ) → cond (nat_lt first all) (Some first) None ≡ Some place → (first < all) × (first ≡ place)
found first all place is = grind (arith, nat_tests)

missing : (first all : ℕ) → cond (nat_lt first all) (Some first) None ≡ None → all ≤ first
missing first all is = grind (arith, nat_tests)

-- a file of the same name with other bytes, at the first place of that name
pub Replaced-set : (name bytes : List ℕ) (files : List NamedFile) (file d : NamedFile) (place : ℕ) → position (has_name name) files ≡ Some place → string_bytes file.name ≡ string_bytes (slice_index_or files place d).name → file.bytes.items ≡ bytes → Replaces name bytes (files_of files) (files_of (slice_set files place file))
Replaced-set name bytes files file d place is same_name same_bytes =
    let at = found _ _ _ is in
    let here : string_bytes file.name ≡ string_bytes (slice_index_or files (position_or_len (has_name name) files) d).name = rw at.1 same_name in
    rw (← at.1) (set_at name bytes files file d at.0 here same_bytes)

-- a file of that name at the end, where no file before it has the name
pub Replaced-push : (name bytes : List ℕ) (files : List NamedFile) (file : NamedFile) → position (has_name name) files ≡ None → string_bytes file.name ≡ name → file.bytes.items ≡ bytes → Replaces name bytes (files_of files) (files_of (files ++ file ∷ []))
Replaced-push name bytes files file none same_name same_bytes =
    let none_before = missing _ _ none in
    let fits = prefix_len-le-length (λ file. not (has_name name file)) files in
    push_at name bytes files file (omega arith) same_name same_bytes
