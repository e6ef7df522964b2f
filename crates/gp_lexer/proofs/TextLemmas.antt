-- Reading a text byte by byte: the bytes so far, and what the rest is read as.
use Rattle.std.proofs.Common.{◌≡◌, ℕ, List, [], ◌∷◌, ◌++◌, Some, None, refl, sym, ap, append_assoc}
use Rattle.std.proofs.lemmas.List.{append-nil}
use Rattle.gp_lexer.specs.Lexing.{Quoted, with_byte}

-- the value with these bytes at its start
abbrev pub with_bytes : List ℕ → Quoted → Quoted
with_bytes bytes None = None
with_bytes bytes (Some text) = Some (bytes ++ text.0, text.1)

pub with_bytes-with_byte : (bytes : List ℕ) (byte : ℕ) (text : Quoted) → with_bytes bytes (with_byte byte text) ≡ with_bytes (bytes ++ byte ∷ []) text
with_bytes-with_byte bytes byte None = refl
with_bytes-with_byte bytes byte (Some text) = ap (λ value. Some (value, text.1)) (sym (append_assoc bytes (byte ∷ []) text.0))

pub with_bytes-nil : (text : Quoted) → with_bytes [] text ≡ text
with_bytes-nil None = refl
with_bytes-nil (Some text) = refl

pub ruleset quoted_steps = (with_bytes-with_byte, with_bytes-nil, append-nil)
