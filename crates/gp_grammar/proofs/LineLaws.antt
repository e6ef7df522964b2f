-- A text and a line are read, and refused, exactly as the definitions say.
use Rattle.gp_grammar.proofs.Prelude.{◌≡◌, ℕ, ◌+◌, ◌<◌, ◌≤◌, Bool, true, false, cond, ltb, List, length, Option, Some, None, Result, Ok, Err, refl, sym, ap, subst, ◌∙◌, arith, IsUtf8, ltb-false, ltb-true, IsUtf8-from_is_utf8, Lexed, lexed, MAX_LINE_LENGTH, MAX_OPEN, Lexemes, Bytes, is_too_deep, Limit, Shape, passed_limit, Outcome, Parser, whole, Fault, ReadsText, ReadsLine, read_line, Built, CapsFairly}
use Rattle.std.specs.Str.{is_utf8}
use Rattle.std.proofs.lemmas.Str.{is_utf8-from_IsUtf8}
use Rattle.gp_grammar.specs.Limits.{depth}
use Rattle.gp_grammar.specs.LineReading as r
use Rattle.gp_grammar.specs.LineReading.{too_long, not_utf8, lexical, syntax, over, HasLexemes, RefusesText, RefusesLine}
use Rattle.gp_grammar.specs.Reading.{within_shape, placed, read_lexemes, read_lexed, read_text}
use Rattle.gp_grammar.specs.Laws.{IsUnambiguous, ReadsTextsExactly, RefusesTextsExactly, ReadsLinesExactly, RefusesLinesExactly}
use Rattle.gp_grammar.proofs.ParserLaws.{Lawful}

not-utf8 : (bytes : Bytes) → ¬ IsUtf8 bytes → is_utf8 bytes ≡ false
not-utf8 bytes h = by (is_utf8 bytes) refl
  where
    by : (b : Bool) → is_utf8 bytes ≡ b → b ≡ false
    by true e = absurd (h (IsUtf8-from_is_utf8 bytes e))
    by false e = refl

no-utf8 : (bytes : Bytes) → is_utf8 bytes ≡ false → ¬ IsUtf8 bytes
no-utf8 bytes e h = let k : true ≡ false = sym (is_utf8-from_IsUtf8 bytes h) ∙ e in cc

ok-is : {A : Type 0} (x y : A) (o : Outcome A) → o ≡ Ok x → o ≡ Ok y → x ≡ y
ok-is x y o d e = cc

module _ {A : Type 0} (p : Parser A) (Is : Lexemes → A → Type 0) (cap : A → A) (shape : A → Shape) (w : Lawful p Is cap) (f : CapsFairly p Is cap shape) where
  pub unambiguous : IsUnambiguous p Is cap shape
  unambiguous ts x y i j h =
      let a : whole p ts ≡ Ok (cap x) = (w.parses ts (cap x)).1 (record { tree = x; is = i; same = refl }) in
      let b : whole p ts ≡ Ok (cap y) = (w.parses ts (cap y)).1 (record { tree = y; is = j; same = refl }) in
      let e : cap x ≡ cap y = ok-is (cap x) (cap y) (whole p ts) a b in
      let k : passed_limit (shape y) ≡ None = sym (f.limit y) ∙ ap (λ z. passed_limit (shape z)) (sym e) ∙ f.limit x ∙ h in
      sym (f.exact x h) ∙ e ∙ f.exact y k

  end : Bytes → ℕ
  end bytes = length bytes + 1

  -- ---- what the function gives

  text-encoded : (bytes : Bytes) → IsUtf8 bytes → read_text p shape bytes ≡ read_lexed p shape (length bytes + 1) (lexed bytes)
  text-encoded bytes h = ap (λ b. cond b (read_lexed p shape (length bytes + 1) (lexed bytes)) (Err not_utf8)) (is_utf8-from_IsUtf8 bytes h)

  text-lexed : (bytes : Bytes) (ts : Lexemes) (cs : List ℕ) → HasLexemes bytes ts cs → read_text p shape bytes ≡ read_lexemes p shape ts cs (length bytes + 1)
  text-lexed bytes ts cs h = text-encoded bytes h.utf8 ∙ ap (read_lexed p shape (length bytes + 1)) h.found

  text-shallow : (bytes : Bytes) (ts : Lexemes) (cs : List ℕ) (o : Outcome A) → HasLexemes bytes ts cs → is_too_deep MAX_OPEN ts ≡ false → whole p ts ≡ o
      → read_text p shape bytes ≡ placed shape ts cs (length bytes + 1) o
  text-shallow bytes ts cs o h d e =
      text-lexed bytes ts cs h
      ∙ ap (λ b. cond b (Err (over depth)) (placed shape ts cs (length bytes + 1) (whole p ts))) d
      ∙ ap (placed shape ts cs (length bytes + 1)) e

  text-read : (bytes : Bytes) (x : A) → ReadsText Is shape bytes x → read_text p shape bytes ≡ Ok x
  text-read bytes x h =
      let e : whole p h.lexemes ≡ Ok (cap x) = (w.parses h.lexemes (cap x)).1 (record { tree = x; is = h.derived; same = refl }) in
      text-shallow bytes h.lexemes h.columns (Ok (cap x)) h.lexical h.shallow e
      ∙ ap (within_shape (cap x)) (f.limit x ∙ h.within)
      ∙ ap (λ z. Ok z) (f.exact x h.within)

  text-refused : (bytes : Bytes) (fault : Fault) → RefusesText Is shape bytes fault → read_text p shape bytes ≡ Err fault
  text-refused bytes _ (r.encoding h) = ap (λ b. cond b (read_lexed p shape (length bytes + 1) (lexed bytes)) (Err not_utf8)) (not-utf8 bytes h)
  text-refused bytes _ (r.unlexed column h e) = text-encoded bytes h ∙ ap (read_lexed p shape (length bytes + 1)) e
  text-refused bytes _ (r.deep ts cs h d) = text-lexed bytes ts cs h ∙ ap (λ b. cond b (Err (over depth)) (placed shape ts cs (length bytes + 1) (whole p ts))) d
  text-refused bytes _ (r.stopped ts rest cs h d s) = text-shallow bytes ts cs (Err rest) h d ((w.stops ts rest).1 s)
  text-refused bytes _ (r.limited ts cs x limit h d i l) =
      text-shallow bytes ts cs (Ok (cap x)) h d ((w.parses ts (cap x)).1 (record { tree = x; is = i; same = refl })) ∙ ap (within_shape (cap x)) (f.limit x ∙ l)

  -- ---- what it gives is so

  IsAnswer : Bytes → Result A Fault → Type 0
  IsAnswer bytes (Ok x) = ReadsText Is shape bytes x
  IsAnswer bytes (Err fault) = RefusesText Is shape bytes fault

  answer-shape : (bytes : Bytes) (ts : Lexemes) (cs : List ℕ) (b : A) → HasLexemes bytes ts cs → is_too_deep MAX_OPEN ts ≡ false → Built Is cap ts b → (o : Option Limit)
      → passed_limit (shape b) ≡ o → IsAnswer bytes (within_shape b o)
  unfolding IsAnswer
  answer-shape bytes ts cs b h d i None e =
      let k : passed_limit (shape i.tree) ≡ None = sym (f.limit i.tree) ∙ ap (λ z. passed_limit (shape z)) (sym i.same) ∙ e in
      let x : b ≡ i.tree = i.same ∙ f.exact i.tree k in
      let P : A → Type 0 = λ z. Is ts z in
      record { lexemes = ts; columns = cs; lexical = h; shallow = d; derived = subst P (sym x) i.is; within = e }
  answer-shape bytes ts cs b h d i (Some limit) e =
      r.limited ts cs i.tree limit h d i.is (sym (f.limit i.tree) ∙ ap (λ z. passed_limit (shape z)) (sym i.same) ∙ e)

  answer-parsed : (bytes : Bytes) (ts : Lexemes) (cs : List ℕ) → HasLexemes bytes ts cs → is_too_deep MAX_OPEN ts ≡ false → (o : Outcome A) → whole p ts ≡ o
      → IsAnswer bytes (placed shape ts cs (length bytes + 1) o)
  unfolding IsAnswer
  answer-parsed bytes ts cs h d (Ok b) e = answer-shape bytes ts cs b h d ((w.parses ts b).0 e) (passed_limit (shape b)) refl
  answer-parsed bytes ts cs h d (Err rest) e = r.stopped ts rest cs h d ((w.stops ts rest).0 e)

  answer-lexemes : (bytes : Bytes) (ts : Lexemes) (cs : List ℕ) → HasLexemes bytes ts cs → (b : Bool) → is_too_deep MAX_OPEN ts ≡ b
      → IsAnswer bytes (cond b (Err (over depth)) (placed shape ts cs (length bytes + 1) (whole p ts)))
  unfolding IsAnswer
  answer-lexemes bytes ts cs h true d = r.deep ts cs h d
  answer-lexemes bytes ts cs h false d = answer-parsed bytes ts cs h d (whole p ts) refl

  answer-lexed : (bytes : Bytes) → IsUtf8 bytes → (l : Lexed) → lexed bytes ≡ l → IsAnswer bytes (read_lexed p shape (length bytes + 1) l)
  unfolding IsAnswer
  answer-lexed bytes h (Err column) e = r.unlexed column h e
  answer-lexed bytes h (Ok l) e = answer-lexemes bytes l.0 l.1 (record { utf8 = h; found = e }) (is_too_deep MAX_OPEN l.0) refl

  answer-text : (bytes : Bytes) (b : Bool) → is_utf8 bytes ≡ b → IsAnswer bytes (cond b (read_lexed p shape (length bytes + 1) (lexed bytes)) (Err not_utf8))
  unfolding IsAnswer
  answer-text bytes true e = answer-lexed bytes (IsUtf8-from_is_utf8 bytes e) (lexed bytes) refl
  answer-text bytes false e = r.encoding (no-utf8 bytes e)

  answer : (bytes : Bytes) → IsAnswer bytes (read_text p shape bytes)
  answer bytes = answer-text bytes (is_utf8 bytes) refl

  pub texts-read : ReadsTextsExactly p Is cap shape
  unfolding IsAnswer
  texts-read bytes x = (λ e. subst (IsAnswer bytes) e (answer bytes), λ h. text-read bytes x h)

  pub texts-refused : RefusesTextsExactly p Is cap shape
  unfolding IsAnswer
  texts-refused bytes fault = (λ e. subst (IsAnswer bytes) e (answer bytes), λ h. text-refused bytes fault h)

  -- ---- lines

  line-short : (bytes : Bytes) → length bytes ≤ MAX_LINE_LENGTH → read_line p shape bytes ≡ read_text p shape bytes
  line-short bytes h = by (ltb MAX_LINE_LENGTH (length bytes)) refl
    where
      by : (b : Bool) → ltb MAX_LINE_LENGTH (length bytes) ≡ b → cond b (Err too_long) (read_text p shape bytes) ≡ read_text p shape bytes
      by true e = let k : MAX_LINE_LENGTH < length bytes = ltb-true MAX_LINE_LENGTH (length bytes) e in absurd (omega arith)
      by false e = refl

  line-long : (bytes : Bytes) → MAX_LINE_LENGTH < length bytes → read_line p shape bytes ≡ Err too_long
  line-long bytes h = by (ltb MAX_LINE_LENGTH (length bytes)) refl
    where
      by : (b : Bool) → ltb MAX_LINE_LENGTH (length bytes) ≡ b → cond b (Err too_long) (read_text p shape bytes) ≡ Err too_long
      by true e = refl
      by false e = let k : length bytes ≤ MAX_LINE_LENGTH = ltb-false MAX_LINE_LENGTH (length bytes) e in absurd (omega arith)

  IsLineAnswer : Bytes → Result A Fault → Type 0
  IsLineAnswer bytes (Ok x) = ReadsLine Is shape bytes x
  IsLineAnswer bytes (Err fault) = RefusesLine Is shape bytes fault

  short-answer : (bytes : Bytes) → length bytes ≤ MAX_LINE_LENGTH → (o : Result A Fault) → IsAnswer bytes o → IsLineAnswer bytes o
  unfolding IsAnswer IsLineAnswer
  short-answer bytes h (Ok x) k = record { short = h; text = k }
  short-answer bytes h (Err fault) k = r.refused fault h k

  line-answer : (bytes : Bytes) (b : Bool) → ltb MAX_LINE_LENGTH (length bytes) ≡ b → IsLineAnswer bytes (cond b (Err too_long) (read_text p shape bytes))
  unfolding IsLineAnswer
  line-answer bytes true e = r.long (ltb-true MAX_LINE_LENGTH (length bytes) e)
  line-answer bytes false e = short-answer bytes (ltb-false MAX_LINE_LENGTH (length bytes) e) (read_text p shape bytes) (answer bytes)

  line-refused : (bytes : Bytes) (fault : Fault) → RefusesLine Is shape bytes fault → read_line p shape bytes ≡ Err fault
  line-refused bytes _ (r.long h) = line-long bytes h
  line-refused bytes _ (r.refused fault h k) = line-short bytes h ∙ text-refused bytes fault k

  pub lines-read : ReadsLinesExactly p Is cap shape
  unfolding IsLineAnswer
  lines-read bytes x = (λ e. subst (IsLineAnswer bytes) e (line-answer bytes (ltb MAX_LINE_LENGTH (length bytes)) refl), λ h. line-short bytes h.short ∙ text-read bytes x h.text)

  pub lines-refused : RefusesLinesExactly p Is cap shape
  unfolding IsLineAnswer
  lines-refused bytes fault = (λ e. subst (IsLineAnswer bytes) e (line-answer bytes (ltb MAX_LINE_LENGTH (length bytes)) refl), λ h. line-refused bytes fault h)
