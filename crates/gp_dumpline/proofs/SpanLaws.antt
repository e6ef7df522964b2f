-- A row line is read as the span that it was written from, and only its text is. It is UTF-8 and has no line feed where its texts are those of users.
use Rattle.std.proofs.Common.{◌≡◌, ◌⊎◌, ℕ, ◌<◌, Bool, true, false, cond, List, [], ◌∷◌, ◌++◌, Option, Some, None, option_and_then, refl, sym, ap, subst, ◌∙◌, arith, inl, inr, codes, lit<}
use Rattle.std.specs.Option.{option_map}
use Rattle.std.specs.Fmt.{decimal}
use Rattle.std.specs.Str.{bytes_eq}
use Rattle.std.proofs.lemmas.Bool.{cases_Bool, false≢true, ne_eqb}
use Rattle.std.proofs.lemmas.List.{append-nil}
use Rattle.std.proofs.lemmas.Slice.Eq.{bytes_eq-Decides}
use Rattle.gp_base.specs.declared.cell.Cell.{Cell}
use Rattle.gp_base.specs.Identities.{Identity, identity_text}
use Rattle.gp_base.specs.Texts.{row_text}
use Rattle.gp_versions.specs.declared.span.Span.{Span}
use Rattle.gp_dumpline.specs.Numbers.{version_of, beyond_versions, cut_at}
use Rattle.gp_dumpline.specs.RowForms.{identity_of, cells_of}
use Rattle.gp_dumpline.specs.Forms.{to_of, RowLine, row_line_of, span_in, span_of, IsVersion, HasForm}
use Rattle.gp_dumpline.specs.Rows.{IsReadable, IsRowLine, is_numeral}
use Rattle.gp_dumpline.specs.Texts.{to_text, span_text}
use Rattle.gp_dumpline.proofs.NumberLaws.{digits_own, numeral-digits, numeral-version, version-again, version-numeral, version-takes}
use Rattle.gp_dumpline.proofs.PartLaws.{IsFree, bind, cut-again, cut-takes, digits-free}
use Rattle.gp_dumpline.proofs.IdentityTexts.{whole-again, whole-takes, identity-free}
use Rattle.gp_dumpline.proofs.CellTexts.{cells-again, cells-takes}
use Rattle.gp_base.specs.Digits.{are_digits}

-- ---- where a span ends

to-again : (to : Option ℕ) → IsVersion to → to_of (to_text to) ≡ Some to
to-again None is = refl
to-again (Some n) is = elim (cases_Bool (bytes_eq (decimal n) (codes "-"))) [
  | inl same ↦ absurd (false≢true (subst (λ (bytes : List ℕ). are_digits bytes ≡ true) ((bytes_eq-Decides (decimal n) (codes "-")).0 same) (digits_own n (omega arith))))
  | inr other ↦ rw (other, version-again n (omega arith)) refl
]

some_to : (m n : Option ℕ) → Some m ≡ Some n → m ≡ n
some_to m n e = cc

none_to : (n : Option ℕ) → None ≡ Some n → ⊥
none_to n e = cc

to-takes : (text : List ℕ) (to : Option ℕ) → to_of text ≡ Some to → IsVersion to → text ≡ to_text to
to-takes text to e is = elim (cases_Bool (bytes_eq text (codes "-"))) [
  | inl same ↦ let f = rw same at e in (bytes_eq-Decides text (codes "-")).0 same ∙ ap to_text (some_to None to f)
  | inr other ↦ let f = rw other at e in go (version_of text) refl f
]
  where
    go : (o : Option ℕ) → version_of text ≡ o → option_map (λ (n : ℕ). Some n) o ≡ Some to → text ≡ to_text to
    go None g h = absurd (none_to to h)
    go (Some n) g h = let same : Some n ≡ to = some_to (Some n) to h in version-takes text n g (subst IsVersion (sym same) is) ∙ ap to_text same

to-free : (stop : ℕ) (to : Option ℕ) → stop < 45 → IsVersion to → IsFree stop (to_text to)
to-free stop None low is = (ne_eqb 45 stop (λ e. absurd (omega (arith, low, e))), tt)
to-free stop (Some n) low is = digits-free stop (decimal n) (omega (arith, low)) (digits_own n (omega arith))

-- ---- the line

joined : (id from to row : List ℕ) → id ++ 32 ∷ (from ++ 32 ∷ (to ++ 32 ∷ (row ++ []))) ≡ id ++ 32 ∷ (from ++ 32 ∷ (to ++ 32 ∷ row))
joined id from to row = ap (λ (x : List ℕ). id ++ 32 ∷ (from ++ 32 ∷ (to ++ 32 ∷ x))) (append-nil row)

abbrev parts_in : Span → RowLine
parts_in span = record { id = identity_text span.id; from = span.from; to = span.to; cells = row_text span.row }

row_line-again : (span : Span) → HasForm span → row_line_of (span_text span) ≡ Some (parts_in span)
unfolding row_line_of
row_line-again span is =
    let one = cut-again 32 (identity_text span.id) (decimal span.from ++ 32 ∷ (to_text span.to ++ 32 ∷ row_text span.row)) (identity-free 32 span.id (lit< tt) is.identity) in
    let two = cut-again 32 (decimal span.from) (to_text span.to ++ 32 ∷ row_text span.row) (digits-free 32 (decimal span.from) (lit< tt) (digits_own span.from (omega (arith, is.from)))) in
    let three = cut-again 32 (to_text span.to) (row_text span.row) (to-free 32 span.to (lit< tt) is.to) in
    rw (joined (identity_text span.id) (decimal span.from) (to_text span.to) (row_text span.row), one, two, three, version-again span.from (omega (arith, is.from)), to-again span.to is.to) refl

pub span-again : (span : Span) → HasForm span → span_of (span_text span) ≡ Some span
span-again span is =
    ap (option_and_then span_in) (row_line-again span is)
    ∙ rw (whole-again span.id is.identity, cells-again span.row is.some is.cells) refl

some_line : (x y : RowLine) → Some x ≡ Some y → x ≡ y
some_line x y e = cc

record TakesLine (text : List ℕ) (line : RowLine) : Type 0 where
  from : List ℕ
  to : List ℕ
  is : text ≡ line.id ++ 32 ∷ (from ++ 32 ∷ (to ++ 32 ∷ line.cells))
  from_is : version_of from ≡ Some line.from
  to_is : to_of to ≡ Some line.to

row_line-takes : (text : List ℕ) (line : RowLine) → row_line_of text ≡ Some line → TakesLine text line
unfolding row_line_of
row_line-takes text line e =
    let a = bind _ (cut_at 32 text) line e in
    let b = bind _ (cut_at 32 a.0.1) line a.2 in
    let c = bind _ (cut_at 32 b.0.1) line b.2 in
    let from = bind _ (version_of b.0.0) line c.2 in
    let to = bind _ (to_of c.0.0) line from.2 in
    let whole : text ≡ a.0.0 ++ 32 ∷ (b.0.0 ++ 32 ∷ (c.0.0 ++ 32 ∷ c.0.1)) =
    cut-takes 32 text a.0.0 a.0.1 a.1
    ∙ ap (λ (x : List ℕ). a.0.0 ++ 32 ∷ x) (cut-takes 32 a.0.1 b.0.0 b.0.1 b.1)
    ∙ ap (λ (x : List ℕ). a.0.0 ++ 32 ∷ (b.0.0 ++ 32 ∷ x)) (cut-takes 32 b.0.1 c.0.0 c.0.1 c.1) in
    let made : TakesLine text (record { id = a.0.0; from = from.0; to = to.0; cells = c.0.1 }) = record { from = b.0.0; to = c.0.0; is = whole; from_is = from.1; to_is = to.1 } in
    subst (TakesLine text) (some_line _ line to.2) made

record TakesParts (line : RowLine) (span : Span) : Type 0 where
  id : identity_of line.id ≡ Some span.id
  from : line.from ≡ span.from
  to : line.to ≡ span.to
  row : cells_of line.cells ≡ Some span.row

span_in-takes : (line : RowLine) (span : Span) → span_in line ≡ Some span → TakesParts line span
span_in-takes line span e =
    let id = bind _ (identity_of line.id) span e in
    go id.0 id.1 (cells_of line.cells) refl id.2
  where
    go : (id : Identity) → identity_of line.id ≡ Some id → (cells : Option (List Cell)) → cells_of line.cells ≡ cells
        → option_map (λ (row : List Cell). record { id = id; from = line.from; to = line.to; row = row }) cells ≡ Some span → TakesParts line span
    go id is None c f = absurd cc
    go id is (Some row) c f =
        let made : TakesParts line (record { id = id; from = line.from; to = line.to; row = row }) = record { id = is; from = refl; to = refl; row = c } in
        subst (TakesParts line) (some_span _ span f) made
      where
        some_span : (x y : Span) → Some x ≡ Some y → x ≡ y
        some_span x y e = cc

pub record TakesSpan (text : List ℕ) (span : Span) : Type 0 where
  pub is : text ≡ span_text span
  pub form : HasForm span

pub span-takes : (text : List ℕ) (span : Span) → span_of text ≡ Some span → span.from < beyond_versions → IsVersion span.to → TakesSpan text span
span-takes text span e from to =
    let l = bind span_in (row_line_of text) span e in
    let t = row_line-takes text l.0 l.1 in
    let p = span_in-takes l.0 span l.2 in
    let id = whole-takes l.0.id span.id p.id in
    let row = cells-takes l.0.cells span.row p.row in
    let first : t.from ≡ decimal span.from = version-takes t.from span.from (t.from_is ∙ ap (λ (x : ℕ). Some x) p.from) from in
    let last : t.to ≡ to_text span.to = to-takes t.to span.to (t.to_is ∙ ap (λ (x : Option ℕ). Some x) p.to) to in
    record {
      is = t.is ∙ (λ i. id.is i ++ 32 ∷ (first i ++ 32 ∷ (last i ++ 32 ∷ row.is i))) ∙ sym (joined (identity_text span.id) (decimal span.from) (to_text span.to) (row_text span.row));
      form = record { identity = id.valid; from = from; to = to; some = row.some; cells = row.readable };
    }

-- ---- row lines with versions of any length

to-numeral : (text : List ℕ) (to : Option ℕ) → to_of text ≡ Some to → (is_numeral text ≡ true) ⊎ (text ≡ codes "-")
to-numeral text to e = elim (cases_Bool (bytes_eq text (codes "-"))) [
  | inl same ↦ inr ((bytes_eq-Decides text (codes "-")).0 same)
  | inr other ↦ let f = rw other at e in inl (go (version_of text) refl f)
]
  where
    go : (o : Option ℕ) → version_of text ≡ o → option_map (λ (n : ℕ). Some n) o ≡ Some to → is_numeral text ≡ true
    go None g h = absurd (none_to to h)
    go (Some n) g h = version-numeral text n g

-- a row line that is read has this form
pub span-line : (text : List ℕ) (span : Span) → span_of text ≡ Some span → IsRowLine text span.row
span-line text span e =
    let l = bind span_in (row_line_of text) span e in
    let t = row_line-takes text l.0 l.1 in
    let p = span_in-takes l.0 span l.2 in
    let id = whole-takes l.0.id span.id p.id in
    let row = cells-takes l.0.cells span.row p.row in
    record {
      id = span.id;
      from = t.from;
      to = t.to;
      is = t.is ∙ (λ i. id.is i ++ 32 ∷ (t.from ++ 32 ∷ (t.to ++ 32 ∷ row.is i))) ∙ sym (joined (identity_text span.id) t.from t.to (row_text span.row));
      identity = id.valid;
      begins = version-numeral t.from l.0.from t.from_is;
      ends = to-numeral t.to l.0.to t.to_is;
      some = row.some;
      cells = row.readable;
    }

to-read : (text : List ℕ) → (is_numeral text ≡ true) ⊎ (text ≡ codes "-") → (to : Option ℕ) × (to_of text ≡ Some to)
to-read text (inr hyphen) = (None, subst (λ (bytes : List ℕ). to_of bytes ≡ Some None) (sym hyphen) refl)
to-read text (inl digits) = by (bytes_eq text (codes "-")) refl
  where
    by : (b : Bool) → bytes_eq text (codes "-") ≡ b → (to : Option ℕ) × (cond b (Some None) (option_map (λ (n : ℕ). Some n) (version_of text)) ≡ Some to)
    by true same = (None, refl)
    by false other = let n = numeral-version text digits in (Some n.0, ap (option_map (λ (n : ℕ). Some n)) n.1)

to_free : (text : List ℕ) → (is_numeral text ≡ true) ⊎ (text ≡ codes "-") → IsFree 32 text
to_free text (inr hyphen) = subst (IsFree 32) (sym hyphen) (refl, tt)
to_free text (inl digits) = digits-free 32 text (lit< tt) (numeral-digits text digits)

row_line-read : (id : Identity) (from to : List ℕ) (row : List Cell) (begin : ℕ) (end : Option ℕ) → IsReadable id → IsFree 32 from → IsFree 32 to → version_of from ≡ Some begin → to_of to ≡ Some end
    → row_line_of (identity_text id ++ 32 ∷ (from ++ 32 ∷ (to ++ 32 ∷ row_text row))) ≡ Some (record { id = identity_text id; from = begin; to = end; cells = row_text row })
unfolding row_line_of
row_line-read id from to row begin end readable first second version stop =
    let one = cut-again 32 (identity_text id) (from ++ 32 ∷ (to ++ 32 ∷ row_text row)) (identity-free 32 id (lit< tt) readable) in
    let two = cut-again 32 from (to ++ 32 ∷ row_text row) first in
    let three = cut-again 32 to (row_text row) second in
    rw (one, two, three, version, stop) refl

pub record ReadsRow (text : List ℕ) (row : List Cell) : Type 0 where
  pub span : Span
  pub is : span_of text ≡ Some span
  pub cells : span.row ≡ row

-- and a text of this form is read
pub line-span : (text : List ℕ) (row : List Cell) → IsRowLine text row → ReadsRow text row
line-span text row line =
    let begin = numeral-version line.from line.begins in
    let end = to-read line.to line.ends in
    let whole : text ≡ identity_text line.id ++ 32 ∷ (line.from ++ 32 ∷ (line.to ++ 32 ∷ row_text row)) = line.is ∙ joined (identity_text line.id) line.from line.to (row_text row) in
    let parts = row_line-read line.id line.from line.to row begin.0 end.0 line.identity (digits-free 32 line.from (lit< tt) (numeral-digits line.from line.begins)) (to_free line.to line.ends) begin.1 end.1 in
    record {
      span = record { id = line.id; from = begin.0; to = end.0; row = row };
      is = ap span_of whole ∙ ap (option_and_then span_in) parts ∙ rw (whole-again line.id line.identity, cells-again row line.some line.cells) refl;
      cells = refl;
    }
