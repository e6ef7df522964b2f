-- A log line is read as what it was written from, and only its text is. So are the lines that announce the lines of the log and of a table.
use Rattle.std.proofs.Common.{◌≡◌, ◌≢◌, ℕ, ◌≤◌, false, cond, eqb, ◌||◌, List, [], ◌∷◌, ◌++◌, Option, Some, None, option_and_then, refl, sym, ap, subst, ◌∙◌, arith, inl, inr, codes, lit<}
use Rattle.std.specs.Fmt.{decimal}
use Rattle.std.proofs.lemmas.Bool.{cases_Bool, eqb-false, ne_eqb}
use Rattle.std.proofs.lemmas.List.{append-nil}
use Rattle.gp_grammar.specs.declared.limits.TheConstants.{MAX_SESSION}
use Rattle.gp_base.specs.declared.limit.TheConstants.{MAX_SPANS}
use Rattle.gp_log.specs.declared.limit.TheConstants.{MAX_LINE, MAX_ENTRIES}
use Rattle.gp_dumpline.specs.Numbers.{number_up_to, cut_at, behind_words}
use Rattle.gp_dumpline.specs.Forms.{LogLine, count_of, log_line_of, section_of}
use Rattle.gp_dumpline.specs.Texts.{count_text, log_line_text, section_text}
use Rattle.gp_dumpline.proofs.NumberLaws.{digits_own, up_to-again, up_to-takes}
use Rattle.gp_dumpline.proofs.PartLaws.{bind, cut-again, cut-takes, words-again, words-takes, digits-free}
use Rattle.gp_dumpline.proofs.LineBytes.{IsLine, line-append, line-nil, words-line, number-line}

-- ---- counts

pub count-again : (n : ℕ) → n ≤ MAX_ENTRIES → count_of (count_text n) ≡ Some n
count-again n few =
    ap (option_and_then (number_up_to MAX_ENTRIES)) (words-again (codes "log ") (decimal n ++ []))
    ∙ ap (number_up_to MAX_ENTRIES) (append-nil (decimal n))
    ∙ up_to-again MAX_ENTRIES n few (omega (arith, few))

pub count-takes : (text : List ℕ) (n : ℕ) → count_of text ≡ Some n → (text ≡ count_text n) × (n ≤ MAX_ENTRIES)
count-takes text n e =
    let digits = bind (number_up_to MAX_ENTRIES) (behind_words (codes "log ") text) n e in
    let t = up_to-takes MAX_ENTRIES digits.0 n (lit< tt) digits.2 in
    (words-takes (codes "log ") text digits.0 digits.1 ∙ ap (λ (x : List ℕ). codes "log " ++ x) (t.0 ∙ sym (append-nil (decimal n))), t.1)

pub count-line : (n : ℕ) → n ≤ MAX_ENTRIES → IsLine (count_text n)
count-line n few = words-line (codes "log ") _ refl (number-line n [] (omega (arith, few)) line-nil)

-- ---- sections

pub section-again : (name : List ℕ) (rows : ℕ) → rows ≤ MAX_SPANS → section_of name (section_text name rows) ≡ Some rows
section-again name rows few =
    ap (option_and_then named) (words-again (codes "table ") (name ++ (codes " " ++ (decimal rows ++ []))))
    ∙ ap (option_and_then spaced) (words-again name (codes " " ++ (decimal rows ++ [])))
    ∙ ap (option_and_then (number_up_to MAX_SPANS)) (words-again (codes " ") (decimal rows ++ []))
    ∙ ap (number_up_to MAX_SPANS) (append-nil (decimal rows))
    ∙ up_to-again MAX_SPANS rows few (omega (arith, few))
  where
    spaced : List ℕ → Option ℕ
    spaced rest = option_and_then (number_up_to MAX_SPANS) (behind_words (codes " ") rest)

    named : List ℕ → Option ℕ
    named rest = option_and_then spaced (behind_words name rest)

pub section-takes : (name text : List ℕ) (rows : ℕ) → section_of name text ≡ Some rows → (text ≡ section_text name rows) × (rows ≤ MAX_SPANS)
section-takes name text rows e =
    let named = bind _ (behind_words (codes "table ") text) rows e in
    let spaced = bind _ (behind_words name named.0) rows named.2 in
    let digits = bind (number_up_to MAX_SPANS) (behind_words (codes " ") spaced.0) rows spaced.2 in
    let t = up_to-takes MAX_SPANS digits.0 rows (lit< tt) digits.2 in
    let tail : spaced.0 ≡ codes " " ++ (decimal rows ++ []) = words-takes (codes " ") spaced.0 digits.0 digits.1 ∙ ap (λ (x : List ℕ). codes " " ++ x) (t.0 ∙ sym (append-nil (decimal rows))) in
    (words-takes (codes "table ") text named.0 named.1 ∙ ap (λ (x : List ℕ). codes "table " ++ x) (words-takes name named.0 spaced.0 spaced.1 ∙ ap (λ (x : List ℕ). name ++ x) tail), t.1)

pub section-line : (name : List ℕ) (rows : ℕ) → IsLine name → rows ≤ MAX_SPANS → IsLine (section_text name rows)
section-line name rows is few =
    words-line (codes "table ") _ refl (line-append name _ is (words-line (codes " ") _ refl (number-line rows [] (omega (arith, few)) line-nil)))

-- ---- log lines

-- the text, with the rest of each part to its right
abbrev line_text : LogLine → List ℕ
line_text l = decimal l.line ++ 32 ∷ ((115 ∷ decimal l.session) ++ 32 ∷ l.said)

text-is : (line session : ℕ) (said : List ℕ) → log_line_text line session said ≡ line_text (record { line = line; session = session; said = said })
text-is line session said = ap (λ (x : List ℕ). decimal line ++ 32 ∷ ((115 ∷ decimal session) ++ 32 ∷ x)) (append-nil said)

pub record IsLogLine (l : LogLine) : Type 0 where
  pub line : (1 ≤ l.line) × (l.line ≤ MAX_LINE)
  pub session : (1 ≤ l.session) × (l.session ≤ MAX_SESSION)

again : (l : LogLine) → IsLogLine l → log_line_of (line_text l) ≡ Some l
unfolding log_line_of
again l is =
    let one = cut-again 32 (decimal l.line) ((115 ∷ decimal l.session) ++ 32 ∷ l.said) (digits-free 32 (decimal l.line) (lit< tt) (digits_own l.line (omega (arith, is.line.1)))) in
    let two = cut-again 32 (115 ∷ decimal l.session) l.said (refl, digits-free 32 (decimal l.session) (lit< tt) (digits_own l.session (omega (arith, is.session.1)))) in
    let line : eqb l.line 0 ≡ false = ne_eqb l.line 0 (λ e. absurd (omega (arith, e, is.line.0))) in
    let session : eqb l.session 0 ≡ false = ne_eqb l.session 0 (λ e. absurd (omega (arith, e, is.session.0))) in
    rw (one, two, up_to-again MAX_LINE l.line is.line.1 (omega (arith, is.line.1)), up_to-again MAX_SESSION l.session is.session.1 (omega (arith, is.session.1)), line, session) refl

pub log_line-again : (line session : ℕ) (said : List ℕ) → 1 ≤ line → line ≤ MAX_LINE → 1 ≤ session → session ≤ MAX_SESSION
    → log_line_of (log_line_text line session said) ≡ Some (record { line = line; session = session; said = said })
log_line-again line session said a b c d =
    ap log_line_of (text-is line session said) ∙ again (record { line = line; session = session; said = said }) (record { line = (a, b); session = (c, d) })

abbrev some_line : LogLine → Option LogLine
some_line x = Some x

abbrev no_line : Option LogLine
no_line = None

line_is : (x y : LogLine) → some_line x ≡ Some y → x ≡ y
line_is x y e = cc

no_line-some : (y : LogLine) → no_line ≡ Some y → ⊥
no_line-some y e = cc

above-zero : (n : ℕ) → eqb n 0 ≡ false → 1 ≤ n
above-zero n h = let other : n ≢ 0 = eqb-false n 0 h in omega (arith, other)

zeros : (line session : ℕ) (x l : LogLine) → cond (eqb line 0 || eqb session 0) None (Some x) ≡ Some l → (1 ≤ line) × (1 ≤ session) × (x ≡ l)
zeros line session x l e = elim (cases_Bool (eqb line 0)) [
  | inl one ↦ let f = rw one at e in absurd (no_line-some l f)
  | inr one ↦ elim (cases_Bool (eqb session 0)) [
    | inl two ↦ let f = rw (one, two) at e in absurd (no_line-some l f)
    | inr two ↦ let f = rw (one, two) at e in (above-zero line one, above-zero session two, line_is x l f)
  ]
]

record TookLogLine (text : List ℕ) (l : LogLine) : Type 0 where
  is : text ≡ line_text l
  valid : IsLogLine l

log_line-took : (text : List ℕ) (l : LogLine) → log_line_of text ≡ Some l → TookLogLine text l
unfolding log_line_of
log_line-took text l e =
    let a = bind _ (cut_at 32 text) l e in
    let b = bind _ (cut_at 32 a.0.1) l a.2 in
    let line = bind _ (number_up_to MAX_LINE a.0.0) l b.2 in
    let digits = bind _ (behind_words (codes "s") b.0.0) l line.2 in
    let session = bind _ (number_up_to MAX_SESSION digits.0) l digits.2 in
    let z = zeros line.0 session.0 (record { line = line.0; session = session.0; said = b.0.1 }) l session.2 in
    let n = up_to-takes MAX_LINE a.0.0 line.0 (lit< tt) line.1 in
    let s = up_to-takes MAX_SESSION digits.0 session.0 (lit< tt) session.1 in
    let tail : a.0.1 ≡ (115 ∷ decimal session.0) ++ 32 ∷ b.0.1 = cut-takes 32 a.0.1 b.0.0 b.0.1 b.1 ∙ ap (λ (x : List ℕ). x ++ 32 ∷ b.0.1) (words-takes (codes "s") b.0.0 digits.0 digits.1 ∙ ap (λ (x : List ℕ). 115 ∷ x) s.0) in
    let whole : text ≡ decimal line.0 ++ 32 ∷ ((115 ∷ decimal session.0) ++ 32 ∷ b.0.1) = cut-takes 32 text a.0.0 a.0.1 a.1 ∙ ap (λ (x : List ℕ). x ++ 32 ∷ a.0.1) n.0 ∙ ap (λ (x : List ℕ). decimal line.0 ++ 32 ∷ x) tail in
    let made : TookLogLine text (record { line = line.0; session = session.0; said = b.0.1 }) = record { is = whole; valid = record { line = (z.0, n.1); session = (z.1, s.1) } } in
    subst (λ (x : LogLine). TookLogLine text x) z.2 made

pub record TakesLogLine (text : List ℕ) (l : LogLine) : Type 0 where
  pub is : text ≡ log_line_text l.line l.session l.said
  pub line : (1 ≤ l.line) × (l.line ≤ MAX_LINE)
  pub session : (1 ≤ l.session) × (l.session ≤ MAX_SESSION)

pub log_line-takes : (text : List ℕ) (l : LogLine) → log_line_of text ≡ Some l → TakesLogLine text l
log_line-takes text l e =
    let t = log_line-took text l e in
    record { is = t.is ∙ sym (text-is l.line l.session l.said); line = t.valid.line; session = t.valid.session }

pub log_line-line : (line session : ℕ) (said : List ℕ) → line ≤ MAX_LINE → session ≤ MAX_SESSION → IsLine said → IsLine (log_line_text line session said)
log_line-line line session said a b l =
    number-line line _ (omega (arith, a)) (words-line (codes " s") _ refl (number-line session _ (omega (arith, b)) (words-line (codes " ") _ refl (line-append said [] l line-nil))))
