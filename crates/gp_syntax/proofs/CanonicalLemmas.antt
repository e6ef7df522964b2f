-- What is written lexeme by lexeme, part by part.
use Rattle.std.proofs.Common.{◌≡◌, ℕ, suc, ℤ, pos, negsuc, ◌+◌, ◌^◌, ◌<◌, ◌<ℤ◌, ◌≤ℤ◌, unsigned_abs, Bool, true, false, cond, eqb, List, [], ◌∷◌, ◌++◌, length, map, take, get_or, refl, ap, sym, ◌∙◌, append-nil, add-one, arith, codes}
use Rattle.std.proofs.lemmas.Int.{ints}
use Rattle.std.specs.Fmt.{digits}
use Rattle.std.proofs.Math.Seq.{take-suc}
use Rattle.std.proofs.lemmas.Grind.{flat_map-append}
use Rattle.std.specs.List.{flat_map}
use Rattle.std.proofs.lemmas.Bool.{eqb-true, false≢true}
use Rattle.gp_lexer.specs.declared.lexeme.Symbol.TheVariants as s
use Rattle.gp_lexer.specs.declared.lexeme.Lexeme.{Lexeme}
use Rattle.gp_lexer.specs.declared.lexeme.Lexeme.TheVariants.{Symbol as Sign, Number, Big}
use Rattle.gp_base.specs.declared.cell.Cell.TheVariants as cell
use Rattle.gp_lexer.specs.declared.gap.Gap.{Gap}
use Rattle.gp_lexer.specs.declared.gap.Gap.TheVariants.{Start, AfterComma, Joined, Spaced}
use Rattle.gp_lexer.specs.Layout.{Page, put, written}
use Rattle.gp_lexer.specs.Lexemes.{symbol_text}
use Rattle.gp_grammar.specs.Syntax.{Lexemes, begin}
use Rattle.gp_grammar.specs.Canonical.{joined_lexemes, number_lexemes, cell_lexemes, command_text}
use Rattle.gp_base.proofs.SmallLemmas.{flat_map-map}

pub written-append : (page : Page) (a b : Lexemes) → written page (a ++ b) ≡ written (written page a) b
unfolding written
written-append page [] b = refl
written-append page (t ∷ a) b = written-append (put page t) a b

pub written-cons : (page : Page) (t : Lexeme) (ts : Lexemes) → written page (t ∷ ts) ≡ written (put page t) ts
unfolding written
written-cons page t ts = refl

pub written-none : (page : Page) → written page [] ≡ page
unfolding written
written-none page = refl

pub ruleset writes = (written-append, written-cons, written-none)

-- the words of a BEGIN
pub begin-alone : (read_committed : Bool) → read_committed ≡ false → command_text (begin read_committed) ≡ codes "BEGIN"
unfolding written symbol_text
begin-alone true is = absurd (false≢true (sym is))
begin-alone false is = refl

pub begin-words : (read_committed : Bool) → read_committed ≡ true → command_text (begin read_committed) ≡ codes "BEGIN READ COMMITTED"
begin-words true is = refl
begin-words false is = absurd (false≢true is)

pub ruleset begins = (begin-alone, begin-words)

-- the greatest magnitude is spelled as a number
big-spelled : (text : List ℕ) (gap : Gap) → put (record { text = text; gap = gap }) Big ≡ put (record { text = text; gap = gap }) (Number 9223372036854775808)
unfolding digits
big-spelled text Start = refl
big-spelled text AfterComma = refl
big-spelled text Joined = refl
big-spelled text Spaced = refl

big-by : (page : Page) (n : ℕ) (b : Bool) → eqb n (2 ^ 63) ≡ b → put page (cond b Big (Number n)) ≡ put page (Number n)
big-by page n true e = let p : n ≡ 2 ^ 63 = eqb-true n (2 ^ 63) e in big-spelled page.text page.gap ∙ ap (λ (m : ℕ). put page (Number m)) (sym p)
big-by page n false e = refl

magnitude : (page : Page) (n : ℕ) → put page (cond (eqb n (2 ^ 63)) Big (Number n)) ≡ put page (Number n)
magnitude page n = big-by page n (eqb n (2 ^ 63)) refl

-- numbers of terms and of tuples, by their sign
pub number-negative : (page : Page) (z : ℤ) → z <ℤ pos 0
    → put (put page (Sign s.Minus)) (cond (eqb (unsigned_abs z) (2 ^ 63)) Big (Number (unsigned_abs z))) ≡ written page (number_lexemes z)
unfolding written
number-negative page (pos n) h = absurd (omega (arith, ints))
number-negative page (negsuc n) h = magnitude (put page (Sign s.Minus)) (suc n)

pub number-positive : (page : Page) (z : ℤ) → pos 0 ≤ℤ z
    → put page (cond (eqb (unsigned_abs z) (2 ^ 63)) Big (Number (unsigned_abs z))) ≡ written page (number_lexemes z)
unfolding written
number-positive page (pos n) h = magnitude page n
number-positive page (negsuc n) h = absurd (omega (arith, ints))

pub literal-negative : (page : Page) (z : ℤ) → z <ℤ pos 0
    → put (put page (Sign s.Minus)) (cond (eqb (unsigned_abs z) (2 ^ 63)) Big (Number (unsigned_abs z))) ≡ written page (cell_lexemes (cell.Int z))
unfolding written
literal-negative page (pos n) h = absurd (omega (arith, ints))
literal-negative page (negsuc n) h = refl

pub literal-positive : (page : Page) (z : ℤ) → pos 0 ≤ℤ z
    → put page (cond (eqb (unsigned_abs z) (2 ^ 63)) Big (Number (unsigned_abs z))) ≡ written page (cell_lexemes (cell.Int z))
unfolding written
literal-positive page (pos n) h = magnitude page n
literal-positive page (negsuc n) h = absurd (omega (arith, ints))

pub ruleset numbers = (number-negative, number-positive, literal-negative, literal-positive)

-- one more item of a list
pub others-step : {X : Type 0} (f : X → Lexemes) (separator : Lexemes) (xs : List X) (i : ℕ) (x : X) (p0 p1 p2 p3 : Page)
    → p1 ≡ written p0 (flat_map (λ y. separator ++ f y) (take i xs)) → p2 ≡ written p1 separator → p3 ≡ written p2 (f x) → i < length xs → x ≡ get_or xs i x
    → p3 ≡ written p0 (flat_map (λ y. separator ++ f y) (take (i + 1) xs))
others-step f separator xs i x p0 p1 p2 p3 a b c within at =
    let g : _ → Lexemes = λ y. separator ++ f y in
    let parts : flat_map g (take (i + 1) xs) ≡ flat_map g (take i xs) ++ (separator ++ f x) =
    ap (flat_map g) (rw add-one (take-suc xs i x within)) ∙ flat_map-append g (take i xs) (get_or xs i x ∷ []) ∙ ap (λ (y : _). flat_map g (take i xs) ++ (g y ++ [])) (sym at)
    ∙ ap (λ list. flat_map g (take i xs) ++ list) (append-nil (g x)) in
    c ∙ ap (λ p. written p (f x)) (b ∙ ap (λ p. written p separator) a)
    ∙ sym (ap (written p0) parts ∙ written-append p0 (flat_map g (take i xs)) (separator ++ f x) ∙ written-append (written p0 (flat_map g (take i xs))) separator (f x))

-- the pages of a CASE
choice-written : (page : Page) (a b c : Lexemes)
    → written page (Sign s.Case ∷ Sign s.When ∷ (a ++ (Sign s.Then ∷ (b ++ (Sign s.Else ∷ (c ++ (Sign s.End ∷ [])))))))
    ≡ put (written (put (written (put (written (written page (Sign s.Case ∷ Sign s.When ∷ [])) a) (Sign s.Then)) b) (Sign s.Else)) c) (Sign s.End)
unfolding written
choice-written page a b c =
    written-append (put (put page (Sign s.Case)) (Sign s.When)) a (Sign s.Then ∷ (b ++ (Sign s.Else ∷ (c ++ (Sign s.End ∷ [])))))
    ∙ written-append (put (written (put (put page (Sign s.Case)) (Sign s.When)) a) (Sign s.Then)) b (Sign s.Else ∷ (c ++ (Sign s.End ∷ [])))
    ∙ written-append (put (written (put (written (put (put page (Sign s.Case)) (Sign s.When)) a) (Sign s.Then)) b) (Sign s.Else)) c (Sign s.End ∷ [])

pub choice-pages : (p0 p1 p2 p3 p4 p5 p6 p7 : Page) (a b c : Lexemes) → p1 ≡ written p0 (Sign s.Case ∷ Sign s.When ∷ []) → p2 ≡ written p1 a → p3 ≡ put p2 (Sign s.Then) → p4 ≡ written p3 b
    → p5 ≡ put p4 (Sign s.Else) → p6 ≡ written p5 c → p7 ≡ put p6 (Sign s.End)
    → p7 ≡ written p0 (Sign s.Case ∷ Sign s.When ∷ (a ++ (Sign s.Then ∷ (b ++ (Sign s.Else ∷ (c ++ (Sign s.End ∷ [])))))))
choice-pages p0 p1 p2 p3 p4 p5 p6 p7 a b c e1 e2 e3 e4 e5 e6 e7 =
    e7 ∙ ap (λ p. put p (Sign s.End)) (e6 ∙ ap (λ p. written p c) (e5 ∙ ap (λ p. put p (Sign s.Else)) (e4 ∙ ap (λ p. written p b) (e3 ∙ ap (λ p. put p (Sign s.Then)) (e2 ∙ ap (λ p. written p a) e1)))))
    ∙ sym (choice-written p0 a b c)

-- lists of viewed items

pub joined-map : {X A : Type 0} (separator : Lexemes) (lexemes : A → Lexemes) (view : X → A) (xs : List X)
    → joined_lexemes separator lexemes (map view xs) ≡ joined_lexemes separator (λ x. lexemes (view x)) xs
joined-map separator lexemes view [] = refl
joined-map separator lexemes view (x ∷ xs) = ap (λ list. lexemes (view x) ++ list) (flat_map-map (λ y. separator ++ lexemes y) view xs)

pub ruleset lists = (written-append, written-cons, written-none, joined-map)
