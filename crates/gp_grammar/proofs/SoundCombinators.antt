-- Soundness of options, words, lists and closed phrases.
use Rattle.gp_grammar.proofs.Prelude.{◌≡◌, ℕ, zero, suc, Bool, true, false, cond, List, [], ◌∷◌, ◌++◌, length, Option, Some, None, Ok, refl, sym, ap, subst, append_assoc, append-nil, bytes_eq-Decides, Symbol, Lexeme, Sign, Word, Number, Big, Text, Lexemes, Bytes, IsList, comma, Closed, Outcome, Parser, ◌>>=◌, by_option, strip, where_next, fail, accept, is_word, strip_word, where_word, expect_word, push, in_brackets, closed}
use Rattle.gp_lexer.specs.declared.lexeme.Symbol.TheVariants as s
use Rattle.gp_grammar.specs.CommandGrammar as g
use Rattle.gp_grammar.specs.CommandParsing.{repeat, many, separated}
use Rattle.gp_grammar.proofs.Soundness.{Sentence, Sound, sentence, sound-ok, sound-err, sound-at, sound-shift, sound-bind, sound-phrase, expect-sound, strip-split, if-some}

option-sound : {B : Type 0} (symbol : Symbol) (Q : Lexemes → B → Type 0) (some none : Parser B) (ts : Lexemes) (o : Option Lexemes) → strip symbol ts ≡ o
    → ((rest : Lexemes) → Sound (λ b y. Q (Sign symbol ∷ b) y) rest (some rest)) → Sound Q ts (none ts) → Sound Q ts (by_option o (none ts) some)
option-sound symbol Q some none ts None e k n = n
option-sound symbol Q some none ts (Some rest) e k n =
    sound-at Q ts (Sign symbol ∷ rest) (some rest) (strip-split symbol ts rest e) (sound-shift Q (Sign symbol ∷ []) rest (some rest) (k rest))

pub next-sound : {B : Type 0} (symbol : Symbol) (Q : Lexemes → B → Type 0) (some none : Parser B) (ts : Lexemes)
    → ((rest : Lexemes) → Sound (λ b y. Q (Sign symbol ∷ b) y) rest (some rest)) → Sound Q ts (none ts) → Sound Q ts (where_next symbol some none ts)
next-sound symbol Q some none ts k n = option-sound symbol Q some none ts (strip symbol ts) refl k n

-- ---- words

same-word : (text : Bytes) (t : Lexeme) → is_word text t ≡ true → t ≡ Word text
same-word text (Word word) h = ap (λ z. Word z) (sym ((bytes_eq-Decides text word).0 h))
same-word text (Sign symbol) h = cc
same-word text (Number n) h = cc
same-word text Big h = cc
same-word text (Text bytes) h = cc

word-split : (text : Bytes) (ts rest : Lexemes) → strip_word text ts ≡ Some rest → ts ≡ Word text ∷ rest
word-split text [] rest h = cc
word-split text (t ∷ ts) rest h =
    let w : (is_word text t ≡ true) × (ts ≡ rest) = if-some (is_word text t) ts rest h in
    let a : t ≡ Word text = same-word text t w.0 in
    let b : ts ≡ rest = w.1 in
    cc

word_option-sound : {B : Type 0} (text : Bytes) (Q : Lexemes → B → Type 0) (some none : Parser B) (ts : Lexemes) (o : Option Lexemes) → strip_word text ts ≡ o
    → ((rest : Lexemes) → Sound (λ b y. Q (Word text ∷ b) y) rest (some rest)) → Sound Q ts (none ts) → Sound Q ts (by_option o (none ts) some)
word_option-sound text Q some none ts None e k n = n
word_option-sound text Q some none ts (Some rest) e k n =
    sound-at Q ts (Word text ∷ rest) (some rest) (word-split text ts rest e) (sound-shift Q (Word text ∷ []) rest (some rest) (k rest))

pub word-sound : {B : Type 0} (text : Bytes) (Q : Lexemes → B → Type 0) (some none : Parser B) (ts : Lexemes)
    → ((rest : Lexemes) → Sound (λ b y. Q (Word text ∷ b) y) rest (some rest)) → Sound Q ts (none ts) → Sound Q ts (where_word text some none ts)
word-sound text Q some none ts k n = word_option-sound text Q some none ts (strip_word text ts) refl k n

pub expect_word-sound : {B : Type 0} (text : Bytes) (Q : Lexemes → B → Type 0) (some : Parser B) (ts : Lexemes)
    → ((rest : Lexemes) → Sound (λ b y. Q (Word text ∷ b) y) rest (some rest)) → Sound Q ts (expect_word text some ts)
expect_word-sound text Q some ts k =
    let w : Sentence (λ b y. Q (Word text ∷ b) y) = sentence (λ b y. Q (Word text ∷ b) y) [] (some []) (k []) in
    word-sound text Q some fail ts k (sound-err Q ts (record { lexemes = Word text ∷ w.lexemes; tree = w.tree; is = w.is }))

-- ---- lists, brackets and semicolons

-- a list whose items begin with `symbol`, but for the first
module _ {A : Type 0} (separator : Lexemes) (Is : Lexemes → A → Type 0) (symbol : Symbol) (Next : Lexemes → A → Type 0)
    (extend : (prefix b : Lexemes) (xs : List A) (x : A) → IsList separator Is prefix xs → Next b x → IsList separator Is (prefix ++ (Sign symbol ∷ b)) (xs ++ x ∷ []))
    (item : Parser A) (sound : (ts : Lexemes) → Sound Next ts (item ts)) where
  abbrev Behind : Lexemes → Lexemes → List A → Type 0
  Behind prefix b ys = IsList separator Is (prefix ++ b) ys

  repeat_step : (prefix : Lexemes) (found : List A) → IsList separator Is prefix found → (next : List A → Parser (List A))
      → ((prefix : Lexemes) (found : List A) (ts : Lexemes) → IsList separator Is prefix found → Sound (Behind prefix) ts (next found ts))
      → (ts : Lexemes) (o : Option Lexemes) → strip symbol ts ≡ o
      → Sound (Behind prefix) ts (by_option o (Ok (found, ts)) (λ rest. item rest >>= (λ r. next (push found r.0) r.1)))
  repeat_step prefix found is next k ts None e = sound-ok (Behind prefix) ts found (rw append-nil is)
  repeat_step prefix found is next k ts (Some rest) e =
      let f : A × Lexemes → Outcome (List A × Lexemes) = λ r. next (push found r.0) r.1 in
      sound-at (Behind prefix) ts (Sign symbol ∷ rest) (item rest >>= f) (strip-split symbol ts rest e)
      (sound-shift (Behind prefix) (Sign symbol ∷ []) rest (item rest >>= f)
      (sound-bind Next (λ b ys. IsList separator Is (prefix ++ (Sign symbol ∷ b)) ys) rest (item rest) f (sound rest)
      (λ used rest2 x h. sound-phrase (Behind (prefix ++ (Sign symbol ∷ used))) (λ b ys. IsList separator Is (prefix ++ (Sign symbol ∷ (used ++ b))) ys) rest2 (f (x, rest2))
      (λ b ys i. let P : Lexemes → Type 0 = λ z. IsList separator Is z ys in subst P (append_assoc prefix (Sign symbol ∷ used) b) i)
      (k (prefix ++ (Sign symbol ∷ used)) (push found x) rest2 (extend prefix used found x is h)))))

  repeat-sound : (n : ℕ) (prefix : Lexemes) (found : List A) (ts : Lexemes) → IsList separator Is prefix found
      → Sound (Behind prefix) ts (repeat (strip symbol) item push n found ts)
  unfolding repeat
  repeat-sound zero prefix found ts is = sound-ok (Behind prefix) ts found (rw append-nil is)
  repeat-sound (suc n) prefix found ts is =
      repeat_step prefix found is (repeat (strip symbol) item push n) (λ prefix found ts is. repeat-sound n prefix found ts is) ts (strip symbol ts) refl

  pub many-sound : (prefix : Lexemes) (found : List A) (ts : Lexemes) → IsList separator Is prefix found → Sound (Behind prefix) ts (many (strip symbol) item push found ts)
  unfolding many
  many-sound prefix found ts is = repeat-sound (length ts) prefix found ts is

  -- the first item, and then the others
  pub list-sound : (first : Parser A) → ((ts : Lexemes) → Sound Is ts (first ts)) → (ts : Lexemes)
      → Sound (IsList separator Is) ts (first ts >>= (λ r. many (strip symbol) item push (r.0 ∷ []) r.1))
  list-sound first w ts = sound-bind Is (IsList separator Is) ts (first ts) (λ r. many (strip symbol) item push (r.0 ∷ []) r.1) (w ts)
      (λ used rest x is. many-sound used (x ∷ []) rest (g.one used x is))

pub separated-sound : {A : Type 0} (Is : Lexemes → A → Type 0) (item : Parser A) → ((ts : Lexemes) → Sound Is ts (item ts)) → (ts : Lexemes)
    → Sound (IsList comma Is) ts (separated item ts)
unfolding separated
separated-sound Is item w ts = list-sound comma Is s.Comma Is (λ prefix b xs x i j. g.more prefix b xs x i j) item w item w ts

-- a phrase in brackets
pub in_brackets-sound : {A : Type 0} (P Q : Lexemes → A → Type 0) (p : Parser A) → ((a : Lexemes) (x : A) → P a x → Q (Sign s.Open ∷ (a ++ (Sign s.Close ∷ []))) x)
    → ((ts : Lexemes) → Sound P ts (p ts)) → (ts : Lexemes) → Sound Q ts (in_brackets p ts)
in_brackets-sound P Q p k w ts = expect-sound s.Open Q ts _ (λ ts1. sound-bind P (λ b y. Q (Sign s.Open ∷ b) y) ts1 (p ts1) _ (w ts1) (λ a ts2 x i.
    expect-sound s.Close (λ b y. Q (Sign s.Open ∷ (a ++ b)) y) ts2 (accept x) (λ ts3. sound-ok _ ts3 x (k a x i))))

-- a phrase and a semicolon or none
pub closed-sound : {A : Type 0} (Is : Lexemes → A → Type 0) (p : Parser A) → ((ts : Lexemes) → Sound Is ts (p ts)) → (ts : Lexemes) → Sound (Closed Is) ts (closed p ts)
closed-sound Is p w ts = sound-bind Is (Closed Is) ts (p ts) _ (w ts) (λ a ts1 x i.
    next-sound s.Semicolon (λ b y. Closed Is (a ++ b) y) (accept x) (accept x) ts1 (λ ts2. sound-ok _ ts2 x (g.semicolon a x i))
    (sound-ok (λ b y. Closed Is (a ++ b) y) ts1 x (rw append-nil (g.open_end a x i))))
