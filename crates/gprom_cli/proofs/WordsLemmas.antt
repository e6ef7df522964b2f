-- What clap makes of two to four words that are no options, and that it refuses fewer and more.
use Rattle.std.proofs.Common.{◌≡◌, ℕ, Bool, true, false, ◌&&◌, ◌||◌, ◌==◌, List, [], ◌∷◌, Option, Some, None, Result, Ok, Err, IfOk, codes, refl, sym, ap, ap₂, ◌∙◌, subst}
use Rattle.std.specs.List.{list_all}
use Rattle.std.specs.Option.{option_map}
use Rattle.gp_base.specs.declared.error.NoMemory.{NoMemory}
use Rattle.clap.specs.Walk.{first_of}
use Rattle.clap.specs.Simple.{is_simple, matches_of}
use Rattle.clap.specs.Takes.{takes}
use Rattle.clap.specs.Faults.{fault_of, is_simple_and_free}
use Rattle.clap.specs.declared.error.kind.ErrorKind.{ErrorKind}
use Rattle.clap.specs.declared.error.kind.ErrorKind.TheVariants as kind
use Rattle.clap.proofs.OnLiterals.{clap_on_literals}
use Rattle.gprom_cli.specs.declared.words.Words as code
use Rattle.gprom_cli.specs.Args.{are_words, command_of_words, is_input, is_word}
use Rattle.gprom_cli.specs.Words.{Found, command_line, command_of_found, words_of, words_view}
use Rattle.std.proofs.lemmas.Bool.{not-true}
use Rattle.std.proofs.lemmas.Slice.Eq.{bytes_eq-Decides}
use Rattle.gp_base.proofs.SmallLemmas.{left_true, right_true}

pub line-simple : is_simple command_line ≡ true
unfolding clap_on_literals
line-simple = refl

pub line-free : is_simple_and_free command_line ≡ true
unfolding clap_on_literals
line-free = refl

-- ---- words as clap sees them

-- a word begins with another byte than a hyphen
data IsPlain : List ℕ → Type 0 where
  begins : (byte : ℕ) (bytes : List ℕ) → (byte == 45) ≡ false → IsPlain (byte ∷ bytes)

-- a word, or the standard input
data IsPositional : List ℕ → Type 0 where
  a_word : (byte : ℕ) (bytes : List ℕ) → (byte == 45) ≡ false → IsPositional (byte ∷ bytes)
  the_input : IsPositional (45 ∷ [])

-- what the parse gives for an argument
abbrev value_of : List ℕ → List (List ℕ) → Option (List ℕ)
value_of id words = first_of id (matches_of command_line words)

-- the words are taken, and these are their values
record AreTaken (words : List (List ℕ)) (command first : List ℕ) (second third : Option (List ℕ)) : Type 0 where
  taken : takes command_line words ≡ true
  command-is : value_of (codes "command") words ≡ Some command
  first-is : value_of (codes "first") words ≡ Some first
  second-is : value_of (codes "second") words ≡ second
  third-is : value_of (codes "third") words ≡ third

no-words : fault_of command_line [] ≡ kind.MissingRequiredArgument ∷ []
unfolding clap_on_literals
no-words = refl

one-word : (a : List ℕ) → IsPlain a → fault_of command_line (a ∷ []) ≡ kind.MissingRequiredArgument ∷ []
unfolding clap_on_literals
one-word _ (begins a xs ha) = rw (ha, ha) refl

two-words : (a b : List ℕ) → IsPlain a → IsPlain b → AreTaken (a ∷ b ∷ []) a b None None
unfolding clap_on_literals
two-words _ _ (begins a xs ha) (begins b ys hb) = record {
  taken = rw (ha, ha, hb, hb) refl;
  command-is = rw (ha, ha, hb, hb) refl;
  first-is = rw (ha, ha, hb, hb) refl;
  second-is = rw (ha, ha, hb, hb) refl;
  third-is = rw (ha, ha, hb, hb) refl;
}

three-words : (a b c : List ℕ) → IsPlain a → IsPlain b → IsPositional c → AreTaken (a ∷ b ∷ c ∷ []) a b (Some c) None
unfolding clap_on_literals
three-words _ _ _ (begins a xs ha) (begins b ys hb) (a_word c zs hc) = record {
  taken = rw (ha, ha, hb, hb, hc, hc) refl;
  command-is = rw (ha, ha, hb, hb, hc, hc) refl;
  first-is = rw (ha, ha, hb, hb, hc, hc) refl;
  second-is = rw (ha, ha, hb, hb, hc, hc) refl;
  third-is = rw (ha, ha, hb, hb, hc, hc) refl;
}
three-words _ _ _ (begins a xs ha) (begins b ys hb) the_input = record {
  taken = rw (ha, ha, hb, hb) refl;
  command-is = rw (ha, ha, hb, hb) refl;
  first-is = rw (ha, ha, hb, hb) refl;
  second-is = rw (ha, ha, hb, hb) refl;
  third-is = rw (ha, ha, hb, hb) refl;
}

four-words : (a b c d : List ℕ) → IsPlain a → IsPlain b → IsPositional c → IsPlain d → AreTaken (a ∷ b ∷ c ∷ d ∷ []) a b (Some c) (Some d)
unfolding clap_on_literals
four-words _ _ _ _ (begins a xs ha) (begins b ys hb) (a_word c zs hc) (begins d ws hd) = record {
  taken = rw (ha, ha, hb, hb, hc, hc, hd, hd) refl;
  command-is = rw (ha, ha, hb, hb, hc, hc, hd, hd) refl;
  first-is = rw (ha, ha, hb, hb, hc, hc, hd, hd) refl;
  second-is = rw (ha, ha, hb, hb, hc, hc, hd, hd) refl;
  third-is = rw (ha, ha, hb, hb, hc, hc, hd, hd) refl;
}
four-words _ _ _ _ (begins a xs ha) (begins b ys hb) the_input (begins d ws hd) = record {
  taken = rw (ha, ha, hb, hb, hd, hd) refl;
  command-is = rw (ha, ha, hb, hb, hd, hd) refl;
  first-is = rw (ha, ha, hb, hb, hd, hd) refl;
  second-is = rw (ha, ha, hb, hb, hd, hd) refl;
  third-is = rw (ha, ha, hb, hb, hd, hd) refl;
}

more-words : (a b c d e : List ℕ) → IsPlain a → IsPlain b → IsPositional c → IsPlain d → IsPlain e → (others : List (List ℕ))
    → fault_of command_line (a ∷ b ∷ c ∷ d ∷ e ∷ others) ≡ kind.UnknownArgument ∷ []
unfolding clap_on_literals
more-words _ _ _ _ _ (begins a xs ha) (begins b ys hb) (a_word c zs hc) (begins d ws hd) (begins e vs he) others = rw (ha, ha, hb, hb, hc, hc, hd, hd, he, he) refl
more-words _ _ _ _ _ (begins a xs ha) (begins b ys hb) the_input (begins d ws hd) (begins e vs he) others = rw (ha, ha, hb, hb, hd, hd, he, he) refl

-- no fault is not one fault
one-fault : (faults : List ErrorKind) (fault : ErrorKind) → faults ≡ fault ∷ [] → faults ≡ [] → ⊥
one-fault faults fault is none = let no : fault ∷ [] ≡ [] = sym is ∙ none in cc

-- ---- all words

plain : (bytes : List ℕ) → is_word bytes ≡ true → IsPlain bytes
plain [] is = cc
plain (byte ∷ bytes) is = begins byte bytes (not-true (byte == 45) is)

positional-as : (bytes : List ℕ) (as_word as_input : Bool) → is_word bytes ≡ as_word → is_input bytes ≡ as_input → as_word || as_input ≡ true → IsPositional bytes
positional-as [] true as_input is also either = cc
positional-as (byte ∷ bytes) true as_input is also either = a_word byte bytes (not-true (byte == 45) is)
positional-as bytes false true is also either = subst IsPositional (sym ((bytes_eq-Decides bytes (codes "-")).0 also)) the_input
positional-as bytes false false is also either = cc

positional : (bytes : List ℕ) → is_word bytes || is_input bytes ≡ true → IsPositional bytes
positional bytes either = positional-as bytes (is_word bytes) (is_input bytes) refl refl either

-- what the test says of the words, by their number
module _ (a b : List ℕ) where
  module _ (others : List (List ℕ)) (are : is_word a && (is_word b && list_all is_word others) ≡ true) where
    first-plain : IsPlain a
    first-plain = plain a (left_true (is_word a) (is_word b && list_all is_word others) are)

    second-plain : IsPlain b
    second-plain = plain b (left_true (is_word b) (list_all is_word others) (right_true (is_word a) (is_word b && list_all is_word others) are))

  module _ (c : List ℕ) (others : List (List ℕ)) (are : is_word a && (is_word b && ((is_word c || is_input c) && list_all is_word others)) ≡ true) where
    abbrev From : Bool
    From = (is_word c || is_input c) && list_all is_word others

    from-third : From ≡ true
    from-third = right_true (is_word b) From (right_true (is_word a) (is_word b && From) are)

    word-plain : IsPlain a
    word-plain = plain a (left_true (is_word a) (is_word b && From) are)

    next-plain : IsPlain b
    next-plain = plain b (left_true (is_word b) From (right_true (is_word a) (is_word b && From) are))

    third-positional : IsPositional c
    third-positional = positional c (left_true (is_word c || is_input c) (list_all is_word others) from-third)

    others-plain : list_all is_word others ≡ true
    others-plain = right_true (is_word c || is_input c) (list_all is_word others) from-third

head-plain : (word : List ℕ) (words : List (List ℕ)) → list_all is_word (word ∷ words) ≡ true → IsPlain word
head-plain word words are = plain word (left_true (is_word word) (list_all is_word words) are)

tail-plain : (word : List ℕ) (words : List (List ℕ)) → list_all is_word (word ∷ words) ≡ true → list_all is_word words ≡ true
tail-plain word words are = right_true (is_word word) (list_all is_word words) are

abbrev AreWords : List (List ℕ) → Type 0
AreWords words = are_words words ≡ true

of-two : (a b : List ℕ) → AreWords (a ∷ b ∷ []) → AreTaken (a ∷ b ∷ []) a b None None
of-two a b are = two-words a b (first-plain a b [] are) (second-plain a b [] are)

of-three : (a b c : List ℕ) → AreWords (a ∷ b ∷ c ∷ []) → AreTaken (a ∷ b ∷ c ∷ []) a b (Some c) None
of-three a b c are = three-words a b c (word-plain a b c [] are) (next-plain a b c [] are) (third-positional a b c [] are)

of-four : (a b c d : List ℕ) → AreWords (a ∷ b ∷ c ∷ d ∷ []) → AreTaken (a ∷ b ∷ c ∷ d ∷ []) a b (Some c) (Some d)
of-four a b c d are =
    four-words a b c d (word-plain a b c (d ∷ []) are) (next-plain a b c (d ∷ []) are) (third-positional a b c (d ∷ []) are) (head-plain d [] (others-plain a b c (d ∷ []) are))

of-more : (a b c d e : List ℕ) (words : List (List ℕ)) → AreWords (a ∷ b ∷ c ∷ d ∷ e ∷ words) → fault_of command_line (a ∷ b ∷ c ∷ d ∷ e ∷ words) ≡ kind.UnknownArgument ∷ []
of-more a b c d e words are =
    let others = others-plain a b c (d ∷ e ∷ words) are in
    more-words a b c d e (word-plain a b c (d ∷ e ∷ words) are) (next-plain a b c (d ∷ e ∷ words) are) (third-positional a b c (d ∷ e ∷ words) are)
    (head-plain d (e ∷ words) others) (head-plain e words (tail-plain d (e ∷ words) others)) words

-- what the values of a parse say of the words that it took
abbrev Reads : (List ℕ → Option (List ℕ)) → Option Found → Type 0
Reads given read = (word first : List ℕ) → given (codes "command") ≡ Some word → given (codes "first") ≡ Some first
    → read ≡ Some (word, first, given (codes "second"), given (codes "third"))

-- the words that were found, by the last two
abbrev found : List ℕ → List ℕ → Option (List ℕ) → Option (List ℕ) → Option Found
found word first second third = Some (word, first, second, third)

module _ (words : List (List ℕ)) (given : List ℕ → Option (List ℕ)) (read : Option Found) (values : (id : List ℕ) → given id ≡ value_of id words) (reads : Reads given read) where
  read-as : (word first : List ℕ) (second third : Option (List ℕ)) → AreTaken words word first second third → read ≡ found word first second third
  read-as word first second third are =
      reads word first (values (codes "command") ∙ are.command-is) (values (codes "first") ∙ are.first-is)
      ∙ ap₂ (found word first) (values (codes "second") ∙ are.second-is) (values (codes "third") ∙ are.third-is)

pub taken-words : (words : List (List ℕ)) (given : List ℕ → Option (List ℕ)) (read : Option Found) → AreWords words
    → fault_of command_line words ≡ [] → ((id : List ℕ) → given id ≡ value_of id words) → Reads given read → read ≡ words_of words
taken-words [] given read are none values reads = absurd (one-fault _ _ no-words none)
taken-words (a ∷ []) given read are none values reads = absurd (one-fault _ _ (one-word a (head-plain a [] are)) none)
taken-words (a ∷ b ∷ []) given read are none values reads = read-as (a ∷ b ∷ []) given read values reads a b None None (of-two a b are)
taken-words (a ∷ b ∷ c ∷ []) given read are none values reads = read-as (a ∷ b ∷ c ∷ []) given read values reads a b (Some c) None (of-three a b c are)
taken-words (a ∷ b ∷ c ∷ d ∷ []) given read are none values reads = read-as (a ∷ b ∷ c ∷ d ∷ []) given read values reads a b (Some c) (Some d) (of-four a b c d are)
taken-words (a ∷ b ∷ c ∷ d ∷ e ∷ words) given read are none values reads = absurd (one-fault _ _ (of-more a b c d e words are) none)

-- words that are not taken are not two to four
refused-words : (words : List (List ℕ)) → AreWords words → (takes command_line words ≡ true → ⊥) → words_of words ≡ None
refused-words [] are refuses = refl
refused-words (a ∷ []) are refuses = refl
refused-words (a ∷ b ∷ []) are refuses = absurd (refuses (of-two a b are).taken)
refused-words (a ∷ b ∷ c ∷ []) are refuses = absurd (refuses (of-three a b c are).taken)
refused-words (a ∷ b ∷ c ∷ d ∷ []) are refuses = absurd (refuses (of-four a b c d are).taken)
refused-words (a ∷ b ∷ c ∷ d ∷ e ∷ words) are refuses = refl

-- what is returned at a refusal that is not for want of memory
pub refused-result : (words : List (List ℕ)) (result : Result (Option code.Words) NoMemory) → AreWords words → IfOk result (λ read. read ≡ None)
    → (takes command_line words ≡ true → IfOk result (λ read. ⊥)) → IfOk result (λ read. option_map words_view read ≡ words_of words)
refused-result words (Err error) are none memory = tt
refused-result words (Ok read) are none memory = ap (option_map words_view) none ∙ sym (refused-words words are (λ takes. memory takes))

-- ---- the command of words

pub words_command : (words : List (List ℕ)) → command_of_found (words_of words) ≡ command_of_words words
words_command [] = refl
words_command (word ∷ []) = refl
words_command (word ∷ first ∷ []) = refl
words_command (word ∷ first ∷ second ∷ []) = refl
words_command (word ∷ first ∷ second ∷ third ∷ []) = refl
words_command (word ∷ first ∷ second ∷ third ∷ other ∷ others) = refl
