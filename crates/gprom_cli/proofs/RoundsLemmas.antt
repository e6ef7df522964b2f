-- The number of rounds that a word writes.
use Rattle.std.proofs.Common.{◌≡◌, ℕ, ◌^◌, ◌<◌, ◌≤◌, ◌≢◌, Bool, true, false, cond, ◌&&◌, ◌==◌, List, [], ◌∷◌, length, Option, Some, None, Result, Ok, Err, refl, sym, ap, ◌∙◌, subst, arith, nat_le, nat_lt, codes}
use Rattle.std.specs.Prelude.{IfSome, slice_index}
use Rattle.std.specs.Option.{option_map}
use Rattle.std.specs.Result.{OkIff}
use Rattle.std.specs.Char.{digit_value, is_ascii_digit}
use Rattle.std.specs.Str.{all_ascii_digits, bytes_eq}
use Rattle.std.specs.Str.Parse.{AllDigits, ParsesUnsigned, digits_value}
use Rattle.std.proofs.lemmas.Bool.{ne_eqb}
use Rattle.std.proofs.lemmas.Bool.Decides.{nat_tests}
use Rattle.std.proofs.lemmas.Str.Parse.{digit_from_value}
use Rattle.gp_grammar.specs.CommandGrammar.{is_number_without_zero}
use Rattle.gp_syntax.proofs.NameLemmas.{number-digits}
use Rattle.gp_ask.specs.declared.format.Format.{Format}
use Rattle.gp_ask.specs.declared.format.Format.TheVariants.{Named}
use Rattle.gprom_cli.specs.declared.args.Command as code
use Rattle.gprom_cli.specs.declared.args.Command.TheVariants as command
use Rattle.gprom_cli.specs.declared.generated.TheConstants.{MAX_ROUNDS}
use Rattle.gprom_cli.specs.Args.{Run, Ask, Generate, Load, Help, Version, are_two_names, are_words, asks_help, asks_version, command_of, command_of_words, format_of, is_word, rounds_of, table_name}
use Rattle.gprom_cli.specs.Views.{HasFewRounds, command_view}

-- ---- reading

digit-is : (d : ℕ) → digit_value d < 10 → is_ascii_digit d ≡ true
digit-is d below = let range = digit_from_value d below in grind (arith, nat_tests)

digits-are : (ds : List ℕ) → AllDigits 10 ds → all_ascii_digits ds ≡ true
digits-are [] all = refl
digits-are (d ∷ ds) all = rw (digit-is d all.0, digits-are ds all.1) refl

abbrev within : ℕ → Option ℕ
within number = cond (nat_le number MAX_ROUNDS) (Some number) None

-- a text that begins with a byte other than a zero and a plus sign
module _ (d : ℕ) (ds : List ℕ) (zero : (d == 48) ≡ false) (plus : (d == 43) ≡ false) where
  abbrev value : ℕ
  value = digits_value 10 (d ∷ ds)

  read-plain : {E : Type 0} (r : Result ℕ E) → ParsesUnsigned 32 10 (d ∷ ds) r → OkIff r (((0 < length (d ∷ ds)) × AllDigits 10 (d ∷ ds)) × (value < 2 ^ 32)) value
  read-plain r parses = rw plus at parses

  number-is : AllDigits 10 (d ∷ ds) → is_number_without_zero (d ∷ ds) ≡ true
  number-is all =
      let digits : all_ascii_digits (d ∷ ds) ≡ true = digits-are (d ∷ ds) all in
      let range = digit_from_value d all.0 in
      let above : nat_lt 48 d ≡ true = grind (arith, nat_tests) in
      rw (digits, above) refl

  pub read-some : {E : Type 0} (n : ℕ) (r : Result ℕ E) → r ≡ Ok n → ParsesUnsigned 32 10 (d ∷ ds) r → within n ≡ rounds_of (d ∷ ds)
  read-some n r is parses =
      let ok : (((0 < length (d ∷ ds)) × AllDigits 10 (d ∷ ds)) × (value < 2 ^ 32)) × (n ≡ value) = subst (λ (result : Result ℕ _). OkIff result (((0 < length (d ∷ ds)) × AllDigits 10 (d ∷ ds)) × (value < 2 ^ 32)) value) is (read-plain r parses) in
      ap within ok.1 ∙ sym (rw (number-is ok.0.0.1) refl)

  unread : (number few : Bool) → is_number_without_zero (d ∷ ds) ≡ number → nat_le value MAX_ROUNDS ≡ few → (((0 < length (d ∷ ds)) × AllDigits 10 (d ∷ ds)) × (value < 2 ^ 32) → ⊥) → cond (number && few) (Some value) None ≡ None
  unread true true is_number is_few refuses = absurd (refuses ((omega arith, number-digits (d ∷ ds) is_number), grind (arith, nat_tests)))
  unread true false is_number is_few refuses = refl
  unread false few is_number is_few refuses = refl

  pub read-none : {E : Type 0} (e : E) (r : Result ℕ E) → r ≡ Err e → ParsesUnsigned 32 10 (d ∷ ds) r → rounds_of (d ∷ ds) ≡ None
  read-none e r is parses =
      let refuses : ((0 < length (d ∷ ds)) × AllDigits 10 (d ∷ ds)) × (value < 2 ^ 32) → ⊥ = subst (λ (result : Result ℕ _). OkIff result (((0 < length (d ∷ ds)) × AllDigits 10 (d ∷ ds)) × (value < 2 ^ 32)) value) is (read-plain r parses) in
      unread (is_number_without_zero (d ∷ ds)) (nat_le value MAX_ROUNDS) refl refl refuses

within-some : (n : ℕ) → nat_le n MAX_ROUNDS ≡ true → Some n ≡ within n
within-some n few = sym (rw few refl)

module _ {E : Type 0} (word : List ℕ) (r : Result ℕ E) (some : 1 ≤ length word) (zero : slice_index word 0 ≢ 48) (plus : slice_index word 0 ≢ 43) (parses : ParsesUnsigned 32 10 word r) where
  pub word-some : (n : ℕ) → r ≡ Ok n → nat_le n MAX_ROUNDS ≡ true → Some n ≡ rounds_of word
  word-some n is few = by_cases word some zero plus parses
    where
      by_cases : (other : List ℕ) → 1 ≤ length other → slice_index other 0 ≢ 48 → slice_index other 0 ≢ 43 → ParsesUnsigned 32 10 other r → Some n ≡ rounds_of other
      by_cases [] some zero plus parses = absurd (omega (arith, some))
      by_cases (d ∷ ds) some zero plus parses = within-some n few ∙ read-some d ds (ne_eqb d 48 zero) (ne_eqb d 43 plus) n r is parses

  pub word-none : (e : E) → r ≡ Err e → None ≡ rounds_of word
  word-none e is = by_cases word some zero plus parses
    where
      by_cases : (other : List ℕ) → 1 ≤ length other → slice_index other 0 ≢ 48 → slice_index other 0 ≢ 43 → ParsesUnsigned 32 10 other r → None ≡ rounds_of other
      by_cases [] some zero plus parses = absurd (omega (arith, some))
      by_cases (d ∷ ds) some zero plus parses = sym (read-none d ds (ne_eqb d 48 zero) (ne_eqb d 43 plus) e r is parses)

-- ---- the rounds of a command

few-within : (v n : ℕ) (few : Bool) → nat_le v MAX_ROUNDS ≡ few → cond few (Some v) None ≡ Some n → n ≤ MAX_ROUNDS
few-within v n true is at = let same : v ≡ n = cc in grind (arith, nat_tests)
few-within v n false is at = absurd cc

few-number : (v n : ℕ) (number : Bool) → cond (number && nat_le v MAX_ROUNDS) (Some v) None ≡ Some n → n ≤ MAX_ROUNDS
few-number v n true at = few-within v n (nat_le v MAX_ROUNDS) refl at
few-number v n false at = absurd cc

few-mapped : (read : Option ℕ) (n : ℕ) → ((m : ℕ) → read ≡ Some m → m ≤ MAX_ROUNDS) → option_map Generate read ≡ Some (Generate n) → n ≤ MAX_ROUNDS
few-mapped (Some m) n few at = let same : m ≡ n = cc in subst (λ (k : ℕ). k ≤ MAX_ROUNDS) same (few m refl)
few-mapped None n few at = absurd cc

few-read : (word : List ℕ) (m : ℕ) → rounds_of word ≡ Some m → m ≤ MAX_ROUNDS
few-read word m at = few-number (digits_value 10 word) m (is_number_without_zero word) at

few-if : (gen : Bool) (word : List ℕ) (n : ℕ) → cond gen (option_map Generate (rounds_of word)) None ≡ Some (Generate n) → n ≤ MAX_ROUNDS
few-if true word n at = few-mapped (rounds_of word) n (few-read word) at
few-if false word n at = absurd cc

no-names : (run : Bool) (format : Option Format) (first second : List ℕ) (n : ℕ)
    → cond run (Some (Run first second)) (option_map (λ format. Ask format first second) format) ≡ Some (Generate n) → n ≤ MAX_ROUNDS
no-names true format first second n at = absurd cc
no-names false (Some format) first second n at = absurd cc
no-names false None first second n at = absurd cc

no-table : (load : Bool) (csv script : List ℕ) (table : Option (List ℕ)) (n : ℕ) → cond load (option_map (λ name. Load csv name script) table) None ≡ Some (Generate n) → n ≤ MAX_ROUNDS
no-table true csv script None n at = absurd cc
no-table true csv script (Some table) n at = absurd cc
no-table false csv script table n at = absurd cc

no-export : (names load : Bool) (first second third : List ℕ) (table : Option (List ℕ)) (n : ℕ)
    → cond names (Some (Ask Named first second)) (cond load (option_map (λ name. Load first name third) table) None) ≡ Some (Generate n) → n ≤ MAX_ROUNDS
no-export true load first second third table n at = absurd cc
no-export false load first second third table n at = no-table load first third table n at

few-words : (words : List (List ℕ)) (n : ℕ) → command_of_words words ≡ Some (Generate n) → n ≤ MAX_ROUNDS
few-words [] n at = absurd cc
few-words (word ∷ []) n at = absurd cc
few-words (word ∷ first ∷ []) n at = few-if (bytes_eq word (codes "gen")) first n at
few-words (word ∷ first ∷ second ∷ []) n at = no-names (bytes_eq word (codes "run") && (is_word second && are_two_names first second)) (format_of word) first second n at
few-words (word ∷ first ∷ second ∷ third ∷ []) n at =
    no-export (bytes_eq word (codes "export") && bytes_eq third (codes "names")) (bytes_eq word (codes "load") && are_two_names first third) first second third (table_name second) n at
few-words (word ∷ first ∷ second ∷ third ∷ other ∷ others) n at = absurd cc

few-asked : (plain : Bool) (words : List (List ℕ)) (n : ℕ) → cond plain (command_of_words words) None ≡ Some (Generate n) → n ≤ MAX_ROUNDS
few-asked true words n at = few-words words n at
few-asked false words n at = absurd cc

no-word : (help version : Bool) (n : ℕ) → cond help (Some Help) (cond version (Some Version) None) ≡ Some (Generate n) → n ≤ MAX_ROUNDS
no-word true version n at = absurd cc
no-word false true n at = absurd cc
no-word false false n at = absurd cc

few-command : (words : List (List ℕ)) (n : ℕ) → command_of words ≡ Some (Generate n) → n ≤ MAX_ROUNDS
few-command [] n at = absurd cc
few-command (word ∷ []) n at = no-word (asks_help word) (asks_version word) n at
few-command (word ∷ first ∷ words) n at = few-asked (are_words (word ∷ first ∷ words)) (word ∷ first ∷ words) n at

-- a command of arguments has few rounds
pub few-rounds : (command : Option code.Command) (words : List (List ℕ)) → option_map command_view command ≡ command_of words → IfSome command HasFewRounds
few-rounds None words is = tt
few-rounds (Some (command.Run script dump)) words is = tt
few-rounds (Some (command.Ask format dump questions)) words is = tt
few-rounds (Some (command.Load csv table script)) words is = tt
few-rounds (Some command.Help) words is = tt
few-rounds (Some command.Version) words is = tt
few-rounds (Some (command.Generate rounds)) words is = few-command words rounds (sym is)
