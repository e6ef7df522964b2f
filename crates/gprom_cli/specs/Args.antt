-- Part of the statement: what the arguments of the program ask for. An argument that begins with a hyphen is an option in the utility
-- conventions of POSIX (IEEE Std 1003.1, Utility Syntax Guidelines), and gprom has only those that stand for `help` and `version`. A
-- hyphen alone is the standard input there: here in the place of questions, and nowhere else.
use Rattle.std.specs.Prelude.{ℕ, Bool, false, not, ◌&&◌, ◌||◌, nat_le, List, [], ◌∷◌, Option, Some, None, if◌then◌else◌, ◌==◌, codes}
use Rattle.std.specs.List.{list_all}
use Rattle.std.specs.Option.{option_map}
use Rattle.std.specs.Str.{bytes_eq, str_to_ascii_lowercase}
use Rattle.std.specs.Str.Parse.{digits_value}
use Rattle.gp_base.specs.Names.{is_name}
use Rattle.gp_ask.specs.declared.format.Format.{Format}
use Rattle.gp_ask.specs.declared.format.Format.TheVariants.{Text, Csv, Named, Sql}
use Rattle.gp_grammar.specs.CommandGrammar.{is_number_without_zero}
use Rattle.gprom_cli.specs.declared.generated.TheConstants.{MAX_ROUNDS}

pub data Command : Type 0 where
  -- `run SCRIPT DUMP`: the names of the script, which is read, and of the dump, which is replaced
  Run : List ℕ → List ℕ → Command
  -- `ask DUMP QUESTIONS`, which answers as text, `export DUMP QUESTIONS`, which answers as CSV, or with `names` behind them as CSV with the names of columns, and
  -- `sql DUMP QUESTIONS`, which asks in SQL: the names of the dump and of the questions, which are read
  Ask : Format → List ℕ → List ℕ → Command
  -- `gen N`: the number of rounds
  Generate : ℕ → Command
  -- `load CSV TABLE SCRIPT`: the names of the sheet, which is read, of its table, and of the script, which is replaced
  Load : List ℕ → List ℕ → List ℕ → Command
  -- `help` and `version`
  Help Version : Command

-- an argument that is no option, and not empty
abbrev pub is_word : List ℕ → Bool
is_word [] = false
is_word (byte ∷ bytes) = not (byte == 45)

-- the standard input
abbrev pub is_input : List ℕ → Bool
is_input word = bytes_eq word (codes "-")

-- ---- the command

-- a word that stands alone, and the options that mean the same
abbrev pub asks_help : List ℕ → Bool
asks_help word = bytes_eq word (codes "help") || (bytes_eq word (codes "--help") || bytes_eq word (codes "-h"))

abbrev pub asks_version : List ℕ → Bool
asks_version word = bytes_eq word (codes "version") || (bytes_eq word (codes "--version") || bytes_eq word (codes "-V"))

abbrev pub command_of_word : List ℕ → Option Command
command_of_word word = if asks_help word then Some Help else if asks_version word then Some Version else None

-- the number of rounds that a word writes: digits of which the first is not 0, and a number that is not too great
abbrev pub rounds_of : List ℕ → Option ℕ
rounds_of word = if is_number_without_zero word && nat_le (digits_value 10 word) MAX_ROUNDS then Some (digits_value 10 word) else None

-- the command of a word, if it is one, and a number
abbrev pub command_of_number : List ℕ → List ℕ → Option Command
command_of_number word number = if bytes_eq word (codes "gen") then option_map Generate (rounds_of number) else None

-- how a word asks for answers, if it does
abbrev pub format_of : List ℕ → Option Format
format_of word =
    if bytes_eq word (codes "ask") then Some Text
    else if bytes_eq word (codes "export") then Some Csv
    else if bytes_eq word (codes "sql") then Some Sql
    else None

-- what is read and what is replaced have two names, as else a script would be lost to its dump
abbrev pub are_two_names : List ℕ → List ℕ → Bool
are_two_names read replaced = not (bytes_eq read replaced)

-- the command of a word, if it is one, and two names, of which that of questions may be the standard input
abbrev pub command_of_names : List ℕ → List ℕ → List ℕ → Option Command
command_of_names word first second =
    if bytes_eq word (codes "run") && (is_word second && are_two_names first second) then Some (Run first second)
    else option_map (λ format. Ask format first second) (format_of word)

-- the name of a table that a word writes, with letters of either case
abbrev pub table_name : List ℕ → Option (List ℕ)
table_name word = if is_name (str_to_ascii_lowercase word) then Some (str_to_ascii_lowercase word) else None

-- the command of a word, if it is one, a name, a table and a name
abbrev pub command_of_table : List ℕ → List ℕ → List ℕ → List ℕ → Option Command
command_of_table word csv table script =
    if bytes_eq word (codes "load") && are_two_names csv script then option_map (λ name. Load csv name script) (table_name table) else None

-- the same, or `export`, two names and the word `names`
abbrev pub command_of_three : List ℕ → List ℕ → List ℕ → List ℕ → Option Command
command_of_three word first second third =
    if bytes_eq word (codes "export") && bytes_eq third (codes "names") then Some (Ask Named first second) else command_of_table word first second third

abbrev pub command_of_words : List (List ℕ) → Option Command
command_of_words (word ∷ first ∷ []) = command_of_number word first
command_of_words (word ∷ first ∷ second ∷ []) = command_of_names word first second
command_of_words (word ∷ first ∷ second ∷ third ∷ []) = command_of_three word first second third
command_of_words words = None

-- words, of which the third may be the standard input
abbrev pub are_words : List (List ℕ) → Bool
are_words (word ∷ first ∷ second ∷ words) = is_word word && (is_word first && ((is_word second || is_input second) && list_all is_word words))
are_words words = list_all is_word words

-- the command that the arguments ask for, if they ask for one
abbrev pub command_of : List (List ℕ) → Option Command
command_of (word ∷ []) = command_of_word word
command_of arguments = if are_words arguments then command_of_words arguments else None
