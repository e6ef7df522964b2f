-- Machinery: the arguments as clap reads them.
use Rattle.std.specs.Prelude.{ℕ, true, List, [], ◌∷◌, Option, Some, None, if◌then◌else◌, codes}
use Rattle.std.specs.Option.{option_map}
use Rattle.clap.specs.Words.{App, Rule, new_app, new_rule, with_rule}
use Rattle.gprom_cli.specs.declared.words.Words as code
use Rattle.gprom_cli.specs.Args.{Command, are_words, command_of_names, command_of_number, command_of_three, command_of_words}

-- two words, and two more that may be missing
abbrev pub Found : Type 0
Found = List ℕ × List ℕ × Option (List ℕ) × Option (List ℕ)

abbrev pub words_view : code.Words → Found
words_view words = (words.word.now, words.first.now, option_map (λ s. s.now) words.second, option_map (λ s. s.now) words.third)

-- two to four arguments as such words
abbrev pub words_of : List (List ℕ) → Option Found
words_of [] = None
words_of (word ∷ []) = None
words_of (word ∷ first ∷ []) = Some (word, first, None, None)
words_of (word ∷ first ∷ second ∷ []) = Some (word, first, Some second, None)
words_of (word ∷ first ∷ second ∷ third ∷ []) = Some (word, first, Some second, Some third)
words_of (word ∷ first ∷ second ∷ third ∷ other ∷ others) = None

-- their command
abbrev pub command_of_parts : List ℕ → List ℕ → Option (List ℕ) → Option (List ℕ) → Option Command
command_of_parts word first None third = command_of_number word first
command_of_parts word first (Some second) None = command_of_names word first second
command_of_parts word first (Some second) (Some third) = command_of_three word first second third

abbrev pub command_of_found : Option Found → Option Command
command_of_found None = None
command_of_found (Some words) = command_of_parts words.0 words.1 words.2 words.3

-- the command of arguments that are no word alone
abbrev pub command_of_others : List (List ℕ) → Option Command
command_of_others arguments = if are_words arguments then command_of_words arguments else None

-- ---- the command line of clap: four positional arguments, of which the last two may be missing

abbrev pub required_rule : List ℕ → Rule
required_rule id = record (new_rule id) { required = true }

abbrev pub with_settings : App → App
with_settings app = record {
  top = record app.top { no_binary_name = true; disable_help_flag = true; disable_version_flag = true };
  subs = app.subs;
}

abbrev pub empty_line : App
empty_line = with_settings (new_app (codes "gprom"))

abbrev pub command_line : App
command_line =
    with_rule
    (with_rule (with_rule (with_rule empty_line (required_rule (codes "command"))) (required_rule (codes "first"))) (new_rule (codes "second")))
    (new_rule (codes "third"))
