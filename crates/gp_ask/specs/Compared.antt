-- Part of the statement: differences blame no statement for rows that the log does not make. CAUSES, and DIFF with a changed history, are answered as from the
-- dump that the log makes, or refused since a version has other rows.
use Rattle.std.specs.Prelude.{◌≡◌, ◌⊎◌, ◌||◌, Bool, true, false, Some}
use Rattle.std.specs.Option.{option_map}
use Rattle.gp_grammar.specs.Syntax as y
use Rattle.gp_dump.specs.Dumps.{Dump}
use Rattle.gp_ask.specs.declared.answered.Answered.TheVariants.{Refused}
use Rattle.gp_ask.specs.Answers.{answer_to}
use Rattle.gp_ask.specs.Asking.{Programs}
use Rattle.gp_ask.specs.Hypothetical.{replayed_dump}
use Rattle.gp_ask.specs.Made.{unmade_refusal}

abbrev pub is_changed : y.Side → Bool
is_changed (y.as_is subject) = false
is_changed (y.changed changes subject) = true

-- a history that would have been is compared with the one that was, or with another
abbrev pub compares_histories : y.Question → Bool
compares_histories (y.diff first second query) = is_changed first || is_changed second
compares_histories (y.causes subject query) = true
compares_histories question = false

-- the answer from the dump that the log makes, or why the rows of the dump are others
abbrev pub AnswersAsMade : Programs → Dump → y.Question → Type 0
AnswersAsMade programs dump question =
    (answer_to programs dump question ≡ answer_to programs (replayed_dump dump.entries) question) ⊎ (option_map Refused (unmade_refusal dump) ≡ Some (answer_to programs dump question))
