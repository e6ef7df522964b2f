-- Part of the statement: the numbered lines of a script, and which of them get a reply. Blank lines and comments get none, but are
-- counted. Lines are those of std's `str::lines`: they end at a line feed, and one carriage return directly before a line feed belongs
-- to the end of its line. Two hyphens begin a comment, as in SQL (ISO/IEC 9075-2), but only at the beginning of a line.
use Rattle.std.specs.Prelude.{ℕ, Bool, true, ◌&&◌, not, List, [], ◌∷◌, length, nat_eq, nat_le, if◌then◌else◌, filter, codes}
use Rattle.std.specs.List.{enumerate_from, starts_with}
use Rattle.std.specs.Str.Lines.{lines}
use Rattle.gp_lexer.specs.Lexing.{is_blank}
use Rattle.gp_grammar.specs.declared.limits.TheConstants.{MAX_LINE_LENGTH}

-- a line of spaces and tabs alone, or one that has two hyphens after them
abbrev pub is_blank_or_comment : List ℕ → Bool
is_blank_or_comment [] = true
is_blank_or_comment (byte ∷ bytes) =
    if is_blank byte then is_blank_or_comment bytes else starts_with nat_eq (byte ∷ bytes) (codes "--")

-- A line gets a reply unless it is blank or a comment. A line that is too long is not examined: it always gets one.
abbrev pub is_answered : List ℕ → Bool
is_answered line = not (nat_le (length line) MAX_LINE_LENGTH && is_blank_or_comment line)

-- the lines of these bytes that get a reply, in order, each with its number, where the first line has this number
abbrev pub answered_from : ℕ → List ℕ → List (ℕ × List ℕ)
answered_from number bytes = filter (λ line. is_answered line.1) (enumerate_from number (lines bytes))

-- the lines of a script that get a reply, in order, each with its number; all lines are counted, from 1
abbrev pub script_lines : List ℕ → List (ℕ × List ℕ)
script_lines script = answered_from 1 script
