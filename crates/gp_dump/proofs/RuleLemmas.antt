-- What the rules of a log line say of its parts.
use Rattle.gp_dump.proofs.Prelude.{◌≡◌, ℕ, ◌≤◌, List, length, length-append, Option, Some, ap, sym, ◌∙◌, arith, option_map, LogLine, log_line_of, log_line-takes}
use Rattle.gp_dumpline.specs.declared.log_line.LogLine as code
use Rattle.gp_dumpline.specs.Views.{line_view}

said-within : (text : List ℕ) (l : LogLine) → log_line_of text ≡ Some l → length l.said ≤ length text
said-within text l found = let t = log_line-takes text l found in omega (arith, ap length t.is, length-append {A = ℕ})

-- what a log line says is no longer than the line
pub said-short : (text : List ℕ) (result : Option code.LogLine) (line : code.LogLine) → option_map line_view result ≡ log_line_of text → result ≡ Some line → length line.said.now ≤ length text
said-short text result line parts is = said-within text (line_view line) (sym parts ∙ ap (option_map line_view) is)

pub ruleset said_steps = (said-short)
