use Rattle.std.proofs.Common.{rules}
use Rattle.gp_lexer.proofs.lexer.text_at.Goals as goal

pub returns-in_ok-from_bytes-in-Some : goal.returns-in_ok-from_bytes-in-Some
returns-in_ok-from_bytes-in-Some c = search rules
