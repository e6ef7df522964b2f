use Rattle.std.proofs.Common.{ap, sym, ◌∙◌, ◌≡◌, ℕ, Vec, Global}
use Rattle.std.proofs.lemmas.Result.{IfOk-weaker}
use Rattle.gp_grammar.specs.Canonical.{command_text}
use Rattle.gp_grammar.specs.Syntax as y
use Rattle.gp_log.specs.Discipline.{said_by}
use Rattle.gp_log.specs.Logs.{what_view}
use Rattle.gp_log.specs.declared.entry.What.{What}
use Rattle.gp_dumpline.specs.Texts.{said_text}
use Rattle.gp_dumpline.proofs.write.said.Goals as goal

pub returns-in-Begin : goal.returns-in-Begin
returns-in-Begin c =
    IfOk-weaker c.write_command-in-Begin.result (λ (text : Vec ℕ Global). text.items ≡ command_text (y.begin c.in-Begin.read_committed))
    (λ (text : Vec ℕ Global). (line session t : ℕ) → text.items ≡ said_text (said_by (what_view line session t c.args.what.now)))
    (λ text is line session t. is ∙ ap (λ (what : What). said_text (said_by (what_view line session t what))) (sym c.in-Begin.is)) c.write_command-in-Begin.ensures
