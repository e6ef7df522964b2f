use Rattle.std.proofs.Common.{subst, sym}
use Rattle.gp_base.specs.declared.refusal.Refusal.{Refusal}
use Rattle.gp_grammar.specs.Reading.{script_line_of}
use Rattle.gp_machine.specs.declared.reply.Reply.TheVariants as reply
use Rattle.gp_syntax.specs.Views.{line_view}
use Rattle.gp_check.proofs.ValidLemmas.{line-read}
use Rattle.gp_script.specs.Answering.{FollowsRead}
use Rattle.gp_script.proofs.ReadingLemmas.{read-range}
use Rattle.gp_script.proofs.ScriptLemmas.{refused-read}
use Rattle.gp_script.proofs.script.answer_line.Goals as goal

pub line-requires-clause-first : goal.line-requires-clause-first
line-requires-clause-first c = (read-range c.args.bytes.now (line_view c.in-Ok.read) c.in-Ok.ensures.exact).0

pub line-requires-clause-last : goal.line-requires-clause-last
line-requires-clause-last c = (read-range c.args.bytes.now (line_view c.in-Ok.read) c.in-Ok.ensures.exact).1

pub line-requires-clause-valid : goal.line-requires-clause-valid
line-requires-clause-valid c = rw c.in_ok-command-in-Ok.ensures (line-read c.args.bytes.now (line_view c.in-Ok.read) c.in-Ok.ensures.exact)

pub returns-in-Err-Refused-clause-follows : goal.returns-in-Err-Refused-clause-follows
returns-in-Err-Refused-clause-follows c =
    subst (λ (refusal : Refusal). FollowsRead c.args.engine.now c.args.engine.now c.args.number (script_line_of c.args.bytes.now) (reply.Refused refusal)) (sym c.in-Err-Refused.refusal-is)
    (refused-read (script_line_of c.args.bytes.now) c.in-Err-Refused.refusal c.args.engine.now c.args.number (rw c.in-Err-Refused.field-0-is at c.in-Err-Refused.ensures.exact))
