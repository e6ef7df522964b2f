use Rattle.gprom_cli.proofs.HeadingLemmas.{empty-text, whole-text}
use Rattle.gprom_cli.proofs.ask.write_text.Goals as goal

pub returns-in-empty : goal.returns-in-empty
returns-in-empty g c = empty-text {T = Unit {0}} tt c.args.text.now (g.K.Sink.state c.args.out.now) c.in-empty.len_below

pub returns-in_default : goal.returns-in_default
returns-in_default g c =
    whole-text c.write_all.result c.args.text.now (g.K.Sink.state c.args.out.now) (g.K.Sink.state c.write_all.new.self) c.write_all.ensures.written c.write_all.ensures.stopped
