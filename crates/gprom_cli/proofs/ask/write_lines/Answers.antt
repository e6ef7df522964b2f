use Rattle.std.proofs.Common.{ℕ, List, subst}
use Rattle.gp_log.specs.LogFacts.{tables_in}
use Rattle.gp_ask.specs.Computed.{computed_in}
use Rattle.gp_dump.specs.Views.{dump_view}
use Rattle.gprom_cli.proofs.AnswersLemmas.{IsProgress, ends, goes_on, starts, stops_with}
use Rattle.gprom_cli.proofs.ask.write_lines.Goals as goal

pub loop-line-init : goal.loop-line-init
loop-line-init g c =
    let sink = g.K.Sink.state c.args.out.now in
    record {
      progress = starts c.args.format (tables_in (dump_view c.args.dump.now).entries) (computed_in c.args.format (dump_view c.args.dump.now)) c.args.questions.now sink sink c.lines-rest.result c.lines-rest.ensures.lines;
      kept = c.new-kept.ensures c.args.dump.now;
    }

pub loop-line-preserved : goal.loop-line-preserved
loop-line-preserved g c =
    let tables = tables_in (dump_view c.args.dump.now).entries in
    let answers = computed_in c.args.format (dump_view c.args.dump.now) in
    let old = g.K.Sink.state c.args.out.now in
    let new = g.K.Sink.state c.loop-line.out in
    let line = c.in-Some.line in
    let way = subst (λ (lines : List (ℕ × List ℕ)). IsProgress c.args.format tables answers c.args.questions.now lines c.loop-line.refused old new) c.in-Some.ensures.steps c.loop-line.invariant.progress in
    record {
      progress =
          goes_on c.args.format tables answers c.args.questions.now old new (line.number, line.bytes.now) c.next.new.self c.loop-line.refused (g.K.Sink.state c.write_line.new.out)
          c.in_ok-refused.field-0 way c.in_ok-refused.ensures.written;
      kept = c.write_line.ensures.kept;
    }

pub returns-in_err-refused : goal.returns-in_err-refused
returns-in_err-refused g c =
    let tables = tables_in (dump_view c.args.dump.now).entries in
    let answers = computed_in c.args.format (dump_view c.args.dump.now) in
    let old = g.K.Sink.state c.args.out.now in
    let new = g.K.Sink.state c.loop-line.out in
    let line = c.in-Some.line in
    let way = subst (λ (lines : List (ℕ × List ℕ)). IsProgress c.args.format tables answers c.args.questions.now lines c.loop-line.refused old new) c.in-Some.ensures.steps c.loop-line.invariant.progress in
    stops_with c.args.format tables answers c.args.questions.now old new (line.number, line.bytes.now) c.next.new.self c.loop-line.refused (g.K.Sink.state c.write_line.new.out)
    c.from_residual.result c.in_err-refused.field-0.0 c.from_residual.ensures.1 way c.in_err-refused.ensures.written

pub returns : goal.returns
returns g c =
    let tables = tables_in (dump_view c.args.dump.now).entries in
    let answers = computed_in c.args.format (dump_view c.args.dump.now) in
    let old = g.K.Sink.state c.args.out.now in
    let new = g.K.Sink.state c.loop-line.out in
    let way = subst (λ (lines : List (ℕ × List ℕ)). IsProgress c.args.format tables answers c.args.questions.now lines c.loop-line.refused old new) c.in_default.ensures.steps.0 c.loop-line.invariant.progress in
    ends c.args.format tables answers c.args.questions.now old new c.loop-line.refused way
