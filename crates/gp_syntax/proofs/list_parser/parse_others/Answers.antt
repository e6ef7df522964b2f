use Rattle.std.proofs.lemmas.Result.{err_from_is_err_and}
use Rattle.gp_grammar.specs.Parsing.{strip}
use Rattle.gp_grammar.specs.CommandParsing as spec
use Rattle.gp_syntax.proofs.RepetitionLemmas.{many-done, many-step, many-fault}
use Rattle.gp_syntax.proofs.list_parser.parse_others.Goals as goal

pub returns-in_err-rest : goal.returns-in_err-rest
returns-in_err-rest g c =
    let p = err_from_is_err_and c.from_residual.result c.from_residual.ensures.1 in
    rw (p.1, p.2) (many-fault c.args.separator g.L.ParsedList.item g.met.L.ParsedList.shrinks (g.L.ParsedList.items c.loop-after.found)
    (g.L.ParsedList.items c.parse_next.new.self) (g.L.ParsedList.items c.parse_next.new.self) c.loop-after.rest.now c.in-Some.after.now
    (spec.many (strip c.args.separator) g.L.ParsedList.item spec.push (g.L.ParsedList.items c.args.found.now) c.args.lexemes.now) c.in_err-rest.field-0.0
    c.loop-after.invariant c.in-Some.ensures.value c.in_err-rest.ensures)

pub loop-after-preserved : goal.loop-after-preserved
loop-after-preserved g c =
    many-step c.args.separator g.L.ParsedList.item g.met.L.ParsedList.shrinks (g.L.ParsedList.items c.loop-after.found) (g.L.ParsedList.items c.parse_next.new.self)
    c.loop-after.rest.now c.in-Some.after.now c.in_ok-rest.rest.now _ c.loop-after.invariant c.in-Some.ensures.value c.in_ok-rest.ensures

pub returns : goal.returns
returns g c =
    many-done c.args.separator g.L.ParsedList.item g.met.L.ParsedList.shrinks (g.L.ParsedList.items c.loop-after.found) c.loop-after.rest.now _ c.loop-after.invariant
    c.in_default.ensures.value
