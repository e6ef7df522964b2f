use Rattle.std.proofs.Common.{◌∙◌}
use Rattle.std.proofs.lemmas.Result.{err_from_is_err_and}
use Rattle.gp_syntax.proofs.RepetitionLemmas.{separated-some, first-fault, others-fault}
use Rattle.gp_syntax.proofs.list_parser.separated.Goals as goal

pub returns-in_err-rest : goal.returns-in_err-rest
returns-in_err-rest g c =
    let p = err_from_is_err_and c.from_residual.result c.from_residual.ensures.1 in
    rw (p.1, p.2) (first-fault g.L.ParsedList.items g.L.ParsedList.item (g.L.ParsedList.items c.args.empty) (g.L.ParsedList.items c.parse_next.new.self) c.args.lexemes.now
    c.in_err-rest.field-0.0 c.in_err-rest.ensures)

pub returns-in_err-rest-2 : goal.returns-in_err-rest-2
returns-in_err-rest-2 g c =
    let p = err_from_is_err_and c.from_residual-in_err-rest-2.result c.from_residual-in_err-rest-2.ensures.1 in
    rw (p.1, p.2) (others-fault g.L.ParsedList.items g.L.ParsedList.item (g.L.ParsedList.items c.args.empty) (g.L.ParsedList.items c.parse_next.new.self)
    (g.L.ParsedList.items c.parse_others.new.found) c.args.lexemes.now c.in_ok-rest.rest.now c.in_err-rest-2.field-0.0 c.requires c.in_ok-rest.ensures c.in_err-rest-2.ensures)

pub returns : goal.returns
returns g c =
    separated-some g.L.ParsedList.item (g.L.ParsedList.items c.args.empty) (g.L.ParsedList.items c.parse_next.new.self) c.args.lexemes.now c.in_ok-rest.rest.now
    c.requires c.in_ok-rest.ensures
    ∙ c.in_ok-rest-2.ensures
