use Rattle.std.proofs.Common.{Global, List, Option, Vec, ap, map, ℕ, ◌∙◌}
use Rattle.gp_algebra.specs.Views.{select_view}
use Rattle.gp_dump.specs.Views.{dump_view}
use Rattle.gp_kexec.specs.declared.env.KRow.{KRow}
use Rattle.gp_kexec.specs.Rows.{pair_view}
use Rattle.gp_log.specs.LogFacts.{tables_in}
use Rattle.gp_syntax.specs.Views.{point_view}
use Rattle.gp_semiring.specs.declared.rules.Rule.{Rule}
use Rattle.gp_ask.specs.declared.answered.Answered.TheVariants.{Refused, Values}
use Rattle.gp_ask.specs.Asking.{table_spans}
use Rattle.gp_ask.specs.Operations.{operations_with}
use Rattle.gp_ask.specs.Values.{valued}
use Rattle.gp_ask.proofs.ValueLemmas.{found_in, is-unvalued, is-valued}
use Rattle.gp_ask.proofs.values.rows_by.Goals as goal

pub returns-in_ok-valued_rows-in-Ok-clause-answered : goal.returns-in_ok-valued_rows-in-Ok-clause-answered
returns-in_ok-valued_rows-in-Ok-clause-answered g c =
    let k = g.K.Semiring in
    let semiring = operations_with k.zero_of k.one_of k.plus_of k.times_of k.number_of k.itself_of k.text_of in
    let dump = dump_view c.args.dump.now in
    let rules : List Rule × Option ℕ = (c.args.rules.rules, c.args.rules.other) in
    ap Values c.in_ok-valued_rows-in-Ok.ensures
    ∙ ap (λ (rows : List (KRow g.row.K.Denot)). Values (map (valued k.text_of) (map pair_view rows))) c.as_slice.ensures.value
    ∙ is-valued k.text_of (λ (rows : Vec (KRow g.row.K.Denot) Global). map pair_view rows.items) c.in-Ok.rows
    (found_in semiring rules dump.entries (tables_in dump.entries) (table_spans dump.tables) (point_view c.args.state) (select_view c.args.select.now)) c.in-Ok.ensures.answer

pub returns-in-Err-Refused-clause-answered : goal.returns-in-Err-Refused-clause-answered
returns-in-Err-Refused-clause-answered g c =
    let k = g.K.Semiring in
    let semiring = operations_with k.zero_of k.one_of k.plus_of k.times_of k.number_of k.itself_of k.text_of in
    let dump = dump_view c.args.dump.now in
    let rules : List Rule × Option ℕ = (c.args.rules.rules, c.args.rules.other) in
    ap Refused c.in-Err-Refused.refusal-is
    ∙ is-unvalued k.text_of (λ (rows : Vec (KRow g.row.K.Denot) Global). map pair_view rows.items) c.in-Err-Refused.refusal
    (found_in semiring rules dump.entries (tables_in dump.entries) (table_spans dump.tables) (point_view c.args.state) (select_view c.args.select.now))
    (rw c.in-Err-Refused.field-0-is at c.in-Err-Refused.ensures.answer)
