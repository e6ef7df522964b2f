use Rattle.std.proofs.Common.{Global, Vec}
use Rattle.gp_base.specs.declared.row.Row.{Row}
use Rattle.gp_base.specs.Annotated.{monomials}
use Rattle.gp_algebra.specs.Views.{select_view}
use Rattle.gp_dump.specs.Views.{dump_view}
use Rattle.gp_reenact.specs.Reenacting.{spans_of}
use Rattle.gp_syntax.specs.Views.{point_view}
use Rattle.gp_ask.proofs.ProvenanceLemmas.{kept-of, of-kept, proves-moved, sound-versions, spans-are}
use Rattle.gp_ask.proofs.provenance.rows_with_monomials.Goals as goal

pub provenance_from-requires-clause-sound : goal.provenance_from-requires-clause-sound
provenance_from-requires-clause-sound c = sound-versions c.args.dump.now c.as_slice.result.now c.as_slice.ensures

pub provenance_from-requires-clause-kept : goal.provenance_from-requires-clause-kept
provenance_from-requires-clause-kept c = kept-of c.args.dump.now c.as_slice.result.now c.as_slice.ensures monomials c.args.kept.now c.requires.kept

pub returns-clause-kept : goal.returns-clause-kept
returns-clause-kept c = of-kept c.args.dump.now c.as_slice.result.now c.as_slice.ensures monomials c.provenance_from.new.kept c.provenance_from.ensures.kept

pub returns-clause-answer : goal.returns-clause-answer
returns-clause-answer c =
    proves-moved (dump_view c.args.dump.now) (point_view c.args.state) (select_view c.args.select.now) (λ (rows : Vec Row Global). rows.items) c.provenance_from.result (spans_of c.as_slice.result.now)
    (spans-are c.args.dump.now c.as_slice.result.now c.as_slice.ensures) c.provenance_from.ensures.answer
