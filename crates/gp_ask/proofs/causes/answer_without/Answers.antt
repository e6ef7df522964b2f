use Rattle.std.proofs.Common.{[], ◌∷◌, Ok, ap, arith, refl, subst, suc, ◌∙◌, ◌≡◌}
use Rattle.std.proofs.lemmas.Result.{IfOk-weaker}
use Rattle.gp_dump.specs.Views.{dump_view}
use Rattle.gp_grammar.specs.Syntax as y
use Rattle.gp_grammar.specs.Syntax.{LogChange}
use Rattle.gp_log.specs.Parameters.{parameters}
use Rattle.gp_syntax.specs.Views.{change_view, query_view, subject_view}
use Rattle.gp_whatif.specs.Changed.{changed_log}
use Rattle.gp_ask.specs.declared.answered.Answered.{Answered}
use Rattle.gp_ask.specs.Computed.{computed_answer, what_if_answer}
use Rattle.gp_ask.specs.DifferenceForms.{without_in}
use Rattle.gp_ask.specs.Writes.{write_view}
use Rattle.gp_ask.proofs.CausesLemmas.{copies-made}
use Rattle.gp_ask.proofs.ProvenanceLemmas.{replayable}
use Rattle.gp_ask.proofs.causes.answer_without.Goals as goal

pub what_if_from-requires-clause-statements : goal.what_if_from-requires-clause-statements
what_if_from-requires-clause-statements c = rw c.dropping.ensures refl

pub what_if_from-requires-clause-changes : goal.what_if_from-requires-clause-changes
what_if_from-requires-clause-changes c = rw c.dropping.ensures refl

pub what_if_from-requires-clause-made : goal.what_if_from-requires-clause-made
what_if_from-requires-clause-made c = λ new is.
    let dump = dump_view c.args.asked.now.dump.now in
    let replays = replayable dump c.requires.rules in
    let change : changed_log parameters dump.entries (y.drop c.args.write.t c.args.write.k ∷ []) ≡ Ok new =
    subst (λ (own : LogChange). changed_log parameters dump.entries (own ∷ []) ≡ Ok new) c.dropping.ensures is in
    let within = c.changes_keep_earlier_versions.ensures.within dump.entries new c.args.write.t c.args.write.k (suc c.args.before) replays c.requires.version change in (
      omega (arith, within),
      c.changes_keep_earlier_versions.ensures.made dump.entries new c.args.write.t c.args.write.k (suc c.args.before) replays c.requires.version change c.args.before (omega arith) c.in_ok-copies.copies.items
          (copies-made dump.entries c.args.before c.args.versions.now c.in_ok-copies.copies.items c.requires.made c.in_ok-copies.ensures.count c.in_ok-copies.ensures.spans),
    )

pub returns : goal.returns
returns c =
    let dump = dump_view c.args.asked.now.dump.now in
    let subject = subject_view c.args.asked.now.subject.now in
    let query = query_view c.args.asked.now.query.read.now in
    IfOk-weaker c.what_if_from.result (λ (a : Answered). a ≡ computed_answer dump (y.what_if (change_view c.dropping.result ∷ []) subject query))
    (λ (a : Answered). a ≡ without_in (what_if_answer dump.entries) subject query (write_view c.args.write))
    (λ a is. is ∙ ap (λ (change : LogChange). what_if_answer dump.entries (change ∷ []) subject query) c.dropping.ensures) c.what_if_from.ensures.answered
