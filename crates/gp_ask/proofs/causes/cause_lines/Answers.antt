use Rattle.std.proofs.Common.{List, ap, subst, ℕ, ◌∙◌, ◌≡◌}
use Rattle.std.specs.List.{flat_map}
use Rattle.std.proofs.lemmas.Result.{IfOk-weaker}
use Rattle.gp_dump.specs.Views.{dump_view}
use Rattle.gp_machine.specs.Entries.{Entry, versions_in}
use Rattle.gp_syntax.specs.Views.{query_view, subject_view}
use Rattle.gp_ask.specs.declared.causes.Write.{Write}
use Rattle.gp_ask.specs.DifferenceForms.{committed_writes, without_in}
use Rattle.gp_ask.specs.Differences.{cause_of, rows_in}
use Rattle.gp_ask.specs.Computed.{what_if_answer}
use Rattle.gp_ask.specs.Writes.{ArePut, listed_line}
use Rattle.gp_ask.proofs.CausesLemmas.{put-lines}
use Rattle.gp_ask.proofs.causes.cause_lines.Goals as goal

pub returns : goal.returns
returns c =
    let asked = c.args.asked.now in
    let entries : List Entry = (dump_view asked.dump.now).entries in
    let f : ℕ × ℕ → List (List ℕ) = λ own. cause_of asked.rows.now own (rows_in (without_in (what_if_answer entries) (subject_view asked.subject.now) (query_view asked.query.read.now) own)) in
    let writes = c.in_ok-writes.writes.items in
    let found = c.in_ok-found.found.items in
    let put = subst (λ (own : List Write). ArePut asked own (versions_in entries) found) c.deref.ensures.value c.in_ok-found.ensures in
    IfOk-weaker c.all_lines.result (λ (lines : List (List ℕ)). lines ≡ flat_map listed_line found) (λ (lines : List (List ℕ)). lines ≡ flat_map f (committed_writes entries))
    (λ lines is. is ∙ put-lines f asked entries writes found c.in_ok-writes.ensures.versions put (λ own line says. says) ∙ ap (flat_map f) c.in_ok-writes.ensures.statements) c.all_lines.ensures
