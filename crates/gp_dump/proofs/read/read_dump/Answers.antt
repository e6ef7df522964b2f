use Rattle.std.proofs.Common.{List, subst, sym}
use Rattle.gp_versions.specs.Spans.{Versions}
use Rattle.gp_dump.specs.Answerable.{IsAnswerable, as_dump}
use Rattle.gp_dump.specs.WholeDumps.{IsDump}
use Rattle.gp_dump.proofs.AnswerableLemmas.{read-answerable}
use Rattle.gp_dump.proofs.LawLemmas.{read-text}
use Rattle.gp_dump.proofs.read.read_dump.Goals as goal

pub invariant_of-result : goal.invariant_of-result
invariant_of-result c = record {
  answerable = subst (λ (own : List Versions). IsAnswerable (as_dump c.in_ok-log.log own)) (sym c.from_vec-versions.ensures)
      (read-answerable c.args.bytes.now (as_dump c.in_ok-log.log c.in_ok-log.tables.items) c.in_ok-log.ensures.exact);
  valid = c.in_ok-log.ensures.valid;
}

pub returns-clause-rules : goal.returns-clause-rules
returns-clause-rules c =
    subst (λ (own : List Versions). IsDump (as_dump c.in_ok-log.log own)) (sym c.from_vec-versions.ensures)
    (read-text c.args.bytes.now (as_dump c.in_ok-log.log c.in_ok-log.tables.items) c.in_ok-log.ensures.exact).rules
