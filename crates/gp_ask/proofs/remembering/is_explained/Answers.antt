use Rattle.std.proofs.Common.{◌≡◌, false, subst, sym}
use Rattle.gp_syntax.specs.declared.question.Subject.{Subject}
use Rattle.gp_syntax.specs.Views.{subject_view}
use Rattle.gp_ask.specs.Keeping.{is_explained}
use Rattle.gp_ask.proofs.RememberedLemmas.{rows-asked}
use Rattle.gp_ask.proofs.remembering.is_explained.Goals as goal

pub returns-in_default : goal.returns-in_default
returns-in_default c =
    subst (λ (subject : Subject). false ≡ is_explained (subject_view subject)) (sym c.in-State.is) (rows-asked c.in-State.how c.in-State.state c.in_default.not-Explain)
