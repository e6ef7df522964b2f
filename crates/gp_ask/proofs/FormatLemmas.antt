-- What is said of explained questions, in a format.
use Rattle.std.proofs.Common.{◌≡◌, Result, Ok, Err, IfOk, sym, subst}
use Rattle.gp_ask.specs.declared.format.Format.{Format}
use Rattle.gp_ask.specs.declared.format.Format.TheVariants.{Text, Csv, Named, Sql}
use Rattle.gp_ask.specs.QuestionFiles.{ExplainsIn}

pub explains-in : (format : Format) (says : Type 0) → says → ExplainsIn format says
explains-in Text says it = it
explains-in Csv says it = tt
explains-in Named says it = tt
explains-in Sql says it = tt

-- no explained question is exported
pub unexplained : {T E : Type 0} (result : Result T E) (format own : Format) (says : Type 0) → format ≡ own → ExplainsIn own says → IfOk result (λ value. ExplainsIn format says)
unexplained (Err error) format own says is it = tt
unexplained (Ok value) format own says is it = subst (λ (f : Format). ExplainsIn f says) (sym is) it
