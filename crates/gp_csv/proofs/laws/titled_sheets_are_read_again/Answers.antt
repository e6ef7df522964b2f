use Rattle.gp_csv.proofs.SheetsAgain.{read-again}
use Rattle.gp_csv.proofs.laws.titled_sheets_are_read_again.Goals as goal

pub returns : goal.returns
returns c = λ number titles rows small fits. read-again number small titles rows fits
