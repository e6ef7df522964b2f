use Rattle.std.proofs.Common.{refl}
use Rattle.std.specs.Prelude.{◌∷◌, Ok, codes}
use Rattle.gp_csv.specs.Answers.{csv_text, titled_records}
use Rattle.gp_csv.specs.SheetForms.{IsSheet}
use Rattle.gp_csv.specs.Sheets.{records_of}
use Rattle.gp_csv.proofs.ValidLemmas.{have-fields, read-valid}
use Rattle.gp_load.proofs.laws.exported_sheets_load_again.Goals as goal

pub returns : goal.returns
returns c = λ number titles rows small fits.
    let bytes = csv_text (titled_records number (codes "line" ∷ titles) rows) in
    let read = c.titled_sheets_are_read_again.ensures number titles rows small fits in
    let valid : IsSheet read.sheet = read-valid (Ok read.sheet) (records_of bytes) (have-fields bytes (records_of bytes) refl) read.is in
    record { read = read; loads = λ name script is made. c.scripts_load_sheets.ensures.loads name read.sheet script is valid made }
