use Rattle.gp_base.specs.Annotated.{unannotated}
use Rattle.gp_algebra.proofs.ScanLemmas.{program_meaning_agrees, program_stop_agrees}
use Rattle.gp_exec.specs.Running.{scanned_rows}
use Rattle.gp_reenact.specs.Encoding.{encoded}
use Rattle.gp_reenact.specs.Travel.{past_environment, scans_at}
use Rattle.gp_reenact.proofs.EncodingLemmas.{found}
use Rattle.gp_reenact.proofs.scan_laws.asked_scans_suffice.Goals as goal

pub returns-clause-meaning : goal.returns-clause-meaning
returns-clause-meaning c versions scans env program is asked =
    rw is (program_meaning_agrees (scanned_rows (scans_at versions scans)) (encoded (past_environment unannotated versions)) program (λ scan among. found versions scans scan (asked scan among)))

pub returns-clause-stop : goal.returns-clause-stop
returns-clause-stop c most_rows most_nodes versions scans env program is asked =
    rw is (program_stop_agrees (scanned_rows (scans_at versions scans)) (encoded (past_environment unannotated versions)) most_rows most_nodes program (λ scan among. found versions scans scan (asked scan among)))
