-- Of the laws `logs_keep_their_sessions` (gp_whatif) and `composed_programs_scan_what_is_needed` (gp_compose): when a log keeps its sessions, whatever its
-- limits, its lines and its checks. It is what the rules for the next entry of a log say of sessions and of the numbers of transactions.
use Rattle.std.specs.Prelude.{◌≡◌, suc, List, [], ◌∷◌, Some, None}
use Rattle.gp_machine.specs.Entries.{Entry, Created, Began, Ran, Committed, Ended, transactions_in}
use Rattle.gp_log.specs.Discipline.{transaction_in}

-- CREATE TABLE and BEGIN come where the session has no transaction, BEGIN with the next number, and all else is of the session's transaction
abbrev pub KeepsSessions : List Entry → Type 0
KeepsSessions [] = Unit {0}
KeepsSessions (Created line session table ∷ older) = (transaction_in session older ≡ None) × KeepsSessions older
KeepsSessions (Began line session t level ∷ older) = (t ≡ suc (transactions_in older)) × ((transaction_in session older ≡ None) × KeepsSessions older)
KeepsSessions (Ran line session command t statement ∷ older) = (transaction_in session older ≡ Some t) × KeepsSessions older
KeepsSessions (Committed line session t ∷ older) = (transaction_in session older ≡ Some t) × KeepsSessions older
KeepsSessions (Ended line session end t ∷ older) = (transaction_in session older ≡ Some t) × KeepsSessions older
