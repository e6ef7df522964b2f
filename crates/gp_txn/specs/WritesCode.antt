-- Machinery: how Rattle stores what a transaction keeps. An identity in a row holds itself, so the code of tables is named here.
use Rattle.std.specs.Prelude.{ℕ, Bool, List, refl}
use Rattle.std.specs.Coded.{Coded, code_by, coded×, coded_bool, coded_list, coded_ℕ}
use Rattle.gp_txn.specs.declared.overlay.TableWrites.{TableWrites}
use Rattle.gp_txn.specs.contracts.overlay.TableWrites as table
use Rattle.gp_txn.specs.Transactions.{Writes}

-- as the tuple of the fields
abbrev pub writes_code : Coded Writes
writes_code =
    code_by (ℕ × (Bool × (ℕ × (ℕ × List TableWrites))))
    (coded× coded_ℕ (coded× coded_bool (coded× coded_ℕ (coded× coded_ℕ (coded_list table.the_row.coded)))))
    (λ w. (w.t, (w.read_committed, (w.begin, (w.last, w.tables)))))
    (λ p. record { t = p.0; read_committed = p.1.0; begin = p.1.1.0; last = p.1.1.1.0; tables = p.1.1.1.1 })
    (λ _. refl)
