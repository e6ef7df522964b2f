-- Part of the statement: the check and the limits that the history machine of a script is given.
use Rattle.gp_base.specs.declared.catalog.TheConstants.{MAX_TABLES}
use Rattle.gp_base.specs.declared.row_id.TheConstants.{MAX_NODES}
use Rattle.gp_check.specs.Checking.{checked}
use Rattle.gp_check.specs.Faults.{table_refusal}
use Rattle.gp_base.specs.declared.limit.TheConstants.{MAX_TABLE_ROWS, MAX_ANSWER_ROWS, MAX_SPANS}
use Rattle.gp_machine.specs.Parameters.{Parameters}
use Rattle.gp_log.specs.declared.limit.TheConstants.{MAX_TRANSACTIONS, MAX_STATEMENTS, MAX_STEPS}

abbrev pub parameters : Parameters
parameters = record {
  checked = checked;
  created = table_refusal;
  tables = MAX_TABLES;
  transactions = MAX_TRANSACTIONS;
  steps = MAX_STEPS;
  statements = MAX_STATEMENTS;
  rows = MAX_TABLE_ROWS;
  nodes = MAX_NODES;
  answer = MAX_ANSWER_ROWS;
  published = MAX_SPANS;
}
