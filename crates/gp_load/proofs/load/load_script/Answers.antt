use Rattle.gp_load.proofs.LoadLemmas.{loads-sheets}
use Rattle.gp_load.proofs.load.load_script.Goals as goal

pub returns-clause-loads : goal.returns-clause-loads
returns-clause-loads c = record {
  sheet = c.in_ok-sheet.sheet;
  is = c.in_ok-sheet.ensures.exact;
  loads = loads-sheets c.args.name.now c.in_ok-sheet.sheet c.in_ok-text.text.items c.as_bytes-bytes.ensures.valid c.in_ok-sheet.ensures.valid c.in_ok-text.ensures.exact;
}
