use Rattle.gp_io.specs.Contents.{contents_of}
use Rattle.gp_io.specs.MemoryFiles.{calm_files, mem_files}
use Rattle.gprom_cli.proofs.OverFilesLemmas.{over_files}
use Rattle.gprom_cli.proofs.laws.calls_keep_promises_over_files.Goals as goal

pub returns-clause-calm : goal.returns-clause-calm
returns-clause-calm c = λ call before after promises grown.
    over_files call (contents_of (calm_files before)) (contents_of (calm_files after)) promises (c.promises_have_consequences.ensures call promises) (c.events_lead_to_files.ensures.calm before after call.events grown)

pub returns-clause-mem : goal.returns-clause-mem
returns-clause-mem c = λ call before after promises grown.
    over_files call (contents_of (mem_files before)) (contents_of (mem_files after)) promises (c.promises_have_consequences.ensures call promises) (c.events_lead_to_files.ensures.mem before after call.events grown)
