use Rattle.std.proofs.Common.{List, subst}
use Rattle.gp_io.specs.Contents.{Leads, contents_of, no_files}
use Rattle.gp_io.specs.Events.{Event}
use Rattle.gp_io.specs.MemoryFiles.{calm_files, mem_files}
use Rattle.gp_io.proofs.ContentsLemmas.{Leads-after}
use Rattle.gp_io.proofs.laws.events_lead_to_files.Goals as goal

pub returns-clause-calm : goal.returns-clause-calm
returns-clause-calm c = λ before after events grown.
    Leads-after no_files (contents_of (calm_files before)) (contents_of (calm_files after)) before.trace.events events before.leads
    (subst (λ (all : List Event). Leads no_files all (contents_of (calm_files after))) grown after.leads)

pub returns-clause-mem : goal.returns-clause-mem
returns-clause-mem c = λ before after events grown.
    Leads-after no_files (contents_of (mem_files before)) (contents_of (mem_files after)) before.calm.trace.events events before.calm.leads
    (subst (λ (all : List Event). Leads no_files all (contents_of (mem_files after))) grown after.calm.leads)
