use Rattle.std.proofs.Common.{List, ◌++◌, ap, subst, sym, ◌∙◌}
use Rattle.gp_io.specs.Contents.{Leads, contents_of, events_of, no_files}
use Rattle.gp_io.specs.Events.{Event}
use Rattle.gp_io.specs.NamedFile.{files_of}
use Rattle.gp_io.specs.declared.named_file.NamedFile.{NamedFile}
use Rattle.gp_io.proofs.ContentsLemmas.{Leads-made}
use Rattle.gp_io.proofs.calm.CalmShelf.new.Goals as goal

pub invariant_of-result : goal.invariant_of-result
invariant_of-result c =
    let files = files_of c.args.files.items in
    record {
      leads = subst (λ (events : List Event). Leads no_files events (contents_of files))
          (sym (c.and-trace.ensures.0 ∙ ap (λ (events : List Event). events ++ events_of (files_of c.deref.result.now)) c.new.ensures.0
          ∙ ap (λ (fs : List NamedFile). events_of (files_of fs)) c.deref.ensures.value))
          (Leads-made files);
    }
