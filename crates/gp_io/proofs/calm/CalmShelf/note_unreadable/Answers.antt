use Rattle.std.proofs.Common.{List, subst, sym}
use Rattle.gp_io.specs.Contents.{Leads, contents_of, no_files}
use Rattle.gp_io.specs.Events.{Event}
use Rattle.gp_io.specs.NamedFile.{files_of}
use Rattle.gp_io.proofs.ContentsLemmas.{Leads-unreadable}
use Rattle.gp_io.proofs.calm.CalmShelf.note_unreadable.Goals as goal

pub invariant_of-self : goal.invariant_of-self
invariant_of-self c =
    let shelf = c.args.self.now in
    let files = files_of shelf.files.items in
    record {
      leads = subst (λ (events : List Event). Leads no_files events (contents_of files)) (sym c.and-self.ensures.0) (Leads-unreadable shelf.trace.events files shelf.leads c.args.name.now);
    }
