use Rattle.std.proofs.Common.{List, subst, sym}
use Rattle.gp_io.specs.Contents.{Leads, contents_of, no_files}
use Rattle.gp_io.specs.Events.{Event}
use Rattle.gp_io.specs.NamedFile.{files_of}
use Rattle.gp_io.proofs.ContentsLemmas.{Leads-replaced}
use Rattle.gp_io.proofs.calm.CalmShelfShelf.replace.Goals as goal

pub invariant_of-self-2 : goal.invariant_of-self-2
invariant_of-self-2 c =
    let shelf = c.args.self.now in
    let new = files_of c.put.new.files.items in
    record {
      leads = subst (λ (events : List Event). Leads no_files events (contents_of new)) (sym c.and-self.ensures.0)
          (Leads-replaced shelf.trace.events (files_of shelf.files.items) shelf.leads c.args.name.now c.args.bytes.now new c.in_ok-put.ensures.ok);
    }
