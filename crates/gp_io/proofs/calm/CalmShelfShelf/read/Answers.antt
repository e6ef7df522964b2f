use Rattle.std.proofs.Common.{◌≡◌, List, None, Some, ap, subst, sym, ◌∙◌}
use Rattle.gp_io.specs.Contents.{Leads, contents_of, no_files}
use Rattle.gp_io.specs.Events.{Event}
use Rattle.gp_io.specs.Files.{prefix_of}
use Rattle.gp_io.specs.NamedFile.{files_of}
use Rattle.gp_io.specs.declared.named_file.NamedFile.{NamedFile}
use Rattle.gp_io.proofs.ContentsLemmas.{Leads-missing, Leads-read, Leads-stopped, nothing-there}
use Rattle.gp_io.proofs.calm.CalmShelfShelf.read.Goals as goal

pub invariant_of-self : goal.invariant_of-self
invariant_of-self c =
    let shelf = c.args.self.now in
    let files = files_of shelf.files.items in
    let bytes = c.deref-in-Ok.result.now in
    let is : prefix_of c.args.name.now c.args.most files ≡ Some bytes =
    ap (λ (fs : List NamedFile). prefix_of c.args.name.now c.args.most (files_of fs)) (sym c.deref.ensures.value) ∙ sym c.in-Some.ensures.prefix
    ∙ ap Some (sym (c.deref-in-Ok.ensures.value ∙ c.in-Ok.ensures.items)) in
    record {
      leads = subst (λ (events : List Event). Leads no_files events (contents_of files)) (sym c.and-self.ensures.0)
          (Leads-read shelf.trace.events files shelf.leads c.args.name.now c.args.most bytes is);
    }

pub invariant_of-self-in-None : goal.invariant_of-self-in-None
invariant_of-self-in-None c =
    let shelf = c.args.self.now in
    let files = files_of shelf.files.items in
    let none : prefix_of c.args.name.now c.args.most files ≡ None =
    ap (λ (fs : List NamedFile). prefix_of c.args.name.now c.args.most (files_of fs)) (sym c.deref.ensures.value) ∙ sym c.in-None.ensures.prefix in
    record {
      leads = subst (λ (events : List Event). Leads no_files events (contents_of files)) (sym c.and-self-in-None.ensures.0)
          (Leads-missing shelf.trace.events files shelf.leads c.args.name.now (nothing-there c.args.name.now c.args.most files none));
    }

pub invariant_of-self-in-Err : goal.invariant_of-self-in-Err
invariant_of-self-in-Err c =
    let shelf = c.args.self.now in
    let files = files_of shelf.files.items in
    record {
      leads = subst (λ (events : List Event). Leads no_files events (contents_of files)) (sym c.and-self-in-Err.ensures.0)
          (Leads-stopped shelf.trace.events files shelf.leads c.args.name.now);
    }
