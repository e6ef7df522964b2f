use Rattle.std.proofs.Common.{◌∙◌, subst, sym}
use Rattle.gp_log.specs.Contents.{entries}
use Rattle.gp_serial.specs.Changes.{AreMade}
use Rattle.gp_serial.specs.NameForms.{changes_at}
use Rattle.gp_serial.proofs.NameLemmas.{made_either}
use Rattle.gp_serial.proofs.anomaly.update_of.Goals as goal

pub lost-requires-clause-made : goal.lost-requires-clause-made
lost-requires-clause-made c =
    subst (AreMade (entries c.args.log.now)) (sym (c.deref.ensures.value ∙ c.in_ok-both.ensures))
    (made_either (entries c.args.log.now) (changes_at c.args.lists.now) c.requires.made c.args.a c.args.b)
