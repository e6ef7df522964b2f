use Rattle.std.proofs.Common.{◌≡◌, not, ◌&&◌, ◌||◌, ◌∙◌, map}
use Rattle.std.proofs.lemmas.Result.{IfOk-weaker}
use Rattle.gp_base.specs.Identities.{Identity, no_sources, source}
use Rattle.gp_exec.specs.Publishing.{has_key, has_written}
use Rattle.gp_kexec.specs.Publishing.{was_replaced}
use Rattle.gp_kexec.specs.Rows.{held_view}
use Rattle.gp_kexec.proofs.publication.written_by.Goals as goal

pub returns : goal.returns
returns g c =
    IfOk-weaker c.written.result (λ ids. (id : Identity) → has_key ids id ≡ has_written c.deref.result.now c.deref-2.result.now id)
    (λ ids. (id : Identity) → has_key ids id ≡ was_replaced (map held_view c.args.base.now) (map held_view c.args.mine.now) (source id no_sources))
    (λ ids keys id. keys id
    ∙ ((λ i. has_written (c.deref.ensures.value i) (c.deref-2.ensures.value i) id)
    ∙ (λ i. c.in_ok-own.ensures.marked id i || (c.in_ok-base.ensures.ids id i && not (c.in_ok-own.ensures.ids id i))))) c.written.ensures
