use Rattle.std.proofs.Common.{ℕ, List, ◌∷◌, ◌++◌, ap, sym, ◌∙◌}
use Rattle.std.proofs.lemmas.List.{append-nil}
use Rattle.std.specs.Fmt.{decimal}
use Rattle.gp_machine.specs.declared.reply.Reply.TheVariants as reply
use Rattle.gp_script.specs.Replies.{reply_text}
use Rattle.gp_script.proofs.display.rolled_back_text.Goals as goal

pub returns : goal.returns
returns c = λ tables.
    ap (λ v. v.items) c.into_bytes.ensures.value ∙ c.in_ok-text.ensures
    ∙ ap (λ (l : List ℕ). decimal c.args.number ++ 32 ∷ l) (sym (append-nil (reply_text tables (reply.RolledBack c.args.t))))
