use Rattle.std.proofs.Common.{rules, ◌≡◌, codes, ap, ap₂, ◌∙◌}
use Rattle.std.proofs.lemmas.Result.{IfOk-weaker}
use Rattle.clap.specs.Words.{app_of, new_rule, rule_of, with_rule}
use Rattle.clap.specs.Simple.{app_of_fields}
use Rattle.gprom_cli.specs.Words.{empty_line, required_rule, with_settings}
use Rattle.gprom_cli.proofs.words.command_line.Goals as goal

pub returns : goal.returns
returns c =
    let word : rule_of c.required-command.result ≡ required_rule (codes "command") = search rules in
    let first : rule_of c.required-first.result ≡ required_rule (codes "first") = search rules in
    let second : rule_of c.new-second.result ≡ new_rule (codes "second") = search rules in
    let third : rule_of c.new-third.result ≡ new_rule (codes "third") = search rules in
    let empty : app_of c.disable_version_flag.result ≡ empty_line =
    ap app_of_fields c.disable_version_flag.ensures ∙ (rw (c.disable_help_flag.ensures) (rw (c.no_binary_name.ensures) (ap with_settings c.new-3.ensures.app))) in
    let one = c.in_ok-arg.ensures.shape (search rules) ∙ ap₂ with_rule empty word in
    let two = c.in_ok-arg-2.ensures.shape (search rules) ∙ ap₂ with_rule one first in
    let three = c.in_ok-arg-3.ensures.shape (search rules) ∙ ap₂ with_rule two second in
    IfOk-weaker c.arg-4.result _ _ (λ r added. added.shape (search rules) ∙ ap₂ with_rule three third) c.arg-4.ensures
