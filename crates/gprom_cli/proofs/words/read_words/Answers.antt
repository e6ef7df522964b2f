use Rattle.std.proofs.Common.{◌≡◌, map, string_bytes, ap, ◌∙◌, option_map, sym}
use Rattle.clap.specs.Words.{app_of, first_value, found_of, first_of}
use Rattle.clap.specs.Simple.{is_simple, matches_of}
use Rattle.clap.specs.Faults.{fault_of, is_simple_and_free}
use Rattle.clap.specs.Takes.{takes}
use Rattle.clap.proofs.WalkLemmas.{first_value-rows}
use Rattle.gprom_cli.specs.Words.{command_line, words_view}
use Rattle.gprom_cli.proofs.WordsLemmas.{line-free, line-simple, refused-result, taken-words}
use Rattle.gprom_cli.proofs.words.read_words.Goals as goal

pub returns-in-Ok : goal.returns-in-Ok
returns-in-Ok c =
    let line : app_of c.in_ok-command_line.field-0 ≡ command_line = c.in_ok-command_line.ensures in
    let words = map string_bytes c.args.args.now in
    let rows = (c.in-Ok.ensures.matches (ap is_simple line ∙ line-simple)).0 in
    let fault = c.in-Ok.ensures.kinds (ap is_simple_and_free line ∙ line-free) in
    taken-words words (λ id. first_value (found_of c.in-Ok.matches) id) (option_map words_view c.found.result) c.requires
    (ap (λ app. fault_of app words) (sym line) ∙ fault)
    (λ id. first_value-rows (found_of c.in-Ok.matches) id ∙ ap (first_of id) (rows ∙ ap (λ app. matches_of app words) line))
    c.found.ensures.some

pub returns-in-Err : goal.returns-in-Err
returns-in-Err c =
    let line : app_of c.in_ok-command_line.field-0 ≡ command_line = c.in_ok-command_line.ensures in
    let words = map string_bytes c.args.args.now in
    refused-result words c.refused.result c.requires c.refused.ensures.none
    (λ taken. c.refused.ensures.memory (c.in-Err.ensures.passes (ap (λ app. takes app words) line ∙ taken)))
