use Rattle.std.proofs.Common.{◌≡◌, OnOk, refl, subst}
use Rattle.gp_lexer.specs.declared.lexeme.Symbol.TheVariants as s
use Rattle.gp_lexer.specs.declared.lexeme.Lexeme.TheVariants.{Symbol as Sign}
use Rattle.gp_lexer.specs.Layout.{Page, put}
use Rattle.gp_grammar.specs.Canonical.{term_lexemes}
use Rattle.gp_syntax.specs.Views.{term_view}
use Rattle.gp_syntax.proofs.CanonicalLemmas.{choice-pages}
use Rattle.gp_syntax.proofs.canonical.+term_writers.Goals as goal

pub push_case-returns : goal.push_case-returns
push_case-returns t c =
    let P : Page → Type 0 = λ page. OnOk c.push_symbol-3.result (c.push_symbol-3.new.self ≡ page) in
    subst P (choice-pages _ _ _ _ _ _ _ (put c.push_term-3.new.layout (Sign s.End)) (term_lexemes (term_view c.args.when.now)) (term_lexemes (term_view c.args.first.now))
    (term_lexemes (term_view c.args.other.now)) c.in_ok-push_symbols.ensures c.in_ok-push_term.ensures c.in_ok-push_symbol.ensures.ok c.in_ok-push_term-2.ensures
    c.in_ok-push_symbol-2.ensures.ok c.in_ok-push_term-3.ensures refl) c.push_symbol-3.ensures.ok
