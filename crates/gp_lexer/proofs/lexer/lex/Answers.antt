use Rattle.std.proofs.Common.{◌≡◌, ◌∙◌, ◌++◌, ◌∷◌, [], Ok, List, ℕ, Option, Bor, ap, sym, subst}
use Rattle.std.specs.Option.{option_map}
use Rattle.gp_lexer.specs.declared.lexeme.Lexeme.{Lexeme}
use Rattle.gp_lexer.specs.Lexing.{column_of}
use Rattle.gp_lexer.proofs.LineLemmas.{Left, left-start, left-end, left-blank, left-fault, left-lexeme, rest-shorter, empty}
use Rattle.gp_lexer.proofs.lexer.lex.Goals as goal

-- a lexeme and the bytes after it, as the definitions see them
abbrev seen : Option (Lexeme × Bor (List ℕ)) → Option (Lexeme × List ℕ)
seen = option_map (λ found. (found.0, found.1.now))

pub loop-rest-init : goal.loop-rest-init
loop-rest-init c = rw (c.new-lexemes.ensures, c.new-columns.ensures) (left-start c.args.line.now)

pub returns-in-empty : goal.returns-in-empty
returns-in-empty c =
    let rest = empty c.loop-rest.rest.now c.in-empty.len_below in
    left-end c.loop-rest.lexemes c.loop-rest.columns c.args.line.now (subst (Left c.loop-rest.lexemes c.loop-rest.columns c.args.line.now) rest c.loop-rest.invariant)
    ∙ ap Ok (sym c.new.ensures)

pub loop-rest-preserved-then-is_blank : goal.loop-rest-preserved-then-is_blank
loop-rest-preserved-then-is_blank c =
    left-blank c.loop-rest.lexemes c.loop-rest.columns c.args.line.now c.loop-rest.rest.now c.in-len1-up.len_at_least (sym c.is_blank.ensures ∙ c.if-is_blank.true) c.loop-rest.invariant

pub returns-in-None : goal.returns-in-None
returns-in-None c =
    left-fault c.loop-rest.lexemes c.loop-rest.columns c.args.line.now c.loop-rest.rest.now c.in-len1-up.len_at_least (sym c.is_blank.ensures ∙ c.if-is_blank.false)
    (sym c.in_ok-lexeme_at-in_default.ensures ∙ ap seen c.in-None.is) c.loop-rest.invariant

pub loop-rest-smaller : goal.loop-rest-smaller
loop-rest-smaller c =
    rest-shorter c.loop-rest.rest.now c.in-Some.others.now c.in-Some.lexeme c.in-len1-up.len_at_least (sym c.in_ok-lexeme_at-in_default.ensures ∙ ap seen c.in-Some.is)

pub loop-rest-preserved : goal.loop-rest-preserved
loop-rest-preserved c =
    let lexemes : c.push.new.self ≡ c.loop-rest.lexemes ++ c.in-Some.lexeme ∷ [] = c.in_ok-push-in-Some.ensures.ok in
    let columns : c.push-in-Some.new.self ≡ c.loop-rest.columns ++ column_of c.args.line.now c.loop-rest.rest.now ∷ [] = c.in_ok-push-in-Some-2.ensures.ok in
    rw (lexemes, columns) (left-lexeme c.loop-rest.lexemes c.loop-rest.columns c.args.line.now c.loop-rest.rest.now c.in-Some.others.now c.in-Some.lexeme c.in-len1-up.len_at_least
    (sym c.is_blank.ensures ∙ c.if-is_blank.false) (sym c.in_ok-lexeme_at-in_default.ensures ∙ ap seen c.in-Some.is) c.loop-rest.invariant)
