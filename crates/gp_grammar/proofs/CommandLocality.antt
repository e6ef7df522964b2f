-- No lexeme after a fault matters to the parser of commands.
use Rattle.gp_grammar.proofs.Prelude.{ap, Option, by_option, cond, Symbol, ◌≡◌, ℕ, zero, suc, pos, negsuc, true, false, [], ◌∷◌, Some, None, Ok, Err, refl, codes, ◌^◌, ◌-◌, Lexeme, Sign, Word, Number, Big, Text, Lexemes, Bytes, Command, session_of, Parser, ◌>>=◌, identifier, term, ◌then◌, fail, accept, expect_word, push, separated, in_brackets, named}
use Rattle.gp_base.specs.declared.cell.Cell.TheVariants as cell
use Rattle.gp_base.specs.declared.table.Kind.TheVariants as kind
use Rattle.gp_lexer.specs.declared.lexeme.Symbol.TheVariants as s
use Rattle.gp_grammar.specs.Syntax as syntax
use Rattle.gp_grammar.specs.Parsing.{expect}
use Rattle.gp_grammar.specs.CommandParsing as c
use Rattle.gp_grammar.proofs.CommandCompleteness.{shrinks-literal, shrinks-tuple, shrinks-column, shrinks-item, shrinks-all, shrinks-set_term}
use Rattle.gp_grammar.proofs.Shrinking.{shrinks-term}
use Rattle.gp_grammar.proofs.Locality.{Local, Step, goes, stays, local-first-all, local-ok, local-bind, local-err, local-expect, local-identifier, local-term}
use Rattle.gp_grammar.proofs.LocalCombinators.{local-next-all, local-word-all, local-many, local-separated, local-in_brackets, local-closed}

-- a SELECT, and a fault at the first lexeme where there is none
abbrev selected : Parser Command
selected ts = c.query ts >>= (λ r. Ok (syntax.select r.0, r.1))

module _ (t : Lexeme) (m m' : Lexemes) where
  abbrev IsLocal : {A : Type 0} → Parser A → Type 0
  IsLocal p = (n : ℕ) → Local t m m' n p

  negative-step : (n : ℕ) (x : Lexeme) → Step t m m' n c.negative fail x
  negative-step n (Number zero) = goes _ (λ ts. refl) (local-ok t m m' n (cell.Int (pos 0)))
  negative-step n (Number (suc k)) = goes _ (λ ts. refl) (local-ok t m m' n (cell.Int (negsuc k)))
  negative-step n Big = goes _ (λ ts. refl) (local-ok t m m' n (cell.Int (negsuc (2 ^ 63 - 1))))
  negative-step n (Sign symbol) = stays (λ ts. refl)
  negative-step n (Word word) = stays (λ ts. refl)
  negative-step n (Text bytes) = stays (λ ts. refl)

  local-negative : IsLocal c.negative
  local-negative = local-first-all t m m' c.negative fail refl negative-step (λ n. local-err t m m' n)

  literal-step : (n : ℕ) (x : Lexeme) → Step t m m' n c.literal fail x
  literal-step n (Sign symbol) = by symbol
    where
      by : (symbol : Symbol) → Step t m m' n c.literal fail (Sign symbol)
      by s.Null = goes _ (λ ts. refl) (local-ok t m m' n cell.Null)
      by s.Minus = goes c.negative (λ ts. refl) (local-negative n)
      by _ = stays (λ ts. refl)
  literal-step n (Number k) = goes _ (λ ts. refl) (local-ok t m m' n (cell.Int (pos k)))
  literal-step n (Text bytes) = goes _ (λ ts. refl) (local-ok t m m' n (cell.Text bytes))
  literal-step n (Word word) = stays (λ ts. refl)
  literal-step n Big = stays (λ ts. refl)

  local-literal : IsLocal c.literal
  local-literal = local-first-all t m m' c.literal fail refl literal-step (λ n. local-err t m m' n)

  local-tuple : IsLocal c.tuple
  unfolding c.tuple
  local-tuple n = local-in_brackets t m m' (separated c.literal) n (local-separated t m m' c.literal shrinks-literal n (local-literal n))

  local-column : IsLocal c.column
  unfolding c.column
  local-column n = local-bind t m m' n identifier _ (local-identifier t m m' n) (λ name. local-next-all t m m' s.Int (accept (record { name = name; kind = kind.Int }))
      (s.Text then accept (record { name = name; kind = kind.Text })) (λ n. local-ok t m m' n _)
      (λ n. local-expect t m m' n s.Text (accept (record { name = name; kind = kind.Text })) (local-ok t m m' n _)) n)

  name-step : (table : Bytes) (n : ℕ) (x : Lexeme) → Step t m m' n (c.optional_name table) (accept (named table table)) x
  name-step table n (Word name) = goes _ (λ ts. refl) (local-ok t m m' n (named table name))
  name-step table n (Sign symbol) = stays (λ ts. refl)
  name-step table n (Number k) = stays (λ ts. refl)
  name-step table n Big = stays (λ ts. refl)
  name-step table n (Text bytes) = stays (λ ts. refl)

  local-optional_name : (table : Bytes) → IsLocal (c.optional_name table)
  local-optional_name table = local-first-all t m m' (c.optional_name table) (accept (named table table)) refl (name-step table) (λ n. local-ok t m m' n (named table table))

  local-item : IsLocal c.item
  unfolding c.item
  local-item n = local-bind t m m' n identifier _ (local-identifier t m m' n) (λ table. local-next-all t m m' s.As (λ rest. identifier rest >>= (λ r. Ok (named table r.0, r.1))) (c.optional_name table)
      (λ n. local-bind t m m' n identifier _ (local-identifier t m m' n) (λ name. local-ok t m m' n (named table name))) (local-optional_name table) n)

  local-items : IsLocal c.items
  unfolding c.items
  local-items = local-next-all t m m' s.Star (accept syntax.star) (λ ts. separated term ts >>= (λ r. Ok (syntax.list r.0, r.1))) (λ n. local-ok t m m' n syntax.star)
      (λ n. local-bind t m m' n (separated term) _ (local-separated t m m' term shrinks-term n (local-term t m m' n)) (λ xs. local-ok t m m' n (syntax.list xs)))

  pub local-condition : IsLocal c.condition
  unfolding c.condition
  local-condition = local-next-all t m m' s.Where (λ ts. term ts >>= (λ r. Ok (Some r.0, r.1))) (accept None)
      (λ n. local-bind t m m' n term _ (local-term t m m' n) (λ x. local-ok t m m' n (Some x))) (λ n. local-ok t m m' n None)

  local-block : IsLocal c.block
  unfolding c.block
  local-block n = local-expect t m m' n s.Select _ (local-bind t m m' n c.items _ (local-items n) (λ items. local-expect t m m' n s.From _
      (local-bind t m m' n (separated c.item) _ (local-separated t m m' c.item shrinks-item n (local-item n)) (λ from.
      local-bind t m m' n c.condition _ (local-condition n) (λ cond. local-ok t m m' n (record { items = items; from = from; cond = cond }))))))

  pub local-query : IsLocal c.query
  unfolding c.query
  local-query n = local-bind t m m' n c.block _ (local-block n)
      (λ x. local-many t m m' s.Union (s.All then c.block) push shrinks-all n (local-expect t m m' n s.All c.block (local-block n)) (x ∷ []))

  local-set_term : IsLocal c.set_term
  unfolding c.set_term
  local-set_term n = local-bind t m m' n identifier _ (local-identifier t m m' n) (λ col. local-expect t m m' n s.Eq _
      (local-bind t m m' n term _ (local-term t m m' n) (λ x. local-ok t m m' n (record { col = col; term = x }))))

  local-create : IsLocal c.create
  unfolding c.create
  local-create n = local-expect t m m' n s.Table _ (local-bind t m m' n identifier _ (local-identifier t m m' n) (λ name.
      local-bind t m m' n (in_brackets (separated c.column)) _ (local-in_brackets t m m' (separated c.column) n (local-separated t m m' c.column shrinks-column n (local-column n)))
      (λ cols. local-ok t m m' n (syntax.create (record { name = name; cols = cols })))))

  local-insert : IsLocal c.insert
  unfolding c.insert
  local-insert n = local-expect t m m' n s.Into _ (local-bind t m m' n identifier _ (local-identifier t m m' n) (λ table.
      local-next-all t m m' s.Values (λ rest. separated c.tuple rest >>= (λ r. Ok (syntax.insert table r.0, r.1))) (λ rest. c.query rest >>= (λ r. Ok (syntax.insert_select table r.0, r.1)))
      (λ n. local-bind t m m' n (separated c.tuple) _ (local-separated t m m' c.tuple shrinks-tuple n (local-tuple n)) (λ rows. local-ok t m m' n (syntax.insert table rows)))
      (λ n. local-bind t m m' n c.query _ (local-query n) (λ xs. local-ok t m m' n (syntax.insert_select table xs))) n))

  local-update : IsLocal c.update
  unfolding c.update
  local-update n = local-bind t m m' n identifier _ (local-identifier t m m' n) (λ table. local-expect t m m' n s.Set _
      (local-bind t m m' n (separated c.set_term) _ (local-separated t m m' c.set_term shrinks-set_term n (local-set_term n)) (λ sets.
      local-bind t m m' n c.condition _ (local-condition n) (λ cond. local-ok t m m' n (syntax.update table sets cond)))))

  local-delete : IsLocal c.delete
  unfolding c.delete
  local-delete n = local-expect t m m' n s.From _ (local-bind t m m' n identifier _ (local-identifier t m m' n) (λ table.
      local-bind t m m' n c.condition _ (local-condition n) (λ cond. local-ok t m m' n (syntax.delete table cond))))

  statement_symbol-step : (n : ℕ) (symbol : Symbol) → Step t m m' n c.statement selected (Sign symbol)
  unfolding c.query c.block expect
  statement_symbol-step n s.Insert = goes c.insert (λ ts. refl) (local-insert n)
  statement_symbol-step n s.Update = goes c.update (λ ts. refl) (local-update n)
  statement_symbol-step n s.Delete = goes c.delete (λ ts. refl) (local-delete n)
  statement_symbol-step n _ = stays (λ ts. refl)

  statement-step : (n : ℕ) (x : Lexeme) → Step t m m' n c.statement selected x
  unfolding c.query c.block expect
  statement-step n (Sign symbol) = statement_symbol-step n symbol
  statement-step n (Word word) = stays (λ ts. refl)
  statement-step n (Number k) = stays (λ ts. refl)
  statement-step n Big = stays (λ ts. refl)
  statement-step n (Text bytes) = stays (λ ts. refl)

  local-selected : IsLocal selected
  local-selected n = local-bind t m m' n c.query _ (local-query n) (λ xs. local-ok t m m' n (syntax.select xs))

  pub local-statement : IsLocal c.statement
  unfolding c.query c.block expect
  local-statement = local-first-all t m m' c.statement selected refl statement-step local-selected

  local-begin : IsLocal c.begin
  unfolding c.begin
  local-begin = local-word-all t m m' (codes "read") (expect_word (codes "committed") (accept (syntax.begin true))) (accept (syntax.begin false))
      (local-word-all t m m' (codes "committed") (accept (syntax.begin true)) fail (λ n. local-ok t m m' n (syntax.begin true)) (λ n. local-err t m m' n))
      (λ n. local-ok t m m' n (syntax.begin false))

  command_symbol-step : (n : ℕ) (symbol : Symbol) → Step t m m' n c.command selected (Sign symbol)
  unfolding c.query c.block expect
  command_symbol-step n s.Create = goes c.create (λ ts. refl) (local-create n)
  command_symbol-step n s.Begin = goes c.begin (λ ts. refl) (local-begin n)
  command_symbol-step n s.Commit = goes _ (λ ts. refl) (local-ok t m m' n syntax.Command.commit)
  command_symbol-step n s.Rollback = goes _ (λ ts. refl) (local-ok t m m' n syntax.rollback)
  command_symbol-step n s.Insert = goes c.insert (λ ts. refl) (local-insert n)
  command_symbol-step n s.Update = goes c.update (λ ts. refl) (local-update n)
  command_symbol-step n s.Delete = goes c.delete (λ ts. refl) (local-delete n)
  command_symbol-step n _ = stays (λ ts. refl)

  command-step : (n : ℕ) (x : Lexeme) → Step t m m' n c.command selected x
  unfolding c.query c.block expect
  command-step n (Sign symbol) = command_symbol-step n symbol
  command-step n (Word word) = stays (λ ts. refl)
  command-step n (Number k) = stays (λ ts. refl)
  command-step n Big = stays (λ ts. refl)
  command-step n (Text bytes) = stays (λ ts. refl)

  pub local-command : IsLocal c.command
  unfolding c.query c.block expect
  local-command = local-first-all t m m' c.command selected refl command-step local-selected

  session-step : (n : ℕ) (x : Lexeme) → Step t m m' n c.session_command fail x
  session-step n (Word name) = by (session_of name) refl
    where
      by : (o : Option ℕ) → session_of name ≡ o → Step t m m' n c.session_command fail (Word name)
      by None e = stays (λ ts. ap (λ o. by_option o (Err (Word name ∷ ts)) (λ session. c.in_session session ts)) e)
      by (Some session) e = goes (c.in_session session) (λ ts. ap (λ o. by_option o (Err (Word name ∷ ts)) (λ session. c.in_session session ts)) e)
          (local-expect t m m' n s.Colon _ (local-bind t m m' n c.command _ (local-command n) (λ x. local-ok t m m' n (record { session = session; command = x }))))
  session-step n (Sign symbol) = stays (λ ts. refl)
  session-step n (Number k) = stays (λ ts. refl)
  session-step n Big = stays (λ ts. refl)
  session-step n (Text bytes) = stays (λ ts. refl)

  local-session_command : IsLocal c.session_command
  local-session_command = local-first-all t m m' c.session_command fail refl session-step (λ n. local-err t m m' n)

  pub local-script_line : IsLocal c.script_line
  local-script_line n = local-closed t m m' c.session_command n (local-session_command n)
