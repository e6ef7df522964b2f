-- What a log line says is read only from its own text, and again from it where it is the command of a script line. Its text is UTF-8 and has no line feed.
use Rattle.std.proofs.Common.{◌≡◌, ℕ, Bool, true, false, cond, List, [], ◌∷◌, ◌++◌, get_or, Some, None, Result, Ok, Err, refl, sym, ap, subst, ◌∙◌, inl, inr, arith, codes}
use Rattle.std.specs.Str.{bytes_eq, chars, is_utf8}
use Rattle.std.proofs.lemmas.Bool.{cases_Bool}
use Rattle.std.proofs.lemmas.Slice.Eq.{bytes_eq-Decides}
use Rattle.gp_base.specs.declared.table.Table.{Table}
use Rattle.gp_base.specs.Names.{is_name}
use Rattle.gp_lexer.specs.declared.gap.Gap.TheVariants.{Start}
use Rattle.gp_lexer.specs.declared.lexeme.Lexeme.{Lexeme}
use Rattle.gp_lexer.specs.declared.lexeme.Lexeme.TheVariants.{Symbol as Sign}
use Rattle.gp_lexer.specs.declared.lexeme.Symbol.TheVariants as s
use Rattle.gp_lexer.specs.Layout.{next_gap, empty_page, laid_out}
use Rattle.gp_lexer.specs.Lexemes.{spelled, symbol_text}
use Rattle.gp_lexer.specs.ProperLexemes.{AreProper}
use Rattle.gp_lexer.specs.Lexing as lex
use Rattle.gp_lexer.proofs.LayoutLemmas.{added, written-added}
use Rattle.gp_lexer.proofs.ProperLemmas.{lexemes-proper}
use Rattle.gp_grammar.specs.Canonical.{command_text, query_lexemes}
use Rattle.gp_grammar.specs.Capping.{capped_command}
use Rattle.gp_grammar.specs.CommandGrammar as g
use Rattle.gp_grammar.specs.CommandGrammar.{IsCommand}
use Rattle.gp_grammar.specs.CommandParsing as c
use Rattle.gp_grammar.specs.CommandParsing.{command}
use Rattle.gp_grammar.specs.Limits.{command_shape}
use Rattle.gp_grammar.specs.LineReading.{Fault}
use Rattle.gp_grammar.specs.Reading.{command_of, script_line_of}
use Rattle.gp_grammar.specs.Syntax as y
use Rattle.gp_grammar.specs.Syntax.{Lexemes, Bytes, Command, ScriptLine, Query}
use Rattle.gp_grammar.proofs.CanonicalLaws.{derived-read, lexed-lexemes, text-utf8, text-one_line}
use Rattle.gp_grammar.proofs.LineLaws.{texts-read}
use Rattle.gp_grammar.proofs.ParserLaws.{lawful-command}
use Rattle.gp_grammar.proofs.ShapeLemmas.{commands-fair}
use Rattle.gp_grammar.proofs.Utf8Lemmas.{symbols-utf8}
use Rattle.gp_log.specs.Discipline.{Said, Does, Loses}
use Rattle.gp_log.proofs.LineCommands.{line-command}
use Rattle.gp_dumpline.specs.Forms.{if_canonical, said_of}
use Rattle.gp_dumpline.specs.Said.{IsSaid}
use Rattle.gp_dumpline.specs.Texts.{said_text}
use Rattle.gp_dumpline.proofs.LineBytes.{IsLine, tested-free, words-alone}

-- ---- only its text is read

some_said : (x z : Said) → Some x ≡ Some z → x ≡ z
some_said x z e = cc

none_said : (x : Said) → None ≡ Some x → ⊥
none_said x e = cc

record TakesCommand (text : List ℕ) (said : Said) : Type 0 where
  found : Command
  read : command_of text ≡ Ok found
  is : text ≡ command_text found
  says : said ≡ Does found

canonical-takes : (text : List ℕ) (said : Said) (reading : Result Command Fault) → command_of text ≡ reading → if_canonical text reading ≡ Some said → TakesCommand text said
canonical-takes text said (Err fault) r e = absurd (none_said said e)
canonical-takes text said (Ok found) r e = elim (cases_Bool (bytes_eq (command_text found) text)) [
  | inl same ↦
      let f = rw same at e in
      record { found = found; read = r; is = sym ((bytes_eq-Decides (command_text found) text).0 same); says = sym (some_said (Does found) said f) }
  | inr other ↦ let f = rw other at e in absurd (none_said said f)
]

pub said-takes : (text : List ℕ) (said : Said) → said_of text ≡ Some said → text ≡ said_text said
unfolding said_of
said-takes text said e = elim (cases_Bool (bytes_eq text (codes "LOST"))) [
  | inl lost ↦
      let f = rw lost at e in
      (bytes_eq-Decides text (codes "LOST")).0 lost ∙ ap said_text (some_said Loses said f)
  | inr other ↦
      let f = rw other at e in
      let t = canonical-takes text said (command_of text) refl f in
      t.is ∙ ap said_text (sym t.says)
]

-- ---- no command is written as LOST

first-text : (lexeme : Lexeme) (lexemes : List Lexeme) → laid_out (lexeme ∷ lexemes) ≡ spelled lexeme ++ added (next_gap Start lexeme) lexemes
first-text lexeme lexemes = written-added empty_page (lexeme ∷ lexemes)

lost-first : (b : ℕ) (bytes text : List ℕ) → text ≡ b ∷ bytes → text ≡ codes "LOST" → b ≡ 76
lost-first b bytes text is lost = ap (λ (x : List ℕ). get_or x 0 0) (sym is ∙ lost)

no_query-lost : (query : Query) → laid_out (query_lexemes query) ≡ codes "LOST" → ⊥
unfolding symbol_text
no_query-lost [] e = absurd (empty (sym (written-added empty_page []) ∙ e))
  where
    empty : [] ≡ codes "LOST" → ⊥
    empty h = cc
no_query-lost (block ∷ blocks) e = absurd (omega (arith, lost-first 83 _ _ (first-text (Sign s.Select) _) e))

not-lost : (x : Command) → command_text x ≡ codes "LOST" → ⊥
unfolding symbol_text
not-lost (y.create table) e = omega (arith, lost-first 67 _ _ (first-text (Sign s.Create) _) e)
not-lost (y.begin false) e = omega (arith, lost-first 66 _ _ (first-text (Sign s.Begin) _) e)
not-lost (y.begin true) e = omega (arith, lost-first 66 (codes "EGIN READ COMMITTED") (codes "BEGIN READ COMMITTED") refl e)
not-lost y.Command.commit e = omega (arith, lost-first 67 _ _ (first-text (Sign s.Commit) _) e)
not-lost y.rollback e = omega (arith, lost-first 82 _ _ (first-text (Sign s.Rollback) _) e)
not-lost (y.insert table rows) e = omega (arith, lost-first 73 _ _ (first-text (Sign s.Insert) _) e)
not-lost (y.insert_select table query) e = omega (arith, lost-first 73 _ _ (first-text (Sign s.Insert) _) e)
not-lost (y.update table sets cond) e = omega (arith, lost-first 85 _ _ (first-text (Sign s.Update) _) e)
not-lost (y.delete table cond) e = omega (arith, lost-first 68 _ _ (first-text (Sign s.Delete) _) e)
not-lost (y.select query) e = no_query-lost query e

-- ---- a command that its text is read as is said again

pub command-said : (x : Command) → command_of (command_text x) ≡ Ok x → said_of (said_text (Does x)) ≡ Some (Does x)
unfolding said_of
command-said x is = elim (cases_Bool (bytes_eq (command_text x) (codes "LOST"))) [
  | inl lost ↦ absurd (not-lost x ((bytes_eq-Decides (command_text x) (codes "LOST")).0 lost))
  | inr other ↦ rw (other, is, (bytes_eq-Decides (command_text x) (command_text x)).1 refl) refl
]

pub said-command : (x : Command) → said_of (said_text (Does x)) ≡ Some (Does x) → command_of (command_text x) ≡ Ok x
unfolding said_of
said-command x e = elim (cases_Bool (bytes_eq (command_text x) (codes "LOST"))) [
  | inl lost ↦ absurd (not-lost x ((bytes_eq-Decides (command_text x) (codes "LOST")).0 lost))
  | inr other ↦
      let f = rw other at e in
      let t = canonical-takes (command_text x) (Does x) (command_of (command_text x)) refl f in
      let same : x ≡ t.found = does x t.found t.says in
      t.read ∙ ap (λ (z : Command). Ok z) (sym same)
]
  where
    does : (a b : Command) → Does a ≡ Does b → a ≡ b
    does a b h = cc

-- ---- commands of lexemes

read_committed-read : command_of (command_text (y.begin true)) ≡ Ok (y.begin true)
unfolding is_utf8 chars lib.Utf8.encode lex.lexed lex.lexed_from lex.lexeme_at lex.word_at lex.reserved_word symbol_text lex.number_at lex.sign_at c.begin
read_committed-read = refl

begin-read : (read_committed : Bool) → command_of (command_text (y.begin read_committed)) ≡ Ok (y.begin read_committed)
begin-read false = derived-read (Sign s.Begin ∷ []) (y.begin false) g.begin refl (tt, tt) (symbols-utf8 s.Begin, tt)
begin-read true = read_committed-read

commit-read : command_of (command_text y.Command.commit) ≡ Ok y.Command.commit
commit-read = derived-read (Sign s.Commit ∷ []) y.Command.commit g.commit refl (tt, tt) (symbols-utf8 s.Commit, tt)

rollback-read : command_of (command_text y.rollback) ≡ Ok y.rollback
rollback-read = derived-read (Sign s.Rollback ∷ []) y.rollback g.rollback refl (tt, tt) (symbols-utf8 s.Rollback, tt)

pub begin-said : (read_committed : Bool) → said_of (said_text (Does (y.begin read_committed))) ≡ Some (Does (y.begin read_committed))
begin-said read_committed = command-said (y.begin read_committed) (begin-read read_committed)

pub commit-said : said_of (said_text (Does y.Command.commit)) ≡ Some (Does y.Command.commit)
commit-said = command-said y.Command.commit commit-read

pub rollback-said : said_of (said_text (Does y.rollback)) ≡ Some (Does y.rollback)
rollback-said = command-said y.rollback rollback-read

pub lost-said : said_of (said_text Loses) ≡ Some Loses
unfolding said_of
lost-said = refl

-- ---- the command of a script line

pub line-said : (bytes : Bytes) (line : ScriptLine) → script_line_of bytes ≡ Ok line → said_of (said_text (Does line.command)) ≡ Some (Does line.command)
line-said bytes line e = command-said line.command (line-command bytes line e)

-- ---- the name of a table

create-name : (ts : Lexemes) (x : Command) (table : Table) → IsCommand ts x → x ≡ y.create table → AreProper ts → is_name table.name ≡ true
create-name _ _ table (g.create name a cols is) e are = let same : name ≡ table.name = cc in subst (λ (z : List ℕ). is_name z ≡ true) same are.1.1.0
create-name _ _ table g.begin e are = absurd cc
create-name _ _ table g.begin_read_committed e are = absurd cc
create-name _ _ table g.commit e are = absurd cc
create-name _ _ table g.rollback e are = absurd cc
create-name _ _ table (g.insert other a rows is) e are = absurd cc
create-name _ _ table (g.insert_select other a query is) e are = absurd cc
create-name _ _ table (g.update other a w sets cond is js) e are = absurd cc
create-name _ _ table (g.delete other w cond is) e are = absurd cc
create-name _ _ table (g.select a query is) e are = absurd cc

pub command-name : (text : Bytes) (table : Table) → command_of text ≡ Ok (y.create table) → is_name table.name ≡ true
command-name text table e =
    let r = (texts-read command IsCommand capped_command command_shape lawful-command commands-fair text (y.create table)).0 e in
    create-name r.lexemes (y.create table) table r.derived refl (lexemes-proper text r.lexemes (lexed-lexemes text r.lexemes r.columns r.lexical.found))

-- a table that is created has a name
pub said-name : (text : Bytes) (table : Table) → said_of text ≡ Some (Does (y.create table)) → is_name table.name ≡ true
unfolding said_of
said-name text table e = elim (cases_Bool (bytes_eq text (codes "LOST"))) [
  | inl lost ↦ let f = rw lost at e in absurd (lost-does (y.create table) (some_said Loses (Does (y.create table)) f))
  | inr other ↦
      let f = rw other at e in
      let t = canonical-takes text (Does (y.create table)) (command_of text) refl f in
      command-name text table (t.read ∙ ap (λ (x : Command). Ok x) (sym (does (y.create table) t.found t.says)))
]
  where
    lost-does : (x : Command) → Loses ≡ Does x → ⊥
    lost-does x h = cc

    does : (a b : Command) → Does a ≡ Does b → a ≡ b
    does a b h = cc

-- ---- bytes

pub said-line : (said : Said) → said_of (said_text said) ≡ Some said → IsLine (said_text said)
said-line Loses e = words-alone (codes "LOST") refl
said-line (Does x) e =
    let r = said-command x e in
    record { utf8 = text-utf8 (command_text x) x r; free = tested-free (command_text x) (text-one_line (command_text x) x r) }

-- ---- what can be said

pub said-is : (said : Said) → said_of (said_text said) ≡ Some said → IsSaid said
said-is Loses e = tt
said-is (Does x) e = (texts-read command IsCommand capped_command command_shape lawful-command commands-fair (command_text x) x).0 (said-command x e)

pub is-said : (said : Said) → IsSaid said → said_of (said_text said) ≡ Some said
is-said Loses is = lost-said
is-said (Does x) is = command-said x ((texts-read command IsCommand capped_command command_shape lawful-command commands-fair (command_text x) x).1 is)
