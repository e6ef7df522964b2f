-- The columns of the tables of a log that can be read have names.
use Rattle.std.proofs.Common.{◌≡◌, true, List, [], ◌∷◌, ◌++◌, refl, subst, ◌∙◌}
use Rattle.std.specs.List.{list_all}
use Rattle.std.proofs.lemmas.Bool.{and_from}
use Rattle.std.proofs.lemmas.List.Folds.{list_all-append}
use Rattle.gp_base.specs.declared.table.Column as table
use Rattle.gp_base.specs.declared.table.Table.{Table}
use Rattle.gp_base.specs.Names.{is_name}
use Rattle.gp_lexer.specs.ProperLexemes.{AreProper}
use Rattle.gp_lexer.proofs.ProperLemmas.{lexemes-proper}
use Rattle.gp_grammar.specs.Canonical.{command_text}
use Rattle.gp_grammar.specs.CommandGrammar as g
use Rattle.gp_grammar.specs.CommandGrammar.{IsCommand, IsColumn, IsList, comma}
use Rattle.gp_grammar.specs.Limits.{command_shape}
use Rattle.gp_grammar.specs.LineReading.{ReadsText}
use Rattle.gp_grammar.specs.Syntax as y
use Rattle.gp_grammar.specs.Syntax.{Lexemes, Command}
use Rattle.gp_grammar.proofs.CanonicalLaws.{lexed-lexemes}
use Rattle.gp_machine.specs.Entries.{Entry, Created, Began, Ran, Committed, Ended}
use Rattle.gp_log.specs.LogFacts.{tables_in}
use Rattle.gp_dump.specs.WholeDumps.{AreReadable}

-- ---- a CREATE

abbrev are_named : List table.Column → Type 0
are_named columns = list_all (λ (column : table.Column). is_name column.name) columns ≡ true

proper-parts : (a b : Lexemes) → AreProper (a ++ b) → AreProper a × AreProper b
proper-parts [] b are = (tt, are)
proper-parts (lexeme ∷ a) b are = let p = proper-parts a b are.1 in ((are.0, p.0), p.1)

one-named : (a : Lexemes) (column : table.Column) → IsColumn a column → AreProper a → are_named (column ∷ [])
one-named _ _ (g.int_column name) are = and_from (is_name name) true are.0 refl
one-named _ _ (g.text_column name) are = and_from (is_name name) true are.0 refl

list-named : (a : Lexemes) (columns : List table.Column) → IsList comma IsColumn a columns → AreProper a → are_named columns
list-named _ _ (g.one a column is) are = one-named a column is are
list-named _ _ (g.more a b columns column list is) are =
    let p = proper-parts a (comma ++ b) are in
    list_all-append (λ (other : table.Column). is_name other.name) columns (column ∷ [])
    ∙ and_from (list_all (λ (other : table.Column). is_name other.name) columns) (list_all (λ (other : table.Column). is_name other.name) (column ∷ []))
    (list-named a columns list p.0) (one-named b column is p.1.1)

create-named : (ts : Lexemes) (x : Command) (own : Table) → IsCommand ts x → x ≡ y.create own → AreProper ts → are_named own.cols
create-named _ _ own (g.create name a columns list) e are =
    let same : columns ≡ own.cols = cc in
    subst are_named same (list-named a columns list (proper-parts a _ are.1.1.1.1).0)
create-named _ _ own g.begin e are = absurd cc
create-named _ _ own g.begin_read_committed e are = absurd cc
create-named _ _ own g.commit e are = absurd cc
create-named _ _ own g.rollback e are = absurd cc
create-named _ _ own (g.insert other a rows is) e are = absurd cc
create-named _ _ own (g.insert_select other a query is) e are = absurd cc
create-named _ _ own (g.update other a w sets c is js) e are = absurd cc
create-named _ _ own (g.delete other w c is) e are = absurd cc
create-named _ _ own (g.select a query is) e are = absurd cc

created-named : (own : Table) → ReadsText IsCommand command_shape (command_text (y.create own)) (y.create own) → are_named own.cols
created-named own r =
    create-named r.lexemes (y.create own) own r.derived refl (lexemes-proper (command_text (y.create own)) r.lexemes (lexed-lexemes (command_text (y.create own)) r.lexemes r.columns r.lexical.found))

-- ---- a log

pub all-named : (entries : List Entry) → AreReadable entries → list_all (λ (own : Table). list_all (λ (column : table.Column). is_name column.name) own.cols) (tables_in entries) ≡ true
all-named [] are = refl
all-named (Created line session own ∷ older) are =
    list_all-append (λ (each : Table). list_all (λ (column : table.Column). is_name column.name) each.cols) (tables_in older) (own ∷ [])
    ∙ and_from (list_all (λ (each : Table). list_all (λ (column : table.Column). is_name column.name) each.cols) (tables_in older)) (list_all (λ (each : Table). list_all (λ (column : table.Column). is_name column.name) each.cols) (own ∷ []))
    (all-named older are.1) (and_from (list_all (λ (column : table.Column). is_name column.name) own.cols) true (created-named own are.0) refl)
all-named (Began line session t level ∷ older) are = all-named older are.1
all-named (Ran line session command t statement ∷ older) are = all-named older are.1
all-named (Committed line session t ∷ older) are = all-named older are.1
all-named (Ended line session end t ∷ older) are = all-named older are.1
