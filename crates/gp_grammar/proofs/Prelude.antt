-- The names that the proofs of this crate cite, passed on from one place. Declares nothing.
pub use Rattle.gp_base.specs.Names.{is_lower_letter, is_name, is_name_byte}
pub use Rattle.gp_base.specs.Texts.{quoted_byte}
pub use Rattle.gp_base.specs.declared.cell.Cell.{Cell}
pub use Rattle.gp_base.specs.declared.table.Column.{Column}
pub use Rattle.gp_grammar.specs.Canonical.{block_lexemes, bracketed, cell_lexemes, column_definition_lexemes, command_lexemes, command_text, condition_lexemes, item_lexemes, items_lexemes, joined_lexemes, listed_lexemes, query_lexemes, set_lexemes, symbol_of, term_lexemes, tuple_lexemes}
pub use Rattle.gp_grammar.specs.Capping.{binary, capped, capped_block, capped_change, capped_command, capped_items, capped_line, capped_question, capped_set, capped_side, case, is_large, is_null, is_true, neg, not}
pub use Rattle.gp_grammar.specs.CommandGrammar.{Closed, IsBlock, IsColumn, IsCommand, IsItem, IsItems, IsList, IsLiteral, IsQuery, IsScriptLine, IsSessionCommand, IsSetTerm, IsStatement, IsTuple, IsWhere, comma, session_of, union_all}
pub use Rattle.gp_grammar.specs.CommandParsing.{accept, closed, command, condition, expect_word, fail, in_brackets, is_word, many, named, push, query, script_line, separated, statement, strip_word, where_next, where_word, ◌then◌}
pub use Rattle.gp_grammar.specs.Depth.{is_too_deep}
pub use Rattle.gp_grammar.specs.Grammar.{Derives, IsTerm, Phrase, operand}
pub use Rattle.gp_grammar.specs.Laws.{Built, CapsFairly, term_shape}
pub use Rattle.gp_grammar.specs.Limits.{Limit, Shape, both, command_shape, levels, line_shape, nodes, passed_limit, question_shape, select_terms, shape_of_count, some_above, terms_of_condition, terms_of_query}
pub use Rattle.gp_grammar.specs.LineReading.{Fault, ReadsLine, ReadsText}
pub use Rattle.gp_grammar.specs.Operators.{comparison_of, operator_of}
pub use Rattle.gp_grammar.specs.Parsing.{Outcome, Parser, by_option, expected, identifier, is_symbol, next_operator, strip, term, whole, with_rest, ◌>>=◌}
pub use Rattle.gp_grammar.specs.Places.{NoneGoesOn, Stops}
pub use Rattle.gp_grammar.specs.QuestionGrammar.{IsChange, IsChanges, IsHow, IsKept, IsKeptHow, IsLeftOut, IsOpenQuestion, IsPattern, IsPoint, IsQuestion, IsRule, IsRules, IsSemiring, IsSide, IsSideSubject, IsSubject, pattern_name}
pub use Rattle.gp_grammar.specs.QuestionParsing.{number, number_if, pattern_of, question}
pub use Rattle.gp_grammar.specs.Reading.{question_of, read_line, script_line_of}
pub use Rattle.gp_grammar.specs.Syntax.{Block, Bytes, Command, How, Item, Items, Lexemes, LogChange, Pattern, Point, Query, Question, Rule, Rules, ScriptLine, SetTerm, Side, Subject, Term, col, int, is_statement, null, rule_of, text}
pub use Rattle.gp_grammar.specs.declared.level.Level.{Level}
pub use Rattle.gp_grammar.specs.declared.limits.TheConstants.{MAX_BRANCHES, MAX_CHANGES, MAX_COLUMNS, MAX_FROM, MAX_LEVELS, MAX_LINE_LENGTH, MAX_NODES, MAX_OPEN, MAX_PATTERN_NUMBER, MAX_VALUES}
pub use Rattle.gp_grammar.specs.declared.op.Op.{Op}
pub use Rattle.gp_grammar.specs.declared.token_kind.TokenKind.{TokenKind}
pub use Rattle.gp_lexer.specs.Layout.{Page, empty_page, has_space, laid_out, put, spaced}
pub use Rattle.gp_lexer.specs.LexResults.{lexemes_of}
pub use Rattle.gp_lexer.specs.Lexemes.{spelled}
pub use Rattle.gp_lexer.specs.Lexing.{Lexed, lexed}
pub use Rattle.gp_lexer.specs.ProperLexemes.{AreProper, IsProper}
pub use Rattle.gp_lexer.specs.declared.lexeme.Lexeme.{Lexeme}
pub use Rattle.gp_lexer.specs.declared.lexeme.Lexeme.TheVariants.{Big, Number, Symbol as Sign, Text, Word}
pub use Rattle.gp_lexer.specs.declared.lexeme.Symbol.{Symbol}
pub use Rattle.std.proofs.Common.{Bool, Err, IfOk, IfSome, List, None, Ok, Option, Result, Some, [], ap, append_assoc, arith, cond, eqb, false, inl, inr, length, ltb, map, negsuc, pos, refl, subst, suc, sym, true, zero, ℕ, ◌++◌, ◌+◌, ◌<◌, ◌↔◌, ◌∙◌, ◌∷◌, ◌≡◌, ◌≤◌, ◌⊎◌}
pub use Rattle.std.proofs.lemmas.Bool.{ltb-false, ltb-true, or_parts}
pub use Rattle.std.proofs.lemmas.Bool.Decides.{nat_tests}
pub use Rattle.std.proofs.lemmas.List.{append-nil, map-append}
pub use Rattle.std.proofs.lemmas.Option.{same_Some}
pub use Rattle.std.proofs.lemmas.Slice.Eq.{bytes_eq-Decides}
pub use Rattle.std.proofs.lemmas.Str.{IsUtf8-from_is_utf8}
pub use Rattle.std.specs.Char.{is_ascii_control}
pub use Rattle.std.specs.Fmt.{decimal}
pub use Rattle.std.specs.List.{AllByRecursion, flat_map, list_all}
pub use Rattle.std.specs.Prelude.{codes, max, nat_le, option_map, ◌-◌, ◌^◌, ◌||◌}
pub use Rattle.std.specs.Result.{result_ok}
pub use Rattle.std.specs.Str.{IsUtf8, bytes_eq}
pub use Rattle.std.specs.Str.Parse.{digits_value}
