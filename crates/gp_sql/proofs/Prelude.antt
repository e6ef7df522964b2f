-- Names of the crates below that several lemma files of this crate cite. Declares nothing.
pub use Rattle.gp_algebra.specs.Answers.{values}
pub use Rattle.gp_algebra.specs.Encoding.{encoded_row}
pub use Rattle.gp_algebra.specs.Plain.{Plain, PlainProgram, PlainStep, StepRows, is_marked, is_same_id, meaning, published_onto}
pub use Rattle.gp_algebra.specs.Statements.{width_of}
pub use Rattle.gp_base.proofs.SmallLemmas.{each_append, eq_itself, filter-map, length-map, map-flat_map, map-map, map_agree_at, not_eq}
pub use Rattle.gp_base.specs.Annotated.{unannotated}
pub use Rattle.gp_base.specs.Catalogs.{table_names}
pub use Rattle.gp_base.specs.Cells.{fits_number}
pub use Rattle.gp_base.specs.Digits.{is_digit}
pub use Rattle.gp_base.specs.Identities.{Sources, identity_text, others_text}
pub use Rattle.gp_base.specs.Leaves.{if_there}
pub use Rattle.gp_base.specs.Names.{is_name}
pub use Rattle.gp_base.specs.Numbered.{newline}
pub use Rattle.gp_base.specs.Tokens.{is_u32}
pub use Rattle.gp_base.specs.declared.cell.Cell.{Cell}
pub use Rattle.gp_base.specs.declared.table.Table.{Table}
pub use Rattle.gp_expr.specs.Expressions.{Cond, Expr, Parts}
pub use Rattle.gp_expr.specs.Values.{both, column, compared, either, holds, identities, known, made_identity, negated, negation, on_numbers, passes, tested, truth, value, with_source}
pub use Rattle.gp_expr.specs.declared.expr.Cmp.{Cmp}
pub use Rattle.gp_plantext.proofs.NumberAgain.{EndsName}
pub use Rattle.gp_plantext.proofs.Rests.{Ends, concat-onto, then_is}
pub use Rattle.gp_plantext.proofs.WordLemmas.{behind-words}
pub use Rattle.gp_plantext.specs.Leaves.{Read, behind, most_u64, name_at, number_at, text_at, with_rest}
pub use Rattle.gp_plantext.specs.Spellable.{cell_is_spellable, cond_is_spellable, expr_is_spellable}
pub use Rattle.gp_versions.proofs.SameLemmas.{same-exact}
pub use Rattle.gp_versions.specs.Spans.{holds_at, row_of, rows_at, spans_at}
pub use Rattle.gp_versions.specs.declared.span.Span.{Span}
pub use Rattle.std.proofs.Common.{Bool, List, None, Some, [], ap, append-nil, append_assoc, arith, cond, drop, eqb, false, get_or, length, length-append, ltb, map, option_and_then, pos, refl, subst, suc, sym, take, true, zero, ℕ, ℤ, ◌++◌, ◌+◌, ◌-◌, ◌<◌, ◌^◌, ◌∙◌, ◌∷◌, ◌≡◌, ◌≢◌, ◌≤◌}
pub use Rattle.std.proofs.lemmas.Bool.{and_from, and_parts, false≢true, leb-true, lt-ltb, ltb-true}
pub use Rattle.std.proofs.lemmas.List.{map-append}
pub use Rattle.std.proofs.lemmas.List.Folds.{list_all-append}
pub use Rattle.std.specs.Fmt.{decimal, signed_decimal}
pub use Rattle.std.specs.List.{AllByRecursion, concat, flat_map, list_all, list_any}
pub use Rattle.std.specs.Option.{option_map, option_map_or}
pub use Rattle.std.specs.Prelude.{Option, codes, filter, if◌then◌else◌, is_some, not, slice_get, ◌&&◌, ◌*ℤ◌, ◌+ℤ◌, ◌-ℤ◌, ◌==◌, ◌||◌}
pub use Rattle.std.specs.Str.{bytes_eq}
