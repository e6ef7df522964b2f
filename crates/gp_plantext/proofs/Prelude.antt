-- Names of the crates below that several lemma files of this crate cite. Declares nothing.
pub use Rattle.gp_algebra.specs.Plain.{Plain, PlainProgram, PlainStep}
pub use Rattle.gp_algebra.specs.declared.plain.PQuery.{PQuery}
pub use Rattle.gp_base.specs.CatalogForms.{HaveDifferentNames}
pub use Rattle.gp_base.specs.Digits.{is_digit}
pub use Rattle.gp_base.specs.Identities.{Identity, identity_text, nodes}
pub use Rattle.gp_base.specs.Leaves.{digits_at, if_there}
pub use Rattle.gp_base.specs.Texts.{cell_text}
pub use Rattle.gp_base.specs.Tokens.{Monomial, greatest_count, is_token, is_u32, monomial_text, token_cmp}
pub use Rattle.gp_base.specs.declared.cell.Cell.{Cell}
pub use Rattle.gp_base.specs.declared.row_id.TheConstants.{MAX_NODES}
pub use Rattle.gp_base.specs.declared.table.Table.{Table}
pub use Rattle.gp_base.specs.declared.token.Token.{Token}
pub use Rattle.gp_base.specs.declared.token.Token.TheVariants.{Inserted, Queried, Updated}
pub use Rattle.gp_expr.specs.Expressions.{Cond, Expr}
pub use Rattle.gp_expr.specs.Views.{expr_view, parts_of}
pub use Rattle.std.proofs.Common.{Bool, List, None, Option, Some, [], ap, append-nil, append_assoc, arith, drop, eqb, false, get_or, inl, inr, leb, length, length-append, map, min, negsuc, not, option_and_then, pos, refl, subst, suc, sym, true, zero, ℕ, ◌*◌, ◌++◌, ◌+◌, ◌-◌, ◌<◌, ◌^◌, ◌∙◌, ◌∷◌, ◌≡◌, ◌≢◌, ◌≤◌}
pub use Rattle.std.proofs.lemmas.Bool.{and_from, and_parts, cases_Bool, eqb-true, false≢true, le-leb, leb-true, lt-ltb, ltb-true}
pub use Rattle.std.proofs.lemmas.Fmt.{decimal_nonempty}
pub use Rattle.std.proofs.lemmas.List.{drop_more}
pub use Rattle.std.proofs.lemmas.Slice.Eq.{bytes_eq-Decides}
pub use Rattle.std.specs.FinMap.{is_sorted}
pub use Rattle.std.specs.Fmt.{decimal}
pub use Rattle.std.specs.List.{AllByRecursion, concat, flat_map, list_all}
pub use Rattle.std.specs.Option.{option_map}
pub use Rattle.std.specs.Prelude.{codes, ◌&&◌}
pub use Rattle.std.specs.Str.{bytes_eq}
