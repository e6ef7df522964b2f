-- Names of the crates below that several lemma files of this crate cite. Declares nothing.
pub use Rattle.gp_algebra.specs.AnnotatedMeaning.{Derived, crossed, meaning, program_meaning, projected, scanned, steps_meaning}
pub use Rattle.gp_algebra.specs.AnnotatedQueries.{Program, Query, QueryStep, given, new_rows, product, project, publish, scan, select, step, union}
pub use Rattle.gp_algebra.specs.Answers.{Element, answer, values}
pub use Rattle.gp_algebra.specs.Effects.{given_from}
pub use Rattle.gp_algebra.specs.Plain.{no_steps}
pub use Rattle.gp_algebra.specs.Reannotation.{IsHomomorphism, reannotated}
pub use Rattle.gp_algebra.specs.Statements.{Select}
pub use Rattle.gp_base.proofs.SmallLemmas.{filter-append, filter-map, filter_agree, flat_map-map, flat_map_agree, map-flat_map, map-map, map_agree}
pub use Rattle.gp_base.specs.Annotated.{Annotated, Annotations, Database, Environment, monomials}
pub use Rattle.gp_base.specs.Identities.{Identity, no_sources, source}
pub use Rattle.gp_base.specs.MonomialForms.{IsMonomial}
pub use Rattle.gp_base.specs.Order.{row_cmp}
pub use Rattle.gp_base.specs.RowOrder.{exact_rows, row_cmp_total}
pub use Rattle.gp_base.specs.TokenOrder.{token_cmp-exact, token_cmp_total}
pub use Rattle.gp_base.specs.Tokens.{Monomial, greatest_count, times, times_from, token_cmp}
pub use Rattle.gp_base.specs.declared.cell.Cell.{Cell}
pub use Rattle.gp_base.specs.declared.limit.TheConstants.{MAX_ANSWER_ROWS}
pub use Rattle.gp_base.specs.declared.token.Token.{Token}
pub use Rattle.gp_base.specs.declared.token.Token.TheVariants.{Inserted}
pub use Rattle.gp_expr.specs.Expressions.{Cond, Expr}
pub use Rattle.gp_expr.specs.Values.{passes}
pub use Rattle.gp_semiring.proofs.MonomialValues.{monomial_value-in}
pub use Rattle.gp_semiring.specs.Powers.{raised}
pub use Rattle.gp_semiring.specs.Semirings.{SemiringLaws}
pub use Rattle.gp_semiring.specs.SumForms.{Each}
pub use Rattle.gp_semiring.specs.SumLaws.{below_less, each_append, first, less, second}
pub use Rattle.gp_semiring.specs.Sums.{added, summed}
pub use Rattle.gp_semiring.specs.Values.{monomial_value}
pub use Rattle.std.proofs.Common.{Bool, List, T, [], ap, arith, cond, false, filter, length, map, min, refl, replicate, subst, suc, sym, true, zero, ℕ, ◌++◌, ◌+◌, ◌<◌, ◌∙◌, ◌∷◌, ◌≡◌, ◌≤◌}
pub use Rattle.std.proofs.lemmas.List.{append-nil, length-map, map-append}
pub use Rattle.std.specs.BTreeMap.{insert_entry, is_at}
pub use Rattle.std.specs.Borrow.{Bor}
pub use Rattle.std.specs.Cmp.{IsTotalOrder}
pub use Rattle.std.specs.FinMap.{find, is_sorted}
pub use Rattle.std.specs.FinMap.Entries.{below_all, by_order}
pub use Rattle.std.specs.List.{flat_map, list_all, list_any}
pub use Rattle.std.specs.Ordering.{eq_by_cmp, is_eq, is_lt}
pub use Rattle.std.specs.Prelude.{None, Option, Some, nat_lt, not, ◌&&◌, ◌==◌, ◌||◌}
pub use Rattle.std.specs.declared.cmp.Ordering.{Ordering}
pub use Rattle.std.specs.declared.cmp.Ordering.TheVariants.{Equal, Greater, Less}
