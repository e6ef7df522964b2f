-- Titles of columns in turn.
use Rattle.std.proofs.Common.{◌≡◌, ℕ, ◌+◌, ◌<◌, ◌≤◌, List, [], ◌∷◌, ◌++◌, length, length-append, map, drop, get_or, Option, Some, refl, ap, ◌∙◌, arith}
use Rattle.std.proofs.lemmas.List.{drop_more, drop_all}
use Rattle.gp_base.specs.declared.table.Column.{Column}
use Rattle.gp_base.specs.declared.table.Table.{Table}
use Rattle.gp_check.specs.Scopes.{columns_of}
use Rattle.gp_grammar.specs.Syntax.{Bytes}
use Rattle.gp_syntax.specs.declared.command.Item.{Item}
use Rattle.gp_syntax.specs.declared.term.Term.{Term}
use Rattle.gp_syntax.specs.Views.{item_view, term_view}
use Rattle.gp_ask.specs.Titles.{star_names, table_names, term_name, title, with_titles}

-- ---- lengths

pub one-longer : (others : ℕ) (before after : List Bytes) (own : Bytes) → others ≤ length before → after ≡ before ++ own ∷ [] → others ≤ length after
one-longer others before after own within is = let count : length after ≡ length before + 1 = ap length is ∙ length-append before (own ∷ []) in omega arith

-- ---- terms

pub terms-next : (others : ℕ) (before after : List Bytes) (terms : List Term) (i : ℕ) (d : Term) → i < length terms → after ≡ before ++ title others before (term_name (term_view (get_or terms i d))) ∷ []
    → with_titles others after (map term_name (map term_view (drop (i + 1) terms))) ≡ with_titles others before (map term_name (map term_view (drop i terms)))
terms-next others before after terms i d within is = rw (drop_more terms i d within, is) refl

pub terms-end : (others : ℕ) (before : List Bytes) (terms : List Term) (i : ℕ) → length terms ≤ i → with_titles others before (map term_name (map term_view (drop i terms))) ≡ before
terms-end others before terms i past = rw (drop_all i terms past) refl

pub ruleset term_steps = (terms-next, terms-end, one-longer)

-- ---- columns

pub columns-next : (others : ℕ) (before after : List Bytes) (columns : List Column) (i : ℕ) (d : Column) → i < length columns → after ≡ before ++ title others before (Some (get_or columns i d).name) ∷ []
    → with_titles others after (table_names (drop (i + 1) columns)) ≡ with_titles others before (table_names (drop i columns))
columns-next others before after columns i d within is = rw (drop_more columns i d within, is) refl

pub columns-end : (others : ℕ) (before : List Bytes) (columns : List Column) (i : ℕ) → length columns ≤ i → with_titles others before (table_names (drop i columns)) ≡ before
columns-end others before columns i past = rw (drop_all i columns past) refl

pub ruleset column_steps = (columns-next, columns-end, one-longer)

-- ---- tables

behind : (others : ℕ) (before : List Bytes) (names more : List (Option Bytes)) → with_titles others (with_titles others before names) more ≡ with_titles others before (names ++ more)
behind others before [] more = refl
behind others before (name ∷ names) more = behind others (before ++ title others before name ∷ []) names more

pub tables-step : (tables : List Table) (others : ℕ) (before after : List Bytes) (from : List Item) (i : ℕ) (item : Item) (columns : List Column) → i < length from → item ≡ get_or from i item
    → columns ≡ columns_of tables item.table → after ≡ with_titles others before (table_names columns)
    → with_titles others after (star_names tables (map item_view (drop (i + 1) from))) ≡ with_titles others before (star_names tables (map item_view (drop i from)))
tables-step tables others before after from i item columns within at of is =
    let more : List (Option Bytes) = star_names tables (map item_view (drop (i + 1) from)) in
    rw (drop_more from i item within)
    (ap (λ (titles : List Bytes). with_titles others titles more)
    (is ∙ ap (λ (own : List Column). with_titles others before (table_names own)) (of ∙ ap (λ (own : Item). columns_of tables own.table) at))
    ∙ behind others before (table_names (columns_of tables (get_or from i item).table)) more)

pub tables-end : (tables : List Table) (others : ℕ) (before : List Bytes) (from : List Item) (i : ℕ) → length from ≤ i → with_titles others before (star_names tables (map item_view (drop i from))) ≡ before
tables-end tables others before from i past = rw (drop_all i from past) refl

pub ruleset table_steps = (tables-end)
