-- A text spells one query.
use Rattle.gp_sql.proofs.Prelude.{◌≡◌, ℕ, suc, ◌+◌, ◌<◌, ◌≤◌, Bool, true, false, ltb, List, [], ◌∷◌, ◌++◌, length, Some, None, option_and_then, refl, sym, ap, ◌∙◌, append-nil, arith, codes, ◌&&◌, concat, flat_map, list_all, option_map, and_parts, and_from, ltb-true, lt-ltb, Table, newline, with_rest, behind, concat-onto, then_is}
use Rattle.gp_sql.specs.Spelled.{HaveOwnNames, source_is_spelled, query_is_spelled, is_spelled}
use Rattle.gp_sql.specs.Spelling.{materialized_text, source_text, query_text, expression_text, other_expression, expressions_text, with_text}
use Rattle.gp_sql.specs.Sql as s
use Rattle.gp_sql.specs.Sql.{Source, Query, NamedQuery, With}
use Rattle.gp_sql.proofs.Reading.{many_at, expression_on, expression_at, expressions_at, last_at, with_at}
use Rattle.gp_sql.proofs.NamesAgain.{named_is_spelled, source-again}
use Rattle.gp_sql.proofs.PartsAgain.{query_size}
use Rattle.gp_sql.proofs.TreesAgain.{ends-bracket, ends-last, many-again, query-again}

abbrev queries_size : List NamedQuery → ℕ
queries_size [] = 0
queries_size (named ∷ queries) = 1 + (query_size named.query + queries_size queries)

abbrev with_size : With → ℕ
with_size query = queries_size query.queries + query_size query.last

few-queries : (queries : List NamedQuery) → length queries ≤ queries_size queries
few-queries [] = omega arith
few-queries (named ∷ queries) = omega (arith, few-queries queries)

module _ (tables : List Table) (apart : HaveOwnNames tables) (n : ℕ) where
  expression-is : (name : Source) (materialized : Bool) (query : Query) (rest : List ℕ) → source_is_spelled tables name ≡ true → query_is_spelled tables query ≡ true → query_size query < n
      → expression_at tables n (source_text tables name ++ (codes " AS " ++ (materialized_text materialized ++ (codes "(" ++ (query_text tables query ++ (codes ")" ++ rest)))))) ≡ Some (record { name = name; materialized = materialized; query = query }, rest)
  expression-is name true query rest named is few =
      then_is _ name (codes " AS MATERIALIZED (" ++ (query_text tables query ++ (codes ")" ++ rest))) (expression_on tables n)
      (source-again tables apart name (codes " AS MATERIALIZED (" ++ (query_text tables query ++ (codes ")" ++ rest))) named refl)
      ∙ then_is _ query (codes ")" ++ rest) (λ (x : Query × List ℕ). with_rest (record { name = name; materialized = true; query = x.0 }) (behind (codes ")") x.1)) (query-again tables apart query n (codes ")" ++ rest) is few (ends-bracket rest) refl)
  expression-is name false query rest named is few =
      then_is _ name (codes " AS (" ++ (query_text tables query ++ (codes ")" ++ rest))) (expression_on tables n)
      (source-again tables apart name (codes " AS (" ++ (query_text tables query ++ (codes ")" ++ rest))) named refl)
      ∙ then_is _ query (codes ")" ++ rest) (λ (x : Query × List ℕ). with_rest (record { name = name; materialized = false; query = x.0 }) (behind (codes ")") x.1)) (query-again tables apart query n (codes ")" ++ rest) is few (ends-bracket rest) refl)

  abbrev is_short : NamedQuery → Bool
  is_short named = named_is_spelled tables named && ltb (query_size named.query) n

  expression-again : (named : NamedQuery) (rest : List ℕ) → is_short named ≡ true → expression_at tables n (expression_text tables named ++ rest) ≡ Some (named, rest)
  expression-again named rest is =
      let p = and_parts (named_is_spelled tables named) (ltb (query_size named.query) n) is in
      let q = and_parts (source_is_spelled tables named.name) (query_is_spelled tables named.query) p.0 in
      ap (expression_at tables n) (concat-onto (source_text tables named.name ∷ codes " AS " ∷ materialized_text named.materialized ∷ codes "(" ∷ query_text tables named.query ∷ codes ")" ∷ []) rest)
      ∙ expression-is named.name named.materialized named.query rest q.0 q.1 (ltb-true (query_size named.query) n p.1)

  all-short : (queries : List NamedQuery) → list_all (named_is_spelled tables) queries ≡ true → queries_size queries < n → list_all is_short queries ≡ true
  all-short [] is few = refl
  all-short (named ∷ queries) is few =
      let p = and_parts (named_is_spelled tables named) (list_all (named_is_spelled tables) queries) is in
      let h : 1 + (query_size named.query + queries_size queries) < n = few in
      and_from (is_short named) (list_all is_short queries) (and_from (named_is_spelled tables named) (ltb (query_size named.query) n) p.0 (lt-ltb (query_size named.query) n (omega (arith, h)))) (all-short queries p.1 (omega (arith, h)))

  begins-select : (query : Query) (rest : List ℕ) → behind (codes "WITH ") (query_text tables query ++ rest) ≡ None
  begins-select (s.block (s.select items from cond)) rest = refl
  begins-select (s.union_all (s.select items from cond) query) rest = refl

  last-again : (queries : List NamedQuery) (last : Query) → query_is_spelled tables last ≡ true → query_size last < n
      → last_at tables n queries (query_text tables last ++ (codes ";" ++ (newline ++ []))) ≡ Some (record { queries = queries; last = last })
  last-again queries last is few =
      ap (option_map (λ (x : Query × List ℕ). record { queries = queries; last = x.0 })) (query-again tables apart last n (codes ";" ++ (newline ++ [])) is few (ends-last (newline ++ [])) refl)

  whole-again : (queries : List NamedQuery) (last : Query) → list_all (named_is_spelled tables) queries ≡ true → query_is_spelled tables last ≡ true → queries_size queries + query_size last < n
      → with_at tables n (concat (expressions_text tables queries ∷ query_text tables last ∷ codes ";" ∷ newline ∷ [])) ≡ Some (record { queries = queries; last = last })
  unfolding with_at
  whole-again [] last named is few = rw (begins-select last (codes ";" ++ (newline ++ []))) (last-again [] last is (omega (arith, few)))
  whole-again (first ∷ others) last named is few =
      let h : (1 + (query_size first.query + queries_size others)) + query_size last < n = few in
      let rest = query_text tables last ++ (codes ";" ++ (newline ++ [])) in
      let p = and_parts (named_is_spelled tables first) (list_all (named_is_spelled tables) others) named in
      let short : is_short first ≡ true = and_from (named_is_spelled tables first) (ltb (query_size first.query) n) p.0 (lt-ltb (query_size first.query) n (omega (arith, h))) in
      ap (with_at tables n) (concat-onto (codes "WITH " ∷ expression_text tables first ∷ flat_map (other_expression tables) others ∷ newline ∷ []) rest)
      ∙ then_is _ (first ∷ others) rest (λ (x : List NamedQuery × List ℕ). last_at tables n x.0 x.1) (expressions first others rest short (all-short others p.1 (omega (arith, h))) (omega (arith, h, few-queries others)))
      ∙ last-again (first ∷ others) last is (omega (arith, h))
    where
      expressions : (first : NamedQuery) (others : List NamedQuery) (rest : List ℕ) → is_short first ≡ true → list_all is_short others ≡ true → length others ≤ n
          → expressions_at tables n (expression_text tables first ++ (flat_map (other_expression tables) others ++ (newline ++ rest))) ≡ Some (first ∷ others, rest)
      expressions first others rest short all few =
          then_is _ first (flat_map (other_expression tables) others ++ (newline ++ rest))
          (λ (x : NamedQuery × List ℕ). option_and_then (λ (y : List NamedQuery × List ℕ). with_rest (x.0 ∷ y.0) (behind (codes "\n") y.1)) (many_at (expression_at tables n) (codes ",\n") n x.1))
          (expression-again first (flat_map (other_expression tables) others ++ (newline ++ rest)) short)
          ∙ then_is _ others (newline ++ rest) (λ (y : List NamedQuery × List ℕ). with_rest (first ∷ y.0) (behind (codes "\n") y.1))
          (many-again (expression_at tables n) (λ (each : NamedQuery). expression_text tables each ++ []) (codes ",\n") (λ words. Unit {0}) is_short (λ words. tt)
          (λ each words good none. ap (λ (text : List ℕ). expression_at tables n (text ++ words)) (append-nil (expression_text tables each)) ∙ expression-again each words good)
          others n (newline ++ rest) all few tt refl)

  with-again : (query : With) → is_spelled tables query ≡ true → with_size query < n → with_at tables n (with_text tables query) ≡ Some query
  with-again query is few =
      let p = and_parts (list_all (named_is_spelled tables) query.queries) (query_is_spelled tables query.last) is in
      whole-again query.queries query.last p.0 p.1 few

some-same : {X : Type 0} (x y : X) → Some x ≡ Some y → x ≡ y
some-same x y e = cc

pub one-query : (tables : List Table) → HaveOwnNames tables → (query other : With) → is_spelled tables query ≡ true → is_spelled tables other ≡ true → with_text tables query ≡ with_text tables other → query ≡ other
one-query tables apart query other first second same =
    let n = suc (with_size query + with_size other) in
    some-same query other
    (sym (with-again tables apart n query first (omega arith)) ∙ ap (with_at tables n) same ∙ with-again tables apart n other second (omega arith))
