-- Terms and conditions are read again in front of a rest, where their parts are.
use Rattle.gp_sql.proofs.Prelude.{◌≡◌, ℕ, ℤ, suc, ◌+◌, ◌-◌, ◌<◌, ◌≤◌, Bool, true, false, List, [], ◌∷◌, ◌++◌, length, Some, None, option_and_then, refl, ap, ◌∙◌, append_assoc, arith, codes, signed_decimal, concat, flat_map, option_map, false≢true, Table, if_there, Cmp, Read, with_rest, behind, text_at, concat-onto, Ends, then_is, behind-words}
use Rattle.std.proofs.Common.{Option}
use Rattle.gp_base.specs.Texts.{quoted_byte}
use Rattle.gp_expr.specs.declared.expr.Cmp.TheVariants as cmp
use Rattle.gp_plantext.proofs.CellAgain.{text-again}
use Rattle.gp_sql.specs.Spelled.{is_unit, is_chain, term_is_spelled}
use Rattle.gp_plantext.specs.Spelling.{cmp_text}
use Rattle.gp_sql.specs.Spelling.{prefix_text, column_text, term_text}
use Rattle.gp_sql.specs.Sql as s
use Rattle.gp_sql.specs.Sql.{SqlType, Column, Source, Alias, FromItem, Term, Terms, Test, Items, Where, Block, Query}
use Rattle.gp_sql.proofs.Reading.{Part, term, opposite, test, star, as_term, cast_at, column_at, column_of, term_at, compared, unit_on, unit_at, more_on, tail_on, rest_on, test_at, close, operated, joined_on, first_on, bracket_at, opposite_at, not_at, term_before, case_at, part_by}
use Rattle.gp_sql.proofs.NamesAgain.{signed-again, begins-again, not-opposite}

-- ---- sizes: reading takes fewer steps

abbrev mutual
  pub term_size : Term → ℕ
  term_size (s.column alias c) = 0
  term_size (s.null type) = 0
  term_size (s.number z) = 0
  term_size (s.cast_number z) = 0
  term_size (s.text text) = 0
  term_size (s.plus a b) = 1 + (term_size a + term_size b)
  term_size (s.minus a b) = 1 + (term_size a + term_size b)
  term_size (s.times a b) = 1 + (term_size a + term_size b)
  term_size (s.negative a) = 2 + term_size a
  term_size (s.joined terms) = 1 + terms_size terms
  term_size (s.case c a b) = 1 + (test_size c + (term_size a + term_size b))

  pub terms_size : Terms → ℕ
  terms_size s.no_terms = 0
  terms_size (s.term a others) = 1 + (term_size a + terms_size others)

  pub test_size : Test → ℕ
  test_size (s.compare cmp a b) = 1 + (term_size a + term_size b)
  test_size (s.is_null a wanted) = 1 + term_size a
  test_size (s.is_true c wanted) = 1 + test_size c
  test_size (s.and c d) = 1 + (test_size c + test_size d)
  test_size (s.or c d) = 1 + (test_size c + test_size d)
  test_size (s.not c) = 1 + test_size c
  test_size (s.exists query) = 1 + query_size query
  test_size (s.bracket c) = 1 + test_size c

  pub items_size : Items → ℕ
  items_size s.all = 0
  items_size (s.named terms) = terms_size terms
  items_size (s.single a) = term_size a

  pub where_size : Where → ℕ
  where_size s.everywhere = 0
  where_size (s.passing c) = test_size c

  pub block_size : Block → ℕ
  block_size (s.select items from cond) = 1 + (items_size items + (length from + where_size cond))

  pub query_size : Query → ℕ
  query_size (s.block block) = 1 + block_size block
  query_size (s.union_all block query) = 1 + (block_size block + query_size query)

-- the conditions before the last AND
abbrev pub ands : Test → ℕ
ands (s.and c d) = 1 + ands c
ands (s.compare cmp a b) = 0
ands (s.is_null a wanted) = 0
ands (s.is_true c wanted) = 0
ands (s.or c d) = 0
ands (s.not c) = 0
ands (s.exists query) = 0
ands (s.bracket c) = 0

pub few-ands : (c : Test) → ands c ≤ test_size c
few-ands (s.and c d) = omega (arith, few-ands c)
few-ands (s.compare cmp a b) = omega arith
few-ands (s.is_null a wanted) = omega arith
few-ands (s.is_true c wanted) = omega arith
few-ands (s.or c d) = omega arith
few-ands (s.not c) = omega arith
few-ands (s.exists query) = omega arith
few-ands (s.bracket c) = omega arith

abbrev null_words : Bool → List ℕ
null_words true = codes " IS NULL"
null_words false = codes " IS NOT NULL"

abbrev true_words : Bool → List ℕ
true_words true = codes " IS TRUE"
true_words false = codes " IS NOT TRUE"

-- what is read behind words, if they are there
pub number-behind : {X : Type 0} (words rest : List ℕ) (f : List ℕ → Option X) → if_there (behind words (words ++ rest)) f None ≡ f rest
number-behind words rest f = ap (λ (o : Option (List ℕ)). if_there o f None) (behind-words words rest)

-- ---- conditions and brackets, where parts can be read

module _ (read : List ℕ → Read Part) (most : ℕ) where
  pub term-is : (a : Term) (bytes rest : List ℕ) → read bytes ≡ Some (term a, rest) → term_at read most bytes ≡ Some (a, rest)
  term-is a bytes rest is = ap (option_and_then as_term) is

  -- a condition is read from its first part on
  pub record Starts (c : Test) (text rest : List ℕ) : Type 0 where
    pub first : Part
    pub after : List ℕ
    pub is : read (text ++ rest) ≡ Some (first, after)
    pub plain : first_on read most (first, after) ≡ option_and_then (close read most) (rest_on read most (first, after))
    pub unit : is_unit c ≡ true → unit_on read most (first, after) ≡ Some (c, rest)
    pub chain : is_chain c ≡ true → (f k : ℕ) → f ≡ ands c + k → option_and_then (more_on read most f) (unit_on read most (first, after)) ≡ more_on read most k (c, rest)
    pub whole : ((k : ℕ) (d : Test) → more_on read most k (d, rest) ≡ Some (d, rest)) → rest_on read most (first, after) ≡ Some (c, rest)

  pub unit-starts : (c : Test) (text rest : List ℕ) (first : Part) (after : List ℕ) → read (text ++ rest) ≡ Some (first, after)
      → first_on read most (first, after) ≡ option_and_then (close read most) (rest_on read most (first, after))
      → unit_on read most (first, after) ≡ Some (c, rest) → ands c ≡ 0 → Starts c text rest
  unit-starts c text rest first after is plain found none = record {
    first = first;
    after = after;
    is = is;
    plain = plain;
    unit = λ shape. found;
    chain = λ shape f k e.
        let same : f ≡ k = omega (arith, e, none) in
        then_is _ c rest (more_on read most f) found ∙ ap (λ (j : ℕ). more_on read most j (c, rest)) same;
    whole = λ stops. then_is _ c rest (more_on read most most) found ∙ stops most c;
  }

  pub unit-again : (c : Test) (text rest : List ℕ) → Starts c text rest → is_unit c ≡ true → unit_at read most (text ++ rest) ≡ Some (c, rest)
  unit-again c text rest starts shape = then_is _ starts.first starts.after (unit_on read most) starts.is ∙ starts.unit shape

  pub test-is : (c : Test) (text rest : List ℕ) → Starts c text rest → ((k : ℕ) (d : Test) → more_on read most k (d, rest) ≡ Some (d, rest)) → test_at read most (text ++ rest) ≡ Some (c, rest)
  test-is c text rest starts stops = then_is _ starts.first starts.after (rest_on read most) starts.is ∙ starts.whole stops

  closes : (rest : List ℕ) (k : ℕ) (d : Test) → more_on read most k (d, codes ")" ++ rest) ≡ Some (d, codes ")" ++ rest)
  unfolding tail_on
  closes rest k d = refl

  pub bracket-is : (c : Test) (text rest : List ℕ) → Starts c text (codes ")" ++ rest) → bracket_at read most (text ++ (codes ")" ++ rest)) ≡ Some (test (s.bracket c), rest)
  bracket-is c text rest starts =
      then_is _ starts.first starts.after (first_on read most) starts.is ∙ starts.plain ∙ ap (option_and_then (close read most)) (starts.whole (closes rest))

  -- ---- comparisons

  cmp-plain : (op : Cmp) (a : Term) (rest : List ℕ) → first_on read most (term a, cmp_text op ++ rest) ≡ option_and_then (close read most) (rest_on read most (term a, cmp_text op ++ rest))
  unfolding first_on
  cmp-plain cmp.Eq a rest = refl
  cmp-plain cmp.Ne a rest = refl
  cmp-plain cmp.Lt a rest = refl
  cmp-plain cmp.Le a rest = refl
  cmp-plain cmp.Gt a rest = refl
  cmp-plain cmp.Ge a rest = refl

  cmp-unit : (op : Cmp) (a : Term) (rest : List ℕ) → unit_on read most (term a, cmp_text op ++ rest) ≡ compared read most a (op, rest)
  cmp-unit cmp.Eq a rest = refl
  cmp-unit cmp.Ne a rest = refl
  cmp-unit cmp.Lt a rest = refl
  cmp-unit cmp.Le a rest = refl
  cmp-unit cmp.Gt a rest = refl
  cmp-unit cmp.Ge a rest = refl

  pub compare-starts : (op : Cmp) (a b : Term) (left right rest : List ℕ) → read (left ++ (cmp_text op ++ (right ++ rest))) ≡ Some (term a, cmp_text op ++ (right ++ rest)) → read (right ++ rest) ≡ Some (term b, rest)
      → Starts (s.compare op a b) (concat (left ∷ cmp_text op ∷ right ∷ [])) rest
  compare-starts op a b left right rest first second =
      unit-starts (s.compare op a b) (concat (left ∷ cmp_text op ∷ right ∷ [])) rest (term a) (cmp_text op ++ (right ++ rest)) (ap read (concat-onto (left ∷ cmp_text op ∷ right ∷ []) rest) ∙ first)
      (cmp-plain op a (right ++ rest)) (cmp-unit op a (right ++ rest) ∙ then_is _ b rest (λ (y : Term × List ℕ). Some (s.compare op a y.0, y.1)) (term-is b (right ++ rest) rest second)) refl

  pub null-starts : (a : Term) (wanted : Bool) (left rest : List ℕ) → ((words : List ℕ) → Ends (codes " " ++ words) → read (left ++ (codes " " ++ words)) ≡ Some (term a, codes " " ++ words))
      → Starts (s.is_null a wanted) (concat (left ∷ null_words wanted ∷ [])) rest
  unfolding first_on
  null-starts a true left rest first =
      unit-starts (s.is_null a true) (concat (left ∷ codes " IS NULL" ∷ [])) rest (term a) (codes " IS NULL" ++ rest) (ap read (concat-onto (left ∷ codes " IS NULL" ∷ []) rest) ∙ first (codes "IS NULL" ++ rest) refl) refl refl refl
  null-starts a false left rest first =
      unit-starts (s.is_null a false) (concat (left ∷ codes " IS NOT NULL" ∷ [])) rest (term a) (codes " IS NOT NULL" ++ rest) (ap read (concat-onto (left ∷ codes " IS NOT NULL" ∷ []) rest) ∙ first (codes "IS NOT NULL" ++ rest) refl) refl refl refl

  -- a condition that is a part
  pub part-starts : (c : Test) (text rest : List ℕ) → ands c ≡ 0 → read (text ++ rest) ≡ Some (test c, rest) → Starts c text rest
  unfolding first_on
  part-starts c text rest none is = unit-starts c text rest (test c) rest is refl refl none

  -- ---- conditions of others

  pub true-starts : (c : Test) (wanted : Bool) (text rest : List ℕ) → is_unit c ≡ true → ((words : List ℕ) → Starts c text (codes " IS " ++ words))
      → Starts (s.is_true c wanted) (concat (text ∷ true_words wanted ∷ [])) rest
  unfolding tail_on
  true-starts c true text rest shape starts =
      let own = starts (codes "TRUE" ++ rest) in
      record {
        first = own.first;
        after = own.after;
        is = ap read (concat-onto (text ∷ codes " IS TRUE" ∷ []) rest) ∙ own.is;
        plain = own.plain;
        unit = λ never. absurd (false≢true never);
        chain = λ never. absurd (false≢true never);
        whole = λ stops. then_is _ c (codes " IS TRUE" ++ rest) (more_on read most most) (own.unit shape);
      }
  true-starts c false text rest shape starts =
      let own = starts (codes "NOT TRUE" ++ rest) in
      record {
        first = own.first;
        after = own.after;
        is = ap read (concat-onto (text ∷ codes " IS NOT TRUE" ∷ []) rest) ∙ own.is;
        plain = own.plain;
        unit = λ never. absurd (false≢true never);
        chain = λ never. absurd (false≢true never);
        whole = λ stops. then_is _ c (codes " IS NOT TRUE" ++ rest) (more_on read most most) (own.unit shape);
      }

  pub or-starts : (c d : Test) (left right rest : List ℕ) → is_unit c ≡ true → is_unit d ≡ true → Starts c left (codes " OR " ++ (right ++ rest)) → Starts d right rest
      → Starts (s.or c d) (concat (left ∷ codes " OR " ∷ right ∷ [])) rest
  unfolding tail_on
  or-starts c d left right rest one two own other = record {
    first = own.first;
    after = own.after;
    is = ap read (concat-onto (left ∷ codes " OR " ∷ right ∷ []) rest) ∙ own.is;
    plain = own.plain;
    unit = λ never. absurd (false≢true never);
    chain = λ never. absurd (false≢true never);
    whole = λ stops.
        then_is _ c (codes " OR " ++ (right ++ rest)) (more_on read most most) (own.unit one)
        ∙ then_is _ d rest (λ (y : Test × List ℕ). Some (s.or c y.0, y.1)) (unit-again d right rest other two);
  }

  pub and-starts : (c d : Test) (left right rest : List ℕ) → ands c < most → is_chain c ≡ true → is_unit d ≡ true → Starts c left (codes " AND " ++ (right ++ rest)) → Starts d right rest
      → Starts (s.and c d) (concat (left ∷ codes " AND " ∷ right ∷ [])) rest
  and-starts c d left right rest few one two own other = record {
    first = own.first;
    after = own.after;
    is = ap read (concat-onto (left ∷ codes " AND " ∷ right ∷ []) rest) ∙ own.is;
    plain = own.plain;
    unit = λ never. absurd (false≢true never);
    chain = λ shape f k e. onward f k (omega (arith, e));
    whole = λ stops. onward most (most - (1 + ands c)) (omega (arith, few)) ∙ stops (most - (1 + ands c)) (s.and c d);
  }
    where
      onward : (f k : ℕ) → f ≡ ands c + suc k → option_and_then (more_on read most f) (unit_on read most (own.first, own.after)) ≡ more_on read most k (s.and c d, rest)
      onward f k e =
          own.chain one f (suc k) e
          ∙ then_is _ d rest (λ (x : Test × List ℕ). more_on read most k (s.and c x.0, x.1)) (unit-again d right rest other two)

  -- ---- brackets

  pub binary-is : (op : Term → Term → Term) (a b : Term) (sign left right rest : List ℕ) → ((words : List ℕ) → first_on read most (term a, sign ++ words) ≡ operated read most op a words)
      → read (left ++ (sign ++ (right ++ (codes ")" ++ rest)))) ≡ Some (term a, sign ++ (right ++ (codes ")" ++ rest))) → read (right ++ (codes ")" ++ rest)) ≡ Some (term b, codes ")" ++ rest)
      → bracket_at read most (left ++ (sign ++ (right ++ (codes ")" ++ rest)))) ≡ Some (term (op a b), rest)
  binary-is op a b sign left right rest on first second =
      then_is _ (term a) (sign ++ (right ++ (codes ")" ++ rest))) (first_on read most) first
      ∙ on (right ++ (codes ")" ++ rest))
      ∙ then_is _ b (codes ")" ++ rest) (λ (x : Term × List ℕ). with_rest (term (op a x.0)) (behind (codes ")") x.1)) (term-is b (right ++ (codes ")" ++ rest)) (codes ")" ++ rest) second)

  pub plus-on : (a : Term) (words : List ℕ) → first_on read most (term a, codes " + " ++ words) ≡ operated read most s.plus a words
  unfolding first_on
  plus-on a words = refl

  pub minus-on : (a : Term) (words : List ℕ) → first_on read most (term a, codes " - " ++ words) ≡ operated read most s.minus a words
  unfolding first_on
  minus-on a words = refl

  pub times-on : (a : Term) (words : List ℕ) → first_on read most (term a, codes " * " ++ words) ≡ operated read most s.times a words
  unfolding first_on
  times-on a words = refl

  pub joins-on : (a : Term) (words : List ℕ) → first_on read most (term a, codes " || " ++ words) ≡ joined_on read most a (codes " || " ++ words)
  unfolding first_on
  joins-on a words = refl

  pub opposite-is : (a : Term) (text rest : List ℕ) → read (codes "- " ++ (text ++ (codes ")" ++ rest))) ≡ Some (opposite a, codes ")" ++ rest) → bracket_at read most (codes "- " ++ (text ++ (codes ")" ++ rest))) ≡ Some (term (s.negative a), rest)
  unfolding first_on
  opposite-is a text rest is = then_is _ (opposite a) (codes ")" ++ rest) (first_on read most) is

  then-stops : (rest : List ℕ) (k : ℕ) (d : Test) → more_on read most k (d, codes " THEN " ++ rest) ≡ Some (d, codes " THEN " ++ rest)
  unfolding tail_on
  then-stops rest k d = refl

  term-before : (a : Term) (text words rest : List ℕ) → read (text ++ (words ++ rest)) ≡ Some (term a, words ++ rest) → term_before read most words (text ++ (words ++ rest)) ≡ Some (a, rest)
  term-before a text words rest is =
      then_is _ a (words ++ rest) (λ (x : Term × List ℕ). with_rest x.0 (behind words x.1)) (term-is a (text ++ (words ++ rest)) (words ++ rest) is) ∙ ap (with_rest a) (behind-words words rest)

  pub case-is : (c : Test) (a b : Term) (tc ta tb rest : List ℕ) → Starts c tc (codes " THEN " ++ (ta ++ (codes " ELSE " ++ (tb ++ (codes " END" ++ rest)))))
      → read (ta ++ (codes " ELSE " ++ (tb ++ (codes " END" ++ rest)))) ≡ Some (term a, codes " ELSE " ++ (tb ++ (codes " END" ++ rest))) → read (tb ++ (codes " END" ++ rest)) ≡ Some (term b, codes " END" ++ rest)
      → case_at read most (tc ++ (codes " THEN " ++ (ta ++ (codes " ELSE " ++ (tb ++ (codes " END" ++ rest)))))) ≡ Some (term (s.case c a b), rest)
  case-is c a b tc ta tb rest starts left right =
      then_is _ c (codes " THEN " ++ (ta ++ (codes " ELSE " ++ (tb ++ (codes " END" ++ rest))))) _ (test-is c tc _ starts (then-stops _))
      ∙ then_is _ a (tb ++ (codes " END" ++ rest)) _ (term-before a ta (codes " ELSE ") (tb ++ (codes " END" ++ rest)) left)
      ∙ then_is _ b rest _ (term-before b tb (codes " END") rest right)

  -- ---- the beginnings of parts

  module _ (tables : List Table) (query : List ℕ → Read Query) (own : ℕ) where
    abbrev pub by : List ℕ → Read Part
    by = part_by read most tables query own

    pub by-bracket : (rest : List ℕ) → by (codes "(" ++ rest) ≡ bracket_at read most rest
    unfolding part_by
    by-bracket rest = refl

    pub by-opposite : (rest : List ℕ) → by (codes "- " ++ rest) ≡ opposite_at read most rest
    unfolding part_by
    by-opposite rest = refl

    pub by-case : (rest : List ℕ) → by (codes "CASE WHEN " ++ rest) ≡ case_at read most rest
    unfolding part_by
    by-case rest = refl

    pub by-not : (rest : List ℕ) → by (codes "NOT " ++ rest) ≡ not_at read most rest
    unfolding part_by
    by-not rest = refl

    pub by-star : (rest : List ℕ) → by (codes "*" ++ rest) ≡ Some (star, rest)
    unfolding part_by
    by-star rest = refl

    pub by-exists : (rest : List ℕ) → by (codes "EXISTS (" ++ rest) ≡ option_and_then (λ (x : Query × List ℕ). with_rest (test (s.exists x.0)) (behind (codes ")") x.1)) (query rest)
    unfolding part_by
    by-exists rest = refl

    pub by-cast : (rest : List ℕ) → by (codes "CAST(" ++ rest) ≡ cast_at rest
    unfolding part_by
    by-cast rest = refl

    pub by-null : (type : SqlType) (rest : List ℕ) → by (term_text tables (s.null type) ++ rest) ≡ Some (term (s.null type), rest)
    unfolding part_by
    by-null s.bigint rest = refl
    by-null s.varchar rest = refl

    pub by-text : (text rest : List ℕ) → Ends rest → by (term_text tables (s.text text) ++ rest) ≡ Some (term (s.text text), rest)
    unfolding part_by
    by-text text rest ends =
        ap (λ (bytes : List ℕ). option_map (λ (x : List ℕ × List ℕ). (term (s.text x.0), x.1)) (text_at bytes)) (append_assoc (flat_map quoted_byte text) (39 ∷ []) rest)
        ∙ ap (option_map (λ (x : List ℕ × List ℕ). (term (s.text x.0), x.1))) (text-again text rest ends)

    pub by-number : (z : ℤ) (rest : List ℕ) → term_is_spelled tables None (s.number z) ≡ true → Ends rest → by (signed_decimal z ++ rest) ≡ Some (term (s.number z), rest)
    unfolding part_by
    by-number z rest fits ends =
        rw (not-opposite z rest fits, begins-again z rest fits) (ap (option_map (λ (x : ℤ × List ℕ). (term (s.number x.0), x.1))) (signed-again z rest fits ends))

    pub by-cast_number : (z : ℤ) (rest : List ℕ) → term_is_spelled tables None (s.number z) ≡ true → cast_at (signed_decimal z ++ (codes " AS BIGINT)" ++ rest)) ≡ Some (term (s.cast_number z), rest)
    by-cast_number z rest fits =
        rw (begins-again z (codes " AS BIGINT)" ++ rest) fits)
        (then_is _ z (codes " AS BIGINT)" ++ rest) (λ (x : ℤ × List ℕ). with_rest (term (s.cast_number x.0)) (behind (codes " AS BIGINT)") x.1)) (signed-again z (codes " AS BIGINT)" ++ rest) fits refl))

    pub by-named : (alias : Alias) (c : Column) (rest : List ℕ) → by ((prefix_text alias ++ column_text tables c) ++ rest) ≡ column_of tables alias (column_at tables own (column_text tables c ++ rest))
    unfolding part_by
    by-named s.x c rest = refl
    by-named s.y c rest = refl
    by-named s.no_alias s.identity rest = refl
    by-named s.no_alias s.begins rest = refl
    by-named s.no_alias s.ends rest = refl
    by-named s.no_alias (s.stored table n) rest = refl
    by-named s.no_alias (s.numbered n) rest = refl
