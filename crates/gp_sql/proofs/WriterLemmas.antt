-- What the pieces of queries are together.
use Rattle.gp_sql.proofs.Prelude.{◌≡◌, ℕ, suc, ◌+◌, Bool, true, false, List, [], ◌∷◌, ◌++◌, length, Some, None, refl, sym, ap, subst, ◌∙◌, append_assoc, append-nil, Option, slice_get, ◌||◌, concat, flat_map, Cell, Table, newline, Plain, PlainStep, option_map_or, width_of}
use Rattle.std.proofs.Common.{codes}
use Rattle.std.proofs.lemmas.Grind.{flat_map-append}
use Rattle.gp_algebra.specs.Plain as p
use Rattle.gp_sql.specs.declared.cell_type.CellType.{CellType}
use Rattle.gp_sql.specs.declared.query_types.StepType.{StepType}
use Rattle.gp_sql.specs.declared.query_writer.Operand.{Operand as Found}
use Rattle.gp_sql.specs.NamedQueries.{all_of, columns_of, program_query, stored_terms, from, given_block, given_query, is_projection, operand, published_query, translated, translated_steps, types_of, written_query}
use Rattle.gp_sql.specs.ItemTexts.{columns_text, stored_text}
use Rattle.gp_sql.specs.Spelling.{block_text, named_text, with_text, expression_text, expressions_text, items_text, materialized_text, other_expression, query_text, source_text, term_text, test_text}
use Rattle.gp_sql.specs.Sql as s
use Rattle.gp_sql.specs.Sql.{NamedQuery}
use Rattle.gp_sql.specs.StepLists.{types_after}
use Rattle.gp_sql.specs.Types.{StepTypes, no_types, query_types, steps_types, with_types}
use Rattle.gp_sql.specs.WrittenQueries.{assembled, Writes, WritesOperand, WritesStep, WritesSteps, expressions_of, columns_at, given_behind, numbered_operand, source_of, table_name}
use Rattle.gp_sql.proofs.IdentityTexts.{concat-onto}
use Rattle.gp_sql.proofs.ItemLemmas.{crossed-items, stored-items, stored-none}

-- ---- VALUES

pub given-text : (tables : List Table) (due : List CellType) (row : List Cell) (rows : List (List Cell))
    → query_text tables (given_query due row rows) ≡ block_text tables (given_block due row) ++ flat_map (given_behind tables due) rows
given-text tables due row [] = sym (append-nil (block_text tables (given_block due row)))
given-text tables due row (next ∷ rows) =
    let body : List ℕ = block_text tables (given_block due row) in
    ap (λ (z : List ℕ). body ++ (codes " UNION ALL " ++ z)) (append-nil (query_text tables (given_query due next rows)) ∙ given-text tables due next rows)
    ∙ ap (λ (z : List ℕ). body ++ z) (sym (append_assoc (codes " UNION ALL ") (block_text tables (given_block due next)) (flat_map (given_behind tables due) rows)))

pub given-onto : (tables : List Table) (due : List CellType) (row : List Cell) (rows : List (List Cell)) (out middle : List ℕ) → middle ≡ out ++ block_text tables (given_block due row)
    → middle ++ flat_map (given_behind tables due) rows ≡ out ++ query_text tables (given_query due row rows)
given-onto tables due row rows out middle first =
    ap (λ (z : List ℕ). z ++ flat_map (given_behind tables due) rows) first
    ∙ append_assoc out (block_text tables (given_block due row)) (flat_map (given_behind tables due) rows)
    ∙ ap (λ (z : List ℕ). out ++ z) (sym (given-text tables due row rows))

-- ---- two with a word between them

between : (out a word b first second : List ℕ) → first ≡ out ++ a → second ≡ first ++ word → second ++ b ≡ out ++ (a ++ (word ++ (b ++ [])))
between out a word b first second one two =
    ap (λ (z : List ℕ). z ++ b) (two ∙ ap (λ (z : List ℕ). z ++ word) one)
    ∙ append_assoc (out ++ a) word b
    ∙ append_assoc out a (word ++ b)
    ∙ ap (λ (z : List ℕ). out ++ (a ++ (word ++ z))) (sym (append-nil b))

pub union-onto : (tables : List Table) (a b : s.Block) (out first second : List ℕ) → first ≡ out ++ block_text tables a → second ≡ first ++ codes " UNION ALL "
    → second ++ block_text tables b ≡ out ++ query_text tables (s.union_all a (s.block b))
union-onto tables a b out first second one two = between out (block_text tables a) (codes " UNION ALL ") (block_text tables b) first second one two

pub and-onto : (tables : List Table) (c d : s.Test) (out first second : List ℕ) → first ≡ out ++ test_text tables c → second ≡ first ++ codes " AND "
    → second ++ test_text tables d ≡ out ++ test_text tables (s.and c d)
and-onto tables c d out first second one two = between out (test_text tables c) (codes " AND ") (test_text tables d) first second one two

-- ---- SELECT with FROM and WHERE

-- what stands behind the items of a block over one source
behind-items : (source alias test : List ℕ)
    → (codes " FROM " ++ (((source ++ alias) ++ []) ++ [])) ++ ((codes " WHERE " ++ (test ++ [])) ++ []) ≡ codes " FROM " ++ (source ++ (alias ++ (codes " WHERE " ++ test)))
behind-items source alias test =
    (λ i. (codes " FROM " ++ (append-nil ((source ++ alias) ++ []) ∙ append-nil (source ++ alias)) i) ++ (append-nil (codes " WHERE " ++ (test ++ [])) ∙ ap (λ (z : List ℕ). codes " WHERE " ++ z) (append-nil test)) i)
    ∙ ap (λ (z : List ℕ). codes " FROM " ++ z) (append_assoc source alias (codes " WHERE " ++ test))

-- all columns of a source without an alias, and of source x
pub all-where : (tables : List Table) (source : s.Source) (c : s.Test) (out middle : List ℕ) → middle ≡ out ++ concat (codes "SELECT * FROM " ∷ source_text tables source ∷ codes " WHERE " ∷ [])
    → middle ++ test_text tables c ≡ out ++ block_text tables (s.select s.all (from s.no_alias source) (s.passing c))
all-where tables source c out middle first =
    ap (λ (z : List ℕ). z ++ test_text tables c) first
    ∙ append_assoc out (concat (codes "SELECT * FROM " ∷ source_text tables source ∷ codes " WHERE " ∷ [])) (test_text tables c)
    ∙ ap (λ (z : List ℕ). out ++ z)
    (concat-onto (codes "SELECT * FROM " ∷ source_text tables source ∷ codes " WHERE " ∷ []) (test_text tables c)
    ∙ ap (λ (z : List ℕ). codes "SELECT *" ++ z) (sym (behind-items (source_text tables source) [] (test_text tables c))))

pub all-of-x-where : (tables : List Table) (source : s.Source) (c : s.Test) (out middle : List ℕ) → middle ≡ out ++ concat (codes "SELECT * FROM " ∷ source_text tables source ∷ codes " x WHERE " ∷ [])
    → middle ++ test_text tables c ≡ out ++ block_text tables (s.select s.all (from s.x source) (s.passing c))
all-of-x-where tables source c out middle first =
    ap (λ (z : List ℕ). z ++ test_text tables c) first
    ∙ append_assoc out (concat (codes "SELECT * FROM " ∷ source_text tables source ∷ codes " x WHERE " ∷ [])) (test_text tables c)
    ∙ ap (λ (z : List ℕ). out ++ z)
    (concat-onto (codes "SELECT * FROM " ∷ source_text tables source ∷ codes " x WHERE " ∷ []) (test_text tables c)
    ∙ ap (λ (z : List ℕ). codes "SELECT *" ++ z) (sym (behind-items (source_text tables source) (codes " x") (test_text tables c))))

-- a term over source x
pub one-of-x-where : (tables : List Table) (a : s.Term) (source : s.Source) (c : s.Test) (out first second third : List ℕ) → first ≡ out ++ codes "SELECT " → second ≡ first ++ term_text tables a
    → third ≡ second ++ concat (codes " FROM " ∷ source_text tables source ∷ codes " x WHERE " ∷ [])
    → third ++ test_text tables c ≡ out ++ block_text tables (s.select (s.single a) (from s.x source) (s.passing c))
one-of-x-where tables a source c out first second third one two three =
    let from_it : List ℕ = concat (codes " FROM " ∷ source_text tables source ∷ codes " x WHERE " ∷ []) in
    let item : List ℕ = term_text tables a in
    let test : List ℕ = test_text tables c in
    ap (λ (z : List ℕ). z ++ test) (three ∙ ap (λ (z : List ℕ). z ++ from_it) (two ∙ ap (λ (z : List ℕ). z ++ item) one))
    ∙ append_assoc ((out ++ codes "SELECT ") ++ item) from_it test
    ∙ append_assoc (out ++ codes "SELECT ") item (from_it ++ test)
    ∙ append_assoc out (codes "SELECT ") (item ++ (from_it ++ test))
    ∙ ap (λ (z : List ℕ). out ++ (codes "SELECT " ++ (item ++ z)))
    (concat-onto (codes " FROM " ∷ source_text tables source ∷ codes " x WHERE " ∷ []) test ∙ sym (behind-items (source_text tables source) (codes " x") test))

-- terms over the row versions of a table
pub scan-where : (tables : List Table) (table : ℕ) (items : s.Items) (c : s.Test) (out first second third name : List ℕ) → first ≡ out ++ codes "SELECT " → second ≡ first ++ items_text tables items
    → third ≡ second ++ concat (codes " FROM " ∷ name ∷ codes "_versions" ∷ codes " WHERE " ∷ []) → name ≡ table_name tables table
    → third ++ test_text tables c ≡ out ++ block_text tables (s.select items (from s.no_alias (s.versions table)) (s.passing c))
scan-where tables table items c out first second third name one two three is =
    let written : List ℕ = table_name tables table in
    let words : List ℕ → List ℕ = λ name. concat (codes " FROM " ∷ name ∷ codes "_versions" ∷ codes " WHERE " ∷ []) in
    let item : List ℕ = items_text tables items in
    let test : List ℕ = test_text tables c in
    ap (λ (z : List ℕ). z ++ test) (three ∙ (λ i. (two ∙ ap (λ (z : List ℕ). z ++ item) one) i ++ words (is i)))
    ∙ append_assoc ((out ++ codes "SELECT ") ++ item) (words written) test
    ∙ append_assoc (out ++ codes "SELECT ") item (words written ++ test)
    ∙ append_assoc out (codes "SELECT ") (item ++ (words written ++ test))
    ∙ ap (λ (z : List ℕ). out ++ (codes "SELECT " ++ (item ++ z)))
    (concat-onto (codes " FROM " ∷ written ∷ codes "_versions" ∷ codes " WHERE " ∷ []) test
    ∙ ap (λ (z : List ℕ). codes " FROM " ++ z) (sym (append_assoc written (codes "_versions" ++ []) (codes " WHERE " ++ test)))
    ∙ sym (behind-items (source_text tables (s.versions table)) [] test))

-- ---- queries

abbrev others_text : List Table → List NamedQuery → List ℕ
others_text tables queries = flat_map (other_expression tables) queries

-- named queries behind others
written-behind : (tables : List Table) (before middle later : List ℕ) (queries more : List NamedQuery) → middle ≡ before ++ others_text tables queries → later ≡ middle ++ others_text tables more
    → later ≡ before ++ others_text tables (queries ++ more)
written-behind tables before middle later queries more first second =
    second
    ∙ ap (λ (z : List ℕ). z ++ others_text tables more) first
    ∙ append_assoc before (others_text tables queries) (others_text tables more)
    ∙ ap (λ (z : List ℕ). before ++ z) (sym (flat_map-append (other_expression tables) queries more))

module _ (tables : List Table) (steps : StepTypes) where
  -- an operand that was written behind one with this number
  numbered : (in_publish : Bool) (due : List CellType) (query : Plain) (n m : ℕ) (found : Found) (before later : List ℕ) → n ≡ m
      → WritesOperand tables (operand in_publish query (translated tables steps due query n)) found before later → WritesOperand tables (operand in_publish query (translated tables steps due query m)) found before later
  numbered in_publish due query n m found before later same is =
      subst (λ (k : ℕ). WritesOperand tables (operand in_publish query (translated tables steps due query k)) found before later) same is

  pub union-writes : (due : List CellType) (left right : Plain) (n : ℕ) (found next : Found) (before middle later body more : List ℕ)
      → WritesOperand tables (operand false left (translated tables steps due left n)) found before middle
      → WritesOperand tables (operand false right (translated tables steps due right found.next)) next middle later
      → more ≡ body ++ query_text tables (s.union_all (all_of (source_of found.source)) (s.block (all_of (source_of next.source))))
      → Writes tables (translated tables steps due (p.union left right) n) next.next before later body more
  union-writes due left right n found next before middle later body more one so text =
      let a = operand false left (translated tables steps due left n) in
      let two = numbered false due right found.next a.next next middle later one.number so in
      record {
        number = two.number;
        named = written-behind tables before middle later a.before (operand false right (translated tables steps due right a.next)).before one.named two.named;
        text = text ∙ (λ i. body ++ query_text tables (s.union_all (all_of (one.source i)) (s.block (all_of (two.source i)))));
      }

  pub publish-writes : (due types : List CellType) (at : ℕ) (base mine later : Plain) (n last : ℕ) (found next third : Found) (t0 t1 t2 t3 t4 body more : List ℕ)
      → types ≡ types_of tables steps base
      → WritesOperand tables (operand true base (translated tables steps types base n)) found t0 t1
      → WritesOperand tables (operand true mine (translated tables steps due mine found.next)) next t1 t2
      → WritesOperand tables (operand true later (translated tables steps due later next.next)) third t2 t3
      → last ≡ suc third.next
      → t4 ≡ t3 ++ other_expression tables (record { name = s.query third.next; materialized = true; query = written_query at (source_of found.source) (source_of next.source) })
      → more ≡ body ++ query_text tables (published_query at (s.query third.next) (source_of next.source) (source_of third.source))
      → Writes tables (translated tables steps due (p.publish at base mine later) n) last t0 t4 body more
  publish-writes due types at base mine later n last found next third t0 t1 t2 t3 t4 body more known is so and number named text =
      let a = operand true base (translated tables steps (types_of tables steps base) base n) in
      let one = subst (λ (types : List CellType). WritesOperand tables (operand true base (translated tables steps types base n)) found t0 t1) known is in
      let b = operand true mine (translated tables steps due mine a.next) in
      let two = numbered true due mine found.next a.next next t1 t2 one.number so in
      let c = operand true later (translated tables steps due later b.next) in
      let three = numbered true due later next.next b.next third t2 t3 two.number and in
      let written : ℕ → s.Source → s.Source → NamedQuery = λ k base mine. record { name = s.query k; materialized = true; query = written_query at base mine } in
      let w = written c.next a.source b.source in
      let four : t4 ≡ t3 ++ others_text tables (w ∷ []) =
      named
      ∙ (λ i. t3 ++ other_expression tables (written (three.number i) (one.source i) (two.source i)))
      ∙ ap (λ (z : List ℕ). t3 ++ z) (sym (append-nil (other_expression tables w))) in
      record {
        number = number ∙ ap (λ (k : ℕ). suc k) three.number;
        named =
            written-behind tables t0 t1 t4 a.before (b.before ++ (c.before ++ w ∷ [])) one.named
            (written-behind tables t1 t2 t4 b.before (c.before ++ w ∷ []) two.named
            (written-behind tables t2 t3 t4 c.before (w ∷ []) three.named four));
        text = text ∙ (λ i. body ++ query_text tables (published_query at (s.query (three.number i)) (two.source i) (three.source i)));
      }

  -- ---- operands

  pub numbered-writes : (in_publish materialized : Bool) (due : List CellType) (query : Plain) (n next : ℕ) (found : Found) (before middle later start body text : List ℕ)
      → Writes tables (translated tables steps due query n) next before middle start body → start ≡ []
      → later ≡ middle ++ concat (codes "," ∷ newline ∷ source_text tables (s.query next) ∷ codes " AS " ∷ materialized_text materialized ∷ codes "(" ∷ text ∷ codes ")" ∷ [])
      → materialized ≡ (in_publish || is_projection query) → text ≡ body
      → source_of found.source ≡ s.query next → found.next ≡ suc next
      → WritesOperand tables (numbered_operand in_publish query (translated tables steps due query n)) found before later
  numbered-writes in_publish materialized due query n next found before middle later start body text writes none named is same source number =
      let a = translated tables steps due query n in
      let w : NamedQuery = record { name = s.query a.next; materialized = in_publish || is_projection query; query = a.query } in
      let behind : ℕ → Bool → List ℕ → List ℕ = λ k m body. concat (codes "," ∷ newline ∷ source_text tables (s.query k) ∷ codes " AS " ∷ materialized_text m ∷ codes "(" ∷ body ∷ codes ")" ∷ []) in
      let whole : text ≡ query_text tables a.query = same ∙ writes.text ∙ ap (λ (z : List ℕ). z ++ query_text tables a.query) none in
      record {
        number = number ∙ ap (λ (k : ℕ). suc k) writes.number;
        source = source ∙ ap s.query writes.number;
        named =
            written-behind tables before middle later a.before (w ∷ []) writes.named
            (named
            ∙ (λ i. middle ++ behind (writes.number i) (is i) (whole i))
            ∙ ap (λ (z : List ℕ). middle ++ z)
            (ap (λ (z : List ℕ). codes "," ++ (newline ++ z)) (sym (append-nil (expression_text tables w)))
            ∙ sym (append-nil (other_expression tables w))));
      }

-- ---- programs

pub after-more : (known : List StepType) (x : StepType) (types : StepTypes) → types_after (known ++ x ∷ []) types ≡ with_types x.j x.types (types_after known types)
after-more [] x types = refl
after-more (y ∷ known) x types = after-more known x (with_types y.j y.types types)

-- the lines of WITH
pub expressions-same : (tables : List Table) (queries : List NamedQuery) → expressions_of (flat_map (other_expression tables) queries) ≡ expressions_text tables queries
expressions-same tables [] = refl
expressions-same tables (first ∷ others) =
    let body : List ℕ = expression_text tables first in
    let rest : List ℕ = flat_map (other_expression tables) others in
    ap (λ (z : List ℕ). codes "WITH " ++ ((z ++ rest) ++ (newline ++ []))) (append-nil body)
    ∙ ap (λ (z : List ℕ). codes "WITH " ++ z) (append_assoc body rest (newline ++ []))

-- ---- PRODUCT and SCAN

-- the items of a PRODUCT, written one source after the other
pub crossed-writes : (tables : List Table) (width other n : ℕ) (out middle later : List ℕ) → middle ≡ out ++ columns_text (codes "x.") 0 1 width → n ≡ 0 + width
    → later ≡ middle ++ columns_text (codes "y.") n 1 other
    → later ≡ out ++ named_text tables 1 (columns_of s.x 1 width (columns_of s.y 1 other s.no_terms))
crossed-writes tables width other n out middle later first number second =
    second
    ∙ (λ i. first i ++ columns_text (codes "y.") (number i) 1 other)
    ∙ append_assoc out (columns_text (codes "x.") 0 1 width) (columns_text (codes "y.") (0 + width) 1 other)
    ∙ ap (λ (z : List ℕ). out ++ z) (sym (crossed-items tables width other))

-- the columns of a table, if it is there
stored-text : (tables : List Table) (place : ℕ) (table : Option Table) → slice_get tables place ≡ table
    → named_text tables 1 (stored_terms place 0 (option_map_or (λ (table : Table). length table.cols) table 0)) ≡ stored_text 0 (option_map_or (λ (body : Table). body.cols) table [])
stored-text tables place None is = sym (stored-none tables place)
stored-text tables place (Some table) is = sym (stored-items tables place table is 0 table.cols refl)

pub scanned-items : (tables : List Table) (place : ℕ) → named_text tables 1 (stored_terms place 0 (width_of tables place)) ≡ stored_text 0 (columns_at tables place)
scanned-items tables place = stored-text tables place (slice_get tables place) refl

-- ---- steps

pub step-writes : (tables : List Table) (types : StepTypes) (due : List CellType) (step : PlainStep) (n next : ℕ) (before middle later start body text : List ℕ) → due ≡ types_of tables types step.query
    → Writes tables (translated tables types due step.query n) next before middle start body → start ≡ []
    → later ≡ middle ++ concat (codes "," ∷ newline ∷ source_text tables (s.step step.j) ∷ codes " AS " ∷ materialized_text true ∷ codes "(" ∷ text ∷ codes ")" ∷ [])
    → text ≡ body → WritesStep tables types step n next before later
step-writes tables types due step n next before middle later start body text known writes none named same =
    let is = subst (λ (due : List CellType). Writes tables (translated tables types due step.query n) next before middle start body) known writes in
    let a = translated tables types (types_of tables types step.query) step.query n in
    let w : NamedQuery = record { name = s.step step.j; materialized = true; query = a.query } in
    let whole : text ≡ query_text tables a.query = same ∙ is.text ∙ ap (λ (z : List ℕ). z ++ query_text tables a.query) none in
    record {
      number = is.number;
      named =
          written-behind tables before middle later a.before (w ∷ []) is.named
          (named
          ∙ ap (λ (body : List ℕ). middle ++ concat (codes "," ∷ newline ∷ source_text tables (s.step step.j) ∷ codes " AS " ∷ materialized_text true ∷ codes "(" ∷ body ∷ codes ")" ∷ [])) whole
          ∙ ap (λ (z : List ℕ). middle ++ z)
          (ap (λ (z : List ℕ). codes "," ++ (newline ++ z)) (sym (append-nil (expression_text tables w)))
          ∙ sym (append-nil (other_expression tables w))));
    }

one-by-one : (tables : List Table) (before : List NamedQuery) (w : NamedQuery) (rest : List NamedQuery) → others_text tables (before ++ w ∷ rest) ≡ others_text tables (before ++ w ∷ []) ++ others_text tables rest
one-by-one tables before w rest =
    flat_map-append (other_expression tables) before (w ∷ rest)
    ∙ ap (λ (z : List ℕ). others_text tables before ++ (z ++ others_text tables rest)) (sym (append-nil (other_expression tables w)))
    ∙ sym (append_assoc (others_text tables before) (other_expression tables w ++ []) (others_text tables rest))
    ∙ ap (λ (z : List ℕ). z ++ others_text tables rest) (sym (flat_map-append (other_expression tables) before (w ∷ [])))

-- what a loop over steps keeps
module _ (tables : List Table) (types later : StepTypes) (step : PlainStep) (rest : List PlainStep) (same : later ≡ with_types step.j (query_types tables types step.query) types) where
  pub types-kept : (all : StepTypes) → steps_types tables (step ∷ rest) types ≡ all → steps_types tables rest later ≡ all
  types-kept all is = ap (steps_types tables rest) same ∙ is

  pub number-kept : (n next all : ℕ) → next ≡ (translated_steps tables types (step ∷ []) n).next → (translated_steps tables types (step ∷ rest) n).next ≡ all → (translated_steps tables later rest next).next ≡ all
  number-kept n next all number is = (λ i. (translated_steps tables (same i) rest (number i)).next) ∙ is

  pub named-kept : (n next : ℕ) (before after all : List ℕ) → next ≡ (translated_steps tables types (step ∷ []) n).next
      → after ≡ before ++ others_text tables (translated_steps tables types (step ∷ []) n).before
      → before ++ others_text tables (translated_steps tables types (step ∷ rest) n).before ≡ all
      → after ++ others_text tables (translated_steps tables later rest next).before ≡ all
  named-kept n next before after all number text is =
      let body = translated tables types (types_of tables types step.query) step.query n in
      let w : NamedQuery = record { name = s.step step.j; materialized = true; query = body.query } in
      let behind = (translated_steps tables (with_types step.j (query_types tables types step.query) types) rest body.next).before in
      (λ i. text i ++ others_text tables (translated_steps tables (same i) rest (number i)).before)
      ∙ append_assoc before (others_text tables (body.before ++ w ∷ [])) (others_text tables behind)
      ∙ ap (λ (z : List ℕ). before ++ z) (sym (one-by-one tables body.before w behind))
      ∙ is

-- the whole text
pub whole-text : (tables : List Table) (steps : List PlainStep) (last : Plain) (known : List StepType) (due : List CellType) (n next : ℕ) (before later body : List ℕ)
    → WritesSteps tables steps known n [] before → due ≡ types_of tables (types_after known no_types) last
    → Writes tables (translated tables (types_after known no_types) due last n) next before later [] body
    → assembled later body ≡ with_text tables (program_query tables (record { steps = steps; last = last }))
whole-text tables steps last known due n next before later body writes known-due own-writes =
    let first = translated_steps tables no_types steps 1 in
    let is = subst (λ (due : List CellType). Writes tables (translated tables (types_after known no_types) due last n) next before later [] body) known-due own-writes in
    let so = subst (λ (types : StepTypes). Writes tables (translated tables types (types_of tables types last) last n) next before later [] body) writes.types is in
    let end = subst (λ (n : ℕ). Writes tables (translated tables (steps_types tables steps no_types) (types_of tables (steps_types tables steps no_types) last) last n) next before later [] body) writes.number so in
    let own-text = translated tables (steps_types tables steps no_types) (types_of tables (steps_types tables steps no_types) last) last first.next in
    let all : later ≡ others_text tables (first.before ++ own-text.before) = written-behind tables [] before later first.before own-text.before writes.named end.named in
    (λ i. assembled (all i) (end.text i))
    ∙ ap (λ (z : List ℕ). concat (z ∷ query_text tables own-text.query ∷ codes ";" ∷ newline ∷ [])) (expressions-same tables (first.before ++ own-text.before))
