use Rattle.std.proofs.Common.{◌≡◌, ◌<◌, ◌+◌, ◌∙◌, ℕ, zero, suc, add-one, Bool, false, List, [], Some, length, get_or, replicate, refl, ap, arith}
use Rattle.std.specs.Prelude.{◌||◌, slice_get, Contains}
use Rattle.std.proofs.lemmas.Option.{slice_get-get_or}
use Rattle.gp_log.specs.Contents.{entries, tables}
use Rattle.gp_serial.specs.Preceding.{all_links, row_links}
use Rattle.gp_serial.specs.Relations.{is_edge}
use Rattle.gp_serial.proofs.PrecedenceLemmas.{linked_is}
use Rattle.gp_serial.proofs.relation.precedence.Goals as goal

at_none : (n b : ℕ) → get_or (replicate n false) b false ≡ false
at_none zero b = refl
at_none (suc n) zero = refl
at_none (suc n) (suc b) = at_none n b

in_none : (n m a b : ℕ) → get_or (get_or (replicate m (replicate n false)) a []) b false ≡ false
in_none n zero a b = refl
in_none n (suc m) zero b = at_none n b
in_none n (suc m) (suc a) b = in_none n m a b

as_many : (n : ℕ) (row : List Bool) → length (replicate n row) ≡ n
as_many zero row = refl
as_many (suc n) row = ap suc (as_many n row)

place_of : (list : List ℕ) (t : ℕ) → Contains list t → (n : ℕ) × (slice_get list n ≡ Some t)
place_of list t (n, within, at) = (n, slice_get-get_or list n t within ∙ ap (λ u. Some u) at)

pub returns-clause-count : goal.returns-clause-count
returns-clause-count c =
    let count : length c.in_ok-graph.graph ≡ c.transactions.result + 1 = ap length c.in_ok-graph.ensures ∙ as_many (c.transactions.result + 1) (replicate (c.transactions.result + 1) false) in
    c.add_rows.ensures.count ∙ c.in_ok-add_transactions.ensures.count ∙ count ∙ add-one c.transactions.result ∙ ap suc c.transactions.ensures

pub returns-clause-relation : goal.returns-clause-relation
returns-clause-relation c = λ a b there_a there_b.
    let log = entries c.args.log.now in
    let all = tables c.args.log.now in
    let changes = c.args.changes.now in
    let list = c.args.committers.now in
    let graph = c.in_ok-graph.graph in
    let count : length graph ≡ c.transactions.result + 1 = ap length c.in_ok-graph.ensures ∙ as_many (c.transactions.result + 1) (replicate (c.transactions.result + 1) false) in
    let few_a = c.requires.committers.is a there_a in
    let few_b = c.requires.committers.is b there_b in
    let in_a : a < length graph = omega (arith, count, few_a, c.transactions.ensures) in
    let in_b : b < length graph = omega (arith, count, few_b, c.transactions.ensures) in
    let none : is_edge graph a b ≡ false = ap (λ (rows : List (List Bool)). is_edge rows a b) c.in_ok-graph.ensures ∙ in_none (c.transactions.result + 1) (c.transactions.result + 1) a b in
    let at_a = place_of list a there_a in
    let at_b = place_of list b there_b in
    c.add_rows.ensures.edges a b (omega (arith, in_a, c.in_ok-add_transactions.ensures.count)) (omega (arith, in_b, c.in_ok-add_transactions.ensures.count))
    ∙ ap (λ e. e || row_links changes a b) (c.in_ok-add_transactions.ensures.edges a b in_a in_b ∙ ap (λ e. e || all_links log all changes list a b) none)
    ∙ linked_is all log changes c.requires.made c.requires.grouped list a b at_a.0 at_b.0 at_a.1 at_b.1
