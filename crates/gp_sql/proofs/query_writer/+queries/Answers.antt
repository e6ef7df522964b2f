use Rattle.std.proofs.Common.{◌∙◌, ap, append-nil, refl, subst, sym}
use Rattle.gp_algebra.specs.Plain.{Plain}
use Rattle.gp_algebra.specs.PlainViews.{query_view}
use Rattle.gp_sql.specs.NamedQueries as q
use Rattle.gp_sql.specs.StepLists.{types_after}
use Rattle.gp_sql.specs.Types.{no_types}
use Rattle.gp_sql.specs.WrittenQueries.{Writes}
use Rattle.gp_sql.proofs.WriterLemmas.{numbered-writes, publish-writes, union-writes}
use Rattle.gp_sql.proofs.query_writer.+queries.Goals as goal

pub push_numbered-returns : goal.push_numbered-returns
push_numbered-returns t c =
    numbered-writes c.args.catalog.now (types_after c.args.steps.now no_types) c.args.in_publish c.is_materialized-materialized.result c.args.due.now (query_view c.args.query.now) c.args.n c.in_ok-n.n _
    c.args.before.now.items c.push_query.new.before.items c.push_named.new.out.items c.new-body.result.items c.push_query.new.body.items c.deref.result.now
    c.in_ok-n.ensures c.new-body.ensures.items c.in_ok-push_named.ensures c.is_materialized-materialized.ensures c.deref.ensures.value refl c.in_ok-next.ensures

pub push_publish-returns : goal.push_publish-returns
push_publish-returns t c =
    publish-writes c.args.catalog.now (types_after c.args.steps.now no_types) c.args.due.now c.as_slice.result.now c.args.at (query_view c.args.base.now) (query_view c.args.mine.now) (query_view c.args.later.now)
    c.args.n c.in_ok-last.last c.in_ok-a.a c.in_ok-b.b c.in_ok-c.c _ _ _ _ _ _ _
    (c.as_slice.ensures ∙ c.in_ok-types.ensures) c.in_ok-a.ensures c.in_ok-b.ensures c.in_ok-c.ensures c.in_ok-last.ensures.number c.in_ok-last.ensures.text c.in_ok-push_published.ensures

pub push_query-returns-in_ok-push_scanned-in-Scan : goal.push_query-returns-in_ok-push_scanned-in-Scan
push_query-returns-in_ok-push_scanned-in-Scan t c =
    subst (λ (query : Plain). Writes c.args.catalog.now (q.translated c.args.catalog.now (types_after c.args.steps.now no_types) c.args.due.now query c.args.n) c.args.n c.args.before.now.items c.args.before.now.items c.args.body.now.items c.push_scanned.new.out.items)
    (sym (ap query_view c.in-Scan.is))
    (record { number = refl; named = sym (append-nil c.args.before.now.items); text = c.in_ok-push_scanned-in-Scan.ensures })

pub push_union-returns : goal.push_union-returns
push_union-returns t c =
    union-writes c.args.catalog.now (types_after c.args.steps.now no_types) c.args.due.now (query_view c.args.left.now) (query_view c.args.right.now) c.args.n c.in_ok-a.a c.in_ok-b.b _ _ _ _ _
    c.in_ok-a.ensures c.in_ok-b.ensures c.in_ok-push_united.ensures
