use Rattle.mg_statements.specs.Plain.{total_of}
use Rattle.mg_rows.specs.Totals.{total_over}
use Rattle.mg_rows.proofs.GatherLemmas.{gathered_seen}
use Rattle.mg_rows.proofs.totals.total_row.Goals as goal

pub loop-agg-preserved : goal.loop-agg-preserved
loop-agg-preserved c =
    gathered_seen (total_over c.args.rows.now) total_of c.args.aggs.now c.loop-agg.agg-index c.agg-item.result _ _ _ _
    c.loop-agg-test.true c.agg-item.is c.in_ok-total.ensures c.in_ok-push.ensures.ok c.loop-agg.invariant
