use Rattle.mg_txlist.specs.TipLaws.{tips_by}
use Rattle.mg_order_runs.proofs.deeds.commit.Goals as goal

pub mark_committed-requires-clause-tips : goal.mark_committed-requires-clause-tips
mark_committed-requires-clause-tips c = tips_by c.args.store.now.geometry c.load.new.store.geometry
    c.in_ok-list.list c.in_ok-list.ensures.keeps.geometry c.in_ok-list.ensures.tips
