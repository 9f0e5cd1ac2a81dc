use Rattle.mg_rowcode.proofs.BitLemmas.{nulls_step, some_left}
use Rattle.mg_rowcode.proofs.encoding.put_nulls.Goals as goal

pub loop-rest-preserved : goal.loop-rest-preserved
loop-rest-preserved c =
    nulls_step c.loop-rest.out.items c.push.new.self.items _ c.loop-rest.rest.now _ _ _ _ c.loop-rest.invariant (some_left _ _ c.is_empty.ensures c.loop-rest-test.true) c.min.ensures
    c.split_at.ensures.front c.split_at.ensures.back c.null_byte.ensures c.in_ok-push.ensures.items
