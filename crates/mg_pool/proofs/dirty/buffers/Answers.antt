use Rattle.mg_pool.proofs.PlaceLemmas.{le_through, pushed_len, spare_more, zeros_len}
use Rattle.mg_pool.proofs.dirty.buffers.Goals as goal

pub loop-preserved : goal.loop-preserved
loop-preserved c = (
  pushed_len c.loop.spare.items c.push.new.self.items c.in_ok-zeroed.field-0 c.loop.counter
      c.loop.invariant.0 c.in_ok-push.ensures.items,
  spare_more c.args.size c.loop.spare.items c.push.new.self.items c.in_ok-zeroed.field-0 c.loop.invariant.1
      (zeros_len c.in_ok-zeroed.field-0 c.args.size c.in_ok-zeroed.ensures) c.in_ok-push.ensures.items,
  le_through c.args.room _ _ c.loop.invariant.2 c.in_ok-push.ensures.capacity,
)
