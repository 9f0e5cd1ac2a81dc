use Rattle.std.proofs.Common.{◌∙◌}
use Rattle.std.proofs.lemmas.List.{length-set}
use Rattle.mg_pool.proofs.OrderLemmas.{marks_sound}
use Rattle.mg_pool.proofs.pool.Pool.mark_due.Goals as goal

pub loop-place-preserved : goal.loop-place-preserved
loop-place-preserved g c =
    let some = c.in-Some.ensures.some in
    record {
      as_long = length-set c.loop-place.due.items c.in-Some.place _ ∙ c.loop-place.invariant.as_long;
      sound = marks_sound c.args.self.now.graph c.args.orders.now.items c.args.count c.args.goal c.loop-place.due.items c.requires.count c.loop-place.invariant.sound c.in-Some.place some.0 c.loop-place.invariant.as_long some.2;
    }
