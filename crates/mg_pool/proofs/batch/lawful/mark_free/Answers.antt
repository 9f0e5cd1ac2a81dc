use Rattle.std.proofs.Common.{◌∙◌, arith}
use Rattle.std.proofs.lemmas.List.{length-set}
use Rattle.mg_pool.proofs.LawfulLemmas.{mark_more}
use Rattle.mg_pool.proofs.batch.lawful.mark_free.Goals as goal

pub loop-place-preserved : goal.loop-place-preserved
loop-place-preserved c =
    let some = c.in-Some.ensures.some in
    record {
      as_long = length-set c.loop-place.marks c.in-Some.place _ ∙ c.loop-place.invariant.as_long;
      safe = mark_more c.args.pages.now.items c.args.orders.now.items c.loop-place.marks c.requires.later c.loop-place.invariant.safe c.in-Some.place (omega arith) some.2;
    }
