use Rattle.std.proofs.Common.{◌<◌, length, arith, ◌∙◌}
use Rattle.std.proofs.lemmas.List.{length-set}
use Rattle.mg_snap.specs.Live.{undecided}
use Rattle.mg_snap.proofs.RoomLemmas.{turn_read, wide_turn}
use Rattle.mg_snap.proofs.live.drop_base.Goals as goal

pub loop-i-preserved : goal.loop-i-preserved
loop-i-preserved c =
    let test = c.loop-i-test.true in
    let count = c.loop-i.invariant.1 in
    let inside : c.loop-i.i < length c.loop-i.entries.items = omega (arith, test, count) in (
      turn_read (undecided c.args.t.0) c.args.entries.now.items c.loop-i.entries.items c.loop-i.i _ _ inside count
          c.loop-i.invariant.0 c.index_mut.ensures.value c.drop_base.ensures.base,
      length-set _ _ _ ∙ count,
      λ n wide. wide_turn n _ _ _ _ inside c.index_mut.ensures.value (c.loop-i.invariant.2 n wide)
          (c.drop_base.ensures.wide n),
    )
