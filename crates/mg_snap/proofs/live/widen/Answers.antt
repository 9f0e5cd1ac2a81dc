use Rattle.std.proofs.Common.{◌<◌, length, refl, arith, ◌∙◌}
use Rattle.std.proofs.lemmas.List.{length-set}
use Rattle.mg_snap.proofs.RoomLemmas.{same_read, wide_turn, widen_all, widen_none, widen_read, widen_some}
use Rattle.mg_snap.proofs.live.widen.Goals as goal

pub loop-i-init : goal.loop-i-init
loop-i-init c = (refl, refl, λ n wide. widen_none n c.args.entries.now.items wide)

pub returns-in_err-widen-clause-same : goal.returns-in_err-widen-clause-same
returns-in_err-widen-clause-same c =
    let test = c.loop-i-test.true in
    let count = c.loop-i.invariant.1 in
    let inside : c.loop-i.i < length c.loop-i.entries.items = omega (arith, test, count) in
    same_read _ _ _ _ inside c.index_mut.ensures.value c.widen.ensures.same ∙ c.loop-i.invariant.0

pub returns-in_err-widen-clause-never_narrower : goal.returns-in_err-widen-clause-never_narrower
returns-in_err-widen-clause-never_narrower c =
    let test = c.loop-i-test.true in
    let count = c.loop-i.invariant.1 in
    let inside : c.loop-i.i < length c.loop-i.entries.items = omega (arith, test, count) in
    λ n wide. wide_turn n _ _ _ _ inside c.index_mut.ensures.value
    (widen_some n c.loop-i.i c.loop-i.entries.items (c.loop-i.invariant.2 n wide))
    (c.widen.ensures.never_narrower n)

pub loop-i-preserved : goal.loop-i-preserved
loop-i-preserved c =
    let test = c.loop-i-test.true in
    let count = c.loop-i.invariant.1 in
    let inside : c.loop-i.i < length c.loop-i.entries.items = omega (arith, test, count) in (
      same_read _ _ _ _ inside c.index_mut.ensures.value c.widen.ensures.same ∙ c.loop-i.invariant.0,
      length-set _ _ _ ∙ count,
      λ n wide. widen_read n _ _ _ _ inside c.index_mut.ensures.value (c.loop-i.invariant.2 n wide)
          (c.in_ok-widen.ensures.wider n),
    )

pub returns-clause-wider : goal.returns-clause-wider
returns-clause-wider c n wide =
    let test = c.loop-i-test.false in
    let count = c.loop-i.invariant.1 in
    widen_all n c.loop-i.i c.loop-i.entries.items (omega (arith, test, count)) (c.loop-i.invariant.2 n wide)

pub returns-clause-never_narrower : goal.returns-clause-never_narrower
returns-clause-never_narrower c n wide =
    widen_some n c.loop-i.i c.loop-i.entries.items (c.loop-i.invariant.2 n wide)
