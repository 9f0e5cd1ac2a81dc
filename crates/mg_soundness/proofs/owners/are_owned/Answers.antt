use Rattle.std.proofs.Common.{refl}
use Rattle.mg_soundness.specs.OwnRule.{IsOwned}
use Rattle.mg_soundness.proofs.OwnLemmas.{tables_next, tables_refused}
use Rattle.mg_soundness.proofs.owners.are_owned.Goals as goal

pub returns-then-not-is_owned : goal.returns-then-not-is_owned
returns-then-not-is_owned c = tables_refused (IsOwned c.args.image.now c.args.catalog.now) _
    c.loop-stand.rest.now c.in-Some.later.now c.in-Some.stand.now c.loop-stand.left.now
    c.in-Some-split_first.others.now c.in-Some-split_first.table.now c.loop-stand.invariant
    c.in-Some.ensures.cases.0 c.in-Some-split_first.ensures.cases.0
    (λ owned. absurd (let passed = c.if-not-is_owned.ensures.1
    (rw (c.as_slice.ensures.bytes, c.deref.ensures.value) owned) in cc))

pub loop-stand-preserved : goal.loop-stand-preserved
loop-stand-preserved c = tables_next (IsOwned c.args.image.now c.args.catalog.now) _
    c.loop-stand.rest.now c.in-Some.later.now c.in-Some.stand.now c.loop-stand.left.now
    c.in-Some-split_first.others.now c.in-Some-split_first.table.now c.loop-stand.invariant
    c.in-Some.ensures.cases.0 c.in-Some-split_first.ensures.cases.0
    (rw (c.as_slice.ensures.bytes, c.deref.ensures.value) at (c.if-not-is_owned.ensures.0 refl))
