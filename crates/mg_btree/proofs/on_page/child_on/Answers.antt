use Rattle.std.proofs.Common.{◌<◌, ◌≤◌, ◌∙◌, true, length, arith}
use Rattle.mg_node.specs.NodePage.{count_in, end_of}
use Rattle.mg_btree.specs.OnPageLaws.{along_ends, along_fits, along_next, along_starts, along_stops, child_at}
use Rattle.mg_btree.specs.RowOrderLaws.{not_there}
use Rattle.mg_btree.proofs.on_page.child_on.Goals as goal

pub loop-init : goal.loop-init
loop-init c = along_starts c.args.page.now c.args.e.now c.first_at-at.result c.requires.inner
    c.first_at-at.ensures.is c.first_at-at.ensures.most

pub returns-then-not-fits : goal.returns-then-not-fits
returns-then-not-fits c = λ lawful.
    let more : c.loop.counter < count_in c.args.page.now =
    omega (arith, c.loop-test.true, c.count-end.ensures.is) in
    absurd (not_there c.fits.result c.fits.ensures.1 c.if-not-fits.true
    (along_fits c.args.page.now c.args.e.now c.loop.counter c.loop.at c.loop.child c.requires.inner
    c.loop.invariant more lawful))

pub returns-then-is_before : goal.returns-then-is_before
returns-then-is_before c = λ lawful.
    let more : c.loop.counter < count_in c.args.page.now =
    omega (arith, c.loop-test.true, c.count-end.ensures.is) in
    along_stops c.args.page.now c.args.e.now c.loop.counter c.loop.at c.loop.child c.requires.inner
    c.loop.invariant more lawful (c.is_before.ensures.0 c.if-is_before.true)

pub loop-preserved : goal.loop-preserved
loop-preserved c =
    let more : c.loop.counter < count_in c.args.page.now =
    omega (arith, c.loop-test.true, c.count-end.ensures.is) in
    let inside : end_of true c.args.page.now c.loop.at ≤ length c.args.page.now =
    c.fits.ensures.0 c.if-not-fits.false in
    let most = c.requires.most in
    let end_is = c.end_of-end.ensures.is in
    along_next c.args.page.now c.args.e.now c.loop.counter c.loop.at c.loop.child c.requires.inner
    c.loop.invariant more c.end_of-end.result c.get_u32-child.result end_is
    (omega (arith, inside, most, end_is))
    (not_there c.is_before.result c.is_before.ensures.1 c.if-is_before.false)
    (c.get_u32-child.ensures ∙ child_at c.args.page.now c.loop.at c.end_of-end.result end_is)

pub returns : goal.returns
returns c = λ lawful. along_ends c.args.page.now c.args.e.now c.loop.counter c.loop.at c.loop.child
    c.loop.invariant (omega (arith, c.loop-test.false, c.count-end.ensures.is, c.loop.auto.counter-end))
