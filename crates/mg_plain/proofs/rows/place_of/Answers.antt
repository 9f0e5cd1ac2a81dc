-- The rows before have less keys.
use Rattle.std.proofs.Common.{sym, arith}
use Rattle.mg_plain.proofs.RowLemmas.{goes_on, is_less, is_equal, is_end}
use Rattle.mg_plain.proofs.rows.place_of.Goals as goal

pub returns-in-Less : goal.returns-in-Less
returns-in-Less c = is_less c.args.rows.now c.args.key.now c.loop-place.place c.index-rows-place.result c.loop-place-test.true c.index-rows-place.is (sym c.in-Less.ensures) c.loop-place.invariant

pub returns-in-Equal : goal.returns-in-Equal
returns-in-Equal c = is_equal c.args.rows.now c.args.key.now c.loop-place.place c.index-rows-place.result c.loop-place-test.true c.index-rows-place.is (sym c.in-Equal.ensures) c.loop-place.invariant

pub loop-place-preserved : goal.loop-place-preserved
loop-place-preserved c = goes_on c.args.rows.now c.args.key.now c.loop-place.place c.index-rows-place.result c.loop-place-test.true c.index-rows-place.is (sym c.in-Greater.ensures) c.loop-place.invariant

pub returns : goal.returns
returns c = is_end c.args.rows.now c.args.key.now c.loop-place.place (omega (arith, c.loop-place-test.false)) c.loop-place.auto.place-end c.loop-place.invariant
