use Rattle.mg_value.specs.Values.{doubled}
use Rattle.mg_trace.specs.PuttingLaws.{puts_none}
use Rattle.mg_trace.proofs.LoopLemmas.{byte_put, items_put}
use Rattle.mg_trace.proofs.trace.Trace.doubled.Goals as goal

pub returns : goal.returns
returns c =
    items_put doubled c.args.text.now c.loop-byte.byte-index c.args.self.now c.loop-byte.self
    c.loop-byte-test.false c.loop-byte.invariant

pub loop-byte-init : goal.loop-byte-init
loop-byte-init c = puts_none c.args.self.now

pub loop-byte-preserved : goal.loop-byte-preserved
loop-byte-preserved c =
    byte_put doubled c.args.text.now c.loop-byte.byte-index c.args.self.now c.loop-byte.self c.byte.new.self
    c.loop-byte-test.true c.loop-byte.invariant c.byte.ensures
