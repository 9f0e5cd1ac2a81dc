use Rattle.std.proofs.Common.{arith}
use Rattle.mg_rowcode.proofs.NullLemmas.{flags_step}
use Rattle.mg_rowcode.proofs.decoding.put_flags.Goals as goal

pub loop-byte-preserved : goal.loop-byte-preserved
loop-byte-preserved c = record {
  room = omega (arith, c.min.ensures, c.split_at.ensures.back_len, c.loop-byte.invariant.room);
  complete = flags_step c.loop-byte.flags.items c.put_flags_of_byte.new.flags.items _ c.loop-byte.rest.now _ _ _ c.args.bytes.now c.loop-byte.byte-index c.loop-byte.invariant.complete c.loop-byte-test.true c.min.ensures c.split_at.ensures.front c.split_at.ensures.back c.in_ok-put_flags_of_byte.ensures;
}
