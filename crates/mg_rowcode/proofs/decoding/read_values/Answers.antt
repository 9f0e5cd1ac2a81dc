use Rattle.std.proofs.Common.{◌<◌, ℕ, sym, subst}
use Rattle.mg_rowcode.proofs.PutLemmas.{room_here, room_later, value_read, values_read}
use Rattle.mg_rowcode.proofs.StorableLemmas.{storable_one}
use Rattle.mg_rowcode.specs.Storable.{AreStorable}
use Rattle.mg_rowcode.proofs.decoding.read_values.Goals as goal

pub split_at-requires : goal.split_at-requires
split_at-requires c = room_here c.args.columns.now c.loop-i.i c.index-columns-i.result c.loop-i.rest.now
    c.width.result c.loop-i-test.true c.index-columns-i.is c.loop-i.invariant.room c.width.ensures.width

pub loop-i-preserved : goal.loop-i-preserved
loop-i-preserved c = record {
  room = room_later c.args.columns.now c.loop-i.i c.index-columns-i.result c.loop-i.rest.now
      c.split_at.result.1.now c.width.result c.loop-i-test.true c.index-columns-i.is c.loop-i.invariant.room
      c.width.ensures.width c.split_at.ensures.back;
  complete = value_read c.args.columns.now c.loop-i.i c.index-columns-i.result c.args.flags.now _
      c.loop-i.rest.now c.split_at.result.0.now c.split_at.result.1.now c.width.result c.loop-i.values.items
      c.push.new.self.items _ c.in_ok-read_value.field-0 c.loop-i-test.true c.index-columns-i.is
      (subst (λ (n : ℕ). c.loop-i.i < n) (sym c.requires.flags) c.loop-i-test.true) c.width.ensures.width
      c.split_at.ensures.front c.split_at.ensures.back c.in_ok-read_value.ensures.ok
      c.in_ok-push.ensures.items c.loop-i.invariant.complete;
  storable = subst AreStorable (sym c.in_ok-push.ensures.items) (storable_one c.loop-i.values.items _
      c.loop-i.invariant.storable c.in_ok-read_value.ensures.storable);
}

pub returns-clause-ok : goal.returns-clause-ok
returns-clause-ok c = values_read c.args.columns.now c.loop-i.i c.args.flags.now c.loop-i.rest.now
    c.loop-i.values.items _ c.loop-i-test.false c.loop-i.invariant.complete
