use Rattle.std.proofs.Common.{◌+◌, arith}
use Rattle.mg_node_writing.proofs.EntryLemmas.{writes_front}
use Rattle.mg_node_writing.proofs.bytes.put_front.Goals as goal

pub returns : goal.returns
returns c =
    let len = c.len.ensures in
    let one = rw c.len-2.ensures at c.put_u16.ensures in
    let two = rw c.as_slice.ensures at c.put_bytes.ensures in
    let three = rw c.number_of-page.ensures at c.put_u32.ensures in
    let four = rw c.slot_of-slot.ensures at c.put_u16-2.ensures in
    let page = c.number_of-page.type_inv in let page_is = c.number_of-page.ensures in
    let slot = c.slot_of-slot.type_inv in let slot_is = c.slot_of-slot.ensures in
    writes_front c.args.b.now c.put_u16.new.b c.put_bytes.new.b c.put_u32.new.b c.put_u16-2.new.b
    c.args.at (c.args.at + 2 + c.len.result) c.args.e.now c.requires.inside c.requires.short
    (omega (arith, page, page_is)) (omega (arith, slot, slot_is)) (omega (arith, len)) one two three four
