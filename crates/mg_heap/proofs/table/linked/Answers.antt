use Rattle.std.proofs.Common.{arith, refl}
use Rattle.mg_heap.proofs.TableLemmas.{back_is, past_is}
use Rattle.mg_heap.proofs.table.linked.Goals as goal

pub returns-then-next-ge-GREATEST_LIMIT : goal.returns-then-next-ge-GREATEST_LIMIT
returns-then-next-ge-GREATEST_LIMIT c = past_is c.args.n c.args.b.now c.args.pointers.now.items
    c.next_of-next.result.0 _ c.wrong_link.result c.next_of-next.ensures refl (omega arith)
    c.wrong_link.ensures

pub returns-then-has_number : goal.returns-then-has_number
returns-then-has_number c = back_is c.args.n c.args.b.now c.args.pointers.now.items
    c.next_of-next.result.0 c.wrong_link-then-has_number.result c.next_of-next.ensures
    c.if-next-eq0.false (rw c.deref.ensures.value at (c.has_number.ensures.0 c.if-has_number.true))
    c.wrong_link-then-has_number.ensures
