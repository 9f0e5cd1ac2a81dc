use Rattle.std.proofs.Common.{◌+◌, subst, sym, arith, Bool}
use Rattle.mg_node_writing.specs.Moves.{PutsEntry}
use Rattle.mg_node_writing.proofs.EntryLemmas.{puts_inner, puts_plain}
use Rattle.mg_node_writing.proofs.bytes.put_entry.Goals as goal

pub returns-then-with_child : goal.returns-then-with_child
returns-then-with_child c =
    let len = c.len.ensures in
    let inside = rw c.if-with_child.true at c.requires.inside in
    let last = rw c.number_of-child.ensures at c.put_u32.ensures in
    let child = c.number_of-child.type_inv in let child_is = c.number_of-child.ensures in
    subst (λ (w : Bool). PutsEntry w c.args.b.now c.put_u32.new.b c.args.at c.args.e.now)
    (sym c.if-with_child.true)
    (puts_inner c.args.b.now c.put_front.new.b c.put_u32.new.b c.args.at
    (c.args.at + 2 + c.len.result + 6) c.args.e.now (omega (arith, inside))
    (omega (arith, child, child_is)) (omega (arith, len)) c.put_front.ensures last)

pub returns-else-with_child : goal.returns-else-with_child
returns-else-with_child c =
    let inside = rw c.if-with_child.false at c.requires.inside in
    subst (λ (w : Bool). PutsEntry w c.args.b.now c.put_front.new.b c.args.at c.args.e.now)
    (sym c.if-with_child.false)
    (puts_plain c.args.b.now c.put_front.new.b c.args.at c.args.e.now (omega (arith, inside))
    c.put_front.ensures)
