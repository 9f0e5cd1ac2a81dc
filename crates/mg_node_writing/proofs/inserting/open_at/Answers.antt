use Rattle.std.proofs.Common.{ap, ◌∙◌, arith, Bool}
use Rattle.mg_node_writing.specs.Moves.{entry_len}
use Rattle.mg_node_writing.proofs.InsertLemmas.{count_small, opens}
use Rattle.mg_node_writing.proofs.inserting.open_at.Goals as goal

pub overflow_cast-count : goal.overflow_cast-count
overflow_cast-count c =
    let small = count_small c.args.b.now c.requires.lawful c.requires.sized.most in
    let is = c.count-count.ensures.is in omega (arith, small, is)

pub returns : goal.returns
returns c =
    let inside = c.requires.lawful.inside in
    let room = c.requires.room in
    let end = c.end-end.ensures in
    let len = c.entry_len-len.ensures ∙ ap (λ (w : Bool). entry_len w c.args.e.now)
    c.is_inner-with_child.ensures in
    opens c.args.b.now c.move_bytes.new.b c.put_entry.new.b c.set_end.new.b c.is_inner-with_child.result
    c.args.at c.end-end.result c.entry_len-len.result c.count-count.result c.args.e.now
    c.is_inner-with_child.ensures end len c.count-count.ensures.is c.requires.front
    (let back = c.requires.back in omega (arith, back, end))
    (omega (arith, inside, room, end, len)) c.move_bytes.ensures c.put_entry.ensures c.set_end.ensures
