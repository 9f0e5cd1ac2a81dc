use Rattle.std.proofs.Common.{rules, ◌≡◌, length, ◌≤◌}
use Rattle.mg_btree.proofs.HalvesLemmas.{no_err, on_ok}
use Rattle.mg_btree.proofs.GrowingLemmas.{first_absent, names_one, room_first, takes_first}
use Rattle.mg_btree.proofs.growing.name_one.Goals as goal

pub insert-requires-clause-takes : goal.insert-requires-clause-takes
insert-requires-clause-takes c = takes_first c.new_node.new.b c.args.page.0 c.args.owner c.args.level
    c.args.first.now c.new_node.ensures.new c.requires.inner c.requires.first

pub unreachable-requires : goal.unreachable-requires
unreachable-requires c =
    let least : 1024 ≤ length c.new_node.new.b = (search rules) in
    no_err c.insert.result c.in-Err.field-0
    ((c.insert.ensures.when (first_absent c.new_node.new.b c.args.page.0 c.args.owner c.args.level
    c.args.first.now c.new_node.ensures.new c.requires.inner c.requires.first)).1
    (room_first c.new_node.new.b c.args.page.0 c.args.owner c.args.level c.args.first.now
    c.new_node.ensures.new c.requires.inner c.requires.first least)) c.in-Err.is

pub returns : goal.returns
returns c =
    let least : 1024 ≤ length c.new_node.new.b = (search rules) in
    let len : length c.new_node.new.b ≡ length c.args.b.now = (search rules) in
    let absent = first_absent c.new_node.new.b c.args.page.0 c.args.owner c.args.level c.args.first.now
    c.new_node.ensures.new c.requires.inner c.requires.first in
    names_one (length c.args.b.now) c.args.page.0 c.args.owner c.args.level c.args.first.now
    c.new_node.new.b c.insert.new.b c.new_node.ensures.new len
    (on_ok c.insert.result ((c.insert.ensures.when absent).1 (room_first c.new_node.new.b c.args.page.0
    c.args.owner c.args.level c.args.first.now c.new_node.ensures.new c.requires.inner c.requires.first
    least)) (c.insert.ensures.inserts absent)) c.insert.ensures.lawful
